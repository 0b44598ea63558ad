use Rattle.std.proofs.Common.{arith, ◌≡◌, ◌≢◌, ◌<◌, ◌⊎◌, ◌+◌, ℕ, suc, add-one, inl, inr, length, get_or}
use Rattle.std.proofs.lemmas.Str.{IsCharBoundary-after_ascii, IsCharBoundary-end}
use Rattle.pep508.proofs.FirstLine.{lines_of-first}
use Rattle.pep508.proofs.parts.split_line.Goals as goal
use Rattle.pep508.proofs.parts.split_line.Goals.{then-loop-end-test+else-bytes-end-ne10, else-loop-end-test}

pub split_at-requires : goal.split_at-requires
split_at-requires c = elim c.loop-end-test.branch [
  | then-loop-end-test+else-bytes-end-ne10 w ↦
      let lf : get_or c.args.text.now c.loop-end.end 0 ≡ 10 = rw c.as_bytes-bytes.ensures.value at w.if-bytes-end-ne10.false in
      IsCharBoundary-after_ascii c.args.text.now c.loop-end.end c.utf8.text (omega (arith, c.as_bytes-bytes.ensures.len)) (omega (arith, lf))
  | else-loop-end-test w ↦
      let last : c.loop-end.end + 1 ≡ length c.args.text.now = omega (arith, c.as_bytes-bytes.ensures.len) in
      rw last (IsCharBoundary-end c.args.text.now)
]

pub returns-clause-cut : goal.returns-clause-cut
returns-clause-cut c =
    let within : c.loop-end.end < length c.args.text.now = omega (arith, c.as_bytes-bytes.ensures.len) in
    let ends : (get_or c.args.text.now c.loop-end.end 0 ≡ 10) ⊎ (suc c.loop-end.end ≡ length c.args.text.now) = elim c.loop-end-test.branch [
      | then-loop-end-test+else-bytes-end-ne10 w ↦ inl (rw c.as_bytes-bytes.ensures.value at w.if-bytes-end-ne10.false)
      | else-loop-end-test w ↦ inr (omega (arith, c.as_bytes-bytes.ensures.len))
    ] in
    let none : (k : ℕ) → k < c.loop-end.end → get_or c.args.text.now k 0 ≢ 10 = rw c.as_bytes-bytes.ensures.value at c.loop-end.invariant.none in
    rw (c.split_at.ensures.front, c.split_at.ensures.back, add-one) (lines_of-first c.args.text.now c.loop-end.end within none ends)
