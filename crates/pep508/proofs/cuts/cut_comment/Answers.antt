use Rattle.std.proofs.Common.{arith, rules, ◌≡◌, ◌&&◌, ◌==◌, ap, get_or, drop, true, false}
use Rattle.std.proofs.lemmas.Grind.{common_steps}
use Rattle.std.proofs.lemmas.Bool.Decides.{nat_tests}
use Rattle.pep508.specs.Parts.{comment_place, is_space_or_tab}
use Rattle.pep508.proofs.Places.{comment_place-more, comment_place-here}
use Rattle.pep508.proofs.cuts.cut_comment.Goals as goal
use Rattle.pep508.proofs.cuts.cut_comment.Goals.{else-at_start-via-then-at_start+else-bytes-place-eq35, else-at_start-via-else-at_start}

pub returns-then-bytes-place-eq35 : goal.returns-then-bytes-place-eq35
returns-then-bytes-place-eq35 c =
    let here = comment_place-here c.as_bytes-bytes.result.now c.loop-place.place c.loop-place-test.true c.if-bytes-place-eq35.true in
    let whole : comment_place true c.as_bytes-bytes.result.now ≡ c.loop-place.place =
    omega (arith, c.loop-place.invariant, ap (λ b. comment_place b (drop c.loop-place.place c.as_bytes-bytes.result.now)) c.if-at_start.true, here) in
    rw (← c.as_bytes-bytes.ensures.value, whole) (search rules)

pub loop-place-preserved : goal.loop-place-preserved
loop-place-preserved c =
    let no_comment : c.loop-place.at_start && (get_or c.as_bytes-bytes.result.now c.loop-place.place 0 == 35) ≡ false =
    elim c.else-at_start.branch [
      | else-at_start-via-then-at_start+else-bytes-place-eq35 w ↦ grind (arith, nat_tests)
      | else-at_start-via-else-at_start w ↦ rw w.if-at_start.false (search rules)
    ] in
    let more = comment_place-more c.loop-place.at_start c.as_bytes-bytes.result.now c.loop-place.place c.loop-place-test.true no_comment in
    let space : c.is_space_or_tab-at_start.result ≡ is_space_or_tab (get_or c.as_bytes-bytes.result.now c.loop-place.place 0) = c.is_space_or_tab-at_start.ensures in
    rw space (omega (arith, c.loop-place.invariant, more))

pub returns : goal.returns
returns c = grind (arith, common_steps)
