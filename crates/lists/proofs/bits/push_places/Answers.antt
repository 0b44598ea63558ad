use Rattle.std.proofs.Common.{◌≡◌, ◌+◌, ◌*◌, ℕ, List, [], ◌∷◌, ◌++◌, filter, sym, ◌∙◌, ap, arith}
use Rattle.lists.proofs.BitSets.{filter-push_yes, filter-push_no, words-push}
use Rattle.lists.specs.Bits.{has_bit, numbers_below}
use Rattle.lists.proofs.bits.push_places.Goals as goal
use Rattle.lists.proofs.bits.push_places.Goals.{then-is_set+in_ok-push, else-is_set}

pub loop-bit-preserved : goal.loop-bit-preserved
loop-bit-preserved c =
    let words : List ℕ = c.args.words.now in
    let place : ℕ = 64 * c.args.at + c.loop-bit.bit in
    let same : c.args.at * 64 + c.loop-bit.bit ≡ place = omega arith in
    let more = ap (filter (has_bit words)) (words-push words place (64 * c.args.at + (c.loop-bit.bit + 1)) (omega arith)) in
    let is : c.is_set.result ≡ has_bit words place = c.is_set.ensures ∙ ap (has_bit words) same in
    elim c.if-is_set.branch [
      | then-is_set+in_ok-push w ↦ ap (λ v. v.items) w.places-is ∙ w.in_ok-push.ensures.items
          ∙ ap (λ ps. ps ++ (c.args.at * 64 + c.loop-bit.bit) ∷ []) c.loop-bit.invariant ∙ ap (λ p. filter (has_bit words) (numbers_below place) ++ p ∷ []) same
          ∙ sym (more ∙ filter-push_yes (has_bit words) (numbers_below place) place (sym is ∙ w.if-is_set.true))
      | else-is_set w ↦ ap (λ v. v.items) w.places-is ∙ c.loop-bit.invariant ∙ sym (more ∙ filter-push_no (has_bit words) (numbers_below place) place (sym is ∙ w.if-is_set.false))
    ]
