use Rattle.std.proofs.Common.{◌≡◌, ℕ, List, [], ◌∷◌, true, refl}
use Rattle.lists.specs.Rising.{rises}
use Rattle.conformance.proofs.examples.of_states.Goals as goal

-- one name rises
one_rises : (name : List ℕ) → rises (name ∷ []) ≡ true
unfolding rises
one_rises name = refl

pub locked-requires-clause-rising : goal.locked-requires-clause-rising
locked-requires-clause-rising c = rw (c.from_vec.ensures, c.in_ok-push.ensures.items, c.new-targets.ensures.items) (one_rises _)
