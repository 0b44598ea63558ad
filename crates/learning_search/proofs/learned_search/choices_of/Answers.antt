use Rattle.std.proofs.Common.{ℕ, zero, suc, List, [], ◌∷◌, ◌≡◌, ◌∙◌, Option, map, refl, sym, ap}
use Rattle.learning_search.proofs.DemandLists.{first-version}
use Rattle.search.specs.declared.conflict.NodeChoice.{NodeChoice}
use Rattle.learning_search.specs.Tied.Learned.{first_at}
use Rattle.learning_search.specs.Tied.Learning.{version_of}
use Rattle.search.specs.Tied.Search.{taken_at}
use Rattle.search.specs.Table.{rules_of}
use Rattle.learning_search.proofs.learned_search.choices_of.Goals as goal

places-at : (taken : List (Option (NodeChoice ℕ ℕ))) (n : ℕ) → taken_at (map version_of taken) n ≡ version_of (first_at taken n)
places-at [] n = refl
places-at (o ∷ taken) zero = refl
places-at (o ∷ taken) (suc n) = places-at taken n

pub returns-clause-best : goal.returns-clause-best
returns-clause-best c = λ t s n.
    c.in_ok-choices.ensures.same n
    ∙ ap (λ (xs : List (Option ℕ)). taken_at xs n) (c.as_slice-2.ensures.value ∙ c.in_ok-places.ensures ∙ ap (map version_of) c.as_slice.ensures.value)
    ∙ places-at c.args.partial.now.taken.items n
    ∙ sym (first-version (rules_of t) c.args.partial.now.assignments.items (first_at c.args.partial.now.taken.items) s.taken n)
