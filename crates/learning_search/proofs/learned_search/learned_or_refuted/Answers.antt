use Rattle.std.proofs.Common.{ℕ, Option, List, ◌≡◌, ◌<◌, sym, subst}
use Rattle.search.proofs.PlacesEquality.{places-equality}
use Rattle.learning_search.proofs.WhatIsLeftToLearn.{progress_work, work-onward}
use Rattle.search.proofs.Refutations.{refutation-none}
use Rattle.search.proofs.WhatIsLeft.{table-lawful}
use Rattle.search.specs.declared.conflict.NodeChoice.{NodeChoice}
use Rattle.learning_search.specs.declared.partial_solution.PartialSolution.{PartialSolution}
use Rattle.learning_search.specs.declared.learned_search.Progress.{Progress}
use Rattle.learning_search.specs.declared.learned_search.Progress.TheVariants.{Trying, Solved, Refuted}
use Rattle.search.specs.Conflicts.{IsRefutation}
use Rattle.search.specs.Known.{AreKnown}
use Rattle.learning_search.specs.Tied.Learned.{chosen_assigned}
use Rattle.learning_search.specs.Tied.Learning.{StandsAt}
use Rattle.search.specs.Solutions.{IsBest}
use Rattle.search.specs.Table.{TableParts, rules_of, place_in, places_eq}
use Rattle.learning_search.proofs.learned_search.learned_or_refuted.Goals as goal

-- where the search is at its end, what it has recorded is a refutation
refuted-at-end : (t : TableParts) (p : PartialSolution) (conflicts : List (List (NodeChoice ℕ ℕ))) (progress : Progress) → progress ≡ Refuted → StandsAt t p conflicts progress → IsRefutation (rules_of t) places_eq conflicts × AreKnown t conflicts
refuted-at-end t p conflicts progress is h = subst (λ (x : Progress). StandsAt t p conflicts x) is h

pub onward-progress-requires-clause-table : goal.onward-progress-requires-clause-table
onward-progress-requires-clause-table g c = c.in_ok-partial.ensures.known

pub step-requires-clause-table : goal.step-requires-clause-table
step-requires-clause-table g c = c.in_ok-partial.ensures.known

pub returns-in-Solved-clause-best : goal.returns-in-Solved-clause-best
returns-in-Solved-clause-best g c =
    let t : TableParts = c.args.table.now in
    let p : PartialSolution = c.search.partial in
    let k : StandsAt t p c.search.conflicts.list.items Solved = subst (λ (x : Progress). StandsAt t p c.search.conflicts.list.items x) c.in-Solved.is c.search.invariant in
    let same : (n : ℕ) → place_in c.in_ok-choices-in-Solved.choices n ≡ chosen_assigned (rules_of t) p.assignments.items n = c.in_ok-choices-in-Solved.ensures.best t k.0 in
    let path : chosen_assigned (rules_of t) p.assignments.items ≡ place_in c.in_ok-choices-in-Solved.choices = λ i n. sym (same n) i in
    subst (λ (s : ℕ → Option ℕ). IsBest (rules_of t) s) path k.1

pub search-smaller : goal.search-smaller
search-smaller g c =
    let t : TableParts = c.args.table.now in
    let p : PartialSolution = c.search.partial in
    let cs : List (List (NodeChoice ℕ ℕ)) = c.search.conflicts.list.items in
    let k : StandsAt t p cs (Trying c.in-Trying.queue) = subst (λ (x : Progress). StandsAt t p cs x) c.in-Trying.is c.search.invariant in
    subst (λ (x : Progress). progress_work t c.step.new.partial.assignments.items c.in_ok-progress-in-Trying.progress < progress_work t p.assignments.items x) (sym c.in-Trying.is)
    (work-onward t c.in_ok-partial.ensures.known p c.step.new.partial cs c.step.new.conflicts.list.items c.in-Trying.queue c.in_ok-progress-in-Trying.progress k c.in_ok-progress-in-Trying.ensures.stands c.in_ok-progress-in-Trying.ensures.onward)

pub returns-in-Refuted-clause-best : goal.returns-in-Refuted-clause-best
returns-in-Refuted-clause-best g c =
    let t : TableParts = c.args.table.now in
    let cs : List (List (NodeChoice ℕ ℕ)) = c.search.conflicts.list.items in
    let k : IsRefutation (rules_of t) places_eq cs × AreKnown t cs = refuted-at-end t c.search.partial cs c.search.progress c.in-Refuted.is c.search.invariant in
    refutation-none (rules_of t) places_eq (table-lawful t c.in_ok-partial.ensures.known) (places-equality (rules_of t)) cs k.0

pub returns-in-Refuted-clause-known : goal.returns-in-Refuted-clause-known
returns-in-Refuted-clause-known g c =
    let t : TableParts = c.args.table.now in
    let cs : List (List (NodeChoice ℕ ℕ)) = c.search.conflicts.list.items in
    subst (λ (xs : List (List (NodeChoice ℕ ℕ))). AreKnown t xs) (sym c.into_list.ensures) (refuted-at-end t c.search.partial cs c.search.progress c.in-Refuted.is c.search.invariant).1
