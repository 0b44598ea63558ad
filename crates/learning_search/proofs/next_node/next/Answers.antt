use Rattle.std.proofs.Common.{ℕ, List, Option, Some, None, map, ◌≡◌, ◌∙◌, ap, subst}
use Rattle.learning_search.proofs.DemandLists.{AreFirst}
use Rattle.learning_search.proofs.Entries.{entries-decisions}
use Rattle.learning_search.proofs.Needs.{decided-queue, least-queue, none-free}
use Rattle.search.proofs.WhatIsLeft.{table-lawful}
use Rattle.search.specs.declared.conflict.NodeChoice.{NodeChoice}
use Rattle.learning_search.specs.declared.demands.Demand.{Demand}
use Rattle.learning_search.specs.declared.partial_solution.PartialSolution.{PartialSolution}
use Rattle.learning_search.specs.declared.next_node.NeededNode.{NeededNode}
use Rattle.learning_search.specs.Tied.Demanded.{IsFoundNeed, IsOnDecided, NoneOnDecided}
use Rattle.learning_search.specs.Tied.Gathering.{choice_at}
use Rattle.learning_search.specs.Tied.Learned.{IsPartialSolution, demands_of, decisions_of, first_at}
use Rattle.search.specs.Table.{TableParts, rules_of}
use Rattle.learning_search.proofs.next_node.next.Goals as goal

firsts : (t : TableParts) (p : PartialSolution) (taken : List (Option (NodeChoice ℕ ℕ))) → IsPartialSolution t p → taken ≡ p.taken.items → AreFirst (rules_of t) p.assignments.items (first_at taken)
firsts t p taken s e n = ap (λ xs. first_at xs n) e ∙ s.taken n

chosen : (t : TableParts) (p : PartialSolution) → IsPartialSolution t p → map choice_at p.choices.entries ≡ decisions_of p.assignments.items
chosen t p s = ap (map choice_at) s.choices ∙ entries-decisions p.assignments.items

none-on_decided : (t : TableParts) (p : PartialSolution) (first : ℕ → Option (NodeChoice ℕ ℕ)) (listed : List Demand) → IsPartialSolution t p → listed ≡ p.demands.listed.items → NoneOnDecided (rules_of t) first (map choice_at p.choices.entries) listed → NoneOnDecided (rules_of t) first (decisions_of p.assignments.items) (demands_of (rules_of t) p.assignments.items)
none-on_decided t p first listed s e h = subst (λ cs. NoneOnDecided (rules_of t) first cs (demands_of (rules_of t) p.assignments.items)) (chosen t p s) (subst (λ xs. NoneOnDecided (rules_of t) first (map choice_at p.choices.entries) xs) (e ∙ s.listed) h)

pub returns-in-Some-clause-next : goal.returns-in-Some-clause-next
returns-in-Some-clause-next c =
    let t : TableParts = c.args.table.now in let p : PartialSolution = c.args.partial.now in
    let first : ℕ → Option (NodeChoice ℕ ℕ) = first_at c.as_slice-taken.result.now in
    let listed : c.next_on_decided.new.demands.listed.items ≡ demands_of (rules_of t) p.assignments.items = ap (λ xs. xs.items) c.in-Some.ensures.listed ∙ c.requires.partial.listed in
    let decided : IsOnDecided (rules_of t) first (decisions_of p.assignments.items) (demands_of (rules_of t) p.assignments.items) c.in-Some.need =
    subst (λ cs. IsOnDecided (rules_of t) first cs (demands_of (rules_of t) p.assignments.items) c.in-Some.need) (chosen t p c.requires.partial) (subst (λ xs. IsOnDecided (rules_of t) first (map choice_at p.choices.entries) xs c.in-Some.need) listed c.in-Some.ensures.found) in
    let made = c.queue_of.ensures in (
      made.3,
      λ any. decided-queue t (table-lawful t c.requires.table) c.requires.learning.0 any p.assignments.items first (firsts t p c.as_slice-taken.result.now c.requires.partial c.as_slice-taken.ensures.value) c.requires.learning.1 c.in-Some.need decided c.queue_of.result made.0 made.1 made.2 made.3 made.4,
    )

pub returns-in-Some-next_free-clause-next : goal.returns-in-Some-next_free-clause-next
returns-in-Some-next_free-clause-next c =
    let t : TableParts = c.args.table.now in let p : PartialSolution = c.args.partial.now in
    let first : ℕ → Option (NodeChoice ℕ ℕ) = first_at c.as_slice-taken.result.now in
    let before : c.next_on_decided.new.demands.listed.items ≡ p.demands.listed.items = ap (λ xs. xs.items) c.in_default.ensures.listed in
    let listed : c.next_free.new.demands.listed.items ≡ demands_of (rules_of t) p.assignments.items = ap (λ xs. xs.items) c.next_free.ensures.listed ∙ before ∙ c.requires.partial.listed in
    let found : IsFoundNeed (rules_of t) first (demands_of (rules_of t) p.assignments.items) (Some c.in-Some-next_free.need) =
    subst (λ xs. IsFoundNeed (rules_of t) first xs (Some c.in-Some-next_free.need)) listed (subst (λ (o : Option NeededNode). IsFoundNeed (rules_of t) first c.next_free.new.demands.listed.items o) c.in-Some-next_free.is c.next_free.ensures.found) in
    let made = c.queue_of-in-Some-next_free.ensures in (
      made.3,
      λ any. least-queue t (table-lawful t c.requires.table) c.requires.learning.0 any p.assignments.items first (firsts t p c.as_slice-taken.result.now c.requires.partial c.as_slice-taken.ensures.value) c.requires.learning.1
          (none-on_decided t p first c.next_on_decided.new.demands.listed.items c.requires.partial before c.in_default.ensures.found) c.in-Some-next_free.need found c.queue_of-in-Some-next_free.result made.0 made.1 made.2 made.3 made.4,
    )

pub returns-clause-next : goal.returns-clause-next
returns-clause-next c =
    let t : TableParts = c.args.table.now in let p : PartialSolution = c.args.partial.now in
    let first : ℕ → Option (NodeChoice ℕ ℕ) = first_at c.as_slice-taken.result.now in
    let before : c.next_on_decided.new.demands.listed.items ≡ p.demands.listed.items = ap (λ xs. xs.items) c.in_default.ensures.listed in
    let listed : c.next_free.new.demands.listed.items ≡ demands_of (rules_of t) p.assignments.items = ap (λ xs. xs.items) c.next_free.ensures.listed ∙ before ∙ c.requires.partial.listed in
    let found : IsFoundNeed (rules_of t) first (demands_of (rules_of t) p.assignments.items) None =
    subst (λ xs. IsFoundNeed (rules_of t) first xs None) listed (subst (λ (o : Option NeededNode). IsFoundNeed (rules_of t) first c.next_free.new.demands.listed.items o) c.in_default-next_free.is c.next_free.ensures.found) in
    none-free t (table-lawful t c.requires.table) c.requires.learning.0 p.assignments.items first (firsts t p c.as_slice-taken.result.now c.requires.partial c.as_slice-taken.ensures.value) c.requires.learning.1
    (none-on_decided t p first c.next_on_decided.new.demands.listed.items c.requires.partial before c.in_default.ensures.found) found
