use Rattle.std.proofs.Common.{Option, Some, None, MatchOption, ℕ, List, [], ◌∷◌, ◌++◌, ◌≡◌, ◌<◌, ◌+◌, ◌∙◌, Contains, length, get_or, sym, ap, subst, arith, append_assoc}
use Rattle.std.proofs.lemmas.Grind.{common_steps}
use Rattle.std.proofs.lemmas.List.Elements.{Contains-get_or}
use Rattle.learning_search.proofs.LearnedSearch.{IsLearning-pop}
use Rattle.learning_search.proofs.Learns.{queue-refused, queue-known, last-new, within-front, within-last, nothing-assigned}
use Rattle.search.specs.declared.conflict.NodeChoice.{NodeChoice}
use Rattle.learning_search.specs.declared.partial_solution.PartialSolution.{PartialSolution}
use Rattle.learning_search.specs.declared.assignment.Assignment.{Assignment}
use Rattle.learning_search.specs.declared.candidate_queue.CandidateQueue.{CandidateQueue}
use Rattle.learning_search.specs.Tied.Gathering.{decision}
use Rattle.learning_search.specs.Tied.Learned.{decision_of, decisions_of, IsAssignment, IsLearning, IsPartialSolution}
use Rattle.learning_search.specs.Tied.Learning.{IsLearned}
use Rattle.search.specs.Table.{TableParts, rules_of, candidates_of, name_of}
use Rattle.learning_search.specs.Tied.Refusals.{RefusesOneMore}
use Rattle.learning_search.proofs.learned_search.cut_back.Goals as goal

abbrev Popped : List Assignment → List Assignment → Option Assignment → Type 0
Popped old new o = MatchOption o (old ≡ []) (λ h. old ≡ new ++ h ∷ [])

popped : (old new : List Assignment) (h : Assignment) (o : Option Assignment) → o ≡ Some h → Popped old new o → old ≡ new ++ h ∷ []
popped old new h o e k = subst (λ (x : Option Assignment). Popped old new x) e k

all-popped : (old new : List Assignment) (o : Option Assignment) → o ≡ None → Popped old new o → old ≡ []
all-popped old new o e k = subst (λ (x : Option Assignment). Popped old new x) e k

now-partial : (t : TableParts) (p : PartialSolution) (h : Assignment) (o : Option Assignment) → o ≡ Some h → MatchOption o (Unit {0}) (λ _. IsPartialSolution t p) → IsPartialSolution t p
now-partial t p h o e k = subst (λ (x : Option Assignment). MatchOption x (Unit {0}) (λ _. IsPartialSolution t p)) e k

-- what is known of a choice that is given back
parted : (t : TableParts) (p : PartialSolution) (conflicts : List (List (NodeChoice ℕ ℕ))) (front : List Assignment) (h : Assignment) → IsLearned t p conflicts → p.assignments.items ≡ front ++ h ∷ [] → IsLearning (rules_of t) conflicts [] front × IsAssignment (rules_of t) conflicts front h
parted t p conflicts front h l e = IsLearning-pop (rules_of t) conflicts [] front h (subst (λ (xs : List Assignment). IsLearning (rules_of t) conflicts [] xs) e l.learning)

pub pop-requires-clause-last : goal.pop-requires-clause-last
pop-requires-clause-last c = last-new c.args.table.now c.requires.table c.args.conflicts.now.list.items c.loop-assignment.partial.assignments.items c.loop-assignment.invariant.learned.learning

pub name_of-requires : goal.name_of-requires
name_of-requires c =
    let t : TableParts = c.args.table.now in
    let front : List Assignment = c.pop.new.self.assignments.items in
    let k : IsLearning (rules_of t) c.args.conflicts.now.list.items [] front × IsAssignment (rules_of t) c.args.conflicts.now.list.items front c.in-Some.assignment = parted t c.loop-assignment.partial c.args.conflicts.now.list.items front c.in-Some.assignment c.loop-assignment.invariant.learned (popped c.loop-assignment.partial.assignments.items c.pop.new.self.assignments.items c.in-Some.assignment c.in_ok-assignment.field-0 c.in-Some.is c.in_ok-assignment.ensures.popped) in
    subst (λ (x : CandidateQueue). x.node < length t.nodes) (sym c.into_queue-queue.ensures) (queue-known t c.requires.table c.args.conflicts.now.list.items front c.in-Some.assignment.queue k.1.queue)

pub refuse-requires : goal.refuse-requires
refuse-requires c =
    let t : TableParts = c.args.table.now in
    let front : List Assignment = c.pop.new.self.assignments.items in
    let k : IsLearning (rules_of t) c.args.conflicts.now.list.items [] front × IsAssignment (rules_of t) c.args.conflicts.now.list.items front c.in-Some.assignment = parted t c.loop-assignment.partial c.args.conflicts.now.list.items front c.in-Some.assignment c.loop-assignment.invariant.learned (popped c.loop-assignment.partial.assignments.items c.pop.new.self.assignments.items c.in-Some.assignment c.in_ok-assignment.field-0 c.in-Some.is c.in_ok-assignment.ensures.popped) in
    let low : c.into_queue-queue.result.turn < length (candidates_of t (name_of t c.into_queue-queue.result.node)) = subst (λ (x : CandidateQueue). x.turn < length (candidates_of t (name_of t x.node))) (sym c.into_queue-queue.ensures) k.1.turn in
    let count : length c.candidates-count.result.now ≡ length (candidates_of t (name_of t c.into_queue-queue.result.node)) = ap length c.candidates-count.ensures ∙ ap (λ n. length (candidates_of t n)) c.name_of.ensures.name in
    omega arith

pub returns-then-has-clause-none : goal.returns-then-has-clause-none
returns-then-has-clause-none c = record {
  last = c.in-Some.assignment;
  rest = c.loop-assignment.invariant.rest;
  was = c.loop-assignment.invariant.split ∙ ap (λ xs. xs ++ c.loop-assignment.invariant.rest) (popped c.loop-assignment.partial.assignments.items c.pop.new.self.assignments.items c.in-Some.assignment c.in_ok-assignment.field-0 c.in-Some.is c.in_ok-assignment.ensures.popped) ∙ append_assoc c.pop.new.self.assignments.items (c.in-Some.assignment ∷ []) c.loop-assignment.invariant.rest;
  node = c.in_ok-refuse.ensures.node ∙ ap (λ (x : CandidateQueue). x.node) c.into_queue-queue.ensures;
  turn = c.in_ok-refuse.ensures.turn ∙ ap (λ (x : CandidateQueue). x.turn + 1) c.into_queue-queue.ensures;
}

pub returns-then-has-clause-learned : goal.returns-then-has-clause-learned
returns-then-has-clause-learned c =
    let t : TableParts = c.args.table.now in
    let cs : List (List (NodeChoice ℕ ℕ)) = c.args.conflicts.now.list.items in
    let front : List Assignment = c.pop.new.self.assignments.items in
    let h : Assignment = c.in-Some.assignment in
    let k : IsLearning (rules_of t) cs [] front × IsAssignment (rules_of t) cs front h = parted t c.loop-assignment.partial cs front h c.loop-assignment.invariant.learned (popped c.loop-assignment.partial.assignments.items c.pop.new.self.assignments.items c.in-Some.assignment c.in_ok-assignment.field-0 c.in-Some.is c.in_ok-assignment.ensures.popped) in
    let conflict : List (NodeChoice ℕ ℕ) = get_or cs c.args.at [] in
    let refused : RefusesOneMore h.queue c.refuse.new.self conflict (decision h.queue.node h.place) =
    subst (λ (xs : List (NodeChoice ℕ ℕ)). RefusesOneMore h.queue c.refuse.new.self xs (decision h.queue.node h.place)) c.at-conflict.ensures
    (subst (λ (x : CandidateQueue). RefusesOneMore x c.refuse.new.self c.at-conflict.result.now (decision x.node h.place)) c.into_queue-queue.ensures c.in_ok-refuse.ensures) in (
      record { partial = (now-partial c.args.table.now c.pop.new.self c.in-Some.assignment c.in_ok-assignment.field-0 c.in-Some.is c.in_ok-assignment.ensures.partial); follows = c.loop-assignment.invariant.learned.follows; known = c.loop-assignment.invariant.learned.known; learning = k.0 },
      queue-refused (rules_of t) cs front h.queue c.refuse.new.self h.place conflict k.1.queue refused (Contains-get_or cs c.args.at [] c.requires.at)
          (within-last front h conflict (λ d i. subst (λ (xs : List Assignment). Contains (decisions_of xs) d) (popped c.loop-assignment.partial.assignments.items c.pop.new.self.assignments.items c.in-Some.assignment c.in_ok-assignment.field-0 c.in-Some.is c.in_ok-assignment.ensures.popped) (c.loop-assignment.invariant.within d i)))
          k.1.turn k.1.place,
    )

pub loop-assignment-preserved : goal.loop-assignment-preserved
loop-assignment-preserved c =
    let t : TableParts = c.args.table.now in
    let cs : List (List (NodeChoice ℕ ℕ)) = c.args.conflicts.now.list.items in
    let front : List Assignment = c.pop.new.self.assignments.items in
    let h : Assignment = c.in-Some.assignment in
    let k : IsLearning (rules_of t) cs [] front × IsAssignment (rules_of t) cs front h = parted t c.loop-assignment.partial cs front h c.loop-assignment.invariant.learned (popped c.loop-assignment.partial.assignments.items c.pop.new.self.assignments.items c.in-Some.assignment c.in_ok-assignment.field-0 c.in-Some.is c.in_ok-assignment.ensures.popped) in
    let conflict : List (NodeChoice ℕ ℕ) = get_or cs c.args.at [] in
    let lacks : Contains conflict (decision_of h) → ⊥ = λ i. c.has.ensures.absent c.if-has.false
    (subst (λ (x : CandidateQueue). Contains c.at-conflict.result.now (decision x.node h.place)) (sym c.into_queue-queue.ensures) (subst (λ (xs : List (NodeChoice ℕ ℕ)). Contains xs (decision_of h)) (sym c.at-conflict.ensures) i)) in
    record {
      rest = h ∷ c.loop-assignment.invariant.rest;
      split = c.loop-assignment.invariant.split ∙ ap (λ xs. xs ++ c.loop-assignment.invariant.rest) (popped c.loop-assignment.partial.assignments.items c.pop.new.self.assignments.items c.in-Some.assignment c.in_ok-assignment.field-0 c.in-Some.is c.in_ok-assignment.ensures.popped) ∙ append_assoc front (h ∷ []) c.loop-assignment.invariant.rest;
      learned = record { partial = (now-partial c.args.table.now c.pop.new.self c.in-Some.assignment c.in_ok-assignment.field-0 c.in-Some.is c.in_ok-assignment.ensures.partial); follows = c.loop-assignment.invariant.learned.follows; known = c.loop-assignment.invariant.learned.known; learning = k.0 };
      within = within-front front h conflict (λ d i. subst (λ (xs : List Assignment). Contains (decisions_of xs) d) (popped c.loop-assignment.partial.assignments.items c.pop.new.self.assignments.items c.in-Some.assignment c.in_ok-assignment.field-0 c.in-Some.is c.in_ok-assignment.ensures.popped) (c.loop-assignment.invariant.within d i)) lacks;
    }

pub returns-clause-none : goal.returns-clause-none
returns-clause-none c = nothing-assigned (get_or c.args.conflicts.now.list.items c.args.at [])
    (λ d i. subst (λ (xs : List Assignment). Contains (decisions_of xs) d) (all-popped c.loop-assignment.partial.assignments.items c.pop.new.self.assignments.items c.in_ok-assignment.field-0 c.in_default.is c.in_ok-assignment.ensures.popped) (c.loop-assignment.invariant.within d i))

pub loop-assignment-smaller : goal.loop-assignment-smaller
loop-assignment-smaller c = grind (arith, common_steps)
