-- How much of the tree of choices is left to a search that learns.
use Rattle.std.proofs.Common.{ℕ, suc, List, [], ◌∷◌, ◌++◌, ◌≡◌, ◌<◌, ◌≤◌, ◌-◌, inl, inr, Contains, length, map, sym, ◌∙◌, ap, subst, arith, true, append_assoc, length-append}
use Rattle.std.proofs.lemmas.List.{length-map}
use Rattle.std.proofs.lemmas.List.Elements.{Contains-push_cases}
use Rattle.search.proofs.Counts.{Distinct-push, distinct-below}
use Rattle.learning_search.proofs.Learns.{queue-known}
use Rattle.learning_search.proofs.LearnedSearch.{before-more, before-last}
use Rattle.lists.proofs.Members.{Contains-here, Contains-there, Contains-cons_cases, Contains-nil, map-append}
use Rattle.search.proofs.WhatIsLeft.{digits_left, digits_left-push, digits_left-more, base_of, candidates-counted}
use Rattle.search.specs.declared.conflict.NodeChoice.{NodeChoice}
use Rattle.learning_search.specs.declared.partial_solution.PartialSolution.{PartialSolution}
use Rattle.learning_search.specs.declared.learned_search.Progress.{Progress}
use Rattle.learning_search.specs.declared.learned_search.Progress.TheVariants.{Trying, Solved, Refuted}
use Rattle.learning_search.specs.declared.assignment.Assignment.{Assignment}
use Rattle.learning_search.specs.declared.candidate_queue.CandidateQueue.{CandidateQueue}
use Rattle.learning_search.specs.Tied.Gathering.{decision}
use Rattle.learning_search.specs.Tied.Learned.{decision_of, decisions_of, IsCandidateQueue, IsLearning}
use Rattle.learning_search.specs.Tied.Learning.{IsBack, IsRetried, IsEntered, StandsAt, GoesOnward}
use Rattle.search.specs.Tied.Nodes.{Distinct}
use Rattle.search.specs.Table.{TableParts, rules_of, candidates_of, name_of, in_range}

pub candidates-room : (t : TableParts) (n : ℕ) → suc (length (candidates_of t n)) < base_of t
candidates-room t n = let k = candidates-counted t.candidates n in omega arith

-- ---- the nodes of what is assigned are distinct

abbrev pub nodes_assigned : List Assignment → List ℕ
nodes_assigned hs = map (λ h. h.queue.node) hs

not-later : (t : TableParts) (conflicts : List (List (NodeChoice ℕ ℕ))) (before hs : List Assignment) (node v : ℕ) → IsLearning (rules_of t) conflicts before hs → Contains (decisions_of before) (decision node v) → Contains (nodes_assigned hs) node → ⊥
not-later t conflicts before [] node v l i j = Contains-nil node j
not-later t conflicts before (h ∷ hs) node v l i j = elim (Contains-cons_cases h.queue.node (nodes_assigned hs) node j) [
  | inl e ↦ l.0.queue.free v (subst (λ n. Contains (decisions_of before) (decision n v)) (sym e) i)
  | inr r ↦ not-later t conflicts (before ++ h ∷ []) hs node v l.1 (before-more before h (decision node v) i) r
]

nodes-distinct : (t : TableParts) (conflicts : List (List (NodeChoice ℕ ℕ))) (before hs : List Assignment) → IsLearning (rules_of t) conflicts before hs → Distinct (nodes_assigned hs)
nodes-distinct t conflicts before [] l = tt
nodes-distinct t conflicts before (h ∷ hs) l = (
  not-later t conflicts (before ++ h ∷ []) hs h.queue.node h.place l.1 (before-last before h),
  nodes-distinct t conflicts (before ++ h ∷ []) hs l.1,
)

nodes-below : (t : TableParts) → in_range t ≡ true → (conflicts : List (List (NodeChoice ℕ ℕ))) (before hs : List Assignment) → IsLearning (rules_of t) conflicts before hs → (node : ℕ) → Contains (nodes_assigned hs) node → node < length t.nodes
nodes-below t known conflicts before [] l node i = absurd (Contains-nil node i)
nodes-below t known conflicts before (h ∷ hs) l node i = elim (Contains-cons_cases h.queue.node (nodes_assigned hs) node i) [
  | inl e ↦ subst (λ n. n < length t.nodes) e (queue-known t known conflicts before h.queue l.0.queue)
  | inr r ↦ nodes-below t known conflicts (before ++ h ∷ []) hs l.1 node r
]

node-decision : (hs : List Assignment) (node : ℕ) → Contains (nodes_assigned hs) node → (v : ℕ) × Contains (decisions_of hs) (decision node v)
node-decision [] node i = absurd (Contains-nil node i)
node-decision (h ∷ hs) node i = elim (Contains-cons_cases h.queue.node (nodes_assigned hs) node i) [
  | inl e ↦ (h.place, subst (λ n. Contains (decisions_of (h ∷ hs)) (decision n h.place)) e (Contains-here (decision_of h) (decisions_of hs)))
  | inr r ↦ let k : (v : ℕ) × Contains (decisions_of hs) (decision node v) = node-decision hs node r in (k.0, Contains-there (decision_of h) (decisions_of hs) (decision node k.0) k.1)
]

-- what is assigned and what is tried are at most as many as there are nodes
depth : (t : TableParts) → in_range t ≡ true → (conflicts : List (List (NodeChoice ℕ ℕ))) (hs : List Assignment) (queue : CandidateQueue) → IsLearning (rules_of t) conflicts [] hs → IsCandidateQueue (rules_of t) conflicts hs queue → length hs < length t.nodes
depth t known conflicts hs queue l k =
    let fresh : Contains (nodes_assigned hs) queue.node → ⊥ = λ i. (let d : (v : ℕ) × Contains (decisions_of hs) (decision queue.node v) = node-decision hs queue.node i in k.free d.0 d.1) in
    let d : Distinct (nodes_assigned hs ++ queue.node ∷ []) = Distinct-push (nodes_assigned hs) queue.node (nodes-distinct t conflicts [] hs l) fresh in
    let m : length (nodes_assigned hs ++ queue.node ∷ []) ≤ length t.nodes = distinct-below (length t.nodes) (nodes_assigned hs ++ queue.node ∷ []) d (λ n i. elim (Contains-push_cases (nodes_assigned hs) queue.node n i) [
      | inl a ↦ nodes-below t known conflicts [] hs l n a
      | inr b ↦ subst (λ x. x < length t.nodes) b (queue-known t known conflicts hs queue k)
    ]) in
    let a = length-append (nodes_assigned hs) (queue.node ∷ []) in
    let b : length (nodes_assigned hs) ≡ length hs = length-map hs (λ (h : Assignment). h.queue.node) in
    omega arith

-- ---- the work that is left

-- how many candidates a queue hasn't refused
abbrev pub queue_left : TableParts → CandidateQueue → ℕ
queue_left t queue = length (candidates_of t (name_of t queue.node)) - queue.turn

abbrev pub assignment_left : TableParts → Assignment → ℕ
assignment_left t h = queue_left t h.queue

abbrev pub learned_work : TableParts → List Assignment → CandidateQueue → ℕ
learned_work t hs queue = digits_left (base_of t) (length t.nodes) (map (assignment_left t) hs ++ queue_left t queue ∷ [])

work-retried : (t : TableParts) (old new : List Assignment) (before after : CandidateQueue) → length old < length t.nodes → IsRetried t old new before after → learned_work t new after < learned_work t old before
work-retried t old new before after l h =
    let less : queue_left t after < queue_left t before = (let e : length (candidates_of t (name_of t after.node)) ≡ length (candidates_of t (name_of t before.node)) = ap (λ n. length (candidates_of t (name_of t n))) h.node in let f = h.turn in let w = h.within in omega arith) in
    let size : length (map (assignment_left t) old ++ queue_left t before ∷ []) ≤ length t.nodes = (let a = length-append (map (assignment_left t) old) (queue_left t before ∷ []) in let b : length (map (assignment_left t) old) ≡ length old = length-map old (assignment_left t) in omega arith) in
    subst (λ (hs : List Assignment). learned_work t hs after < learned_work t old before) (sym h.assignments)
    (digits_left-more (base_of t) (length t.nodes) (map (assignment_left t) old) (queue_left t before) (queue_left t after) [] (omega arith) size less)

work-entered : (t : TableParts) (old new : List Assignment) (before after : CandidateQueue) → length new < length t.nodes → IsEntered t old new before after → learned_work t new after < learned_work t old before
work-entered t old new before after l h =
    let entered : Assignment = record { queue = before; place = h.place } in
    let same : map (assignment_left t) new ≡ map (assignment_left t) old ++ queue_left t before ∷ [] = ap (map (assignment_left t)) h.assignments ∙ map-append (assignment_left t) old (entered ∷ []) in
    let size : length (map (assignment_left t) new) < length t.nodes = (let b : length (map (assignment_left t) new) ≡ length new = length-map new (assignment_left t) in omega arith) in
    let room : suc (queue_left t after) < base_of t = (let k = candidates-room t (name_of t after.node) in omega arith) in
    subst (λ (ds : List ℕ). learned_work t new after < digits_left (base_of t) (length t.nodes) ds) same
    (digits_left-push (base_of t) (length t.nodes) (map (assignment_left t) new) (queue_left t after) size room)

assigned-turn : (t : TableParts) (conflicts : List (List (NodeChoice ℕ ℕ))) (before front : List Assignment) (last : Assignment) (rest : List Assignment) → IsLearning (rules_of t) conflicts before (front ++ last ∷ rest) → last.queue.turn < length (candidates_of t (name_of t last.queue.node))
assigned-turn t conflicts before [] last rest l = l.0.turn
assigned-turn t conflicts before (h ∷ front) last rest l = assigned-turn t conflicts (before ++ h ∷ []) front last rest l.1

work-back : (t : TableParts) (conflicts : List (List (NodeChoice ℕ ℕ))) (old new : List Assignment) (before after : CandidateQueue) → length old < length t.nodes → IsLearning (rules_of t) conflicts [] old → IsBack old new after → learned_work t new after < learned_work t old before
work-back t conflicts old new before after l learning h =
    let turn : h.last.queue.turn < length (candidates_of t (name_of t h.last.queue.node)) = assigned-turn t conflicts [] new h.last h.rest (subst (λ (xs : List Assignment). IsLearning (rules_of t) conflicts [] xs) h.was learning) in
    let less : queue_left t after < assignment_left t h.last = (let e : length (candidates_of t (name_of t after.node)) ≡ length (candidates_of t (name_of t h.last.queue.node)) = ap (λ n. length (candidates_of t (name_of t n))) h.node in let f = h.turn in omega arith) in
    let digits : map (assignment_left t) old ++ queue_left t before ∷ [] ≡ map (assignment_left t) new ++ assignment_left t h.last ∷ (map (assignment_left t) h.rest ++ queue_left t before ∷ []) =
    ap (λ (xs : List Assignment). map (assignment_left t) xs ++ queue_left t before ∷ []) h.was
    ∙ ap (λ (ds : List ℕ). ds ++ queue_left t before ∷ []) (map-append (assignment_left t) new (h.last ∷ h.rest))
    ∙ append_assoc (map (assignment_left t) new) (assignment_left t h.last ∷ map (assignment_left t) h.rest) (queue_left t before ∷ []) in
    let size : length (map (assignment_left t) old ++ queue_left t before ∷ []) ≤ length t.nodes = (let a = length-append (map (assignment_left t) old) (queue_left t before ∷ []) in let b : length (map (assignment_left t) old) ≡ length old = length-map old (assignment_left t) in omega arith) in
    subst (λ (ds : List ℕ). learned_work t new after < digits_left (base_of t) (length t.nodes) ds) (sym digits)
    (digits_left-more (base_of t) (length t.nodes) (map (assignment_left t) new) (assignment_left t h.last) (queue_left t after) (map (assignment_left t) h.rest ++ queue_left t before ∷ []) (omega arith)
    (subst (λ (ds : List ℕ). length ds ≤ length t.nodes) digits size) less)

-- the work of a search that is at its end is done
abbrev pub progress_work : TableParts → List Assignment → Progress → ℕ
progress_work t hs (Trying queue) = suc (learned_work t hs queue)
progress_work t hs Solved = 0
progress_work t hs Refuted = 0

pub work-onward : (t : TableParts) → in_range t ≡ true → (p q : PartialSolution) (before_conflicts after_conflicts : List (List (NodeChoice ℕ ℕ))) (before : CandidateQueue) (progress : Progress) → StandsAt t p before_conflicts (Trying before) → StandsAt t q after_conflicts progress → GoesOnward t p.assignments.items q.assignments.items before progress → progress_work t q.assignments.items progress < progress_work t p.assignments.items (Trying before)
work-onward t known p q cs ds before (Trying after) h k o =
    let deep : length p.assignments.items < length t.nodes = depth t known cs p.assignments.items before h.0.learning h.1 in
    let deeper : length q.assignments.items < length t.nodes = depth t known ds q.assignments.items after k.0.learning k.1 in
    let less : learned_work t q.assignments.items after < learned_work t p.assignments.items before = elim o [
      | inl a ↦ work-retried t p.assignments.items q.assignments.items before after deep a
      | inr (inl b) ↦ work-entered t p.assignments.items q.assignments.items before after deeper b
      | inr (inr c) ↦ work-back t cs p.assignments.items q.assignments.items before after deep h.0.learning c
    ] in
    omega arith
work-onward t known p q cs ds before Solved h k o = omega arith
work-onward t known p q cs ds before Refuted h k o = omega arith
