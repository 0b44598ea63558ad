-- What the steps of a search that learns keep.
use Rattle.std.proofs.Common.{ℕ, suc, List, [], ◌∷◌, ◌++◌, ◌≡◌, ◌<◌, ◌≤◌, ◌⊎◌, inl, inr, Contains, length, get_or, take, refl, sym, ◌∙◌, ap, subst, add-one, Some, None, Option, true, option_to_list, append_assoc, append-nil}
use Rattle.std.proofs.lemmas.List.{get_or_push}
use Rattle.std.proofs.lemmas.List.Elements.{Contains-get_or, Contains-push_cases}
use Rattle.std.specs.Ordering.{nat_cmp}
use Rattle.learning_search.proofs.DemandLists.{leader-version}
use Rattle.search.proofs.PlacesEquality.{eq-itself}
use Rattle.learning_search.proofs.Assignments.{decisions-push}
use Rattle.learning_search.proofs.LearnedSearch.{IsLearning-push, IsLearning-pop, learning-more}
use Rattle.lists.proofs.Members.{Contains-here, Contains-cons_cases, Contains-nil, Contains-take_suc, take-whole}
use Rattle.search.proofs.Ranges.{lines-known, wants-known, nodes-known}
use Rattle.search.specs.declared.conflict.NodeChoice.{NodeChoice}
use Rattle.learning_search.specs.declared.partial_solution.PartialSolution.{PartialSolution}
use Rattle.learning_search.specs.declared.assignment.Assignment.{Assignment}
use Rattle.learning_search.specs.declared.candidate_queue.CandidateQueue.{CandidateQueue}
use Rattle.learning_search.specs.Tied.Demanded.{Clashes}
use Rattle.search.specs.Conflicts.{IsSameChoice, Completes, NeedsNode, Follows, EachFollows, IsRefutation}
use Rattle.learning_search.specs.Tied.Gathering.{Gathers, IsCompleted, IsWithin, decision}
use Rattle.search.specs.Known.{IsKnown, AreKnown}
use Rattle.learning_search.specs.Tied.Learned.{decision_of, decisions_of, names_assigned, leaders_assigned, IsInTurn, IsNeededBy, IsFree, IsCandidateQueue, FitsBefore, IsAssignment, IsLearning, IsPartialSolution, LastIsNew}
use Rattle.learning_search.specs.Tied.Learning.{IsLearned, version_of}
use Rattle.search.specs.Rules.{Rules}
use Rattle.search.specs.Solutions.{Needed, IsNext, version_pinned}
use Rattle.search.specs.Table.{TableParts, rules_of, name_of, candidates_of, in_range, places_eq}
use Rattle.learning_search.specs.Tied.Refusals.{RefusesOneMore}

-- ---- a candidate is refused

completed-more : (conflicts : List (List (NodeChoice ℕ ℕ))) (old new : List (NodeChoice ℕ ℕ)) (last : NodeChoice ℕ ℕ) → ((c : NodeChoice ℕ ℕ) → Contains old c → Contains new c) → IsCompleted conflicts old last → IsCompleted conflicts new last
completed-more conflicts old new last more h = (h.0, h.1, λ c i. elim (h.2 c i) [ inl a ↦ inl (more c a) | inr b ↦ inr b ])

refused-completed : (conflicts : List (List (NodeChoice ℕ ℕ))) (old new conflict : List (NodeChoice ℕ ℕ)) (candidate : NodeChoice ℕ ℕ) → Contains conflicts conflict → Gathers old new conflict (candidate ∷ []) → IsCompleted conflicts new candidate
refused-completed conflicts old new conflict candidate there g = (
  conflict,
  there,
  λ c i. elim (g.added c i) [
    | inl a ↦ inl a
    | inr b ↦ elim (Contains-cons_cases candidate [] c b) [ inl e ↦ inr e | inr r ↦ absurd (Contains-nil c r) ]
  ],
)

pub queue-refused : (rules : Rules ℕ ℕ ℕ ℕ) (conflicts : List (List (NodeChoice ℕ ℕ))) (before : List Assignment) (old new : CandidateQueue) (place : ℕ) (conflict : List (NodeChoice ℕ ℕ)) → IsCandidateQueue rules conflicts before old → RefusesOneMore old new conflict (decision old.node place) → Contains conflicts conflict → IsWithin conflict (decisions_of before) (decision old.node place) → old.turn < length (rules.candidates (rules.on old.node)) → get_or (rules.candidates (rules.on old.node)) old.turn place ≡ place → IsCandidateQueue rules conflicts before new
queue-refused rules conflicts before old new place conflict h r there within turn at = record {
  in_turn = subst (λ n. IsInTurn rules (names_assigned rules before) n new.leads) (sym r.node) (subst (λ b. IsInTurn rules (names_assigned rules before) old.node b) (sym r.leads) h.in_turn);
  needed = subst (λ n. Needed rules (version_pinned rules.compare (names_assigned rules before)) n) (sym r.node) h.needed;
  by = subst (λ n. IsNeededBy rules (decisions_of before) n new.by) (sym r.node) (subst (λ (o : Option (NodeChoice ℕ ℕ)). IsNeededBy rules (decisions_of before) old.node o) (sym r.by) h.by);
  free = subst (λ n. IsFree (decisions_of before) n) (sym r.node) h.free;
  blamed = λ c i. elim (r.blame.only c i) [
    | inl a ↦ h.blamed c a
    | inr b ↦ elim (within c b.0) [
      | inl x ↦ x
      | inr y ↦ absurd (b.1 (subst (λ d. Contains (decision old.node place ∷ []) d) y (Contains-here (decision old.node place) [])))
    ]
  ];
  refused = λ w i.
      let k : Contains (take (suc old.turn) (rules.candidates (rules.on old.node))) w = subst (λ n. Contains (take n (rules.candidates (rules.on old.node))) w) (r.turn ∙ add-one old.turn) (subst (λ n. Contains (take new.turn (rules.candidates (rules.on n))) w) r.node i) in
      subst (λ n. IsCompleted conflicts new.blame.items (decision n w)) (sym r.node)
      (elim (Contains-take_suc (rules.candidates (rules.on old.node)) old.turn place w turn k) [
        | inl low ↦ completed-more conflicts old.blame.items new.blame.items (decision old.node w) r.blame.kept (h.refused w low)
        | inr here ↦ subst (λ v. IsCompleted conflicts new.blame.items (decision old.node v)) (sym at ∙ here) (refused-completed conflicts old.blame.items new.blame.items conflict (decision old.node place) there r.blame)
      ]);
}

-- ---- a conflict is recorded

each-push : (rules : Rules ℕ ℕ ℕ ℕ) (earlier cs : List (List (NodeChoice ℕ ℕ))) (c : List (NodeChoice ℕ ℕ)) → EachFollows rules places_eq earlier cs → Follows rules places_eq (earlier ++ cs) c → EachFollows rules places_eq earlier (cs ++ c ∷ [])
each-push rules earlier [] c f g = (subst (λ xs. Follows rules places_eq xs c) (append-nil earlier) g, tt)
each-push rules earlier (d ∷ cs) c f g = (f.0, each-push rules (earlier ++ d ∷ []) cs c f.1 (subst (λ xs. Follows rules places_eq xs c) (sym (append_assoc earlier (d ∷ []) cs)) g))

known-push : (t : TableParts) (conflicts : List (List (NodeChoice ℕ ℕ))) (conflict : List (NodeChoice ℕ ℕ)) → AreKnown t conflicts → ((c : NodeChoice ℕ ℕ) → Contains conflict c → IsKnown t c) → AreKnown t (conflicts ++ conflict ∷ [])
known-push t conflicts conflict all own other c i j = elim (Contains-push_cases conflicts conflict other i) [
  | inl a ↦ all other c a j
  | inr b ↦ own c (subst (λ (xs : List (NodeChoice ℕ ℕ)). Contains xs c) (sym b) j)
]

pub learned-more : (t : TableParts) (p : PartialSolution) (conflicts : List (List (NodeChoice ℕ ℕ))) (conflict : List (NodeChoice ℕ ℕ)) → IsLearned t p conflicts → Follows (rules_of t) places_eq conflicts conflict → ((c : NodeChoice ℕ ℕ) → Contains conflict c → IsKnown t c) → IsLearned t p (conflicts ++ conflict ∷ [])
learned-more t p conflicts c h f own = record {
  partial = h.partial;
  follows = each-push (rules_of t) [] conflicts c h.follows f;
  known = known-push t conflicts c h.known own;
  learning = learning-more (rules_of t) conflicts (c ∷ []) [] p.assignments.items h.learning;
}

-- ---- where no candidate is left

completes-same : (conflicts : List (List (NodeChoice ℕ ℕ))) (decisions : List (NodeChoice ℕ ℕ)) (last : NodeChoice ℕ ℕ) → IsCompleted conflicts decisions last → Completes places_eq conflicts decisions last
completes-same conflicts decisions last h = (
  h.0,
  h.1,
  λ c i. elim (h.2 c i) [
    | inl a ↦ inl (c, a, record { nodes = refl; versions = eq-itself c.version })
    | inr b ↦ inr (subst (λ d. IsSameChoice places_eq c d) (sym b) (record { nodes = refl; versions = eq-itself c.version }))
  ],
)

needs-of : (rules : Rules ℕ ℕ ℕ ℕ) (decisions conflict : List (NodeChoice ℕ ℕ)) (node : ℕ) (by : Option (NodeChoice ℕ ℕ)) → IsNeededBy rules decisions node by → ((c : NodeChoice ℕ ℕ) → Contains (option_to_list by) c → Contains conflict c) → NeedsNode rules conflict node
needs-of rules decisions conflict node None h k = inl (h.0, h.1, h.2)
needs-of rules decisions conflict node (Some c) h k = inr (c, h.0, k c (Contains-here c []), h.2, h.3)

by-assigned : (rules : Rules ℕ ℕ ℕ ℕ) (decisions : List (NodeChoice ℕ ℕ)) (node : ℕ) (by : Option (NodeChoice ℕ ℕ)) → IsNeededBy rules decisions node by → (c : NodeChoice ℕ ℕ) → Contains (option_to_list by) c → Contains decisions c
by-assigned rules decisions node None h c i = absurd (Contains-nil c i)
by-assigned rules decisions node (Some d) h c i = elim (Contains-cons_cases d [] c i) [ inl e ↦ subst (λ x. Contains decisions x) e h.1 | inr r ↦ absurd (Contains-nil c r) ]

pub exhausted-follows : (rules : Rules ℕ ℕ ℕ ℕ) (conflicts : List (List (NodeChoice ℕ ℕ))) (before : List Assignment) (queue : CandidateQueue) (conflict : List (NodeChoice ℕ ℕ)) → IsCandidateQueue rules conflicts before queue → Gathers queue.blame.items conflict (option_to_list queue.by) [] → length (rules.candidates (rules.on queue.node)) ≤ queue.turn → Follows rules places_eq conflicts conflict
exhausted-follows rules conflicts before queue conflict h g l = inr (inr (inr (record {
  node = queue.node;
  needs = needs-of rules (decisions_of before) conflict queue.node queue.by h.by (λ c i. elim (g.added c i) [ inl a ↦ a | inr b ↦ absurd (Contains-nil c b) ]);
  each = λ v i. completes-same conflicts conflict (decision queue.node v) (completed-more conflicts queue.blame.items conflict (decision queue.node v) g.kept
      (h.refused v (subst (λ xs. Contains xs v) (sym (take-whole (rules.candidates (rules.on queue.node)) queue.turn l)) i)));
})))

pub exhausted-within : (rules : Rules ℕ ℕ ℕ ℕ) (conflicts : List (List (NodeChoice ℕ ℕ))) (before : List Assignment) (queue : CandidateQueue) (conflict : List (NodeChoice ℕ ℕ)) → IsCandidateQueue rules conflicts before queue → Gathers queue.blame.items conflict (option_to_list queue.by) [] → (c : NodeChoice ℕ ℕ) → Contains conflict c → Contains (decisions_of before) c
exhausted-within rules conflicts before queue conflict h g c i = elim (g.only c i) [
  | inl a ↦ h.blamed c a
  | inr b ↦ by-assigned rules (decisions_of before) queue.node queue.by h.by c b.0
]

pub last-recorded : {X : Type 0} (before after : List (List X)) (last : List X) (at : ℕ) → after ≡ before ++ last ∷ [] → at ≡ length before → get_or after at [] ≡ last
last-recorded before after last at is size = ap (λ xs. get_or xs at []) is ∙ get_or_push before last [] at (sym size)

-- ---- choices are given back

needed-known : (t : TableParts) → in_range t ≡ true → (decisions : List (NodeChoice ℕ ℕ)) (node : ℕ) (by : Option (NodeChoice ℕ ℕ)) → IsNeededBy (rules_of t) decisions node by → node < length t.nodes
needed-known t known decisions node None h = nodes-known t known h.0 (lines-known t known h.0 h.1) node h.2
needed-known t known decisions node (Some c) h = nodes-known t known h.0 (wants-known t known c.node c.version h.0 h.2) node h.3

pub queue-known : (t : TableParts) → in_range t ≡ true → (conflicts : List (List (NodeChoice ℕ ℕ))) (before : List Assignment) (queue : CandidateQueue) → IsCandidateQueue (rules_of t) conflicts before queue → queue.node < length t.nodes
queue-known t known conflicts before queue h = needed-known t known (decisions_of before) queue.node queue.by h.by

-- the candidate of a turn is known
pub candidate-known : (t : TableParts) (queue : CandidateQueue) (place : ℕ) → queue.node < length t.nodes → queue.turn < length (candidates_of t (name_of t queue.node)) → get_or (candidates_of t (name_of t queue.node)) queue.turn place ≡ place → IsKnown t (decision queue.node place)
candidate-known t queue place node turn at = (
  node,
  subst (λ v. Contains (candidates_of t (name_of t queue.node)) v) at (Contains-get_or (candidates_of t (name_of t queue.node)) queue.turn place turn),
)

pub assigned-known : (t : TableParts) → in_range t ≡ true → (conflicts : List (List (NodeChoice ℕ ℕ))) (before hs : List Assignment) → IsLearning (rules_of t) conflicts before hs → (c : NodeChoice ℕ ℕ) → Contains (decisions_of hs) c → IsKnown t c
assigned-known t known conflicts before [] l c i = absurd (Contains-nil c i)
assigned-known t known conflicts before (h ∷ hs) l c i = elim (Contains-cons_cases (decision_of h) (decisions_of hs) c i) [
  | inl e ↦ subst (λ d. IsKnown t d) e (candidate-known t h.queue h.place (queue-known t known conflicts before h.queue l.0.queue) l.0.turn l.0.place)
  | inr r ↦ assigned-known t known conflicts (before ++ h ∷ []) hs l.1 c r
]

-- so is each choice of a conflict whose choices are assigned, but for the candidate
pub within-known : (t : TableParts) → in_range t ≡ true → (conflicts : List (List (NodeChoice ℕ ℕ))) (before : List Assignment) (conflict : List (NodeChoice ℕ ℕ)) (candidate : NodeChoice ℕ ℕ) → IsLearning (rules_of t) conflicts [] before → IsWithin conflict (decisions_of before) candidate → IsKnown t candidate → (c : NodeChoice ℕ ℕ) → Contains conflict c → IsKnown t c
within-known t known conflicts before conflict candidate l within own c i = elim (within c i) [
  | inl a ↦ assigned-known t known conflicts [] before l c a
  | inr b ↦ subst (λ d. IsKnown t d) b own
]

-- where no candidate is left, the conflict that follows is recorded
pub exhausted-learned : (t : TableParts) → in_range t ≡ true → (p : PartialSolution) (before after : List (List (NodeChoice ℕ ℕ))) (queue : CandidateQueue) (conflict : List (NodeChoice ℕ ℕ)) → IsLearned t p before → IsCandidateQueue (rules_of t) before p.assignments.items queue → Gathers queue.blame.items conflict (option_to_list queue.by) [] → length (candidates_of t (name_of t queue.node)) ≤ queue.turn → after ≡ before ++ conflict ∷ [] → IsLearned t p after
exhausted-learned t known p before after queue conflict h k g l is = subst (λ (xs : List (List (NodeChoice ℕ ℕ))). IsLearned t p xs) (sym is)
    (learned-more t p before conflict h (exhausted-follows (rules_of t) before p.assignments.items queue conflict k g l)
    (λ c i. assigned-known t known before [] p.assignments.items h.learning c (exhausted-within (rules_of t) before p.assignments.items queue conflict k g c i)))

version-none : (o : Option (NodeChoice ℕ ℕ)) → version_of o ≡ None → o ≡ None
version-none None e = refl
version-none (Some c) e = absurd (cc)

-- where a queue leads, its name had no choice
pub leads-first : (t : TableParts) (conflicts : List (List (NodeChoice ℕ ℕ))) (before : List Assignment) (queue : CandidateQueue) → IsCandidateQueue (rules_of t) conflicts before queue → queue.leads ≡ true → version_pinned nat_cmp (leaders_assigned (rules_of t) before) (name_of t queue.node) ≡ None
leads-first t conflicts before queue h leads =
    let next : IsNext (rules_of t) (names_assigned (rules_of t) before) (name_of t queue.node) = subst (λ b. IsInTurn (rules_of t) (names_assigned (rules_of t) before) queue.node b) leads h.in_turn in
    version-none (version_pinned nat_cmp (leaders_assigned (rules_of t) before) (name_of t queue.node)) (sym (leader-version (rules_of t) before (name_of t queue.node)) ∙ next.free)

pub last-new : (t : TableParts) → in_range t ≡ true → (conflicts : List (List (NodeChoice ℕ ℕ))) (hs : List Assignment) → IsLearning (rules_of t) conflicts [] hs → LastIsNew t hs
last-new t known conflicts hs l front last e =
    let k : IsLearning (rules_of t) conflicts [] front × IsAssignment (rules_of t) conflicts front last = IsLearning-pop (rules_of t) conflicts [] front last (subst (λ xs. IsLearning (rules_of t) conflicts [] xs) e l) in
    (queue-known t known conflicts front last.queue k.1.queue, leads-first t conflicts front last.queue k.1.queue)

-- where a conflict lacks the last choice, all of it is among those before
pub within-front : (hs : List Assignment) (h : Assignment) (conflict : List (NodeChoice ℕ ℕ)) → ((c : NodeChoice ℕ ℕ) → Contains conflict c → Contains (decisions_of (hs ++ h ∷ [])) c) → (Contains conflict (decision_of h) → ⊥) → (c : NodeChoice ℕ ℕ) → Contains conflict c → Contains (decisions_of hs) c
within-front hs h conflict within lacks c i = elim (Contains-push_cases (decisions_of hs) (decision_of h) c (subst (λ cs. Contains cs c) (decisions-push hs h) (within c i))) [
  | inl a ↦ a
  | inr b ↦ absurd (lacks (subst (λ d. Contains conflict d) (sym b) i))
]

pub within-last : (hs : List Assignment) (h : Assignment) (conflict : List (NodeChoice ℕ ℕ)) → ((c : NodeChoice ℕ ℕ) → Contains conflict c → Contains (decisions_of (hs ++ h ∷ [])) c) → IsWithin conflict (decisions_of hs) (decision_of h)
within-last hs h conflict within c i = Contains-push_cases (decisions_of hs) (decision_of h) c (subst (λ cs. Contains cs c) (decisions-push hs h) (within c i))

-- where nothing is assigned, a conflict all of which is assigned is empty
pub nothing-assigned : (conflict : List (NodeChoice ℕ ℕ)) → ((c : NodeChoice ℕ ℕ) → Contains conflict c → Contains (decisions_of []) c) → conflict ≡ []
nothing-assigned [] within = refl
nothing-assigned (c ∷ cs) within = absurd (Contains-nil c (within c (Contains-here c cs)))

-- then what is recorded is a refutation
pub recorded-refutation : (rules : Rules ℕ ℕ ℕ ℕ) (before conflicts : List (List (NodeChoice ℕ ℕ))) (last : List (NodeChoice ℕ ℕ)) → EachFollows rules places_eq [] conflicts → conflicts ≡ before ++ last ∷ [] → last ≡ [] → IsRefutation rules places_eq conflicts
recorded-refutation rules before conflicts last f is none = record {
  each = f;
  front = before;
  ends = is ∙ ap (λ (c : List (NodeChoice ℕ ℕ)). before ++ c ∷ []) none;
}

-- a candidate that fits is assigned
pub learned-push : (t : TableParts) (p q : PartialSolution) (conflicts : List (List (NodeChoice ℕ ℕ))) (queue : CandidateQueue) (place : ℕ) → IsLearned t p conflicts → IsPartialSolution t q → q.assignments.items ≡ p.assignments.items ++ (record { queue = queue; place = place }) ∷ [] → IsCandidateQueue (rules_of t) conflicts p.assignments.items queue → queue.turn < length (candidates_of t (name_of t queue.node)) → get_or (candidates_of t (name_of t queue.node)) queue.turn place ≡ place → FitsBefore (rules_of t) p.assignments.items (decision queue.node place) → IsLearned t q conflicts
learned-push t p q conflicts queue place h s assignments k turn at fits = record {
  partial = s;
  follows = h.follows;
  known = h.known;
  learning = subst (λ xs. IsLearning (rules_of t) conflicts [] xs) (sym assignments) (IsLearning-push (rules_of t) conflicts [] p.assignments.items (record { queue = queue; place = place }) h.learning (record { queue = k; turn = turn; place = at; fits = fits }));
}

-- the conflict of a clash follows, and its choices are assigned, but for the candidate
pub clash-within : (rules : Rules ℕ ℕ ℕ ℕ) (before : List Assignment) (candidate other : NodeChoice ℕ ℕ) (conflict : List (NodeChoice ℕ ℕ)) → Clashes rules before candidate other → ((c : NodeChoice ℕ ℕ) → Contains conflict c → (c ≡ candidate) ⊎ (c ≡ other)) → IsWithin conflict (decisions_of before) candidate
clash-within rules before candidate other conflict h only c i = elim (only c i) [
  | inl a ↦ inr (sym a)
  | inr b ↦ elim h.assigned [ inl x ↦ inl (subst (λ d. Contains (decisions_of before) d) (sym b) x) | inr y ↦ inr (y ∙ sym b) ]
]
