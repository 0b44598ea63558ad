-- What a search holds, with one choice more and one less.
use Rattle.std.proofs.Common.{ℕ, List, [], ◌∷◌, ◌++◌, ◌≡◌, ◌<◌, ◌+◌, ◌↔◌, inl, inr, length, take, map, slice_set, refl, sym, ◌∙◌, ap, subst, arith, Some, None, Option, Bool, true, false, IsSome, option_to_list, append_assoc, append-nil, length-append}
use Rattle.std.proofs.lemmas.List.{length-map}
use Rattle.std.specs.Ordering.{nat_cmp}
use Rattle.search.proofs.Least.{nat-order}
use Rattle.lists.proofs.Members.{nat_cases, take-whole}
use Rattle.search.proofs.Marks.{set-same, set-other, set-length}
use Rattle.search.proofs.TakenFacts.{version_pinned-other}
use Rattle.search.proofs.Nodes.{take-front}
use Rattle.search.proofs.PinnedMaps.{version_pinned-last}
use Rattle.search.specs.declared.conflict.NodeChoice.{NodeChoice}
use Rattle.learning_search.specs.declared.partial_solution.PartialSolution.{PartialSolution}
use Rattle.learning_search.specs.declared.assignment.Assignment.{Assignment}
use Rattle.learning_search.specs.Tied.Demands.{AreRowed, IsWatched}
use Rattle.learning_search.specs.Tied.Gathering.{choice_at}
use Rattle.learning_search.specs.Tied.Learned.{decision_of, decisions_of, entry_of, entries_of, with_leader, leaders_assigned, demand_of, demands_by, demands_assigned, demands_of, first_at, IsPartialSolution}
use Rattle.search.specs.Rules.{Rules}
use Rattle.search.specs.Solutions.{Pin, version_pinned}
use Rattle.search.specs.Table.{TableParts, rules_of, name_of}

pub decisions-push : (hs : List Assignment) (h : Assignment) → decisions_of (hs ++ h ∷ []) ≡ decisions_of hs ++ decision_of h ∷ []
decisions-push [] h = refl
decisions-push (g ∷ hs) h = ap (λ cs. decision_of g ∷ cs) (decisions-push hs h)

pub decisions-append : (hs gs : List Assignment) → decisions_of (hs ++ gs) ≡ decisions_of hs ++ decisions_of gs
decisions-append [] gs = refl
decisions-append (h ∷ hs) gs = ap (λ cs. decision_of h ∷ cs) (decisions-append hs gs)

pub entries-push : (hs : List Assignment) (h : Assignment) → entries_of (hs ++ h ∷ []) ≡ entries_of hs ++ entry_of h ∷ []
entries-push [] h = refl
entries-push (g ∷ hs) h = ap (λ cs. entry_of g ∷ cs) (entries-push hs h)

leader-append : (b : Bool) (rules : Rules ℕ ℕ ℕ ℕ) (g : Assignment) (ps qs : List (Pin ℕ (NodeChoice ℕ ℕ))) → with_leader rules b g (ps ++ qs) ≡ with_leader rules b g ps ++ qs
leader-append true rules g ps qs = refl
leader-append false rules g ps qs = refl

pub leaders-push : (rules : Rules ℕ ℕ ℕ ℕ) (hs : List Assignment) (h : Assignment) → leaders_assigned rules (hs ++ h ∷ []) ≡ leaders_assigned rules hs ++ with_leader rules h.queue.leads h []
leaders-push rules [] h = refl
leaders-push rules (g ∷ hs) h = ap (with_leader rules g.queue.leads g) (leaders-push rules hs h) ∙ leader-append g.queue.leads rules g (leaders_assigned rules hs) (with_leader rules h.queue.leads h [])

demands_assigned-push : (rules : Rules ℕ ℕ ℕ ℕ) (hs : List Assignment) (h : Assignment) → demands_assigned rules (hs ++ h ∷ []) ≡ demands_assigned rules hs ++ demands_by rules h
demands_assigned-push rules [] h = append-nil (demands_by rules h)
demands_assigned-push rules (g ∷ hs) h = ap (λ xs. demands_by rules g ++ xs) (demands_assigned-push rules hs h) ∙ sym (append_assoc (demands_by rules g) (demands_assigned rules hs) (demands_by rules h))

pub listed-push : (rules : Rules ℕ ℕ ℕ ℕ) (hs : List Assignment) (h : Assignment) → demands_of rules (hs ++ h ∷ []) ≡ demands_of rules hs ++ demands_by rules h
listed-push rules hs h = ap (λ xs. map (demand_of None) rules.lines ++ xs) (demands_assigned-push rules hs h) ∙ sym (append_assoc (map (demand_of None) rules.lines) (demands_assigned rules hs) (demands_by rules h))

-- a new first choice is add at its name
taken-push : (taken : List (Option (NodeChoice ℕ ℕ))) (ps : List (Pin ℕ (NodeChoice ℕ ℕ))) (p : Pin ℕ (NodeChoice ℕ ℕ)) → p.name < length taken → version_pinned nat_cmp ps p.name ≡ None → ((n : ℕ) → first_at taken n ≡ version_pinned nat_cmp ps n) → (n : ℕ) → first_at (slice_set taken p.name (Some p.version)) n ≡ version_pinned nat_cmp (ps ++ p ∷ []) n
taken-push taken ps p l none same n = elim (nat_cases p.name n) [
  | inl e ↦ subst (λ m. first_at (slice_set taken p.name (Some p.version)) m ≡ version_pinned nat_cmp (ps ++ p ∷ []) m) e
      (set-same taken p.name (Some p.version) None l ∙ sym (version_pinned-last nat_cmp nat-order ps p none))
  | inr d ↦ set-other taken p.name n (Some p.version) None d ∙ same n ∙ sym (version_pinned-other ps p n (λ e. d (sym e)))
]

-- and taken back
taken-pop : (taken : List (Option (NodeChoice ℕ ℕ))) (ps : List (Pin ℕ (NodeChoice ℕ ℕ))) (p : Pin ℕ (NodeChoice ℕ ℕ)) → p.name < length taken → version_pinned nat_cmp ps p.name ≡ None → ((n : ℕ) → first_at taken n ≡ version_pinned nat_cmp (ps ++ p ∷ []) n) → (n : ℕ) → first_at (slice_set taken p.name None) n ≡ version_pinned nat_cmp ps n
taken-pop taken ps p l none same n = elim (nat_cases p.name n) [
  | inl e ↦ subst (λ m. first_at (slice_set taken p.name None) m ≡ version_pinned nat_cmp ps m) e (set-same taken p.name None None l ∙ sym none)
  | inr d ↦ set-other taken p.name n None None d ∙ same n ∙ version_pinned-other ps p n (λ e. d (sym e))
]

-- ---- one choice more

pub partial-push_first : (t : TableParts) (p q : PartialSolution) (h : Assignment) → IsPartialSolution t p → name_of t h.queue.node < length t.candidates → h.queue.leads ≡ true → version_pinned nat_cmp (leaders_assigned (rules_of t) p.assignments.items) (name_of t h.queue.node) ≡ None → q.assignments.items ≡ p.assignments.items ++ h ∷ [] → q.choices.entries ≡ p.choices.entries ++ entry_of h ∷ [] → q.demands.listed.items ≡ p.demands.listed.items ++ demands_by (rules_of t) h → q.taken.items ≡ slice_set p.taken.items (name_of t h.queue.node) (Some (decision_of h)) → AreRowed t q.demands → IsWatched t q.demands q.taken.items (map choice_at q.choices.entries) → IsPartialSolution t q
partial-push_first t p q h s l leads none assignments choices listed taken rowed watched =
    let ps : List (Pin ℕ (NodeChoice ℕ ℕ)) = leaders_assigned (rules_of t) p.assignments.items in
    let pin : Pin ℕ (NodeChoice ℕ ℕ) = record { name = name_of t h.queue.node; version = decision_of h } in
    let leaders : leaders_assigned (rules_of t) q.assignments.items ≡ ps ++ pin ∷ [] = ap (leaders_assigned (rules_of t)) assignments ∙ leaders-push (rules_of t) p.assignments.items h ∙ ap (λ b. ps ++ with_leader (rules_of t) b h []) leads in
    record {
      choices = choices ∙ ap (λ xs. xs ++ entry_of h ∷ []) s.choices ∙ sym (ap entries_of assignments ∙ entries-push p.assignments.items h);
      room = ap length taken ∙ set-length p.taken.items (name_of t h.queue.node) (Some (decision_of h)) ∙ s.room;
      taken = λ n. ap (λ xs. first_at xs n) taken ∙ taken-push p.taken.items ps pin (subst (λ k. pin.name < k) (sym s.room) l) none s.taken n ∙ ap (λ xs. version_pinned nat_cmp xs n) (sym leaders);
      listed = listed ∙ ap (λ xs. xs ++ demands_by (rules_of t) h) s.listed ∙ sym (ap (demands_of (rules_of t)) assignments ∙ listed-push (rules_of t) p.assignments.items h);
      rowed = rowed;
      watched = watched;
    }

pub partial-push_decided : (t : TableParts) (p q : PartialSolution) (h : Assignment) → IsPartialSolution t p → h.queue.leads ≡ false → q.assignments.items ≡ p.assignments.items ++ h ∷ [] → q.choices.entries ≡ p.choices.entries ++ entry_of h ∷ [] → q.demands.listed.items ≡ p.demands.listed.items ++ demands_by (rules_of t) h → q.taken.items ≡ p.taken.items → AreRowed t q.demands → IsWatched t q.demands q.taken.items (map choice_at q.choices.entries) → IsPartialSolution t q
partial-push_decided t p q h s leads assignments choices listed taken rowed watched =
    let ps : List (Pin ℕ (NodeChoice ℕ ℕ)) = leaders_assigned (rules_of t) p.assignments.items in
    let leaders : leaders_assigned (rules_of t) q.assignments.items ≡ ps = ap (leaders_assigned (rules_of t)) assignments ∙ leaders-push (rules_of t) p.assignments.items h ∙ ap (λ b. ps ++ with_leader (rules_of t) b h []) leads ∙ append-nil ps in
    record {
      choices = choices ∙ ap (λ xs. xs ++ entry_of h ∷ []) s.choices ∙ sym (ap entries_of assignments ∙ entries-push p.assignments.items h);
      room = ap length taken ∙ s.room;
      taken = λ n. ap (λ xs. first_at xs n) taken ∙ s.taken n ∙ ap (λ xs. version_pinned nat_cmp xs n) (sym leaders);
      listed = listed ∙ ap (λ xs. xs ++ demands_by (rules_of t) h) s.listed ∙ sym (ap (demands_of (rules_of t)) assignments ∙ listed-push (rules_of t) p.assignments.items h);
      rowed = rowed;
      watched = watched;
    }

-- ---- one choice less

pub snoc-front : {X : Type 0} (xs ys : List X) (a b : X) → xs ++ a ∷ [] ≡ ys ++ b ∷ [] → xs ≡ ys
snoc-front [] [] a b e = refl
snoc-front [] (y ∷ ys) a b e = absurd (omega (arith, ap length e, length-append ys (b ∷ [])))
snoc-front (x ∷ xs) [] a b e = absurd (omega (arith, ap length e, length-append xs (a ∷ [])))
snoc-front (x ∷ xs) (y ∷ ys) a b e =
    let head : x ≡ y = cc in
    let tail : xs ++ a ∷ [] ≡ ys ++ b ∷ [] = cc in
    let rest : xs ≡ ys = snoc-front xs ys a b tail in
    λ i. head i ∷ rest i

pub entries-pop : (new : List (ℕ × ℕ)) (popped : Option (ℕ × ℕ)) (hs : List Assignment) (h : Assignment) → entries_of (hs ++ h ∷ []) ≡ new ++ option_to_list popped → (IsSome popped ↔ (0 < length (entries_of (hs ++ h ∷ [])))) → new ≡ entries_of hs
entries-pop new None hs h e f =
    let l : length (entries_of (hs ++ h ∷ [])) ≡ length (entries_of hs) + 1 = ap length (entries-push hs h) ∙ length-append (entries_of hs) (entry_of h ∷ []) in
    let bad : false ≡ true = f.1 (omega arith) in
    absurd (cc)
entries-pop new (Some x) hs h e f = snoc-front new (entries_of hs) x (entry_of h) (sym e ∙ entries-push hs h)

pub take-length : {X : Type 0} (xs ys : List X) → take (length xs) (xs ++ ys) ≡ xs
take-length xs ys = take-front xs ys (length xs) (omega arith) ∙ take-whole xs (length xs) (omega arith)

pub listed-length : (t : TableParts) (p : PartialSolution) (hs : List Assignment) (h : Assignment) → IsPartialSolution t p → p.assignments.items ≡ hs ++ h ∷ [] → length p.demands.listed.items ≡ length (demands_of (rules_of t) hs) + length ((rules_of t).wants h.queue.node h.place)
listed-length t p hs h s assignments =
    let by : length (demands_by (rules_of t) h) ≡ length ((rules_of t).wants h.queue.node h.place) = length-map ((rules_of t).wants h.queue.node h.place) (demand_of (Some (decision_of h))) in
    ap length (s.listed ∙ ap (demands_of (rules_of t)) assignments ∙ listed-push (rules_of t) hs h) ∙ length-append (demands_of (rules_of t) hs) (demands_by (rules_of t) h) ∙ ap (λ k. length (demands_of (rules_of t) hs) + k) by

pub listed-pop : (t : TableParts) (p : PartialSolution) (hs : List Assignment) (h : Assignment) (left : ℕ) → IsPartialSolution t p → p.assignments.items ≡ hs ++ h ∷ [] → left + length ((rules_of t).wants h.queue.node h.place) ≡ length p.demands.listed.items → take left p.demands.listed.items ≡ demands_of (rules_of t) hs
listed-pop t p hs h left s assignments e =
    let k : left ≡ length (demands_of (rules_of t) hs) = let l = listed-length t p hs h s assignments in omega arith in
    ap (λ n. take n p.demands.listed.items) k
    ∙ ap (take (length (demands_of (rules_of t) hs))) (s.listed ∙ ap (demands_of (rules_of t)) assignments ∙ listed-push (rules_of t) hs h)
    ∙ take-length (demands_of (rules_of t) hs) (demands_by (rules_of t) h)

pub partial-pop_first : (t : TableParts) (p q : PartialSolution) (h : Assignment) → IsPartialSolution t p → p.assignments.items ≡ q.assignments.items ++ h ∷ [] → name_of t h.queue.node < length t.candidates → h.queue.leads ≡ true → version_pinned nat_cmp (leaders_assigned (rules_of t) q.assignments.items) (name_of t h.queue.node) ≡ None → q.choices.entries ≡ entries_of q.assignments.items → q.demands.listed.items ≡ demands_of (rules_of t) q.assignments.items → q.taken.items ≡ slice_set p.taken.items (name_of t h.queue.node) None → AreRowed t q.demands → IsWatched t q.demands q.taken.items (map choice_at q.choices.entries) → IsPartialSolution t q
partial-pop_first t p q h s assignments l leads none choices listed taken rowed watched =
    let ps : List (Pin ℕ (NodeChoice ℕ ℕ)) = leaders_assigned (rules_of t) q.assignments.items in
    let pin : Pin ℕ (NodeChoice ℕ ℕ) = record { name = name_of t h.queue.node; version = decision_of h } in
    let leaders : leaders_assigned (rules_of t) p.assignments.items ≡ ps ++ pin ∷ [] = ap (leaders_assigned (rules_of t)) assignments ∙ leaders-push (rules_of t) q.assignments.items h ∙ ap (λ b. ps ++ with_leader (rules_of t) b h []) leads in
    record {
      choices = choices;
      room = ap length taken ∙ set-length p.taken.items (name_of t h.queue.node) None ∙ s.room;
      taken = λ n. ap (λ xs. first_at xs n) taken ∙ taken-pop p.taken.items ps pin (subst (λ k. pin.name < k) (sym s.room) l) none (λ m. s.taken m ∙ ap (λ xs. version_pinned nat_cmp xs m) leaders) n;
      listed = listed;
      rowed = rowed;
      watched = watched;
    }

pub partial-pop_decided : (t : TableParts) (p q : PartialSolution) (h : Assignment) → IsPartialSolution t p → p.assignments.items ≡ q.assignments.items ++ h ∷ [] → h.queue.leads ≡ false → q.choices.entries ≡ entries_of q.assignments.items → q.demands.listed.items ≡ demands_of (rules_of t) q.assignments.items → q.taken.items ≡ p.taken.items → AreRowed t q.demands → IsWatched t q.demands q.taken.items (map choice_at q.choices.entries) → IsPartialSolution t q
partial-pop_decided t p q h s assignments leads choices listed taken rowed watched =
    let ps : List (Pin ℕ (NodeChoice ℕ ℕ)) = leaders_assigned (rules_of t) q.assignments.items in
    let leaders : leaders_assigned (rules_of t) p.assignments.items ≡ ps = ap (leaders_assigned (rules_of t)) assignments ∙ leaders-push (rules_of t) q.assignments.items h ∙ ap (λ b. ps ++ with_leader (rules_of t) b h []) leads ∙ append-nil ps in
    record {
      choices = choices;
      room = ap length taken ∙ s.room;
      taken = λ n. ap (λ xs. first_at xs n) taken ∙ s.taken n ∙ ap (λ xs. version_pinned nat_cmp xs n) leaders;
      listed = listed;
      rowed = rowed;
      watched = watched;
    }
