-- Which node comes next.
use Rattle.std.proofs.Common.{ℕ, List, [], ◌∷◌, ◌≡◌, ◌<◌, ◌≤◌, ◌+◌, inl, inr, Contains, length, get_or, take, refl, sym, ◌∙◌, ap, subst, add-one, Some, None, Option, true, false}
use Rattle.std.specs.Ordering.{nat_cmp}
use Rattle.learning_search.proofs.DemandLists.{AreFirst, IsDemandedBy, listed-sound, listed-whole, first-some, first-none, first-version}
use Rattle.learning_search.proofs.LearnedSearch.{AllAssigned, Lies, assigned-lie}
use Rattle.search.proofs.Least.{not_greater}
use Rattle.lists.proofs.Members.{Contains-here, Contains-cons_cases, Contains-nil, Contains-take_suc, Contains-take_zero, take-whole}
use Rattle.search.proofs.PinnedMaps.{option_cases, some-inj}
use Rattle.search.specs.declared.conflict.NodeChoice.{NodeChoice}
use Rattle.learning_search.specs.declared.demands.Demand.{Demand}
use Rattle.learning_search.specs.declared.next_node.NeededNode.{NeededNode}
use Rattle.learning_search.specs.declared.assignment.Assignment.{Assignment}
use Rattle.learning_search.specs.declared.candidate_queue.CandidateQueue.{CandidateQueue}
use Rattle.learning_search.specs.Tied.Demanded.{NoneOnDecided, IsOnDecided, IsLeastNeed, IsFoundNeed}
use Rattle.learning_search.specs.Tied.Gathering.{decision}
use Rattle.learning_search.specs.Tied.Learned.{decisions_of, names_assigned, chosen_assigned, demand_of, demands_of, IsFree, IsNeededBy, IsInTurn, IsCandidateQueue, IsLearning}
use Rattle.learning_search.specs.Tied.Learning.{version_of}
use Rattle.search.specs.Rules.{Rules, IsLawful}
use Rattle.search.specs.Solutions.{Needed, by_line, by_dependency, IsNext, version_pinned}
use Rattle.search.specs.Table.{TableParts, rules_of}

-- ---- a node on a name that has a version

pub decided-one : (rules : Rules ℕ ℕ ℕ ℕ) (first : ℕ → Option (NodeChoice ℕ ℕ)) (chosen : List (NodeChoice ℕ ℕ)) (demand : Demand) → ((d : NodeChoice ℕ ℕ) → first (rules.name demand.requirement) ≡ Some d → (node : ℕ) → Contains (rules.nodes demand.requirement) node → (v : ℕ) × Contains chosen (decision node v)) → NoneOnDecided rules first chosen (demand ∷ [])
decided-one rules first chosen demand h a d node i e j = elim (Contains-cons_cases demand [] a i) [
  | inl x ↦ h d (ap (λ (b : Demand). first (rules.name b.requirement)) x ∙ e) node (subst (λ (b : Demand). Contains (rules.nodes b.requirement) node) (sym x) j)
  | inr r ↦ absurd (Contains-nil a r)
]

-- ---- what is required is needed

demands-needed : (rules : Rules ℕ ℕ ℕ ℕ) (law : IsLawful rules) (conflicts : List (List (NodeChoice ℕ ℕ))) (hs : List Assignment) → IsLearning rules conflicts [] hs → (r node : ℕ) (by : Option (NodeChoice ℕ ℕ)) → IsDemandedBy rules (decisions_of hs) r by → Contains (rules.nodes r) node → Needed rules (chosen_assigned rules hs) node
demands-needed rules law conflicts hs l r node None h i = by_line r node h i
demands-needed rules law conflicts hs l r node (Some c) h i =
    let k : Lies rules (chosen_assigned rules hs) c = assigned-lie rules law conflicts hs l c h.0 in
    by_dependency c.node c.version r node k.needed k.chosen h.1 i

needed-by : (rules : Rules ℕ ℕ ℕ ℕ) (decisions : List (NodeChoice ℕ ℕ)) (r node : ℕ) (by : Option (NodeChoice ℕ ℕ)) → IsDemandedBy rules decisions r by → Contains (rules.nodes r) node → IsNeededBy rules decisions node by
needed-by rules decisions r node None h i = (r, h, i)
needed-by rules decisions r node (Some c) h i = (r, h.0, h.1, i)

-- a needed node is required by a line or by what is assigned, where each of them on a name with a version is chosen
abbrev IsRequired : Rules ℕ ℕ ℕ ℕ → List Assignment → ℕ → Type 0
IsRequired rules hs node = (r : ℕ) × (by : Option (NodeChoice ℕ ℕ)) × IsDemandedBy rules (decisions_of hs) r by × Contains (rules.nodes r) node

needed-demands : (t : TableParts) (law : IsLawful (rules_of t)) (conflicts : List (List (NodeChoice ℕ ℕ))) (hs : List Assignment) (first : ℕ → Option (NodeChoice ℕ ℕ)) → AreFirst (rules_of t) hs first → IsLearning (rules_of t) conflicts [] hs → NoneOnDecided (rules_of t) first (decisions_of hs) (demands_of (rules_of t) hs) → (node : ℕ) → Needed (rules_of t) (chosen_assigned (rules_of t) hs) node → IsRequired (rules_of t) hs node
needed-demands t law conflicts hs first same l decided _ (by_line r node h i) = (r, None, h, i)
needed-demands t law conflicts hs first same l decided _ (by_dependency link v r node k e w i) =
    let a : IsRequired (rules_of t) hs link = needed-demands t law conflicts hs first same l decided link k in
    let own : (rules_of t).on link ≡ (rules_of t).name a.0 = law.own a.0 link a.3 in
    let d : (c : NodeChoice ℕ ℕ) × (first ((rules_of t).on link) ≡ Some c) × (c.version ≡ v) = first-some (rules_of t) hs first same ((rules_of t).on link) v e in
    let u : (u : ℕ) × Contains (decisions_of hs) (decision link u) = decided (demand_of a.1 a.0) d.0 link (listed-whole (rules_of t) hs a.0 a.1 a.2) (sym (ap first own) ∙ d.1) a.3 in
    let lies : Lies (rules_of t) (chosen_assigned (rules_of t) hs) (decision link u.0) = assigned-lie (rules_of t) law conflicts hs l (decision link u.0) u.1 in
    let one : u.0 ≡ v = some-inj u.0 v (sym lies.chosen ∙ e) in
    (r, Some (decision link v), (subst (λ x. Contains (decisions_of hs) (decision link x)) one u.1, w), i)

-- so the queue of a node on a name with a version comes next
pub decided-queue : (t : TableParts) (law : IsLawful (rules_of t)) (conflicts any : List (List (NodeChoice ℕ ℕ))) (hs : List Assignment) (first : ℕ → Option (NodeChoice ℕ ℕ)) → AreFirst (rules_of t) hs first → IsLearning (rules_of t) conflicts [] hs → (need : NeededNode) → IsOnDecided (rules_of t) first (decisions_of hs) (demands_of (rules_of t) hs) need → (queue : CandidateQueue) → queue.node ≡ need.node → queue.by ≡ need.by → queue.leads ≡ false → queue.turn ≡ 0 → queue.blame.items ≡ [] → IsCandidateQueue (rules_of t) any hs queue
decided-queue t law conflicts any hs first same l need h queue node by leads turn blame =
    let rules : Rules ℕ ℕ ℕ ℕ = rules_of t in
    let demands : IsDemandedBy (rules_of t) (decisions_of hs) h.demand.requirement h.demand.by = listed-sound (rules_of t) hs h.demand h.there in
    let own : (rules_of t).on need.node ≡ (rules_of t).name h.demand.requirement = law.own h.demand.requirement need.node h.node in
    let named : version_pinned nat_cmp (names_assigned (rules_of t) hs) ((rules_of t).on queue.node) ≡ Some h.one.version =
    ap (λ n. version_pinned nat_cmp (names_assigned (rules_of t) hs) ((rules_of t).on n)) node ∙ ap (version_pinned nat_cmp (names_assigned (rules_of t) hs)) own
    ∙ first-version (rules_of t) hs first same ((rules_of t).name h.demand.requirement) ∙ ap version_of h.named in
    record {
      in_turn = subst (λ b. IsInTurn (rules_of t) (names_assigned (rules_of t) hs) queue.node b) (sym leads) (h.one.version, named);
      needed = subst (λ n. Needed (rules_of t) (chosen_assigned (rules_of t) hs) n) (sym node) (demands-needed (rules_of t) law conflicts hs l h.demand.requirement need.node h.demand.by demands h.node);
      by = subst (λ n. IsNeededBy (rules_of t) (decisions_of hs) n queue.by) (sym node) (subst (λ (o : Option (NodeChoice ℕ ℕ)). IsNeededBy (rules_of t) (decisions_of hs) need.node o) (sym (by ∙ h.by)) (needed-by (rules_of t) (decisions_of hs) h.demand.requirement need.node h.demand.by demands h.node));
      free = subst (λ n. IsFree (decisions_of hs) n) (sym node) h.free;
      blamed = λ c i. absurd (Contains-nil c (subst (λ xs. Contains xs c) blame i));
      refused = λ w i. absurd (Contains-take_zero ((rules_of t).candidates ((rules_of t).on queue.node)) w (subst (λ k. Contains (take k ((rules_of t).candidates ((rules_of t).on queue.node))) w) turn i));
    }

-- and where there is none, that of a node on the least name
pub least-queue : (t : TableParts) (law : IsLawful (rules_of t)) (conflicts any : List (List (NodeChoice ℕ ℕ))) (hs : List Assignment) (first : ℕ → Option (NodeChoice ℕ ℕ)) → AreFirst (rules_of t) hs first → IsLearning (rules_of t) conflicts [] hs → NoneOnDecided (rules_of t) first (decisions_of hs) (demands_of (rules_of t) hs) → (need : NeededNode) → IsLeastNeed (rules_of t) first (demands_of (rules_of t) hs) need → (queue : CandidateQueue) → queue.node ≡ need.node → queue.by ≡ need.by → queue.leads ≡ true → queue.turn ≡ 0 → queue.blame.items ≡ [] → IsCandidateQueue (rules_of t) any hs queue
least-queue t law conflicts any hs first same l decided need h queue node by leads turn blame =
    let demands : IsDemandedBy (rules_of t) (decisions_of hs) h.demand.requirement h.demand.by = listed-sound (rules_of t) hs h.demand h.there in
    let needed : Needed (rules_of t) (chosen_assigned (rules_of t) hs) need.node = demands-needed (rules_of t) law conflicts hs l h.demand.requirement need.node h.demand.by demands h.node in
    let free : version_pinned nat_cmp (names_assigned (rules_of t) hs) ((rules_of t).on need.node) ≡ None =
    ap (version_pinned nat_cmp (names_assigned (rules_of t) hs)) h.named ∙ first-version (rules_of t) hs first same ((rules_of t).name h.demand.requirement) ∙ ap version_of h.free in
    let next : IsNext (rules_of t) (names_assigned (rules_of t) hs) ((rules_of t).on need.node) = record {
      needed = (need.node, needed, refl);
      free = free;
      least = λ m k e.
          let a : IsRequired (rules_of t) hs k.0 = needed-demands t law conflicts hs first same l decided k.0 k.1 in
          let own : (rules_of t).name a.0 ≡ m = sym (law.own a.0 k.0 a.3) ∙ k.2 in
          let low : (rules_of t).name h.demand.requirement ≤ (rules_of t).name a.0 = h.least (demand_of a.1 a.0) (listed-whole (rules_of t) hs a.0 a.1 a.2) (ap first own ∙ first-none (rules_of t) hs first same m e) in
          not_greater ((rules_of t).on need.node) m (subst (λ x. x ≤ m) (sym h.named) (subst (λ x. (rules_of t).name h.demand.requirement ≤ x) own low));
    } in
    record {
      in_turn = subst (λ b. IsInTurn (rules_of t) (names_assigned (rules_of t) hs) queue.node b) (sym leads) (subst (λ n. IsNext (rules_of t) (names_assigned (rules_of t) hs) ((rules_of t).on n)) (sym node) next);
      needed = subst (λ n. Needed (rules_of t) (chosen_assigned (rules_of t) hs) n) (sym node) needed;
      by = subst (λ n. IsNeededBy (rules_of t) (decisions_of hs) n queue.by) (sym node) (subst (λ (o : Option (NodeChoice ℕ ℕ)). IsNeededBy (rules_of t) (decisions_of hs) need.node o) (sym (by ∙ h.by)) (needed-by (rules_of t) (decisions_of hs) h.demand.requirement need.node h.demand.by demands h.node));
      free = λ v i. let k : Lies (rules_of t) (chosen_assigned (rules_of t) hs) (decision queue.node v) = assigned-lie (rules_of t) law conflicts hs l (decision queue.node v) i in
          absurd (let e : None ≡ Some v = sym free ∙ ap (λ n. version_pinned nat_cmp (names_assigned (rules_of t) hs) ((rules_of t).on n)) (sym node) ∙ k.chosen in cc);
      blamed = λ c i. absurd (Contains-nil c (subst (λ xs. Contains xs c) blame i));
      refused = λ w i. absurd (Contains-take_zero ((rules_of t).candidates ((rules_of t).on queue.node)) w (subst (λ k. Contains (take k ((rules_of t).candidates ((rules_of t).on queue.node))) w) turn i));
    }

-- where no name is without a version, each needed node is assigned
pub none-free : (t : TableParts) (law : IsLawful (rules_of t)) (conflicts : List (List (NodeChoice ℕ ℕ))) (hs : List Assignment) (first : ℕ → Option (NodeChoice ℕ ℕ)) → AreFirst (rules_of t) hs first → IsLearning (rules_of t) conflicts [] hs → NoneOnDecided (rules_of t) first (decisions_of hs) (demands_of (rules_of t) hs) → IsFoundNeed (rules_of t) first (demands_of (rules_of t) hs) None → AllAssigned (rules_of t) hs
none-free t law conflicts hs first same l decided none node n =
    let a : IsRequired (rules_of t) hs node = needed-demands t law conflicts hs first same l decided node n in
    let there : Contains (demands_of (rules_of t) hs) (demand_of a.1 a.0) = listed-whole (rules_of t) hs a.0 a.1 a.2 in
    elim (option_cases (first ((rules_of t).name a.0))) [
      | inl e ↦ absurd (none (demand_of a.1 a.0) there e)
      | inr d ↦ decided (demand_of a.1 a.0) d.0 node there d.1 a.3
    ]

pub decided-more : (rules : Rules ℕ ℕ ℕ ℕ) (first : ℕ → Option (NodeChoice ℕ ℕ)) (chosen : List (NodeChoice ℕ ℕ)) (listed : List Demand) (i : ℕ) (d : Demand) → i < length listed → NoneOnDecided rules first chosen (take i listed) → NoneOnDecided rules first chosen (get_or listed i d ∷ []) → NoneOnDecided rules first chosen (take (i + 1) listed)
decided-more rules first chosen listed i d l h k a one node j e n = elim (Contains-take_suc listed i d a l (rw add-one at j)) [
  | inl x ↦ h a one node x e n
  | inr y ↦ k a one node (subst (λ (b : Demand). Contains (get_or listed i d ∷ []) b) y (Contains-here (get_or listed i d) [])) e n
]

pub decided-end : (rules : Rules ℕ ℕ ℕ ℕ) (first : ℕ → Option (NodeChoice ℕ ℕ)) (chosen : List (NodeChoice ℕ ℕ)) (listed : List Demand) (i : ℕ) → length listed ≤ i → NoneOnDecided rules first chosen (take i listed) → NoneOnDecided rules first chosen listed
decided-end rules first chosen listed i l h = subst (λ xs. NoneOnDecided rules first chosen xs) (take-whole listed i l) h
