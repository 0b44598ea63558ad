-- What the choices require, the first choice on each name, and what a clash says.
use Rattle.std.proofs.Common.{ℕ, List, [], ◌∷◌, ◌++◌, ◌≡◌, ◌≢◌, ◌<◌, ◌≤◌, inl, inr, Contains, length, map, refl, sym, ◌∙◌, ap, subst, Some, None, Option, Bool, true, false, cond, nat_eq, ◌+◌, get_or, take, add-one}
use Rattle.std.proofs.lemmas.Bool.{eqb-true}
use Rattle.std.proofs.lemmas.List.Elements.{Contains-append_left, Contains-append_right, Contains-append_cases}
use Rattle.std.specs.Ordering.{nat_cmp, is_eq}
use Rattle.search.proofs.PlacesEquality.{off-of}
use Rattle.learning_search.proofs.LearnedSearch.{Lies, assigned-lie}
use Rattle.search.proofs.Least.{nat-order}
use Rattle.lists.proofs.Members.{Contains-here, Contains-there, Contains-cons_cases, Contains-nil, Contains-map, Contains-map_of, Contains-take_suc, take-whole, nat_cases}
use Rattle.search.proofs.PinnedMaps.{version_pinned-cons_cases}
use Rattle.search.specs.declared.conflict.NodeChoice.{NodeChoice}
use Rattle.learning_search.specs.declared.demands.Demand.{Demand}
use Rattle.search.specs.declared.parts.Frame.{Frame}
use Rattle.learning_search.specs.declared.assignment.Assignment.{Assignment}
use Rattle.learning_search.specs.Tied.Demanded.{source, DemandsFit, DemandClashes, WantedFits, WantedClashes, Clashes}
use Rattle.learning_search.specs.Tied.Learned.{decision_of, decisions_of, with_frame, frames_assigned, names_assigned, with_leader, leaders_assigned, demand_of, demands_by, demands_assigned, demands_of, FitsBefore, IsLearning}
use Rattle.learning_search.specs.Tied.Learning.{version_of}
use Rattle.search.specs.Rules.{Rules, IsLawful}
use Rattle.search.specs.Tied.Search.{pins_of}
use Rattle.search.specs.Solutions.{Pin, version_pinned}
use Rattle.search.specs.Table.{TableParts, rules_of}

-- ---- the first choice on each name

cond-version : (b : Bool) (c : NodeChoice ℕ ℕ) (x : Option ℕ) (y : Option (NodeChoice ℕ ℕ)) → x ≡ version_of y → cond b (Some c.version) x ≡ version_of (cond b (Some c) y)
cond-version true c x y e = refl
cond-version false c x y e = e

leader-step : (b : Bool) (rules : Rules ℕ ℕ ℕ ℕ) (h : Assignment) (fs : List Frame) (ps : List (Pin ℕ (NodeChoice ℕ ℕ))) (n : ℕ) → version_pinned nat_cmp (pins_of fs) n ≡ version_of (version_pinned nat_cmp ps n) → version_pinned nat_cmp (pins_of (with_frame rules b h fs)) n ≡ version_of (version_pinned nat_cmp (with_leader rules b h ps) n)
leader-step true rules h fs ps n e = cond-version (is_eq (nat_cmp (rules.on h.queue.node) n)) (decision_of h) (version_pinned nat_cmp (pins_of fs) n) (version_pinned nat_cmp ps n) e
leader-step false rules h fs ps n e = e

-- the version that a name has is that of its first choice
pub leader-version : (rules : Rules ℕ ℕ ℕ ℕ) (hs : List Assignment) (n : ℕ) → version_pinned nat_cmp (names_assigned rules hs) n ≡ version_of (version_pinned nat_cmp (leaders_assigned rules hs) n)
leader-version rules [] n = refl
leader-version rules (h ∷ hs) n = leader-step h.queue.leads rules h (frames_assigned rules hs) (leaders_assigned rules hs) n (leader-version rules hs n)

-- a first choice is assigned, on its name
abbrev IsAssignedOn : Rules ℕ ℕ ℕ ℕ → List Assignment → ℕ → NodeChoice ℕ ℕ → Type 0
IsAssignedOn rules hs n c = Contains (decisions_of hs) c × (rules.on c.node ≡ n)

assigned-on : (b : Bool) (rules : Rules ℕ ℕ ℕ ℕ) (h : Assignment) (hs : List Assignment) (ps : List (Pin ℕ (NodeChoice ℕ ℕ))) (n : ℕ) (c : NodeChoice ℕ ℕ) → (version_pinned nat_cmp ps n ≡ Some c → IsAssignedOn rules hs n c) → version_pinned nat_cmp (with_leader rules b h ps) n ≡ Some c → IsAssignedOn rules (h ∷ hs) n c
assigned-on true rules h hs ps n c rest e = elim (version_pinned-cons_cases nat_cmp nat-order (record { name = rules.on h.queue.node; version = decision_of h }) ps n c e) [
  | inl a ↦ (subst (λ x. Contains (decision_of h ∷ decisions_of hs) x) a.1 (Contains-here (decision_of h) (decisions_of hs)), ap (λ (x : NodeChoice ℕ ℕ). rules.on x.node) (sym a.1) ∙ a.0)
  | inr b ↦ let k : IsAssignedOn rules hs n c = rest b in (Contains-there (decision_of h) (decisions_of hs) c k.0, k.1)
]
assigned-on false rules h hs ps n c rest e = let k : IsAssignedOn rules hs n c = rest e in (Contains-there (decision_of h) (decisions_of hs) c k.0, k.1)

pub leader-assigned : (rules : Rules ℕ ℕ ℕ ℕ) (hs : List Assignment) (n : ℕ) (c : NodeChoice ℕ ℕ) → version_pinned nat_cmp (leaders_assigned rules hs) n ≡ Some c → IsAssignedOn rules hs n c
leader-assigned rules [] n c e = absurd (cc)
leader-assigned rules (h ∷ hs) n c e = assigned-on h.queue.leads rules h hs (leaders_assigned rules hs) n c (leader-assigned rules hs n c) e

version-some : (o : Option (NodeChoice ℕ ℕ)) (v : ℕ) → version_of o ≡ Some v → (c : NodeChoice ℕ ℕ) × (o ≡ Some c) × (c.version ≡ v)
version-some None v e = absurd (cc)
version-some (Some c) v e = (c, refl, cc)

version-none : (o : Option (NodeChoice ℕ ℕ)) → version_of o ≡ None → o ≡ None
version-none None e = refl
version-none (Some c) e = absurd (cc)

-- what the first choices are, as a map
abbrev pub AreFirst : Rules ℕ ℕ ℕ ℕ → List Assignment → (ℕ → Option (NodeChoice ℕ ℕ)) → Type 0
AreFirst rules hs first = (n : ℕ) → first n ≡ version_pinned nat_cmp (leaders_assigned rules hs) n

pub first-some : (rules : Rules ℕ ℕ ℕ ℕ) (hs : List Assignment) (first : ℕ → Option (NodeChoice ℕ ℕ)) → AreFirst rules hs first → (n v : ℕ) → version_pinned nat_cmp (names_assigned rules hs) n ≡ Some v → (c : NodeChoice ℕ ℕ) × (first n ≡ Some c) × (c.version ≡ v)
first-some rules hs first same n v e =
    let k : (c : NodeChoice ℕ ℕ) × (version_pinned nat_cmp (leaders_assigned rules hs) n ≡ Some c) × (c.version ≡ v) = version-some (version_pinned nat_cmp (leaders_assigned rules hs) n) v (sym (leader-version rules hs n) ∙ e) in
    (k.0, same n ∙ k.1, k.2)

pub first-version : (rules : Rules ℕ ℕ ℕ ℕ) (hs : List Assignment) (first : ℕ → Option (NodeChoice ℕ ℕ)) → AreFirst rules hs first → (n : ℕ) → version_pinned nat_cmp (names_assigned rules hs) n ≡ version_of (first n)
first-version rules hs first same n = leader-version rules hs n ∙ ap version_of (sym (same n))

pub first-none : (rules : Rules ℕ ℕ ℕ ℕ) (hs : List Assignment) (first : ℕ → Option (NodeChoice ℕ ℕ)) → AreFirst rules hs first → (n : ℕ) → version_pinned nat_cmp (names_assigned rules hs) n ≡ None → first n ≡ None
first-none rules hs first same n e = version-none (first n) (sym (first-version rules hs first same n) ∙ e)

-- ---- what is required

-- a line demands it, or a choice that is assigned
abbrev pub IsDemandedBy : Rules ℕ ℕ ℕ ℕ → List (NodeChoice ℕ ℕ) → ℕ → Option (NodeChoice ℕ ℕ) → Type 0
IsDemandedBy rules decisions r None = Contains rules.lines r
IsDemandedBy rules decisions r (Some c) = Contains decisions c × Contains (rules.wants c.node c.version) r

demands-more : (rules : Rules ℕ ℕ ℕ ℕ) (d : NodeChoice ℕ ℕ) (decisions : List (NodeChoice ℕ ℕ)) (r : ℕ) (by : Option (NodeChoice ℕ ℕ)) → IsDemandedBy rules decisions r by → IsDemandedBy rules (d ∷ decisions) r by
demands-more rules d decisions r None h = h
demands-more rules d decisions r (Some c) h = (Contains-there d decisions c h.0, h.1)

demands_assigned-sound : (rules : Rules ℕ ℕ ℕ ℕ) (hs : List Assignment) (a : Demand) → Contains (demands_assigned rules hs) a → IsDemandedBy rules (decisions_of hs) a.requirement a.by
demands_assigned-sound rules [] a i = absurd (Contains-nil a i)
demands_assigned-sound rules (h ∷ hs) a i = elim (Contains-append_cases (demands_by rules h) (demands_assigned rules hs) a i) [
  | inl x ↦
      let r : (r : ℕ) × Contains (rules.wants h.queue.node h.place) r × (demand_of (Some (decision_of h)) r ≡ a) = Contains-map (demand_of (Some (decision_of h))) (rules.wants h.queue.node h.place) a x in
      subst (λ (b : Demand). IsDemandedBy rules (decisions_of (h ∷ hs)) b.requirement b.by) r.2 (Contains-here (decision_of h) (decisions_of hs), r.1)
  | inr y ↦ demands-more rules (decision_of h) (decisions_of hs) a.requirement a.by (demands_assigned-sound rules hs a y)
]

pub listed-sound : (rules : Rules ℕ ℕ ℕ ℕ) (hs : List Assignment) (a : Demand) → Contains (demands_of rules hs) a → IsDemandedBy rules (decisions_of hs) a.requirement a.by
listed-sound rules hs a i = elim (Contains-append_cases (map (demand_of None) rules.lines) (demands_assigned rules hs) a i) [
  | inl x ↦
      let r : (r : ℕ) × Contains rules.lines r × (demand_of None r ≡ a) = Contains-map (demand_of None) rules.lines a x in
      subst (λ (b : Demand). IsDemandedBy rules (decisions_of hs) b.requirement b.by) r.2 r.1
  | inr y ↦ demands_assigned-sound rules hs a y
]

demands_assigned-whole : (rules : Rules ℕ ℕ ℕ ℕ) (hs : List Assignment) (c : NodeChoice ℕ ℕ) (r : ℕ) → Contains (decisions_of hs) c → Contains (rules.wants c.node c.version) r → Contains (demands_assigned rules hs) (demand_of (Some c) r)
demands_assigned-whole rules [] c r i w = absurd (Contains-nil c i)
demands_assigned-whole rules (h ∷ hs) c r i w = elim (Contains-cons_cases (decision_of h) (decisions_of hs) c i) [
  | inl e ↦ subst (λ d. Contains (demands_by rules h ++ demands_assigned rules hs) (demand_of (Some d) r)) e
      (Contains-append_left (demands_by rules h) (demands_assigned rules hs) (demand_of (Some (decision_of h)) r) (Contains-map_of (demand_of (Some (decision_of h))) (rules.wants h.queue.node h.place) r (subst (λ (d : NodeChoice ℕ ℕ). Contains (rules.wants d.node d.version) r) (sym e) w)))
  | inr k ↦ Contains-append_right (demands_by rules h) (demands_assigned rules hs) (demand_of (Some c) r) (demands_assigned-whole rules hs c r k w)
]

pub listed-whole : (rules : Rules ℕ ℕ ℕ ℕ) (hs : List Assignment) (r : ℕ) (by : Option (NodeChoice ℕ ℕ)) → IsDemandedBy rules (decisions_of hs) r by → Contains (demands_of rules hs) (demand_of by r)
listed-whole rules hs r None h = Contains-append_left (map (demand_of None) rules.lines) (demands_assigned rules hs) (demand_of None r) (Contains-map_of (demand_of None) rules.lines r h)
listed-whole rules hs r (Some c) h = Contains-append_right (map (demand_of None) rules.lines) (demands_assigned rules hs) (demand_of (Some c) r) (demands_assigned-whole rules hs c r h.0 h.1)

-- ---- clashes

pub clash-version : (rules : Rules ℕ ℕ ℕ ℕ) (hs : List Assignment) (first : ℕ → Option (NodeChoice ℕ ℕ)) → AreFirst rules hs first → (c other : NodeChoice ℕ ℕ) → first (rules.on c.node) ≡ Some other → other.version ≢ c.version → Clashes rules hs c other
clash-version rules hs first same c other e d =
    let k : IsAssignedOn rules hs (rules.on c.node) other = leader-assigned rules hs (rules.on c.node) other (sym (same (rules.on c.node)) ∙ e) in
    record {
      assigned = inl k.0;
      follows = λ earlier conflict i j. inr (inr (inl (record {
        one = other;
        other = c;
        there = j;
        there_too = i;
        named = k.1;
        differ = off-of (nat_eq other.version c.version) (λ t. d (eqb-true other.version c.version t));
      })));
    }

demands-clash : (rules : Rules ℕ ℕ ℕ ℕ) (hs : List Assignment) (c other : NodeChoice ℕ ℕ) (r : ℕ) (by : Option (NodeChoice ℕ ℕ)) → IsDemandedBy rules (decisions_of hs) r by → rules.name r ≡ rules.on c.node → rules.admits r c.version ≡ false → other ≡ source by c → Clashes rules hs c other
demands-clash rules hs c other r None h named bad is = record {
  assigned = inr (sym is);
  follows = λ earlier conflict i j. inl (record { choice = c; there = i; line = r; active = h; named = named; refused = bad });
}
demands-clash rules hs c other r (Some d) h named bad is = record {
  assigned = inl (subst (λ x. Contains (decisions_of hs) x) (sym is) h.0);
  follows = λ earlier conflict i j. inr (inl (record {
    one = other;
    other = c;
    there = j;
    there_too = i;
    wanted = r;
    counts = subst (λ (x : NodeChoice ℕ ℕ). Contains (rules.wants x.node x.version) r) (sym is) h.1;
    named = named;
    refused = bad;
  }));
}

pub clash-demands : (rules : Rules ℕ ℕ ℕ ℕ) (hs : List Assignment) (c other : NodeChoice ℕ ℕ) → DemandClashes rules (demands_of rules hs) c other → Clashes rules hs c other
clash-demands rules hs c other h = demands-clash rules hs c other h.demand.requirement h.demand.by (listed-sound rules hs h.demand h.there) h.named h.refused h.is

pub clash-wanted : (rules : Rules ℕ ℕ ℕ ℕ) (hs : List Assignment) (first : ℕ → Option (NodeChoice ℕ ℕ)) → AreFirst rules hs first → (c other : NodeChoice ℕ ℕ) (r : ℕ) → Contains (rules.wants c.node c.version) r → WantedClashes rules first c r other → Clashes rules hs c other
clash-wanted rules hs first same c other r w h = elim h.is [
  | inl own ↦ record {
    assigned = inr (sym own.1);
    follows = λ earlier conflict i j. inr (inl (record { one = c; other = other; there = i; there_too = j; wanted = r; counts = w; named = own.0 ∙ ap (λ (x : NodeChoice ℕ ℕ). rules.on x.node) (sym own.1); refused = h.refused }));
  }
  | inr far ↦
      let k : IsAssignedOn rules hs (rules.name r) other = leader-assigned rules hs (rules.name r) other (sym (same (rules.name r)) ∙ far) in
      record {
        assigned = inl k.0;
        follows = λ earlier conflict i j. inr (inl (record { one = c; other = other; there = i; there_too = j; wanted = r; counts = w; named = sym k.1; refused = h.refused }));
      }
]

-- where nothing clashes the candidate fits
pub none-clashes : (t : TableParts) (law : IsLawful (rules_of t)) (conflicts : List (List (NodeChoice ℕ ℕ))) (hs : List Assignment) (first : ℕ → Option (NodeChoice ℕ ℕ)) → AreFirst (rules_of t) hs first → IsLearning (rules_of t) conflicts [] hs → (c : NodeChoice ℕ ℕ) → ((d : NodeChoice ℕ ℕ) → first ((rules_of t).on c.node) ≡ Some d → d.version ≡ c.version) → DemandsFit (rules_of t) (demands_of (rules_of t) hs) c → ((r : ℕ) → Contains ((rules_of t).wants c.node c.version) r → WantedFits (rules_of t) first c r) → FitsBefore (rules_of t) hs c
none-clashes t law conflicts hs first same l c same_version listed wants =
    let rules : Rules ℕ ℕ ℕ ℕ = rules_of t in
    let one : (v : ℕ) → version_pinned nat_cmp (names_assigned (rules_of t) hs) ((rules_of t).on c.node) ≡ Some v → v ≡ c.version = λ v e.
    (let k : (d : NodeChoice ℕ ℕ) × (first ((rules_of t).on c.node) ≡ Some d) × (d.version ≡ v) = first-some (rules_of t) hs first same ((rules_of t).on c.node) v e in
    sym k.2 ∙ same_version k.0 k.1) in
    record {
      lines = λ r i named. listed (demand_of None r) (listed-whole (rules_of t) hs r None i) named;
      own = λ r i named. (wants r i).own named;
      to = λ d j r i named.
          let lies : Lies (rules_of t) (version_pinned nat_cmp (names_assigned (rules_of t) hs)) d = assigned-lie (rules_of t) law conflicts hs l d j in
          elim (nat_cases ((rules_of t).name r) ((rules_of t).on c.node)) [
            | inl e ↦
                let v : d.version ≡ c.version = one d.version (ap (version_pinned nat_cmp (names_assigned (rules_of t) hs)) (sym e ∙ named) ∙ lies.chosen) in
                subst (λ x. (rules_of t).admits r x ≡ true) (sym v) ((wants r i).own e)
            | inr o ↦
                let k : (x : NodeChoice ℕ ℕ) × (first ((rules_of t).on d.node) ≡ Some x) × (x.version ≡ d.version) = first-some (rules_of t) hs first same ((rules_of t).on d.node) d.version lies.chosen in
                subst (λ x. (rules_of t).admits r x ≡ true) k.2 ((wants r i).others o k.0 (ap first named ∙ k.1))
          ];
      from = λ d j r i named. listed (demand_of (Some d) r) (listed-whole (rules_of t) hs r (Some d) (j, i)) named;
      one_version = one;
    }

-- ---- lists of what is required, one more

pub listed-fit-more : (rules : Rules ℕ ℕ ℕ ℕ) (listed : List Demand) (i : ℕ) (d : Demand) (c : NodeChoice ℕ ℕ) → i < length listed → DemandsFit rules (take i listed) c → (rules.name (get_or listed i d).requirement ≡ rules.on c.node → rules.admits (get_or listed i d).requirement c.version ≡ true) → DemandsFit rules (take (i + 1) listed) c
listed-fit-more rules listed i d c l h k a j named = elim (Contains-take_suc listed i d a l (rw add-one at j)) [
  | inl x ↦ h a x named
  | inr y ↦ subst (λ (b : Demand). rules.admits b.requirement c.version ≡ true) y (k (ap (λ (b : Demand). rules.name b.requirement) y ∙ named))
]

pub listed-fit-end : (rules : Rules ℕ ℕ ℕ ℕ) (listed : List Demand) (i : ℕ) (c : NodeChoice ℕ ℕ) → length listed ≤ i → DemandsFit rules (take i listed) c → DemandsFit rules listed c
listed-fit-end rules listed i c l h = subst (λ xs. DemandsFit rules xs c) (take-whole listed i l) h

-- a fact of each of the first ones, and of one more
pub each-more : {X : Type 0} (P : X → Type 0) (xs : List X) (i : ℕ) (d : X) → i < length xs → ((x : X) → Contains (take i xs) x → P x) → P (get_or xs i d) → (x : X) → Contains (take (i + 1) xs) x → P x
each-more P xs i d l h k x j = elim (Contains-take_suc xs i d x l (rw add-one at j)) [ inl a ↦ h x a | inr b ↦ subst P b k ]

pub each-end : {X : Type 0} (P : X → Type 0) (xs : List X) (i : ℕ) → length xs ≤ i → ((x : X) → Contains (take i xs) x → P x) → (x : X) → Contains xs x → P x
each-end P xs i l h x j = h x (subst (λ ys. Contains ys x) (sym (take-whole xs i l)) j)
