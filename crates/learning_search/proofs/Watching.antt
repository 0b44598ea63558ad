-- On which names a node may have to be chosen, with one choice more and one less.
use Rattle.std.proofs.Common.{ℕ, List, [], ◌∷◌, ◌++◌, ◌≡◌, ◌<◌, ◌≤◌, ◌⊎◌, inl, inr, Contains, length, slice_set, sym, ◌∙◌, ap, subst, Some, None, Option, true}
use Rattle.std.proofs.lemmas.List.Elements.{Contains-append_left, Contains-push, Contains-push_cases}
use Rattle.std.specs.BTreeSet.{keys}
use Rattle.lists.proofs.Members.{Contains-cons_cases, Contains-nil, nat_cases}
use Rattle.search.proofs.Marks.{set-same, set-other}
use Rattle.search.proofs.Ranges.{nodes-own}
use Rattle.learning_search.specs.declared.demands.Demands.{Demands}
use Rattle.learning_search.specs.declared.demands.Demand.{Demand}
use Rattle.search.specs.declared.conflict.NodeChoice.{NodeChoice}
use Rattle.learning_search.specs.declared.next_node.NeededNode.{NeededNode}
use Rattle.learning_search.specs.Tied.Demands.{AreRowed, IsChosen, IsWatched, row_at}
use Rattle.learning_search.specs.Tied.Demanded.{IsFoundNeed, IsLeastNeed, IsOnDecided, NoneOnDecided}
use Rattle.learning_search.specs.Tied.Gathering.{decision}
use Rattle.learning_search.specs.Tied.Learned.{first_at}
use Rattle.search.specs.Table.{TableParts, rules_of, in_range, name_of}
use Rattle.learning_search.proofs.Rows.{row-from, row-to}

abbrev Choices : Type 0
Choices = List (NodeChoice ℕ ℕ)

abbrev Firsts : Type 0
Firsts = List (Option (NodeChoice ℕ ℕ))

some-not-none : (o : Option (NodeChoice ℕ ℕ)) (d : NodeChoice ℕ ℕ) → o ≡ Some d → o ≡ None → ⊥
some-not-none None d e f = cc
some-not-none (Some c) d e f = cc

-- ---- one more is required

pub watched-push : (t : TableParts) (old new : Demands) (demand : Demand) (taken : Firsts) (chosen : Choices) → IsWatched t old taken chosen → new.listed.items ≡ old.listed.items ++ demand ∷ [] → ((m : ℕ) → Contains (keys old.free) m → Contains (keys new.free) m) → ((m : ℕ) → Contains old.names_to_check.items m → Contains new.names_to_check.items m) → (first_at taken ((rules_of t).name demand.requirement) ≡ None → Contains (keys new.free) ((rules_of t).name demand.requirement)) → ((d : NodeChoice ℕ ℕ) (node : ℕ) → first_at taken ((rules_of t).name demand.requirement) ≡ Some d → Contains ((rules_of t).nodes demand.requirement) node → IsChosen chosen node ⊎ Contains new.names_to_check.items ((rules_of t).name demand.requirement)) → IsWatched t new taken chosen
watched-push t old new demand taken chosen h e free names_to_check own_free own_to_check = record {
  free = λ a i none. elim (Contains-push_cases old.listed.items demand a (subst (λ xs. Contains xs a) e i)) [
    | inl x ↦ free ((rules_of t).name a.requirement) (h.free a x none)
    | inr y ↦ subst (λ (b : Demand). Contains (keys new.free) ((rules_of t).name b.requirement)) y (own_free (subst (λ (b : Demand). first_at taken ((rules_of t).name b.requirement) ≡ None) (sym y) none))
  ];
  names_to_check = λ a d node i some n. elim (Contains-push_cases old.listed.items demand a (subst (λ xs. Contains xs a) e i)) [
    | inl x ↦ elim (h.names_to_check a d node x some n) [ inl c ↦ inl c | inr l ↦ inr (names_to_check ((rules_of t).name a.requirement) l) ]
    | inr y ↦ subst (λ (b : Demand). IsChosen chosen node ⊎ Contains new.names_to_check.items ((rules_of t).name b.requirement)) y
        (own_to_check d node (subst (λ (b : Demand). first_at taken ((rules_of t).name b.requirement) ≡ Some d) (sym y) some) (subst (λ (b : Demand). Contains ((rules_of t).nodes b.requirement) node) (sym y) n))
  ];
}

pub watched-none : (t : TableParts) (demands : Demands) (taken : Firsts) (chosen : Choices) → demands.listed.items ≡ [] → IsWatched t demands taken chosen
watched-none t demands taken chosen e = record {
  free = λ a i none. absurd (Contains-nil a (subst (λ xs. Contains xs a) e i));
  names_to_check = λ a d node i some n. absurd (Contains-nil a (subst (λ xs. Contains xs a) e i));
}

-- ---- one choice more

chosen-more : (chosen : Choices) (c : NodeChoice ℕ ℕ) (node : ℕ) → IsChosen chosen node → IsChosen (chosen ++ c ∷ []) node
chosen-more chosen c node h = (h.0, Contains-append_left chosen (c ∷ []) (decision node h.0) h.1)

pub watched-decided : (t : TableParts) (demands : Demands) (taken : Firsts) (chosen : Choices) (c : NodeChoice ℕ ℕ) → IsWatched t demands taken chosen → IsWatched t demands taken (chosen ++ c ∷ [])
watched-decided t demands taken chosen c h = record {
  free = h.free;
  names_to_check = λ a d node i some n. elim (h.names_to_check a d node i some n) [ inl x ↦ inl (chosen-more chosen c node x) | inr l ↦ inr l ];
}

pub watched-first : (t : TableParts) (old new : Demands) (taken : Firsts) (chosen : Choices) (c : NodeChoice ℕ ℕ) (n : ℕ) → IsWatched t old taken chosen → n < length taken → new.listed ≡ old.listed → new.free ≡ old.free → new.names_to_check.items ≡ old.names_to_check.items ++ n ∷ [] → IsWatched t new (slice_set taken n (Some c)) (chosen ++ c ∷ [])
watched-first t old new taken chosen c n h l listed free names_to_check = record {
  free = λ a i none. subst (λ f. Contains (keys f) ((rules_of t).name a.requirement)) (sym free)
      (h.free a (subst (λ xs. Contains xs a) (ap (λ xs. xs.items) listed) i) (elim (nat_cases n ((rules_of t).name a.requirement)) [
        | inl e ↦ absurd (some-not-none (first_at (slice_set taken n (Some c)) ((rules_of t).name a.requirement)) c (subst (λ m. first_at (slice_set taken n (Some c)) m ≡ Some c) e (set-same taken n (Some c) None l)) none)
        | inr d ↦ sym (set-other taken n ((rules_of t).name a.requirement) (Some c) None d) ∙ none
      ]));
  names_to_check = λ a d node i some k. elim (nat_cases n ((rules_of t).name a.requirement)) [
    | inl e ↦ inr (subst (λ xs. Contains xs ((rules_of t).name a.requirement)) (sym names_to_check) (subst (λ m. Contains (old.names_to_check.items ++ n ∷ []) m) e (Contains-push old.names_to_check.items n)))
    | inr o ↦ elim (h.names_to_check a d node (subst (λ xs. Contains xs a) (ap (λ xs. xs.items) listed) i) (sym (set-other taken n ((rules_of t).name a.requirement) (Some c) None o) ∙ some) k) [
      | inl x ↦ inl (chosen-more chosen c node x)
      | inr y ↦ inr (subst (λ xs. Contains xs ((rules_of t).name a.requirement)) (sym names_to_check) (Contains-append_left old.names_to_check.items (n ∷ []) ((rules_of t).name a.requirement) y))
    ]
  ];
}

-- ---- one choice less

chosen-less : (t : TableParts) (chosen fewer : Choices) (c : NodeChoice ℕ ℕ) (node : ℕ) → chosen ≡ fewer ++ c ∷ [] → (name_of t c.node ≡ name_of t node → ⊥) → IsChosen chosen node → IsChosen fewer node
chosen-less t chosen fewer c node e d h = elim (Contains-push_cases fewer c (decision node h.0) (subst (λ xs. Contains xs (decision node h.0)) e h.1)) [
  | inl x ↦ (h.0, x)
  | inr y ↦ absurd (d (ap (λ (x : NodeChoice ℕ ℕ). name_of t x.node) y))
]

pub watched-back_first : (t : TableParts) → in_range t ≡ true → (old new : Demands) (taken : Firsts) (chosen fewer : Choices) (c : NodeChoice ℕ ℕ) → IsWatched t old taken chosen → name_of t c.node < length taken → ((a : Demand) → Contains new.listed.items a → Contains old.listed.items a) → ((m : ℕ) → Contains (keys old.free) m → Contains (keys new.free) m) → Contains (keys new.free) (name_of t c.node) → new.names_to_check ≡ old.names_to_check → chosen ≡ fewer ++ c ∷ [] → IsWatched t new (slice_set taken (name_of t c.node) None) fewer
watched-back_first t known old new taken chosen fewer c h l listed free own names_to_check less = record {
  free = λ a i none. elim (nat_cases (name_of t c.node) ((rules_of t).name a.requirement)) [
    | inl e ↦ subst (λ m. Contains (keys new.free) m) e own
    | inr d ↦ free ((rules_of t).name a.requirement) (h.free a (listed a i) (sym (set-other taken (name_of t c.node) ((rules_of t).name a.requirement) None None d) ∙ none))
  ];
  names_to_check = λ a d node i some k. elim (nat_cases (name_of t c.node) ((rules_of t).name a.requirement)) [
    | inl e ↦ absurd (some-not-none (first_at (slice_set taken (name_of t c.node) None) ((rules_of t).name a.requirement)) d some (subst (λ m. first_at (slice_set taken (name_of t c.node) None) m ≡ None) e (set-same taken (name_of t c.node) None None l)))
    | inr o ↦ elim (h.names_to_check a d node (listed a i) (sym (set-other taken (name_of t c.node) ((rules_of t).name a.requirement) None None o) ∙ some) k) [
      | inl x ↦ inl (chosen-less t chosen fewer c node less (λ e. o (e ∙ nodes-own t known a.requirement node k)) x)
      | inr y ↦ inr (subst (λ xs. Contains xs ((rules_of t).name a.requirement)) (sym (ap (λ xs. xs.items) names_to_check)) y)
    ]
  ];
}

pub watched-back_decided : (t : TableParts) → in_range t ≡ true → (old new : Demands) (taken : Firsts) (chosen fewer : Choices) (c : NodeChoice ℕ ℕ) → IsWatched t old taken chosen → ((a : Demand) → Contains new.listed.items a → Contains old.listed.items a) → new.free ≡ old.free → new.names_to_check.items ≡ old.names_to_check.items ++ name_of t c.node ∷ [] → chosen ≡ fewer ++ c ∷ [] → IsWatched t new taken fewer
watched-back_decided t known old new taken chosen fewer c h listed free names_to_check less = record {
  free = λ a i none. subst (λ f. Contains (keys f) ((rules_of t).name a.requirement)) (sym free) (h.free a (listed a i) none);
  names_to_check = λ a d node i some k. elim (nat_cases (name_of t c.node) ((rules_of t).name a.requirement)) [
    | inl e ↦ inr (subst (λ xs. Contains xs ((rules_of t).name a.requirement)) (sym names_to_check) (subst (λ m. Contains (old.names_to_check.items ++ name_of t c.node ∷ []) m) e (Contains-push old.names_to_check.items (name_of t c.node))))
    | inr o ↦ elim (h.names_to_check a d node (listed a i) some k) [
      | inl x ↦ inl (chosen-less t chosen fewer c node less (λ e. o (e ∙ nodes-own t known a.requirement node k)) x)
      | inr y ↦ inr (subst (λ xs. Contains xs ((rules_of t).name a.requirement)) (sym names_to_check) (Contains-append_left old.names_to_check.items (name_of t c.node ∷ []) ((rules_of t).name a.requirement) y))
    ]
  ];
}

-- ---- a name that is looked at no more

pub decided-row : (t : TableParts) (demands : Demands) (first : ℕ → Option (NodeChoice ℕ ℕ)) (chosen : Choices) (n : ℕ) (need : NeededNode) → AreRowed t demands → IsOnDecided (rules_of t) first chosen (row_at demands.rows.items n) need → IsOnDecided (rules_of t) first chosen demands.listed.items need
decided-row t demands first chosen n need h k = record {
  demand = k.demand;
  there = (row-from t demands n k.demand h k.there).0;
  by = k.by;
  node = k.node;
  one = k.one;
  named = k.named;
  free = k.free;
}

pub watched-settled : (t : TableParts) (old new : Demands) (taken : Firsts) (chosen : Choices) (n : ℕ) → AreRowed t old → IsWatched t old taken chosen → NoneOnDecided (rules_of t) (first_at taken) chosen (row_at old.rows.items n) → new.listed ≡ old.listed → new.free ≡ old.free → old.names_to_check.items ≡ new.names_to_check.items ++ n ∷ [] → IsWatched t new taken chosen
watched-settled t old new taken chosen n r h none listed free names_to_check = record {
  free = λ a i e. subst (λ f. Contains (keys f) ((rules_of t).name a.requirement)) (sym free) (h.free a (subst (λ xs. Contains xs a) (ap (λ xs. xs.items) listed) i) e);
  names_to_check = λ a d node i some k.
      let there : Contains old.listed.items a = subst (λ xs. Contains xs a) (ap (λ xs. xs.items) listed) i in
      elim (h.names_to_check a d node there some k) [
        | inl x ↦ inl x
        | inr l ↦ elim (Contains-push_cases new.names_to_check.items n ((rules_of t).name a.requirement) (subst (λ xs. Contains xs ((rules_of t).name a.requirement)) names_to_check l)) [
          | inl y ↦ inr y
          | inr e ↦ inl (none a d node (subst (λ m. Contains (row_at old.rows.items m) a) (sym e) (row-to t old a r there)) some k)
        ]
      ];
}

pub none-to_check : (t : TableParts) (demands : Demands) (taken : Firsts) (chosen : Choices) → IsWatched t demands taken chosen → demands.names_to_check.items ≡ [] → NoneOnDecided (rules_of t) (first_at taken) chosen demands.listed.items
none-to_check t demands taken chosen h e a d node i some k = elim (h.names_to_check a d node i some k) [
  | inl x ↦ x
  | inr l ↦ absurd (Contains-nil ((rules_of t).name a.requirement) (subst (λ xs. Contains xs ((rules_of t).name a.requirement)) e l))
]

pub watched-taken : (t : TableParts) (old new : Demands) (taken : Firsts) (chosen : Choices) (n : ℕ) → AreRowed t old → IsWatched t old taken chosen → (first_at taken n ≡ None → row_at old.rows.items n ≡ []) → new.listed ≡ old.listed → new.names_to_check ≡ old.names_to_check → keys old.free ≡ n ∷ keys new.free → IsWatched t new taken chosen
watched-taken t old new taken chosen n r h none listed names_to_check free = record {
  free = λ a i e.
      let there : Contains old.listed.items a = subst (λ xs. Contains xs a) (ap (λ xs. xs.items) listed) i in
      elim (Contains-cons_cases n (keys new.free) ((rules_of t).name a.requirement) (subst (λ xs. Contains xs ((rules_of t).name a.requirement)) free (h.free a there e))) [
        | inl f ↦ absurd (Contains-nil a (subst (λ xs. Contains xs a) (none (ap (first_at taken) f ∙ e)) (subst (λ m. Contains (row_at old.rows.items m) a) (sym f) (row-to t old a r there))))
        | inr k ↦ k
      ];
  names_to_check = λ a d node i some k. subst (λ xs. IsChosen chosen node ⊎ Contains xs ((rules_of t).name a.requirement)) (sym (ap (λ xs. xs.items) names_to_check)) (h.names_to_check a d node (subst (λ xs. Contains xs a) (ap (λ xs. xs.items) listed) i) some k);
}

pub least-found : (t : TableParts) → in_range t ≡ true → (demands : Demands) (taken : Firsts) (chosen : Choices) (n : ℕ) (need : NeededNode) (demand : Demand) → AreRowed t demands → IsWatched t demands taken chosen → ((m : ℕ) → Contains (keys demands.free) m → n ≤ m) → first_at taken n ≡ None → Contains (row_at demands.rows.items n) demand → need.by ≡ demand.by → Contains ((rules_of t).nodes demand.requirement) need.node → IsLeastNeed (rules_of t) (first_at taken) demands.listed.items need
least-found t known demands taken chosen n need demand r h least free there by node =
    let k : Contains demands.listed.items demand × ((rules_of t).name demand.requirement ≡ n) = row-from t demands n demand r there in
    record {
      demand = demand;
      there = k.0;
      by = by;
      node = node;
      named = nodes-own t known demand.requirement need.node node;
      free = ap (first_at taken) k.1 ∙ free;
      least = λ a i e. subst (λ m. m ≤ (rules_of t).name a.requirement) (sym k.1) (least ((rules_of t).name a.requirement) (h.free a i e));
    }

pub none-found : (t : TableParts) (demands : Demands) (taken : Firsts) (chosen : Choices) → IsWatched t demands taken chosen → keys demands.free ≡ [] → IsFoundNeed (rules_of t) (first_at taken) demands.listed.items None
none-found t demands taken chosen h e a i none = Contains-nil ((rules_of t).name a.requirement) (subst (λ xs. Contains xs ((rules_of t).name a.requirement)) e (h.free a i none))
