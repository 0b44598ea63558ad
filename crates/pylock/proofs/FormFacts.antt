-- Reading the items of an array one after the other.
use Rattle.std.proofs.Common.{◌≡◌, ◌⊎◌, ℕ, ◌+◌, ◌==◌, ◌<◌, ◌≤◌, List, [], ◌∷◌, ◌++◌, length, get_or, drop, map, true, false, Option, Some, None, if◌then◌else◌, Result, Ok, Err, refl, sym, ap, ◌∙◌, inl, inr}
use Rattle.std.proofs.lemmas.List.{append-nil, drop_more, drop_all}
use Rattle.std.specs.Str.{bytes_eq}
use Rattle.toml.specs.Data.{Data, Members, no_members, member}
use Rattle.toml.specs.View.{items_view, view}
use Rattle.toml.specs.declared.value.Value.{Value}
use Rattle.pylock.specs.declared.flaw.Flaw.{Flaw}
use Rattle.pylock.specs.declared.flaw.Flaw.TheVariants.{OutOfMemory}
use Rattle.pylock.proofs.ReadSoFar.{before, before-first}
use Rattle.pylock.specs.Flaws.{◌>>=◌}
use Rattle.pylock.specs.Forms.{after, each, not_empty, unknown_in}

module _ {A : Type 0} (form : Data → Result A Flaw) where
  -- the items from a place on: the one there, and the others
  each-drop : (vs : List Value) (i : ℕ) (v : Value) → i < length vs → v ≡ get_or vs i v
      → each form (items_view (drop i vs)) ≡ (form (view v) >>= λ x. each form (items_view (drop (i + 1) vs)) >>= λ xs. Ok (x ∷ xs))
  unfolding each
  each-drop vs i v within is =
      let whole : drop i vs ≡ v ∷ drop (i + 1) vs = drop_more vs i v within ∙ ap (λ w. w ∷ drop (i + 1) vs) (sym is) in
      rw whole refl

  pub goes_on : (done : List A) (vs : List Value) (i : ℕ) (v : Value) (x : A) (total : Result (List A) Flaw) → i < length vs → v ≡ get_or vs i v
      → form (view v) ≡ Ok x → before done (each form (items_view (drop i vs))) ≡ total
      → before (done ++ x ∷ []) (each form (items_view (drop (i + 1) vs))) ≡ total
  goes_on done vs i v x total within is h so_far =
      let first : before done (each form (items_view (drop i vs))) ≡ before (done ++ x ∷ []) (each form (items_view (drop (i + 1) vs))) =
      rw (each-drop vs i v within is, h) (before-first done x (each form (items_view (drop (i + 1) vs)))) in
      sym first ∙ so_far

  pub ends : (done : List A) (vs : List Value) (i : ℕ) (v : Value) (e : Flaw) (total : Result (List A) Flaw) → i < length vs → v ≡ get_or vs i v
      → (e ≡ OutOfMemory) ⊎ (form (view v) ≡ Err e) → before done (each form (items_view (drop i vs))) ≡ total
      → (e ≡ OutOfMemory) ⊎ (total ≡ Err e)
  ends done vs i v e total within is (inl memory) so_far = inl memory
  ends done vs i v e total within is (inr h) so_far =
      let first : before done (each form (items_view (drop i vs))) ≡ Err e = rw (each-drop vs i v within is, h) refl in
      inr (sym so_far ∙ first)

  pub is_done : (done : List A) (vs : List Value) (i : ℕ) (total : Result (List A) Flaw) → length vs ≤ i
      → before done (each form (items_view (drop i vs))) ≡ total → total ≡ Ok done
  unfolding each
  is_done done vs i total past so_far =
      let none : before done (each form (items_view (drop i vs))) ≡ Ok done = rw (drop_all i vs past) (ap Ok (append-nil done)) in
      sym so_far ∙ none

module _ {X : Type 0} (named : X → List ℕ) (key : List ℕ) where
  after-step : (xs : List X) (i : ℕ) (x : X) → i < length xs
      → after key (map named (drop i xs)) ≡ (if bytes_eq (named (get_or xs i x)) key then Some (map named (drop (i + 1) xs)) else after key (map named (drop (i + 1) xs)))
  unfolding after
  after-step xs i x within = rw (drop_more xs i x within) refl

  -- the known key at the place is another
  pub other_key : (xs : List X) (i : ℕ) (x : X) (total : Option (List (List ℕ))) → i < length xs → bytes_eq (named (get_or xs i x)) key ≡ false
      → after key (map named (drop i xs)) ≡ total → after key (map named (drop (i + 1) xs)) ≡ total
  other_key xs i x total within other so_far =
      let next : after key (map named (drop i xs)) ≡ after key (map named (drop (i + 1) xs)) = after-step xs i x within ∙ rw other refl in
      sym next ∙ so_far

  -- the known key at the place is this one
  pub this_key : (xs : List X) (i : ℕ) (x : X) (total : Option (List (List ℕ))) → i < length xs → bytes_eq (named (get_or xs i x)) key ≡ true
      → after key (map named (drop i xs)) ≡ total → Some (map named (drop (i + 1) xs)) ≡ total
  this_key xs i x total within same so_far =
      let here : after key (map named (drop i xs)) ≡ Some (map named (drop (i + 1) xs)) = after-step xs i x within ∙ rw same refl in
      sym here ∙ so_far

  -- past the last known key
  pub no_key : (xs : List X) (i : ℕ) (total : Option (List (List ℕ))) → length xs ≤ i → after key (map named (drop i xs)) ≡ total → None ≡ total
  unfolding after
  no_key xs i total past so_far =
      let none : after key (map named (drop i xs)) ≡ None = rw (drop_all i xs past) refl in
      sym none ∙ so_far

-- the first key of a table is known
pub known-step : (ks rest : List (List ℕ)) (key : List ℕ) (d : Data) (ms : Members) → Some rest ≡ after key ks → unknown_in ks (member key d ms) ≡ unknown_in rest ms
unfolding unknown_in
known-step ks rest key d ms h = rw (← h) refl

-- the first key of a table isn't known
pub unknown-step : (ks : List (List ℕ)) (key : List ℕ) (d : Data) (ms : Members) → None ≡ after key ks → unknown_in ks (member key d ms) ≡ Some key
unfolding unknown_in
unknown-step ks key d ms h = rw (← h) refl

-- a table has no key left
pub unknown-end : (ks : List (List ℕ)) → unknown_in ks no_members ≡ None
unfolding unknown_in
unknown-end ks = refl

-- a list of one item at least isn't empty as items
pub not_empty-view : (vs : List Value) → (length vs == 0) ≡ false → not_empty (items_view vs) ≡ Some (items_view vs)
not_empty-view [] h = absurd cc
not_empty-view (v ∷ vs) h = refl
