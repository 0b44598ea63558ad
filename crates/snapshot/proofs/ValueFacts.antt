-- The values at the keys of an object, found one after the other.
use Rattle.std.proofs.Common.{◌≡◌, ℕ, suc, ◌<◌, Bool, true, false, cond, List, [], ◌∷◌, length, map, slice_index_or, slice_set, Option, Some, None, option_map, Ordering, Less, Equal, Greater, is_eq, nat_cmp, refl, ap, ◌∙◌, arith, bytes_eq}
use Rattle.std.proofs.lemmas.Map.Text.{is_eq-slice_cmp}
use Rattle.std.proofs.lemmas.Slice.Eq.{bytes_eq-Decides}
use Rattle.std.specs.Prelude.{is_some, not, ◌&&◌}
use Rattle.std.specs.Cmp.Lexicographic.{slice_cmp}
use Rattle.std.specs.Option.{option_or}
use Rattle.std.specs.Ordering.{match_ordering}
use Rattle.serde_json.specs.Data.{Data, Members, member, no_members}
use Rattle.serde_json.specs.Find.{get_member}
use Rattle.serde_json.specs.View.{view}
use Rattle.serde_json.specs.declared.value.Value.{Value}
use Rattle.snapshot.specs.Tied.Keys.{are_apart, place_of, values_in}

differs : (o : Ordering) (a b : Option Data) → is_eq o ≡ false → match_ordering o a b a ≡ a
differs Less a b e = refl
differs Equal a b e = absurd cc
differs Greater a b e = refl

agrees : (o : Ordering) (a b : Option Data) → is_eq o ≡ true → match_ordering o a b a ≡ b
agrees Less a b e = absurd cc
agrees Equal a b e = refl
agrees Greater a b e = absurd cc

-- a member of another key is passed over
passed : (key other : List ℕ) (d : Data) (ms : Members) → bytes_eq key other ≡ false → get_member key (member other d ms) ≡ get_member key ms
passed key other d ms h = differs (slice_cmp nat_cmp key other) _ _ (is_eq-slice_cmp key other ∙ h)

-- a member of the key is found
met : (key other : List ℕ) (d : Data) (ms : Members) → bytes_eq key other ≡ true → get_member key (member other d ms) ≡ Some d
met key other d ms h = agrees (slice_cmp nat_cmp key other) _ _ (is_eq-slice_cmp key other ∙ h)

no_later : (o : Option ℕ) → option_map suc o ≡ None → o ≡ None
no_later None e = refl
no_later (Some n) e = absurd cc

one_later : (o : Option ℕ) (p : ℕ) → option_map suc o ≡ Some p → (q : ℕ) × ((o ≡ Some q) × (p ≡ suc q))
one_later None p e = absurd cc
one_later (Some n) p e = (n, (refl, cc))

none_by : (b : Bool) (key k : List ℕ) (ks : List (List ℕ)) (d : Data) (ms : Members) (f : Option Value) (fs : List (Option Value)) → bytes_eq k key ≡ b → cond b (Some 0) (option_map suc (place_of key ks)) ≡ None
    → (place_of key ks ≡ None → values_in fs ks (member key d ms) ≡ values_in fs ks ms) → values_in (f ∷ fs) (k ∷ ks) (member key d ms) ≡ values_in (f ∷ fs) (k ∷ ks) ms
none_by true key k ks d ms f fs is h rest = absurd cc
none_by false key k ks d ms f fs is h rest = rw (passed k key d ms is, rest (no_later _ h)) refl

-- a key that isn't asked for
pub not_asked : (key : List ℕ) (ks : List (List ℕ)) (d : Data) (ms : Members) (fs : List (Option Value)) → place_of key ks ≡ None → values_in fs ks (member key d ms) ≡ values_in fs ks ms
not_asked key ks d ms [] h = refl
not_asked key [] d ms (f ∷ fs) h = refl
not_asked key (k ∷ ks) d ms (f ∷ fs) h = none_by (bytes_eq k key) key k ks d ms f fs refl h (not_asked key ks d ms fs)

apart_from : (o : Option ℕ) (b : Bool) → (not (is_some o) && b) ≡ true → (o ≡ None) × (b ≡ true)
apart_from None b e = (refl, e)
apart_from (Some n) b e = absurd cc

-- the keys behind one that is met don't have it
no_more : (key k : List ℕ) (ks : List (List ℕ)) → are_apart (k ∷ ks) ≡ true → bytes_eq k key ≡ true → place_of key ks ≡ None
no_more key k ks apart same =
    let is : k ≡ key = (bytes_eq-Decides k key).0 same in
    rw (← is) (apart_from (place_of k ks) (are_apart ks) apart).0

-- what stands at the keys, where a value with its key goes from the members to those that were found
abbrev pub Moves : (key : List ℕ) (v : Value) (ks : List (List ℕ)) (ms : Members) (fs after : List (Option Value)) → Type 0
Moves key v ks ms fs after = values_in fs ks (member key (view v) ms) ≡ values_in after ks ms

none_of : (f : Option Value) → is_some f ≡ false → f ≡ None
none_of None e = refl
none_of (Some v) e = absurd cc

stays_of : (f : Option Value) (a b : Option Data) → is_some f ≡ true → option_or (option_map view f) a ≡ option_or (option_map view f) b
stays_of None a b e = absurd cc
stays_of (Some v) a b e = refl

module _ (key : List ℕ) (v : Value) (ms : Members) (other : Option Value) where
  put_by : (b : Bool) (k : List ℕ) (ks : List (List ℕ)) (f : Option Value) (fs : List (Option Value)) (p : ℕ) → bytes_eq k key ≡ b → are_apart (k ∷ ks) ≡ true
      → cond b (Some 0) (option_map suc (place_of key ks)) ≡ Some p → is_some (slice_index_or (f ∷ fs) p other) ≡ false
      → ((q : ℕ) → are_apart ks ≡ true → place_of key ks ≡ Some q → is_some (slice_index_or fs q other) ≡ false → Moves key v ks ms fs (slice_set fs q (Some v)))
      → Moves key v (k ∷ ks) ms (f ∷ fs) (slice_set (f ∷ fs) p (Some v))
  put_by true k ks f fs p is apart h empty rest =
      let first : 0 ≡ p = cc in
      let none : f ≡ None = none_of f (rw (← first) at empty) in
      rw (← first, none, met k key (view v) ms is, not_asked key ks (view v) ms fs (no_more key k ks apart is)) refl
  put_by false k ks f fs p is apart h empty rest =
      let later = one_later (place_of key ks) p h in
      rw (later.1.1, passed k key (view v) ms is, rest later.0 (apart_from (place_of k ks) (are_apart ks) apart).1 later.1.0 (rw later.1.1 at empty)) refl

  -- a value that is the first at its key is found there
  pub put : (ks : List (List ℕ)) (fs : List (Option Value)) (p : ℕ) → are_apart ks ≡ true → place_of key ks ≡ Some p → is_some (slice_index_or fs p other) ≡ false → Moves key v ks ms fs (slice_set fs p (Some v))
  put ks [] p apart h empty = refl
  put [] (f ∷ fs) p apart h empty = absurd cc
  put (k ∷ ks) (f ∷ fs) p apart h empty = put_by (bytes_eq k key) k ks f fs p refl apart h empty (put ks fs)

  stays_by : (b : Bool) (k : List ℕ) (ks : List (List ℕ)) (f : Option Value) (fs : List (Option Value)) (p : ℕ) → bytes_eq k key ≡ b → are_apart (k ∷ ks) ≡ true
      → cond b (Some 0) (option_map suc (place_of key ks)) ≡ Some p → is_some (slice_index_or (f ∷ fs) p other) ≡ true
      → ((q : ℕ) → are_apart ks ≡ true → place_of key ks ≡ Some q → is_some (slice_index_or fs q other) ≡ true → Moves key v ks ms fs fs)
      → Moves key v (k ∷ ks) ms (f ∷ fs) (f ∷ fs)
  stays_by true k ks f fs p is apart h full rest =
      let first : 0 ≡ p = cc in
      rw (not_asked key ks (view v) ms fs (no_more key k ks apart is)) (ap (λ x. x ∷ values_in fs ks ms) (stays_of f _ _ (rw (← first) at full)))
  stays_by false k ks f fs p is apart h full rest =
      let later = one_later (place_of key ks) p h in
      rw (passed k key (view v) ms is, rest later.0 (apart_from (place_of k ks) (are_apart ks) apart).1 later.1.0 (rw later.1.1 at full)) refl

  -- a value at whose key one was found is dropped
  pub stays : (ks : List (List ℕ)) (fs : List (Option Value)) (p : ℕ) → are_apart ks ≡ true → place_of key ks ≡ Some p → is_some (slice_index_or fs p other) ≡ true → Moves key v ks ms fs fs
  stays ks [] p apart h full = refl
  stays [] (f ∷ fs) p apart h full = absurd cc
  stays (k ∷ ks) (f ∷ fs) p apart h full = stays_by (bytes_eq k key) k ks f fs p refl apart h full (stays ks fs)

found_of : (f : Option Value) → option_or (option_map view f) None ≡ option_map view f
found_of None = refl
found_of (Some v) = refl

module _ {X : Type 0} (now : X → List ℕ) where
  -- at first none is found
  pub none_found : (fs : List (Option Value)) (ks : List X) (ms : Members) → length fs ≡ length ks → ((i : ℕ) (d : Option Value) → i < length fs → slice_index_or fs i d ≡ None)
      → values_in fs (map now ks) ms ≡ map (λ key. get_member (now key) ms) ks
  none_found [] [] ms long none = refl
  none_found [] (k ∷ ks) ms long none = absurd (omega arith)
  none_found (f ∷ fs) [] ms long none = absurd (omega arith)
  none_found (f ∷ fs) (k ∷ ks) ms long none =
      rw (none 0 None (omega arith)) (ap (λ rest. get_member (now k) ms ∷ rest) (none_found fs ks ms (omega arith) (λ i d lt. none (suc i) d (omega arith))))

  -- in the end those that were found are left
  pub all_found : (fs : List (Option Value)) (ks : List X) → length fs ≡ length ks → values_in fs (map now ks) no_members ≡ map (option_map view) fs
  all_found [] ks long = refl
  all_found (f ∷ fs) [] long = absurd (omega arith)
  all_found (f ∷ fs) (k ∷ ks) long = rw (found_of f) (ap (λ rest. option_map view f ∷ rest) (all_found fs ks (omega arith)))
