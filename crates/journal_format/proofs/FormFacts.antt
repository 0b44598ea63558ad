-- Reading JSON values.
use Rattle.std.proofs.Common.{◌≡◌, ◌≢◌, ◌⊎◌, ℕ, suc, ◌+◌, ◌<◌, ◌≤◌, Bool, true, false, List, [], ◌∷◌, ◌++◌, length, get_or, drop, map, take, is_some, None, Some, Result, Ok, Err, refl, sym, ap, ◌∙◌, inl, inr, arith}
use Rattle.std.proofs.lemmas.List.{append-nil, drop_more, drop_all, take_all}
use Rattle.std.proofs.lemmas.List.Folds.{list_all-map}
use Rattle.std.specs.List.{list_all}
use Rattle.std.specs.Prelude.{position, ◌==◌, ◌-◌}
use Rattle.std.proofs.Math.ListN.{length-drop}
use Rattle.std.proofs.lemmas.Str.{IsUtf8-from_is_utf8}
use Rattle.std.specs.Prelude.{IsUtf8}
use Rattle.std.specs.Str.{is_utf8}
use Rattle.serde_json.specs.Data.{Data}
use Rattle.serde_json.specs.Find.{as_object, get}
use Rattle.serde_json.specs.Read.{read}
use Rattle.serde_json.specs.View.{items_view, view}
use Rattle.serde_json.specs.declared.value.Value.{Value}
use Rattle.pylock.specs.declared.flaw.Flaw.{Flaw}
use Rattle.pylock.specs.declared.flaw.Flaw.TheVariants.{OtherForm, OutOfMemory}
use Rattle.pylock.proofs.ReadSoFar.{before, before-first}
use Rattle.pylock.specs.Flaws.{◌>>=◌}
use Rattle.journal_format.specs.Forms.{counts, each, four_in, json_of, only_keys, three_in, two_in}
use Rattle.journal_format.specs.Lines.{cut_line}

not_json_by : (b : Bool) (bytes : List ℕ) → is_utf8 bytes ≡ b → (IsUtf8 bytes → read bytes ≡ None) → json_of bytes ≡ Err OtherForm
unfolding json_of
not_json_by true bytes is none = rw (is, none (IsUtf8-from_is_utf8 bytes is)) refl
not_json_by false bytes is none = rw is refl

-- bytes that aren't UTF-8, or of which nothing is read
pub not_json : (bytes : List ℕ) → (IsUtf8 bytes → read bytes ≡ None) → json_of bytes ≡ Err OtherForm
not_json bytes none = not_json_by (is_utf8 bytes) bytes refl none

-- an array of another length
pub two_in-other : (vs : List Value) → length vs ≢ 2 → two_in (items_view vs) ≡ None
two_in-other [] h = refl
two_in-other (v ∷ []) h = refl
two_in-other (v ∷ w ∷ []) h = absurd (h refl)
two_in-other (v ∷ w ∷ x ∷ vs) h = refl

pub three_in-other : (vs : List Value) → length vs ≢ 3 → three_in (items_view vs) ≡ None
three_in-other [] h = refl
three_in-other (v ∷ []) h = refl
three_in-other (v ∷ w ∷ []) h = refl
three_in-other (v ∷ w ∷ x ∷ []) h = absurd (h refl)
three_in-other (v ∷ w ∷ x ∷ y ∷ vs) h = refl

pub four_in-other : (vs : List Value) → length vs ≢ 4 → four_in (items_view vs) ≡ None
four_in-other [] h = refl
four_in-other (v ∷ []) h = refl
four_in-other (v ∷ w ∷ []) h = refl
four_in-other (v ∷ w ∷ x ∷ []) h = refl
four_in-other (v ∷ w ∷ x ∷ y ∷ []) h = absurd (h refl)
four_in-other (v ∷ w ∷ x ∷ y ∷ z ∷ vs) h = refl

module _ {A : Type 0} (form : Data → Result A Flaw) where
  -- the items from a place on: the one there, and the others
  each-drop : (vs : List Value) (i : ℕ) (v : Value) → i < length vs → v ≡ get_or vs i v
      → each form (items_view (drop i vs)) ≡ (form (view v) >>= λ x. each form (items_view (drop (i + 1) vs)) >>= λ xs. Ok (x ∷ xs))
  unfolding each
  each-drop vs i v within is =
      let whole : drop i vs ≡ v ∷ drop (i + 1) vs = drop_more vs i v within ∙ ap (λ w. w ∷ drop (i + 1) vs) (sym is) in
      rw whole refl

  pub goes_on : (done : List A) (vs : List Value) (i : ℕ) (v : Value) (x : A) (total : Result (List A) Flaw) → i < length vs → v ≡ get_or vs i v
      → form (view v) ≡ Ok x → before done (each form (items_view (drop i vs))) ≡ total
      → before (done ++ x ∷ []) (each form (items_view (drop (i + 1) vs))) ≡ total
  goes_on done vs i v x total within is h so_far =
      let first : before done (each form (items_view (drop i vs))) ≡ before (done ++ x ∷ []) (each form (items_view (drop (i + 1) vs))) =
      rw (each-drop vs i v within is, h) (before-first done x (each form (items_view (drop (i + 1) vs)))) in
      sym first ∙ so_far

  pub ends : (done : List A) (vs : List Value) (i : ℕ) (v : Value) (e : Flaw) (total : Result (List A) Flaw) → i < length vs → v ≡ get_or vs i v
      → (e ≡ OutOfMemory) ⊎ (form (view v) ≡ Err e) → before done (each form (items_view (drop i vs))) ≡ total
      → (e ≡ OutOfMemory) ⊎ (total ≡ Err e)
  ends done vs i v e total within is (inl memory) so_far = inl memory
  ends done vs i v e total within is (inr h) so_far =
      let first : before done (each form (items_view (drop i vs))) ≡ Err e = rw (each-drop vs i v within is, h) refl in
      inr (sym so_far ∙ first)

  pub is_done : (done : List A) (vs : List Value) (i : ℕ) (total : Result (List A) Flaw) → length vs ≤ i
      → before done (each form (items_view (drop i vs))) ≡ total → total ≡ Ok done
  unfolding each
  is_done done vs i total past so_far =
      let none : before done (each form (items_view (drop i vs))) ≡ Ok done = rw (drop_all i vs past) (ap Ok (append-nil done)) in
      sym so_far ∙ none

same_length : {X : Type 0} (now : X → List ℕ) (keys : List X) → length (map now keys) ≡ length keys
same_length now [] = refl
same_length now (key ∷ keys) = ap suc (same_length now keys)

module _ {X : Type 0} (now : X → List ℕ) (keys : List X) (d : Data) where
  -- an object has exactly the keys
  pub only_keys-holds : counts (length keys) (as_object d) ≡ true → list_all (λ k. is_some (get (now k) d)) keys ≡ true → only_keys (map now keys) d ≡ Ok tt
  only_keys-holds count each_there = rw (same_length now keys, count, list_all-map (λ key. is_some (get key d)) now keys, each_there) refl

  -- it has another number of members
  pub only_keys-count : counts (length keys) (as_object d) ≡ false → only_keys (map now keys) d ≡ Err OtherForm
  only_keys-count count = rw (same_length now keys, count) refl

  -- it lacks a key
  pub only_keys-lacks : counts (length keys) (as_object d) ≡ true → list_all (λ k. is_some (get (now k) d)) keys ≡ false → only_keys (map now keys) d ≡ Err OtherForm
  only_keys-lacks count each_there = rw (same_length now keys, count, list_all-map (λ key. is_some (get key d)) now keys, each_there) refl

-- the bytes are cut at the first LF
pub cut_line-at : (bytes : List ℕ) (place : ℕ) → position (λ b. b == 10) bytes ≡ Some place → Some (take place bytes, take (length bytes - (place + 1)) (drop (place + 1) bytes)) ≡ cut_line bytes
cut_line-at bytes place is =
    let whole : take (length bytes - (place + 1)) (drop (place + 1) bytes) ≡ drop (place + 1) bytes =
    take_all (length bytes - (place + 1)) (drop (place + 1) bytes) (omega (arith, length-drop (place + 1) bytes)) in
    rw (is, whole) refl

pub cut_line-none : (bytes : List ℕ) → position (λ b. b == 10) bytes ≡ None → None ≡ cut_line bytes
cut_line-none bytes is = rw is refl
