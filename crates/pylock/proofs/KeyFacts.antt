-- A table of known keys is what stands at these keys.
use Rattle.std.proofs.Common.{◌≡◌, ℕ, true, false, List, [], ◌∷◌, Option, Some, None, Ordering, Less, Equal, Greater, if◌then◌else◌, nat_cmp, refl, sym, ◌∙◌, inl, inr}
use Rattle.std.proofs.lemmas.Bool.{cases_Bool, false≢true}
use Rattle.std.proofs.lemmas.Map.Text.{is_eq-slice_cmp}
use Rattle.std.proofs.lemmas.Slice.Eq.{bytes_eq-Decides}
use Rattle.std.specs.Cmp.Lexicographic.{slice_cmp}
use Rattle.std.specs.Ordering.{match_ordering, is_eq}
use Rattle.std.specs.Option.{option_map_or}
use Rattle.std.specs.Str.{bytes_eq}
use Rattle.toml.specs.Data.{Data, Members, no_members, member, get_member}
use Rattle.pylock.specs.Forms.{after, unknown_in}
use Rattle.pylock.specs.Tables.{optional}

found_if : (o : Ordering) (a b : Option Data) → match_ordering o a b a ≡ (if is_eq o then b else a)
found_if Less a b = refl
found_if Equal a b = refl
found_if Greater a b = refl

get-step : (k l : List ℕ) (d : Data) (ms : Members) → get_member k (member l d ms) ≡ (if bytes_eq k l then Some d else get_member k ms)
get-step k l d ms = found_if (slice_cmp nat_cmp k l) (get_member k ms) (Some d) ∙ rw (is_eq-slice_cmp k l) refl

get-here : (k l : List ℕ) (d : Data) (ms : Members) → bytes_eq k l ≡ true → get_member k (member l d ms) ≡ Some d
get-here k l d ms h = get-step k l d ms ∙ rw h refl

get-other : (k l : List ℕ) (d : Data) (ms : Members) → bytes_eq k l ≡ false → get_member k (member l d ms) ≡ get_member k ms
get-other k l d ms h = get-step k l d ms ∙ rw h refl

apart : (k l : List ℕ) → bytes_eq l k ≡ false → bytes_eq k l ≡ false
apart k l h = elim (cases_Bool (bytes_eq k l)) [
  | inl same ↦ let e : l ≡ k = sym ((bytes_eq-Decides k l).0 same) in absurd (false≢true (sym h ∙ (bytes_eq-Decides l k).1 e))
  | inr other ↦ other
]

-- a list without the key: its first key is another, and the rest lacks it too
first_other : (key k : List ℕ) (ks : List (List ℕ)) → after key (k ∷ ks) ≡ None → (bytes_eq k key ≡ false) × (after key ks ≡ None)
unfolding after
first_other key k ks h = elim (cases_Bool (bytes_eq k key)) [
  | inl same ↦ absurd (let g = (rw same at h) in cc)
  | inr other ↦ (other, (rw other at h))
]

behind : (key k : List ℕ) (ks rest : List (List ℕ)) → after k ks ≡ Some rest → after key ks ≡ None → (after key rest ≡ None) × (bytes_eq key k ≡ false)
unfolding after
behind key k [] rest h lacks = absurd cc
behind key k (j ∷ ks) rest h lacks =
    let p = first_other key j ks lacks in
    elim (cases_Bool (bytes_eq j k)) [
      | inl same ↦
          let g : Some ks ≡ Some rest = (rw same at h) in
          let e : ks ≡ rest = cc in
          let is : j ≡ k = (bytes_eq-Decides j k).0 same in
          (rw (← e) p.1, apart key k (rw is at p.0))
      | inr other ↦ behind key k ks rest (rw other at h) p.1
    ]

unknown_cases : (o : Option (List (List ℕ))) (k : List ℕ) (ms : Members) → option_map_or (λ rest. unknown_in rest ms) o (Some k) ≡ None → (rest : List (List ℕ)) × (o ≡ Some rest) × (unknown_in rest ms ≡ None)
unknown_cases None k ms h = absurd cc
unknown_cases (Some rest) k ms h = (rest, refl, h)

next_known : (ks : List (List ℕ)) (k : List ℕ) (d : Data) (ms : Members) → unknown_in ks (member k d ms) ≡ None → (rest : List (List ℕ)) × (after k ks ≡ Some rest) × (unknown_in rest ms ≡ None)
unfolding unknown_in
next_known ks k d ms h = unknown_cases (after k ks) k ms h

-- a key that isn't among the known ones isn't there
lacks_key : (ks : List (List ℕ)) (ms : Members) (key : List ℕ) → unknown_in ks ms ≡ None → after key ks ≡ None → get_member key ms ≡ None
lacks_key ks no_members key h lacks = refl
lacks_key ks (member k d ms) key h lacks =
    let (rest, is, known) = next_known ks k d ms h in
    let p = behind key k ks rest is lacks in
    get-other key k d ms p.1 ∙ lacks_key rest ms key known p.0

-- no key stands twice in the list
abbrev pub AreDistinct : List (List ℕ) → Type 0
AreDistinct [] = Unit {0}
AreDistinct (k ∷ ks) = (after k ks ≡ None) × AreDistinct ks

-- what stands at the keys, in their order
abbrev pub at_keys : List (List ℕ) → Members → Members
at_keys [] ms = no_members
at_keys (k ∷ ks) ms = optional k (get_member k ms) (at_keys ks ms)

at_none : (ks : List (List ℕ)) → at_keys ks no_members ≡ no_members
at_none [] = refl
at_none (k ∷ ks) = at_none ks

at_others : (ks : List (List ℕ)) (k : List ℕ) (d : Data) (ms : Members) → after k ks ≡ None → at_keys ks (member k d ms) ≡ at_keys ks ms
at_others [] k d ms h = refl
at_others (j ∷ ks) k d ms h =
    let p = first_other k j ks h in
    rw (get-other j k d ms p.0, at_others ks k d ms p.1) refl

after_here : (k j : List ℕ) (ks : List (List ℕ)) → bytes_eq j k ≡ true → after k (j ∷ ks) ≡ Some ks
unfolding after
after_here k j ks h = rw h refl

after_other : (k j : List ℕ) (ks : List (List ℕ)) → bytes_eq j k ≡ false → after k (j ∷ ks) ≡ after k ks
unfolding after
after_other k j ks h = rw h refl

unknown_at : (ks ls : List (List ℕ)) (k : List ℕ) (d : Data) (ms : Members) → after k ks ≡ after k ls → unknown_in ks (member k d ms) ≡ None → unknown_in ls (member k d ms) ≡ None
unfolding unknown_in
unknown_at ks ls k d ms same h = rw (← same) h

unknown_rest : (ks rest : List (List ℕ)) (k : List ℕ) (d : Data) (ms : Members) → after k ks ≡ Some rest → unknown_in ks (member k d ms) ≡ None → unknown_in rest ms ≡ None
unfolding unknown_in
unknown_rest ks rest k d ms is h = (rw is at h)

unknown_none : (k : List ℕ) (d : Data) (ms : Members) → unknown_in [] (member k d ms) ≡ None → ⊥
unfolding unknown_in after
unknown_none k d ms h = cc

-- a table of known keys alone is what stands at them
pub is_at_keys : (ks : List (List ℕ)) (ms : Members) → AreDistinct ks → unknown_in ks ms ≡ None → ms ≡ at_keys ks ms
is_at_keys [] no_members distinct h = refl
is_at_keys [] (member k d ms) distinct h = absurd (unknown_none k d ms h)
is_at_keys (j ∷ ks) no_members distinct h = sym (at_none ks)
is_at_keys (j ∷ ks) (member k d ms) distinct h = elim (cases_Bool (bytes_eq j k)) [
  | inl same ↦
      let is : j ≡ k = (bytes_eq-Decides j k).0 same in
      let rest = is_at_keys ks ms distinct.1 (unknown_rest (j ∷ ks) ks k d ms (after_here k j ks same) h) in
      let others = at_others ks k d ms (rw is at distinct.0) in
      let whole : optional j (get_member j (member k d ms)) (at_keys ks (member k d ms)) ≡ member k d ms = rw (get-here j k d ms same, others, ← rest, is) refl in
      sym whole
  | inr other ↦
      let known = unknown_at (j ∷ ks) ks k d ms (after_other k j ks other) h in
      let none = lacks_key ks (member k d ms) j known distinct.0 in
      let rest = is_at_keys ks (member k d ms) distinct.1 known in
      let whole : optional j (get_member j (member k d ms)) (at_keys ks (member k d ms)) ≡ at_keys ks (member k d ms) = rw none refl in
      rest ∙ sym whole
]
