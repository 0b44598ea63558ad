-- Of texts in order the first that isn't known is the least.
use Rattle.std.proofs.Common.{◌≡◌, ℕ, Bool, not, true, false, List, [], ◌∷◌, filter, Option, Some, None, Ordering, Less, Equal, Greater, nat_cmp, refl, sym, ap, ◌∙◌, inl, inr}
use Rattle.std.proofs.lemmas.Bool.{and_parts, cases_Bool, false≢true}
use Rattle.std.proofs.lemmas.Cmp.{nat_list_cmp_total}
use Rattle.std.proofs.lemmas.Map.Text.{is_eq-slice_cmp}
use Rattle.std.proofs.lemmas.Slice.Eq.{bytes_eq-Decides}
use Rattle.std.specs.Cmp.Lexicographic.{slice_cmp}
use Rattle.std.specs.List.{list_all}
use Rattle.std.specs.Option.{option_map_or}
use Rattle.std.specs.Ordering.{is_eq, is_lt, ordering_reverse}
use Rattle.std.specs.Str.{bytes_eq}
use Rattle.toml.specs.Data.{Members, no_members, member}
use Rattle.pylock.specs.Forms.{after, is_known, keys_of, least, least_unknown, lesser, unknown_in}
use Rattle.lists.specs.Rising.{rises}

-- the text comes before this one
abbrev pub is_below : List ℕ → List ℕ → Bool
is_below t u = is_lt (slice_cmp nat_cmp t u)

less-from : (o : Ordering) → is_lt o ≡ true → o ≡ Less
less-from Less h = refl
less-from Equal h = absurd cc
less-from Greater h = absurd cc

below-trans : (t u v : List ℕ) → is_below t u ≡ true → is_below u v ≡ true → is_below t v ≡ true
below-trans t u v h k = ap is_lt (nat_list_cmp_total.trans t u v (less-from _ h) (less-from _ k))

not_eq : (o : Ordering) → is_lt o ≡ true → is_eq o ≡ false
not_eq Less h = refl
not_eq Equal h = absurd cc
not_eq Greater h = absurd cc

not_back : (o : Ordering) → is_lt o ≡ true → is_lt (ordering_reverse o) ≡ false
not_back Less h = refl
not_back Equal h = absurd cc
not_back Greater h = absurd cc

below-back : (t u : List ℕ) → is_below t u ≡ true → is_below u t ≡ false
below-back t u h = ap is_lt (nat_list_cmp_total.antisymm u t) ∙ not_back (slice_cmp nat_cmp t u) h

apart : (k l : List ℕ) → bytes_eq l k ≡ false → bytes_eq k l ≡ false
apart k l h = elim (cases_Bool (bytes_eq k l)) [
  | inl same ↦ let e : l ≡ k = sym ((bytes_eq-Decides k l).0 same) in absurd (false≢true (sym h ∙ (bytes_eq-Decides l k).1 e))
  | inr other ↦ other
]

below-apart : (t u : List ℕ) → is_below t u ≡ true → bytes_eq u t ≡ false
below-apart t u h = apart u t (sym (is_eq-slice_cmp t u) ∙ not_eq (slice_cmp nat_cmp t u) h)

all-below : (t u : List ℕ) (texts : List (List ℕ)) → is_below t u ≡ true → list_all (is_below u) texts ≡ true → list_all (is_below t) texts ≡ true
all-below t u [] h k = refl
all-below t u (v ∷ texts) h k =
    let p = and_parts (is_below u v) (list_all (is_below u) texts) k in
    rw (below-trans t u v h p.0) (all-below t u texts h p.1)

-- the first of texts in order comes before each other one
rises-parts : (t : List ℕ) (texts : List (List ℕ)) → rises (t ∷ texts) ≡ true → (list_all (is_below t) texts ≡ true) × (rises texts ≡ true)
unfolding rises
rises-parts t [] h = (refl, refl)
rises-parts t (u ∷ texts) h =
    let p = and_parts (is_below t u) (rises (u ∷ texts)) h in
    let q = rises-parts u texts p.1 in
    (rw p.0 (all-below t u texts p.0 q.0), p.1)

-- ---- the first unknown key

abbrev unknown : List (List ℕ) → List ℕ → Bool
unknown known key = not (is_known known key)

lesser-first : (t : List ℕ) (o : Option (List ℕ)) → option_map_or (is_below t) o true ≡ true → option_map_or (lesser t) o t ≡ t
lesser-first t None h = refl
lesser-first t (Some u) h = rw (below-back t u h) refl

lesser-below : (t u : List ℕ) (o : Option (List ℕ)) → is_below t u ≡ true → option_map_or (is_below t) o true ≡ true → is_below t (option_map_or (lesser u) o u) ≡ true
lesser-below t u None h k = h
lesser-below t u (Some v) h k = elim (cases_Bool (is_below v u)) [
  | inl less ↦ rw less k
  | inr other ↦ rw other h
]

least-below : (t : List ℕ) (known keys : List (List ℕ)) → list_all (is_below t) keys ≡ true → option_map_or (is_below t) (least (filter (unknown known) keys)) true ≡ true
least-below t known [] h = refl
least-below t known (key ∷ keys) h =
    let p = and_parts (is_below t key) (list_all (is_below t) keys) h in
    let rest = least-below t known keys p.1 in
    elim (cases_Bool (is_known known key)) [
      | inl yes1 ↦ rw yes1 rest
      | inr other ↦ rw other (lesser-below t key (least (filter (unknown known) keys)) p.0 rest)
    ]

first-unknown : (known keys : List (List ℕ)) (key : List ℕ) → is_known known key ≡ false → list_all (is_below key) keys ≡ true → least (filter (unknown known) (key ∷ keys)) ≡ Some key
first-unknown known keys key other above = rw other (ap Some (lesser-first key (least (filter (unknown known) keys)) (least-below key known keys above)))

first-known : (known keys : List (List ℕ)) (key : List ℕ) → is_known known key ≡ true → filter (unknown known) (key ∷ keys) ≡ filter (unknown known) keys
first-known known keys key is = rw is refl

-- ---- the known keys behind one

-- a known key and those behind it
record Behind (key : List ℕ) (ks rest : List (List ℕ)) : Type 0 where
  pub known : is_known ks key ≡ true
  pub order : rises rest ≡ true
  pub same : (l : List ℕ) → is_below key l ≡ true → is_known ks l ≡ is_known rest l

known-below : (j key : List ℕ) (ks : List (List ℕ)) → list_all (is_below j) ks ≡ true → is_known ks key ≡ true → is_below j key ≡ true
known-below j key [] h k = absurd cc
known-below j key (l ∷ ks) h k =
    let p = and_parts (is_below j l) (list_all (is_below j) ks) h in
    elim (cases_Bool (bytes_eq key l)) [
      | inl same ↦ rw ((bytes_eq-Decides key l).0 same) p.0
      | inr other ↦ known-below j key ks p.1 (rw other at k)
    ]

behind : (key : List ℕ) (ks rest : List (List ℕ)) → rises ks ≡ true → after key ks ≡ Some rest → Behind key ks rest
unfolding after
behind key [] rest order h = absurd cc
behind key (j ∷ ks) rest order h =
    let o = rises-parts j ks order in
    elim (cases_Bool (bytes_eq j key)) [
      | inl same ↦
          let g : Some ks ≡ Some rest = (rw same at h) in
          let e : ks ≡ rest = cc in
          let is : j ≡ key = (bytes_eq-Decides j key).0 same in
          record {
            known = rw ((bytes_eq-Decides key j).1 (sym is)) refl;
            order = sym (ap rises e) ∙ o.1;
            same = λ l above. rw (below-apart j l (ap (λ t. is_below t l) is ∙ above)) (ap (λ t. is_known t l) e);
          }
      | inr other ↦
          let b = behind key ks rest o.1 (rw other at h) in
          let below = known-below j key ks o.0 b.known in
          record {
            known = rw (apart key j other) b.known;
            order = b.order;
            same = λ l above. rw (below-apart j l (below-trans j key l below above)) (b.same l above);
          }
    ]

lacks : (key : List ℕ) (ks : List (List ℕ)) → after key ks ≡ None → is_known ks key ≡ false
unfolding after
lacks key [] h = refl
lacks key (j ∷ ks) h = elim (cases_Bool (bytes_eq j key)) [
  | inl same ↦ absurd (let g = (rw same at h) in cc)
  | inr other ↦ rw (apart key j other) (lacks key ks (rw other at h))
]

same-filter : (key : List ℕ) (ks rest keys : List (List ℕ)) → ((l : List ℕ) → is_below key l ≡ true → is_known ks l ≡ is_known rest l) → list_all (is_below key) keys ≡ true
    → filter (unknown ks) keys ≡ filter (unknown rest) keys
same-filter key ks rest [] same h = refl
same-filter key ks rest (l ∷ keys) same h =
    let p = and_parts (is_below key l) (list_all (is_below key) keys) h in
    rw (same l p.0, same-filter key ks rest keys same p.1) refl

least-step : (key : List ℕ) (ms : Members) (known : List (List ℕ)) (o : Option (List (List ℕ))) → rises known ≡ true → list_all (is_below key) (keys_of ms) ≡ true → after key known ≡ o
    → ((rest : List (List ℕ)) → rises rest ≡ true → unknown_in rest ms ≡ least_unknown rest ms)
    → option_map_or (λ rest. unknown_in rest ms) o (Some key) ≡ least (filter (unknown known) (key ∷ keys_of ms))
least-step key ms known None order above is more = sym (first-unknown known (keys_of ms) key (lacks key known is) above)
least-step key ms known (Some rest) order above is more =
    let b = behind key known rest order is in
    let filtered = first-known known (keys_of ms) key b.known ∙ same-filter key known rest (keys_of ms) b.same above in
    more rest b.order ∙ sym (ap least filtered)

-- where both lists are in order, the first unknown key is the least
pub first-least : (ms : Members) (known : List (List ℕ)) → rises known ≡ true → rises (keys_of ms) ≡ true → unknown_in known ms ≡ least_unknown known ms
unfolding unknown_in
first-least no_members known order sorted = refl
first-least (member key d ms) known order sorted =
    let s = rises-parts key (keys_of ms) sorted in
    least-step key ms known (after key known) order s.0 refl (λ rest risen. first-least ms rest risen s.1)
