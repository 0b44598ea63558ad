-- Entries, markers and references that are gathered one after the other.
use Rattle.std.proofs.Common.{◌≡◌, ◌≢◌, ◌∙◌, ◌⊎◌, inl, inr, ℕ, ◌+◌, ◌<◌, ◌≤◌, List, [], ◌∷◌, ◌++◌, Contains, length, map, get_or, take, arith, refl, ap, sym, subst}
use Rattle.std.proofs.lemmas.List.{take_all, take_more, map-append}
use Rattle.std.proofs.lemmas.List.Elements.{Contains-append_cases, Contains-append_left, Contains-append_right, Contains-get_or, Contains-push, Contains-push_cases}
use Rattle.std.proofs.lemmas.List.Quantifiers.{all_pairs_push}
use Rattle.std.proofs.lemmas.List.Sorted.{Contains-permutation, IsPermutation-sym}
use Rattle.std.specs.List.{AllPairs}
use Rattle.std.specs.List.Sorted.{IsPermutation}
use Rattle.std.specs.Prelude.{◌↔◌}
use Rattle.lists.proofs.Members.{Contains-here, Contains-map, Contains-map_of}
use Rattle.pylock.specs.Packages.{EntryParts}
use Rattle.pylock.specs.declared.joint.Reference.{Reference}
use Rattle.states.proofs.PartFacts.{All-member}
use Rattle.exports.specs.Tied.JointPackages.{AreMarkersWith, AreOn, HasEntry, IsMarkerWith, Refers}
use Rattle.exports.specs.declared.cover.Cover.{Cover}
use Rattle.exports.proofs.EachOf.{each-push}

-- ---- one item more

pub contains-more : {X : Type 0} (xs : List X) (i : ℕ) (x e : X) → i < length xs → x ≡ get_or xs i x → Contains (take (i + 1) xs) e → Contains (take i xs) e ⊎ (x ≡ e)
contains-more xs i x e within is h = elim (Contains-push_cases (take i xs) (get_or xs i x) e (subst (λ (ys : List _). Contains ys e) (take_more xs i x within) h)) [
  | inl before ↦ inl before
  | inr here ↦ inr (is ∙ here)
]

pub more-contains : {X : Type 0} (xs : List X) (i : ℕ) (x e : X) → i < length xs → x ≡ get_or xs i x → Contains (take i xs) e ⊎ (x ≡ e) → Contains (take (i + 1) xs) e
more-contains xs i x e within is (inl before) =
    subst (λ (ys : List _). Contains ys e) (sym (take_more xs i x within)) (Contains-append_left (take i xs) (get_or xs i x ∷ []) e before)
more-contains xs i x e within is (inr here) =
    subst (λ (ys : List _). Contains ys e) (sym (take_more xs i x within))
    (subst (λ (y : _). Contains (take i xs ++ get_or xs i x ∷ []) y) (sym is ∙ here) (Contains-push (take i xs) (get_or xs i x)))

pub contains-whole : {X : Type 0} (xs : List X) (i : ℕ) (e : X) → length xs ≤ i → Contains (take i xs) e → Contains xs e
contains-whole xs i e past h = subst (λ (ys : List _). Contains ys e) (take_all i xs past) h

pub whole-contains : {X : Type 0} (xs : List X) (i : ℕ) (e : X) → length xs ≤ i → Contains xs e → Contains (take i xs) e
whole-contains xs i e past h = subst (λ (ys : List _). Contains ys e) (sym (take_all i xs past)) h

-- ---- each once

abbrev pub AreOnce : List EntryParts → List EntryParts → Type 0
AreOnce entries once = AllPairs (λ e f. e ≢ f) once × ((e : EntryParts) → Contains entries e ↔ Contains once e)

pub once-more : (entries : List EntryParts) (i : ℕ) (x : EntryParts) (once : List EntryParts) → i < length entries → x ≡ get_or entries i x → AreOnce (take i entries) once → (Contains once x → ⊥)
    → AreOnce (take (i + 1) entries) (once ++ x ∷ [])
once-more entries i x once within is h new = (
  all_pairs_push (λ e f. e ≢ f) once x h.0 (λ k d inside same. new (subst (Contains once) same (Contains-get_or once k d inside))),
  λ e. (
    λ there. elim (contains-more entries i x e within is there) [
      | inl before ↦ Contains-append_left once (x ∷ []) e ((h.1 e).0 before)
      | inr here ↦ subst (Contains (once ++ x ∷ [])) here (Contains-push once x)
    ],
    λ there. elim (Contains-push_cases once x e there) [
      | inl before ↦ more-contains entries i x e within is (inl ((h.1 e).1 before))
      | inr here ↦ more-contains entries i x e within is (inr here)
    ],
  ),
)

pub once-same : (entries : List EntryParts) (i : ℕ) (x : EntryParts) (once : List EntryParts) → i < length entries → x ≡ get_or entries i x → AreOnce (take i entries) once → Contains once x
    → AreOnce (take (i + 1) entries) once
once-same entries i x once within is h there_already = (
  h.0,
  λ e. (
    λ there. elim (contains-more entries i x e within is there) [
      | inl before ↦ (h.1 e).0 before
      | inr here ↦ subst (Contains once) here there_already
    ],
    λ there. more-contains entries i x e within is (inl ((h.1 e).1 there)),
  ),
)

pub once-whole : (entries : List EntryParts) (i : ℕ) (once : List EntryParts) → length entries ≤ i → AreOnce (take i entries) once → AreOnce entries once
once-whole entries i once past h = (h.0, λ e. (λ there. (h.1 e).0 (whole-contains entries i e past there), λ there. contains-whole entries i e past ((h.1 e).1 there)))

pub moved-once : (all moved once : List EntryParts) → IsPermutation all moved → ((e : EntryParts) → Contains moved e ↔ Contains once e) → (e : EntryParts) → Contains all e ↔ Contains once e
moved-once all moved once p h e = (
  λ there. (h e).0 (Contains-permutation all moved e p there),
  λ there. Contains-permutation moved all e (IsPermutation-sym all moved p) ((h e).1 there),
)

-- ---- markers

marker-later : (covers : List Cover) (i : ℕ) (cover : Cover) (e : EntryParts) (text : List ℕ) → i < length covers → cover ≡ get_or covers i cover → IsMarkerWith (take i covers) e text
    → IsMarkerWith (take (i + 1) covers) e text
marker-later covers i cover e text within is m = record { cover = m.cover; there = more-contains covers i cover m.cover within is (inl m.there); has = m.has; marker = m.marker }

pub marker-more : (covers : List Cover) (i : ℕ) (cover : Cover) (e : EntryParts) (texts : List (List ℕ)) → i < length covers → cover ≡ get_or covers i cover → AreMarkersWith (take i covers) e texts
    → HasEntry cover e → AreMarkersWith (take (i + 1) covers) e (texts ++ cover.marker ∷ [])
marker-more covers i cover e texts within is h has text = (
  λ there. elim (Contains-push_cases texts cover.marker text there) [
    | inl before ↦ marker-later covers i cover e text within is ((h text).0 before)
    | inr here ↦ record { cover = cover; there = more-contains covers i cover cover within is (inr refl); has = has; marker = here }
  ],
  λ m. elim (contains-more covers i cover m.cover within is m.there) [
    | inl before ↦ Contains-append_left texts (cover.marker ∷ []) text ((h text).1 (record { cover = m.cover; there = before; has = m.has; marker = m.marker }))
    | inr here ↦ subst (Contains (texts ++ cover.marker ∷ [])) (ap (λ (c : Cover). c.marker) here ∙ m.marker) (Contains-push texts cover.marker)
  ],
)

pub marker-same : (covers : List Cover) (i : ℕ) (cover : Cover) (e : EntryParts) (texts : List (List ℕ)) → i < length covers → cover ≡ get_or covers i cover → AreMarkersWith (take i covers) e texts
    → (HasEntry cover e → ⊥) → AreMarkersWith (take (i + 1) covers) e texts
marker-same covers i cover e texts within is h lacks text = (
  λ there. marker-later covers i cover e text within is ((h text).0 there),
  λ m. elim (contains-more covers i cover m.cover within is m.there) [
    | inl before ↦ (h text).1 (record { cover = m.cover; there = before; has = m.has; marker = m.marker })
    | inr here ↦ absurd (lacks (subst (λ (c : Cover). HasEntry c e) (sym here) m.has))
  ],
)

pub markers-whole : (covers : List Cover) (i : ℕ) (e : EntryParts) (texts : List (List ℕ)) → length covers ≤ i → AreMarkersWith (take i covers) e texts → AreMarkersWith covers e texts
markers-whole covers i e texts past h = subst (λ (cs : List Cover). AreMarkersWith cs e texts) (take_all i covers past) h

-- ---- references

pub refers-none : (name : List ℕ) (needs : List Reference) → Refers name needs needs
refers-none name needs = record { more = []; are = sym (nothing-more needs); named = tt }
  where
    nothing-more : (rs : List Reference) → rs ++ [] ≡ rs
    nothing-more [] = refl
    nothing-more (r ∷ rs) = ap (λ (more : List Reference). r ∷ more) (nothing-more rs)

pub refers-more : (name : List ℕ) (old new : List Reference) (r : Reference) → Refers name old new → r.name ≡ name → Refers name old (new ++ r ∷ [])
refers-more name old new r k named = record {
  more = k.more ++ r ∷ [];
  are = ap (λ (rs : List Reference). rs ++ r ∷ []) k.are ∙ joined-thrice old k.more (r ∷ []);
  named = each-push (λ (x : Reference). x.name ≡ name) k.more r k.named named;
}
  where
    joined-thrice : (xs ys zs : List Reference) → (xs ++ ys) ++ zs ≡ xs ++ (ys ++ zs)
    joined-thrice [] ys zs = refl
    joined-thrice (x ∷ xs) ys zs = ap (λ (more : List Reference). x ∷ more) (joined-thrice xs ys zs)

abbrev named_of : List Reference → List (List ℕ)
named_of needs = map (λ (r : Reference). r.name) needs

some-more : (old more : List Reference) → length old < length (old ++ more) → (r : Reference) × Contains more r
some-more [] [] h = absurd (omega arith)
some-more [] (r ∷ rs) h = (r, Contains-here r rs)
some-more (x ∷ xs) more h = some-more xs more (omega arith)

pub names-more : (names : List (List ℕ)) (i : ℕ) (name : List ℕ) (old new : List Reference) → i < length names → name ≡ get_or names i name → AreOn (take i names) old → Refers name old new
    → length old < length new → AreOn (take (i + 1) names) new
names-more names i name old new within is h k grown n =
    let split : named_of new ≡ named_of old ++ named_of k.more = ap named_of k.are ∙ map-append (λ (r : Reference). r.name) old k.more in (
      λ there. elim (Contains-append_cases (named_of old) (named_of k.more) n (subst (λ (ns : List (List ℕ)). Contains ns n) split there)) [
        | inl before ↦ more-contains names i name n within is (inl ((h n).0 before))
        | inr later ↦
            (let r = Contains-map (λ (x : Reference). x.name) k.more n later in
            more-contains names i name n within is (inr (sym (All-member (λ (x : Reference). x.name ≡ name) k.more r.0 k.named r.1) ∙ r.2)))
      ],
      λ there. subst (λ (ns : List (List ℕ)). Contains ns n) (sym split) (elim (contains-more names i name n within is there) [
        | inl before ↦ Contains-append_left (named_of old) (named_of k.more) n ((h n).1 before)
        | inr here ↦
            (let r = some-more old k.more (subst (λ (rs : List Reference). length old < length rs) k.are grown) in
            Contains-append_right (named_of old) (named_of k.more) n
            (subst (Contains (named_of k.more)) (All-member (λ (x : Reference). x.name ≡ name) k.more r.0 k.named r.1 ∙ here) (Contains-map_of (λ (x : Reference). x.name) k.more r.0 r.1)))
      ]),
    )

pub names-whole : (names : List (List ℕ)) (i : ℕ) (needs : List Reference) → length names ≤ i → AreOn (take i names) needs → AreOn names needs
names-whole names i needs past h = subst (λ (ns : List (List ℕ)). AreOn ns needs) (take_all i names past) h
