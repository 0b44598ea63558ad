-- What stands under one name when files are written and removed.
use Rattle.std.proofs.Common.{◌≡◌, ◌⊎◌, ◌||◌, ℕ, zero, suc, Bool, true, false, List, [], ◌∷◌, Some, None, take, if◌then◌else◌, refl, ap, sym, ◌∙◌, inl, inr}
use Rattle.std.proofs.lemmas.Bool.{cases_Bool}
use Rattle.std.proofs.lemmas.Slice.Eq.{bytes_eq-Decides}
use Rattle.std.specs.List.{AllByRecursion}
use Rattle.std.specs.Str.{bytes_eq}
use Rattle.folder.proofs.Names.{with_all-miss, without_all-at}
use Rattle.folder.specs.Held.{Files, is_among, with_file}
use Rattle.folder.specs.Saves.{AreApart, NewFileParts, names_of, with_all, without_all}

-- whatever is written under this name are these bytes
abbrev pub WritesOnly : List ℕ → List ℕ → List NewFileParts → Type 0
WritesOnly name bytes writes = AllByRecursion (λ w. bytes_eq w.name name ≡ true → w.bytes ≡ bytes) writes

module _ (name bytes : List ℕ) where
  written : (w : NewFileParts) (files : Files) → (bytes_eq w.name name ≡ true → w.bytes ≡ bytes) → bytes_eq w.name name ≡ true → with_file files w.name (Some w.bytes) name ≡ Some bytes
  written w files only is = ap (λ (b : Bool). if b then Some w.bytes else files name) is ∙ ap (λ (x : List ℕ). Some x) (only is)

  -- there stands what stood, or these bytes
  pub written-or_not : (writes : List NewFileParts) (files : Files) → WritesOnly name bytes writes → (with_all writes files name ≡ files name) ⊎ (with_all writes files name ≡ Some bytes)
  written-or_not [] files only = inl refl
  written-or_not (w ∷ writes) files only = elim (written-or_not writes (with_file files w.name (Some w.bytes)) only.1) [
    | inr is ↦ inr is
    | inl same ↦ elim (cases_Bool (bytes_eq w.name name)) [
      | inl is ↦ inr (same ∙ written w files only.0 is)
      | inr other ↦ inl (same ∙ ap (λ (b : Bool). if b then Some w.bytes else files name) other)
    ]
  ]

  -- where something is written under this name, there stand these bytes
  pub written-among : (writes : List NewFileParts) (files : Files) → WritesOnly name bytes writes → is_among (names_of writes) name ≡ true → with_all writes files name ≡ Some bytes
  written-among [] files only among = absurd (cc among)
  written-among (w ∷ writes) files only among = elim (cases_Bool (is_among (names_of writes) name)) [
    | inl later ↦ written-among writes (with_file files w.name (Some w.bytes)) only.1 later
    | inr none ↦ with_all-miss writes (with_file files w.name (Some w.bytes)) name none ∙ written w files only.0 (first (bytes_eq w.name name) (is_among (names_of writes) name) none among)
  ]
    where
      first : (a b : Bool) → b ≡ false → a || b ≡ true → a ≡ true
      first true b none either = refl
      first false b none either = absurd (cc (none, either))

-- there stands nothing, or what stood
pub removed-or_not : (names : List (List ℕ)) (files : Files) (name : List ℕ) → (without_all names files name ≡ None) ⊎ (without_all names files name ≡ files name)
removed-or_not names files name = elim (cases_Bool (is_among names name)) [
  | inl is ↦ inl (without_all-at names files name ∙ ap (λ (b : Bool). if b then None else files name) is)
  | inr other ↦ inr (without_all-at names files name ∙ ap (λ (b : Bool). if b then None else files name) other)
]

-- the first of none are none
pub take-none : {X : Type 0} (none : List X) (n : ℕ) → none ≡ [] → take n none ≡ []
take-none none zero is = refl
take-none none (suc n) is = ap (λ xs. take (suc n) xs) is

-- ---- the first of some files

-- what is written doesn't rest on what stood there
pub whatever-stood : (writes : List NewFileParts) (b c : Files) (x : List ℕ) → is_among (names_of writes) x ≡ true → with_all writes b x ≡ with_all writes c x
whatever-stood [] b c x among = absurd (cc among)
whatever-stood (w ∷ writes) b c x among = elim (cases_Bool (is_among (names_of writes) x)) [
  | inl later ↦ whatever-stood writes (with_file b w.name (Some w.bytes)) (with_file c w.name (Some w.bytes)) x later
  | inr last ↦ with_all-miss writes (with_file b w.name (Some w.bytes)) x last ∙ here b (this last) ∙ sym (here c (this last)) ∙ sym (with_all-miss writes (with_file c w.name (Some w.bytes)) x last)
]
  where
    here : (files : Files) → bytes_eq w.name x ≡ true → with_file files w.name (Some w.bytes) x ≡ Some w.bytes
    here files is = ap (λ (b : Bool). if b then Some w.bytes else files x) is

    only : (a b : Bool) → b ≡ false → a || b ≡ true → a ≡ true
    only true b none either = refl
    only false b none either = absurd (cc (none, either))

    this : is_among (names_of writes) x ≡ false → bytes_eq w.name x ≡ true
    this last = only (bytes_eq w.name x) (is_among (names_of writes) x) last among

-- the first of some files have what all of them have
pub first-has : (writes : List NewFileParts) (n : ℕ) (b : Files) (x : List ℕ) → AreApart writes → is_among (names_of (take n writes)) x ≡ true → with_all (take n writes) b x ≡ with_all writes b x
first-has [] zero b x apart among = refl
first-has [] (suc n) b x apart among = refl
first-has (w ∷ writes) zero b x apart among = absurd (cc among)
first-has (w ∷ writes) (suc n) b x apart among = elim (cases_Bool (is_among (names_of (take n writes)) x)) [
  | inl later ↦ first-has writes n (with_file b w.name (Some w.bytes)) x apart.1 later
  | inr last ↦ with_all-miss (take n writes) (with_file b w.name (Some w.bytes)) x last ∙ sym (with_all-miss writes (with_file b w.name (Some w.bytes)) x (none last))
]
  where
    only : (a b : Bool) → b ≡ false → a || b ≡ true → a ≡ true
    only true b none either = refl
    only false b none either = absurd (cc (none, either))

    none : is_among (names_of (take n writes)) x ≡ false → is_among (names_of writes) x ≡ false
    none last =
        let is : w.name ≡ x = (bytes_eq-Decides w.name x).0 (only (bytes_eq w.name x) (is_among (names_of (take n writes)) x) last among) in
        ap (λ (y : List ℕ). is_among (names_of writes) y) (sym is) ∙ apart.0
