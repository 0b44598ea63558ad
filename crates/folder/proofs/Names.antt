-- Files by name, and what is the same but beside some names.
use Rattle.std.proofs.Common.{◌≡◌, ◌⊎◌, ◌<◌, ◌||◌, ℕ, zero, suc, Bool, true, false, List, [], ◌∷◌, Option, Some, None, Result, Ok, Err, OnErr, get_or, length, take, if◌then◌else◌, refl, sym, subst, ap, ◌∙◌, inl, inr, arith, true≢false}
use Rattle.std.proofs.lemmas.Bool.{cases_Bool}
use Rattle.std.proofs.lemmas.Slice.Eq.{bytes_eq-Decides}
use Rattle.std.specs.Str.{bytes_eq}
use Rattle.folder.specs.Held.{Files, Held, IsCleared, IsSameBut, cleared, is_among, staged, with_file}
use Rattle.folder.specs.Saves.{AreApart, NewFileParts, names_of, with_all, without_all}

-- ---- tests

-- what holds whatever the answer, holds at a fault
pub at_fault : {T E : Type 0} (result : Result T E) (A : Type 0) → A → OnErr result A
at_fault (Ok x) A a = tt
at_fault (Err e) A a = a

or_true : (a b : Bool) → b ≡ true → a || b ≡ true
or_true true b is = refl
or_true false b is = is

pub or_left_false : (a b : Bool) → a || b ≡ false → a ≡ false
or_left_false true b is = absurd (cc is)
or_left_false false b is = refl

pub or_right_false : (a b : Bool) → a || b ≡ false → b ≡ false
or_right_false true b is = absurd (cc is)
or_right_false false b is = is

pub same_name : (name : List ℕ) → bytes_eq name name ≡ true
same_name name = (bytes_eq-Decides name name).1 refl

-- names that differ do so from either side
pub other_name : (a b : List ℕ) → bytes_eq a b ≡ false → bytes_eq b a ≡ false
other_name a b differ = elim (cases_Bool (bytes_eq b a)) [
  | inl same ↦ absurd (true≢false (sym (same_name a) ∙ ap (λ (x : List ℕ). bytes_eq a x) (sym ((bytes_eq-Decides b a).0 same)) ∙ differ))
  | inr other ↦ other
]

-- ---- names of files

pub among_at : (files : List NewFileParts) (i : ℕ) (f : NewFileParts) → i < length files → f ≡ get_or files i f → is_among (names_of files) f.name ≡ true
among_at [] i f within is = absurd (omega arith)
among_at (g ∷ files) zero f within is = ap (λ (n : List ℕ). bytes_eq n f.name || is_among (names_of files) f.name) (ap (λ (x : NewFileParts). x.name) (sym is)) ∙ ap (λ (b : Bool). b || is_among (names_of files) f.name) (same_name f.name)
among_at (g ∷ files) (suc i) f within is = or_true (bytes_eq g.name f.name) (is_among (names_of files) f.name) (among_at files i f (omega arith) is)

-- what is no name of some files is no name of the first of them
pub not_among_first : (files : List NewFileParts) (n : ℕ) (name : List ℕ) → is_among (names_of files) name ≡ false → is_among (names_of (take n files)) name ≡ false
not_among_first [] zero name other = refl
not_among_first [] (suc n) name other = refl
not_among_first (f ∷ files) zero name other = refl
not_among_first (f ∷ files) (suc n) name other =
    ap (λ (b : Bool). b || is_among (names_of (take n files)) name) (or_left_false (bytes_eq f.name name) (is_among (names_of files) name) other)
    ∙ not_among_first files n name (or_right_false (bytes_eq f.name name) (is_among (names_of files) name) other)

pub apart_first : (files : List NewFileParts) (n : ℕ) → AreApart files → AreApart (take n files)
apart_first [] zero apart = tt
apart_first [] (suc n) apart = tt
apart_first (f ∷ files) zero apart = tt
apart_first (f ∷ files) (suc n) apart = (not_among_first files n f.name apart.0, apart_first files n apart.1)

-- ---- the same but beside names

pub same_but-refl : (names : List (List ℕ)) (h : Held) → IsSameBut names h h
same_but-refl names h = record { placed = refl; beside = λ name other. refl }

pub same_but-both : (names : List (List ℕ)) (h k m : Held) → IsSameBut names h k → IsSameBut names k m → IsSameBut names h m
same_but-both names h k m a b = record { placed = b.placed ∙ a.placed; beside = λ name other. b.beside name other ∙ a.beside name other }

-- beside one of some names
pub same_but-one : (names : List (List ℕ)) (name : List ℕ) (h k : Held) → is_among names name ≡ true → IsSameBut (name ∷ []) h k → IsSameBut names h k
same_but-one names name h k is one = record { placed = one.placed; beside = λ x other. one.beside x (differs x other) }
  where
    differs : (x : List ℕ) → is_among names x ≡ false → bytes_eq name x || false ≡ false
    differs x other = elim (cases_Bool (bytes_eq name x)) [
      | inl same ↦ absurd (true≢false (sym is ∙ ap (λ (n : List ℕ). is_among names n) ((bytes_eq-Decides name x).0 same) ∙ other))
      | inr differ ↦ ap (λ (b : Bool). b || false) differ
    ]

pub with_other : (files : Files) (name : List ℕ) (bytes : Option (List ℕ)) (x : List ℕ) → bytes_eq name x ≡ false → with_file files name bytes x ≡ files x
with_other files name bytes x differ = ap (λ (b : Bool). if b then bytes else files x) differ

pub with_this : (files : Files) (name : List ℕ) (bytes : Option (List ℕ)) → with_file files name bytes name ≡ bytes
with_this files name bytes = ap (λ (b : Bool). if b then bytes else files name) (same_name name)

pub same_but-staged : (name bytes : List ℕ) (h : Held) → IsSameBut (name ∷ []) h (staged name bytes h)
same_but-staged name bytes h = record { placed = refl; beside = λ x other. with_other h.beside name (Some bytes) x (or_left_false (bytes_eq name x) false other) }

pub same_but-cleared : (name : List ℕ) (h : Held) → IsSameBut (name ∷ []) h (cleared name h)
same_but-cleared name h = record { placed = refl; beside = λ x other. with_other h.beside name None x (or_left_false (bytes_eq name x) false other) }

-- what is removed from beside a place, or not, changes nothing but that
pub same_but-either : (name : List ℕ) (h k : Held) → (k ≡ h) ⊎ (k ≡ cleared name h) → IsSameBut (name ∷ []) h k
same_but-either name h k (inl same) = subst (λ (x : Held). IsSameBut (name ∷ []) h x) (sym same) (same_but-refl (name ∷ []) h)
same_but-either name h k (inr done) = subst (λ (x : Held). IsSameBut (name ∷ []) h x) (sym done) (same_but-cleared name h)

-- ---- what is removed from beside the places

pub cleared-refl : (names : List (List ℕ)) (h : Held) → IsCleared names h h
cleared-refl names h = record { placed = refl; beside = λ name. inl refl }

pub cleared-both : (names : List (List ℕ)) (h k m : Held) → IsCleared names h k → IsCleared names k m → IsCleared names h m
cleared-both names h k m a b = record {
  placed = b.placed ∙ a.placed;
  beside = λ name. elim (b.beside name) [
    | inl same ↦ elim (a.beside name) [ inl is ↦ inl (same ∙ is) | inr gone ↦ inr (gone.0, same ∙ gone.1) ]
    | inr gone ↦ inr gone
  ];
}

cleared-this : (names : List (List ℕ)) (name : List ℕ) (h : Held) → is_among names name ≡ true → IsCleared names h (cleared name h)
cleared-this names name h is = record { placed = refl; beside = at }
  where
    at : (x : List ℕ) → (with_file h.beside name None x ≡ h.beside x) ⊎ ((is_among names x ≡ true) × (with_file h.beside name None x ≡ None))
    at x = elim (cases_Bool (bytes_eq name x)) [
      | inl same ↦ inr (ap (λ (n : List ℕ). is_among names n) (sym ((bytes_eq-Decides name x).0 same)) ∙ is, ap (λ (b : Bool). if b then None else h.beside x) same)
      | inr differ ↦ inl (with_other h.beside name None x differ)
    ]

pub cleared-either : (names : List (List ℕ)) (name : List ℕ) (h k : Held) → is_among names name ≡ true → (k ≡ h) ⊎ (k ≡ cleared name h) → IsCleared names h k
cleared-either names name h k is (inl same) = subst (λ (x : Held). IsCleared names h x) (sym same) (cleared-refl names h)
cleared-either names name h k is (inr done) = subst (λ (x : Held). IsCleared names h x) (sym done) (cleared-this names name h is)

-- ---- many files at once

pub with_all-miss : (files : List NewFileParts) (b : Files) (x : List ℕ) → is_among (names_of files) x ≡ false → with_all files b x ≡ b x
with_all-miss [] b x other = refl
with_all-miss (f ∷ files) b x other =
    with_all-miss files (with_file b f.name (Some f.bytes)) x (or_right_false (bytes_eq f.name x) (is_among (names_of files) x) other)
    ∙ with_other b f.name (Some f.bytes) x (or_left_false (bytes_eq f.name x) (is_among (names_of files) x) other)

turned : (a b : Bool) (y : Option (List ℕ)) → (if b then None else (if a then None else y)) ≡ (if (a || b) then None else y)
turned true true y = refl
turned true false y = refl
turned false true y = refl
turned false false y = refl

pub without_all-at : (names : List (List ℕ)) (b : Files) (x : List ℕ) → without_all names b x ≡ (if is_among names x then None else b x)
without_all-at [] b x = refl
without_all-at (n ∷ names) b x = without_all-at names (with_file b n None) x ∙ turned (bytes_eq n x) (is_among names x) (b x)

-- what was written is gone with its names
pub without-written : (files : List NewFileParts) (b : Files) → without_all (names_of files) (with_all files b) ≡ without_all (names_of files) b
without-written files b i x = at x i
  where
    at : (x : List ℕ) → without_all (names_of files) (with_all files b) x ≡ without_all (names_of files) b x
    at x = without_all-at (names_of files) (with_all files b) x ∙ elim (cases_Bool (is_among (names_of files) x)) [
      | inl is ↦ ap (λ (t : Bool). if t then None else with_all files b x) is ∙ ap (λ (t : Bool). if t then None else b x) (sym is)
      | inr other ↦ ap (λ (y : Option (List ℕ)). if is_among (names_of files) x then None else y) (with_all-miss files b x other)
    ] ∙ sym (without_all-at (names_of files) b x)
