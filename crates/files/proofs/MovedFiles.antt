-- Files that are removed, and then others that are put from beside into their places, in turn.
use Rattle.std.proofs.Common.{◌≡◌, ◌∙◌, ◌||◌, ℕ, zero, suc, Bool, true, false, List, [], ◌∷◌, Option, Some, None, IsSome, ap, is_some, take, if◌then◌else◌, inl, inr, sym, true≢false, refl}
use Rattle.std.proofs.lemmas.Bool.{cases_Bool}
use Rattle.std.proofs.lemmas.Slice.Eq.{bytes_eq-Decides}
use Rattle.std.specs.Prelude.{◌&&◌, not}
use Rattle.std.specs.Str.{bytes_eq}
use Rattle.folder.proofs.Names.{or_left_false, or_right_false, with_other, without_all-at}
use Rattle.folder.specs.Held.{Files, Held, in_turn, is_among, removed, renamed, with_file}
use Rattle.folder.specs.Repairs.{AreAmong, AreBeside}
use Rattle.folder.specs.Saves.{without_all}
use Rattle.inputs.specs.FileNames.{name_of}
use Rattle.inputs.specs.declared.input_files.InputFile.{InputFile}
use Rattle.files.specs.Places.{standing}

-- ---- the first of some names

either-true : (a b : Bool) → a ≡ true → a || b ≡ true
either-true true b is = refl
either-true false b is = absurd (true≢false (sym is))

other-true : (a b : Bool) → a ≡ false → a || b ≡ true → b ≡ true
other-true true b differ is = absurd (true≢false differ)
other-true false b differ is = is

among-all : (names : List (List ℕ)) (n : ℕ) (x : List ℕ) → is_among (take n names) x ≡ true → is_among names x ≡ true
among-all [] zero x is = is
among-all [] (suc n) x is = is
among-all (y ∷ names) zero x is = absurd (true≢false (sym is))
among-all (y ∷ names) (suc n) x is = elim (cases_Bool (bytes_eq y x)) [
  | inl same ↦ either-true (bytes_eq y x) (is_among names x) same
  | inr differ ↦ ap (λ (b : Bool). b || is_among names x) differ ∙ among-all names n x (other-true (bytes_eq y x) (is_among (take n names) x) differ is)
]

-- what is among the first of some names is among those where all are
pub first-among : (some names : List (List ℕ)) (n : ℕ) → AreAmong some names → AreAmong (take n some) names
first-among some names n all x is = all x (among-all some n x is)

-- the first of what stands beside its places does
pub first-beside : (some : List (List ℕ)) (n : ℕ) (h : Held) → AreBeside some h → AreBeside (take n some) h
first-beside [] zero h all = tt
first-beside [] (suc n) h all = tt
first-beside (x ∷ some) zero h all = tt
first-beside (x ∷ some) (suc n) h all = (all.0, first-beside some n (renamed x h) all.1)

-- ---- removed

removed-is : (names : List (List ℕ)) (h : Held) → in_turn removed names h ≡ record { placed = without_all names h.placed; beside = h.beside }
removed-is [] h = refl
removed-is (name ∷ names) h = removed-is names (removed name h)

beside-as : (some : List (List ℕ)) (h k : Held) → k.beside ≡ h.beside → AreBeside some h → AreBeside some k
beside-as [] h k same all = tt
beside-as (x ∷ some) h k same all = (ap (λ (b : Files). is_some (b x)) same ∙ all.0, beside-as some (renamed x h) (renamed x k) (λ i. with_file (same i) x None) all.1)

beside-removed : (some gone : List (List ℕ)) (h : Held) → AreBeside some h → AreBeside some (in_turn removed gone h)
beside-removed some gone h all = beside-as some h (in_turn removed gone h) (ap (λ (k : Held). k.beside) (removed-is gone h)) all

-- ---- put from beside into their places

placed-other : (names : List (List ℕ)) (k : Held) (x : List ℕ) → is_among names x ≡ false → (in_turn renamed names k).placed x ≡ k.placed x
placed-other [] k x other = refl
placed-other (n ∷ names) k x other =
    placed-other names (renamed n k) x (or_right_false (bytes_eq n x) (is_among names x) other) ∙ with_other k.placed n (k.beside n) x (or_left_false (bytes_eq n x) (is_among names x) other)

beside-other : (names : List (List ℕ)) (k : Held) (x : List ℕ) → is_among names x ≡ false → (in_turn renamed names k).beside x ≡ k.beside x
beside-other [] k x other = refl
beside-other (n ∷ names) k x other =
    beside-other names (renamed n k) x (or_right_false (bytes_eq n x) (is_among names x) other) ∙ with_other k.beside n None x (or_left_false (bytes_eq n x) (is_among names x) other)

some-none : (o : Option (List ℕ)) → IsSome o → o ≡ None → ⊥
some-none None is none = absurd (cc is)
some-none (Some x) is none = absurd (cc none)

-- what doesn't stand beside its place isn't put into it
none-put : (names : List (List ℕ)) (k : Held) (x : List ℕ) → AreBeside names k → k.beside x ≡ None → is_among names x ≡ false
none-put [] k x are none = refl
none-put (n ∷ names) k x are none = elim (cases_Bool (bytes_eq n x)) [
  | inl same ↦ absurd (some-none (k.beside n) are.0 (ap (λ (y : List ℕ). k.beside y) ((bytes_eq-Decides n x).0 same) ∙ none))
  | inr differ ↦ ap (λ (b : Bool). b || is_among names x) differ ∙ none-put names (renamed n k) x are.1 (with_other k.beside n None x differ ∙ none)
]

placed-at : (names : List (List ℕ)) (k : Held) (x : List ℕ) → AreBeside names k → is_among names x ≡ true → (in_turn renamed names k).placed x ≡ k.beside x
placed-at [] k x are among = absurd (true≢false (sym among))
placed-at (n ∷ names) k x are among = elim (cases_Bool (bytes_eq n x)) [
  | inl same ↦
      placed-other names (renamed n k) x (none-put names (renamed n k) x are.1 (ap (λ (b : Bool). if b then None else k.beside x) same))
      ∙ ap (λ (b : Bool). if b then k.beside n else k.placed x) same ∙ ap (λ (y : List ℕ). k.beside y) ((bytes_eq-Decides n x).0 same)
  | inr differ ↦ placed-at names (renamed n k) x are.1 (sym (ap (λ (b : Bool). b || is_among names x) differ) ∙ among) ∙ with_other k.beside n None x differ
]

-- ---- when others were removed before

module _ (gone put : List (List ℕ)) (h : Held) (are : AreBeside put h) where
  abbrev now : Held
  now = in_turn renamed put (in_turn removed gone h)

  put-placed : (x : List ℕ) → is_among put x ≡ true → now.placed x ≡ h.beside x
  put-placed x among = placed-at put (in_turn removed gone h) x (beside-removed put gone h are) among ∙ ap (λ (k : Held). k.beside x) (removed-is gone h)

  other-placed : (x : List ℕ) → is_among put x ≡ false → is_among gone x ≡ false → now.placed x ≡ h.placed x
  other-placed x other stays =
      placed-other put (in_turn removed gone h) x other ∙ ap (λ (k : Held). k.placed x) (removed-is gone h) ∙ without_all-at gone h.placed x ∙ ap (λ (b : Bool). if b then None else h.placed x) stays

  other-beside : (x : List ℕ) → is_among put x ≡ false → now.beside x ≡ h.beside x
  other-beside x other = beside-other put (in_turn removed gone h) x other ∙ ap (λ (k : Held). k.beside x) (removed-is gone h)

  -- a file that doesn't go stands where it stood, or was put into its place
  pub stands-still : (is_beside : Bool) (file : InputFile) (bytes : List ℕ) → standing is_beside h file ≡ Some bytes → is_among gone (name_of file) ≡ false → (is_among put (name_of file) ≡ true → is_beside ≡ true)
      → standing (is_beside && not (is_among put (name_of file))) now file ≡ Some bytes
  stands-still is_beside file bytes is stays from = at is_beside (is_among put (name_of file)) refl from is
    where
      at : (a b : Bool) → is_among put (name_of file) ≡ b → (b ≡ true → a ≡ true) → standing a h file ≡ Some bytes → standing (a && not b) now file ≡ Some bytes
      at true true among so is = put-placed (name_of file) among ∙ is
      at true false other so is = other-beside (name_of file) other ∙ is
      at false true among so is = absurd (true≢false (sym (so refl)))
      at false false other so is = other-placed (name_of file) other stays ∙ is

  pub stays-placed : (x : List ℕ) → is_among put x ≡ false → is_among gone x ≡ false → now.placed x ≡ h.placed x
  stays-placed = other-placed
