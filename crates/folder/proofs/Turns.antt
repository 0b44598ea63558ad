-- One turn of each of a save's loops.
use Rattle.std.proofs.Common.{◌≡◌, ◌⊎◌, ◌≤◌, ◌<◌, ◌+◌, ℕ, Bool, true, List, [], ◌∷◌, Option, Result, Ok, Err, OnOk, OnErr, IsErrOf, IfSome, get_or, length, take, drop, sym, ap, ◌∙◌, subst, inl, inr, arith, drop-cons, add-one}
use Rattle.folder.specs.Calls.{Elapses, Follows, HasCause, IsDone, IsDoneOrNot, IsSame, LeavesOnly}
use Rattle.folder.specs.Held.{Held, IsSameBut, cleared, in_turn, is_among, renamed, staged}
use Rattle.folder.specs.Saves.{NewFileParts, names_of}
use Rattle.folder.specs.Tied.Steps.{AreStaged, IsOnTheWayOrBeside, stage_file}
use Rattle.folder.proofs.Names.{among_at, same_but-both, same_but-either, same_but-one}
use Rattle.folder.proofs.Runs.{Ran, carried, goes_on, known, runs_on}
use Rattle.folder.proofs.InTurn.{in_turn-more}
use Rattle.folder.proofs.SaveSteps.{staged-beside}

pub either_way : {T E : Type 0} (result : Result T E) (A B C : Type 0) → OnOk result A → OnErr result B → (A → C) → (B → C) → C
either_way (Ok x) A B C a b f g = f a
either_way (Err e) A B C a b f g = g b

module _ {F : Type 0} (held : F → Option Held) (may_leave : F → Held → Type 0) (moment : F → ℕ) (left_since : F → ℕ → Held → Type 0) (faults : F → ℕ) where
  abbrev R : (Held → Held → Type 0) → (Held → Held → Type 0) → F → F → Type 0
  R = Ran held may_leave moment left_since faults

  abbrev Fol : (Held → Held → Type 0) → F → F → Type 0
  Fol = Follows held may_leave

  abbrev El : (Held → Held → Type 0) → F → F → Type 0
  El = Elapses moment left_since may_leave

  -- what stands beside one place more is removed, or it isn't
  pub clears_on : {T E : Type 0} (files : List NewFileParts) (i : ℕ) (f : NewFileParts) (name : List ℕ) (result : Result T E) (old mid new : F)
      → i < length files → f ≡ get_or files i f → name ≡ f.name
      → R (IsSameBut (names_of files)) (IsSameBut (names_of files)) old mid
      → OnOk result (Fol (IsDone (cleared name)) mid new) → OnErr result (Fol (IsDoneOrNot (cleared name)) mid new) → El (IsDoneOrNot (cleared name)) mid new → faults mid ≤ faults new
      → R (IsSameBut (names_of files)) (IsSameBut (names_of files)) old new
  clears_on files i f name result old mid new within is named so_far done fault time rise =
      let names = names_of files in
      let among = subst (λ (n : List ℕ). is_among names n ≡ true) (sym named) (among_at files i f within is) in
      let joins : (h k m : Held) → IsSameBut names h k → IsDoneOrNot (cleared name) k m → IsSameBut names h m = λ h k m a b. same_but-both names h k m a (same_but-one names name k m among (same_but-either name k m b)) in
      either_way result _ _ _ done fault
      (λ d. goes_on held may_leave moment left_since faults (IsSameBut names) (IsDone (cleared name)) (IsSameBut names) (IsSameBut names) (IsDoneOrNot (cleared name)) old mid new so_far d time rise
      (λ h k m a b. joins h k m a (inr b)) joins)
      (λ e. goes_on held may_leave moment left_since faults (IsSameBut names) (IsDoneOrNot (cleared name)) (IsSameBut names) (IsSameBut names) (IsDoneOrNot (cleared name)) old mid new so_far e time rise joins joins)

  -- one file more is staged
  pub stages_on : (files : List NewFileParts) (i : ℕ) (f : NewFileParts) (name bytes : List ℕ) (old mid new : F)
      → i < length files → f ≡ get_or files i f → name ≡ f.name → bytes ≡ f.bytes
      → R (IsDone (in_turn stage_file (take i files))) (IsSameBut (names_of files)) old mid
      → Fol (IsDone (staged name bytes)) mid new → El (IsSameBut (name ∷ [])) mid new → faults mid ≤ faults new
      → R (IsDone (in_turn stage_file (take (i + 1) files))) (IsSameBut (names_of files)) old new
  stages_on files i f name bytes old mid new within is named filled so_far done time rise =
      let names = names_of files in
      let among = subst (λ (n : List ℕ). is_among names n ≡ true) (sym named) (among_at files i f within is) in
      let so_many = λ (n : ℕ). IsDone (in_turn stage_file (take n files)) in
      goes_on held may_leave moment left_since faults (so_many i) (IsDone (staged name bytes)) (so_many (i + 1)) (IsSameBut names) (IsSameBut (name ∷ [])) old mid new so_far done time rise
      (λ h k m a b. b ∙ (λ j. staged (named j) (filled j) (a j)) ∙ sym (in_turn-more stage_file files i f h within is))
      (λ h k m a b. same_but-both names h k m (subst (λ (x : Held). IsSameBut names h x) (sym a) (staged-beside files i h)) (same_but-one names name k m among b))

  -- one that can't be staged changes nothing but beside the places
  pub stages_none : (files : List NewFileParts) (i : ℕ) (f : NewFileParts) (name : List ℕ) (old mid new last : F)
      → i < length files → f ≡ get_or files i f → name ≡ f.name
      → R (IsDone (in_turn stage_file (take i files))) (IsSameBut (names_of files)) old mid
      → Fol (IsSameBut (name ∷ [])) mid new → El (IsSameBut (name ∷ [])) mid new → faults mid ≤ faults new
      → Fol (IsSameBut (names_of files)) new last → LeavesOnly moment left_since may_leave (IsSameBut (names_of files)) new last → faults new ≤ faults last
      → R (IsSameBut (names_of files)) (IsSameBut (names_of files)) old last
  stages_none files i f name old mid new last within is named so_far fault time rise clear moments more =
      let names = names_of files in
      let among = subst (λ (n : List ℕ). is_among names n ≡ true) (sym named) (among_at files i f within is) in
      let joins : (h k m : Held) → k ≡ in_turn stage_file (take i files) h → IsSameBut (name ∷ []) k m → IsSameBut names h m = λ h k m a b.
      same_but-both names h k m (subst (λ (x : Held). IsSameBut names h x) (sym a) (staged-beside files i h)) (same_but-one names name k m among b) in
      let failed = goes_on held may_leave moment left_since faults (IsDone (in_turn stage_file (take i files))) (IsSameBut (name ∷ [])) (IsSameBut names) (IsSameBut names) (IsSameBut (name ∷ [])) old mid new so_far fault time rise joins joins in
      runs_on held may_leave moment left_since faults (IsSameBut names) (IsSameBut names) (IsSameBut names) (IsSameBut names) (IsSameBut names) old new last failed clear moments more (same_but-both names) (same_but-both names)

  module _ {X : Type 0} (files : List NewFileParts) (may_be : Bool) (step : X → Held → Held) (xs : List X) (i : ℕ) (x : X) (within : i < length xs) (is : x ≡ get_or xs i x) where
    abbrev Way : Held → Held → Type 0
    Way = IsOnTheWayOrBeside files may_be step xs

    abbrev SoMany : ℕ → Held → Held → Type 0
    SoMany n = IsDone (in_turn step (take n xs))

    stays : (h k m : Held) → SoMany i h k → (m ≡ k) ⊎ (m ≡ step x k) → Way h m
    stays h k m a (inl same) = inl (i, omega (arith, within), same ∙ a)
    stays h k m a (inr more) = inl (i + 1, omega (arith, within), more ∙ ap (λ (y : Held). step x y) a ∙ sym (in_turn-more step xs i x h within is))

    -- one change more is made
    pub changes_on : (old mid new : F) → R (SoMany i) Way old mid → Fol (IsDone (step x)) mid new → El (IsDoneOrNot (step x)) mid new → faults mid ≤ faults new → R (SoMany (i + 1)) Way old new
    changes_on old mid new so_far done time rise =
        goes_on held may_leave moment left_since faults (SoMany i) (IsDone (step x)) (SoMany (i + 1)) Way (IsDoneOrNot (step x)) old mid new so_far done time rise
        (λ h k m a b. b ∙ ap (λ (y : Held). step x y) a ∙ sym (in_turn-more step xs i x h within is)) stays

    -- one that can't be made changes nothing
    pub changes_none : (old mid new : F) → R (SoMany i) Way old mid → Fol IsSame mid new → El (IsDoneOrNot (step x)) mid new → faults mid ≤ faults new → R Way Way old new
    changes_none old mid new so_far fault time rise =
        goes_on held may_leave moment left_since faults (SoMany i) IsSame Way Way (IsDoneOrNot (step x)) old mid new so_far fault time rise (λ h k m a b. stays h k m a (inl b)) stays

    -- where the first one can't be made, what stands beside the places may be removed
    pub changes_back : i ≡ 0 → may_be ≡ true → (old mid new last : F) → R (SoMany i) Way old mid → Fol IsSame mid new → El (IsDoneOrNot (step x)) mid new → faults mid ≤ faults new
        → Fol (IsSameBut (names_of files)) new last → LeavesOnly moment left_since may_leave (IsSameBut (names_of files)) new last → faults new ≤ faults last → R Way Way old last
    changes_back first may old mid new last so_far fault time rise clear moments more =
        let at_first : (h k : Held) → SoMany i h k → k ≡ h = λ h k a. a ∙ ap (λ (n : ℕ). in_turn step (take n xs) h) first in
        let failed = goes_on held may_leave moment left_since faults (SoMany i) IsSame IsSame Way (IsDoneOrNot (step x)) old mid new so_far fault time rise (λ h k m a b. b ∙ at_first h k a) stays in
        let back : (h k m : Held) → k ≡ h → IsSameBut (names_of files) k m → Way h m = λ h k m a b. inr (may, subst (λ (y : Held). IsSameBut (names_of files) y m) a b) in
        runs_on held may_leave moment left_since faults IsSame (IsSameBut (names_of files)) Way Way (IsSameBut (names_of files)) old new last failed clear moments more back back

  -- the files behind the one that was renamed still stand beside their places
  pub staged_on : (files : List NewFileParts) (i : ℕ) (f : NewFileParts) (name : List ℕ) (mid new : F) → i < length files → f ≡ get_or files i f → name ≡ f.name
      → IfSome (held mid) (AreStaged (drop i files)) → Fol (IsDone (renamed name)) mid new → IfSome (held new) (AreStaged (drop (i + 1) files))
  staged_on files i f name mid new within is named ready done =
      carried (IsDone (renamed name)) (AreStaged (drop i files)) (AreStaged (drop (i + 1) files)) next (held mid) (held new) done.holds ready
    where
      rest : drop i files ≡ f ∷ drop (i + 1) files
      rest = drop-cons files i f within ∙ (λ j. sym is j ∷ drop (sym (add-one i) j) files)

      next : (h k : Held) → k ≡ renamed name h → AreStaged (drop i files) h → AreStaged (drop (i + 1) files) k
      next h k a ready = subst (λ (x : Held). AreStaged (drop (i + 1) files) x) (sym (a ∙ ap (λ (n : List ℕ). renamed n h) named)) (subst (λ (fs : List NewFileParts). AreStaged fs h) rest ready).1

  -- a fault is told only where there was one
  pub tells_on : {T E D : Type 0} (goes : Held → Held → Type 0) (old mid new last : F) (result : Result T E) (answer : Result D E) (fault : E)
      → Fol goes old mid → faults old ≤ faults mid → HasCause held faults mid new result fault → faults new ≤ faults last → (IsErrOf answer fault → IsErrOf result fault) → HasCause held faults old last answer fault
  tells_on goes old mid new last result answer fault so_far before cause behind same = record {
    later = omega (arith, before, cause.later, behind);
    failed = λ is err. omega (arith, before, cause.failed (known goes (held old) (held mid) so_far.holds is) (same err), behind);
  }
