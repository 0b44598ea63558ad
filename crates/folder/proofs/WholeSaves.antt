-- The three parts of a save, one after another.
use Rattle.std.proofs.Common.{◌≡◌, ◌≤◌, ℕ, Bool, true, false, List, [], Option, IfSome, arith, length, refl, sym, ap, ◌∙◌, subst, inl, take_all, true≢false}
use Rattle.folder.specs.Calls.{Follows, IsDone, IsSame, LeavesOnly}
use Rattle.folder.specs.Held.{Held, IsSameBut, in_turn, removed}
use Rattle.folder.specs.Saves.{AreApart, IsUnderWay, NewFileParts, names_of, saved}
use Rattle.folder.specs.Tied.Steps.{AreStaged, IsOnTheWayOrBeside, rename_file, stage_file}
use Rattle.folder.proofs.Names.{same_but-refl}
use Rattle.folder.proofs.Runs.{Ran, begun, made, runs_on}
use Rattle.folder.proofs.SaveSteps.{renamed-all, staged-ready, way-removed, way-renamed}

module _ {F : Type 0} (held : F → Option Held) (may_leave : F → Held → Type 0) (moment : F → ℕ) (left_since : F → ℕ → Held → Type 0) (faults : F → ℕ) where
  module _ (only : (folder : F) (c : Held) → left_since folder (moment folder) c → may_leave folder c) (files : List NewFileParts) (going : List (List ℕ)) where
    abbrev R : (Held → Held → Type 0) → F → F → Type 0
    R goes = Ran held may_leave moment left_since faults goes (IsUnderWay files going)

    abbrev Fol : (Held → Held → Type 0) → F → F → Type 0
    Fol = Follows held may_leave

    abbrev Lo : (Held → Held → Type 0) → F → F → Type 0
    Lo = LeavesOnly moment left_since may_leave

    abbrev Staged : Held → Held → Type 0
    Staged = IsDone (in_turn stage_file files)

    abbrev Ready : Held → Held → Type 0
    Ready h k = k ≡ in_turn removed going (in_turn stage_file files h)

    abbrev Beside : Held → Held → Type 0
    Beside = IsSameBut (names_of files)

    abbrev Under : Held → Held → Type 0
    Under = IsUnderWay files going

    at_start : (old : F) → R IsSame old old
    at_start old = begun held may_leave moment left_since faults IsSame Under old (λ h. refl) (λ h. inl (same_but-refl (names_of files) h)) (only old)

    still : (h k m : Held) → k ≡ h → Beside k m → Under h m
    still h k m a b = inl (subst (λ (x : Held). Beside x m) a b)

    pub staging : (old s : F) → Fol Beside old s → Lo Beside old s → faults old ≤ faults s → R Under old s
    staging old s follows moments rise = runs_on held may_leave moment left_since faults IsSame Beside Under Under Beside old old s (at_start old) follows moments rise still still

    pub staged_all : (old s : F) → Fol Staged old s → Lo Beside old s → faults old ≤ faults s → R Staged old s
    staged_all old s follows moments rise =
        runs_on held may_leave moment left_since faults IsSame Staged Staged Under Beside old old s (at_start old) follows moments rise (λ h k m a b. b ∙ ap (λ (x : Held). in_turn stage_file files x) a) still

    module _ (apart : AreApart files) where
      abbrev Removing : Held → Held → Type 0
      Removing = IsOnTheWayOrBeside files true removed going

      under_removed : (h k m : Held) → Staged h k → Removing k m → Under h m
      under_removed h k m a b = way-removed files going apart h k m a b

      pub removing : (old s r : F) → R Staged old s → Fol Removing s r → Lo Removing s r → faults s ≤ faults r → R Under old r
      removing old s r so_far follows moments rise = runs_on held may_leave moment left_since faults Staged Removing Under Under Removing old s r so_far follows moments rise under_removed under_removed

      pub removed_all : (old s r : F) → R Staged old s → Fol (IsDone (in_turn removed going)) s r → Lo Removing s r → faults s ≤ faults r → R Ready old r
      removed_all old s r so_far follows moments rise =
          runs_on held may_leave moment left_since faults Staged (IsDone (in_turn removed going)) Ready Under Removing old s r so_far follows moments rise
          (λ h k m a b. b ∙ ap (λ (x : Held). in_turn removed going x) a) under_removed

      pub ready : (old r : F) → R Ready old r → IfSome (held r) (AreStaged files)
      ready old r so_far = made Ready (AreStaged files) (λ h k is. subst (λ (x : Held). AreStaged files x) (sym is) (staged-ready files going apart h)) (held old) (held r) so_far.follows.holds

      module _ (untouched : Bool) (none : untouched ≡ true → going ≡ []) where
        abbrev Renaming : Held → Held → Type 0
        Renaming = IsOnTheWayOrBeside files untouched rename_file files

        under_renamed : (h k m : Held) → Ready h k → Renaming k m → Under h m
        under_renamed h k m a b = way-renamed files going apart untouched none h k m a b

        pub renaming : (old r n : F) → R Ready old r → Fol Renaming r n → Lo Renaming r n → faults r ≤ faults n → R Under old n
        renaming old r n so_far follows moments rise = runs_on held may_leave moment left_since faults Ready Renaming Under Under Renaming old r n so_far follows moments rise under_renamed under_renamed

        pub renamed_all : (old r n : F) → R Ready old r → Fol (IsDone (in_turn rename_file files)) r n → Lo Renaming r n → faults r ≤ faults n → R (IsDone (saved files going)) old n
        renamed_all old r n so_far follows moments rise =
            runs_on held may_leave moment left_since faults Ready (IsDone (in_turn rename_file files)) (IsDone (saved files going)) Under Renaming old r n so_far follows moments rise
            (λ h k m a b. b ∙ ap (λ (x : Held). in_turn rename_file files x) a ∙ renamed-all files going apart h) under_renamed

-- a save that was made has come to its end
pub saved_is_under_way : (files : List NewFileParts) (going : List (List ℕ)) → AreApart files → (h : Held) → IsUnderWay files going h (saved files going h)
saved_is_under_way files going apart h =
    subst (λ (x : Held). IsUnderWay files going h x) (renamed-all files going apart h)
    (way-renamed files going apart false (λ is. absurd (true≢false (sym is))) h staged (in_turn rename_file files staged) refl (inl (length files, omega arith, ap (λ (some : List NewFileParts). in_turn rename_file some staged) (sym (take_all (length files) files (omega arith))))))
  where
    staged : Held
    staged = in_turn removed going (in_turn stage_file files h)
