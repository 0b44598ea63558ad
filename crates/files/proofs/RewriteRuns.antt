-- A save of files over any folder, and of a history over the files that were read.
use Rattle.std.proofs.Common.{◌≡◌, ◌⊎◌, ◌≤◌, ℕ, List, Option, IfSome, map, refl, sym, subst, ap, ◌∙◌, inl, inr}
use Rattle.std.specs.BTreeMap.{IsOrdered}
use Rattle.std.specs.Cmp.Lexicographic.{slice_cmp}
use Rattle.std.specs.Ordering.{nat_cmp}
use Rattle.folder.specs.Calls.{Follows, IsDone, IsSame, LeavesOnly}
use Rattle.folder.specs.Held.{Held, IsSameBut}
use Rattle.folder.specs.Saves.{AreApart, IsUnderWay, NewFileParts, names_of, saved}
use Rattle.folder.proofs.Names.{same_but-refl}
use Rattle.folder.proofs.Runs.{Ran, before_still, behind_still, ran_on, runs_at, told_before, weaker}
use Rattle.folder.proofs.WholeSaves.{saved_is_under_way}
use Rattle.journal.specs.Changes.{HistoryParts}
use Rattle.journal.specs.Saved.{IsSaved, OpensAs}
use Rattle.journal.specs.declared.saved.Saved.{Saved}
use Rattle.files.proofs.SavedInPlace.{a_save_puts_all_into_place, a_saved_journal_has_bytes}
use Rattle.files.specs.Places.{AllAre, AreInPlace, AreKnown, bytes_read, bytes_saved}
use Rattle.files.specs.Saving.{IsBeingSavedOver, IsSavedOver, IsSaving, goings, writes}
use Rattle.files.specs.declared.saved_files.SavedFiles.{SavedFiles}

module _ {F : Type 0} (held : F → Option Held) (may_leave : F → Held → Type 0) (moment : F → ℕ) (left_since : F → ℕ → Held → Type 0) (faults : F → ℕ) where
  abbrev Run : (Held → Held → Type 0) → (Held → Held → Type 0) → F → F → Type 0
  Run = Ran held may_leave moment left_since faults

  -- ---- files

  module _ (files : List NewFileParts) (going : List (List ℕ)) where
    begins : (h : Held) → IsUnderWay files going h h
    begins h = inl (same_but-refl (names_of files) h)

    pub not_begun : (old : F) → ((c : Held) → left_since old (moment old) c → may_leave old c) → Run (IsUnderWay files going) (IsUnderWay files going) old old
    not_begun old only = runs_at held may_leave moment left_since faults (IsUnderWay files going) (IsUnderWay files going) old only begins begins

    pub not_begun_behind : (old new : F) → Run IsSame IsSame old new → Run (IsUnderWay files going) (IsUnderWay files going) old new
    not_begun_behind old new still =
        weaker held may_leave moment left_since faults IsSame (IsUnderWay files going) IsSame (IsUnderWay files going) old new still so so
      where
        so : (h k : Held) → k ≡ h → IsUnderWay files going h k
        so h k is = subst (λ (x : Held). IsUnderWay files going h x) (sym is) (begins h)

    pub rewritten : (some : List NewFileParts) (names : List (List ℕ)) → some ≡ files → names ≡ going → (old mid new : F) → Run IsSame IsSame old mid
        → Follows held may_leave (IsDone (saved some names)) mid new → LeavesOnly moment left_since may_leave (IsUnderWay some names) mid new → faults mid ≤ faults new
        → Run (IsDone (saved files going)) (IsUnderWay files going) old new
    rewritten some names same_files same_names old mid new still follows moments rise =
        behind_still held may_leave moment left_since faults (IsDone (saved files going)) (IsUnderWay files going) old mid new still (record {
          follows = subst (λ (n : List (List ℕ)). Follows held may_leave (IsDone (saved files n)) mid new) same_names (subst (λ (f : List NewFileParts). Follows held may_leave (IsDone (saved f names)) mid new) same_files follows);
          moments = subst (λ (n : List (List ℕ)). LeavesOnly moment left_since may_leave (IsUnderWay files n) mid new) same_names (subst (λ (f : List NewFileParts). LeavesOnly moment left_since may_leave (IsUnderWay f names) mid new) same_files moments);
          faults_rise = rise;
        }) begins

    pub moved_to : (some : List NewFileParts) (names : List (List ℕ)) → some ≡ files → names ≡ going → (old new : F) → Run (IsDone (saved some names)) (IsUnderWay some names) old new → Run (IsDone (saved files going)) (IsUnderWay files going) old new
    moved_to some names same_files same_names old new ran =
        subst (λ (n : List (List ℕ)). Run (IsDone (saved files n)) (IsUnderWay files n) old new) same_names (subst (λ (f : List NewFileParts). Run (IsDone (saved f names)) (IsUnderWay f names) old new) same_files ran)

    pub moved_any : (some : List NewFileParts) (names : List (List ℕ)) → some ≡ files → names ≡ going → (old new : F) → Run (IsUnderWay some names) (IsUnderWay some names) old new → Run (IsUnderWay files going) (IsUnderWay files going) old new
    moved_any some names same_files same_names old new ran =
        subst (λ (n : List (List ℕ)). Run (IsUnderWay files n) (IsUnderWay files n) old new) same_names (subst (λ (f : List NewFileParts). Run (IsUnderWay f names) (IsUnderWay f names) old new) same_files ran)

    pub rewritten_any : AreApart files → (old new : F) → Run (IsDone (saved files going)) (IsUnderWay files going) old new → Run (IsUnderWay files going) (IsUnderWay files going) old new
    rewritten_any apart old new ran =
        weaker held may_leave moment left_since faults (IsDone (saved files going)) (IsUnderWay files going) (IsUnderWay files going) (IsUnderWay files going) old new ran
        (λ h k is. subst (λ (x : Held). IsUnderWay files going h x) (sym is) (saved_is_under_way files going apart h)) (λ h k w. w)

    pub not_rewritten : (some : List NewFileParts) (names : List (List ℕ)) → some ≡ files → names ≡ going → (old mid new last : F) → Run IsSame IsSame old mid
        → Follows held may_leave (IsUnderWay some names) mid new → LeavesOnly moment left_since may_leave (IsUnderWay some names) mid new → faults mid ≤ faults new → Run IsSame IsSame new last
        → Run (IsUnderWay files going) (IsUnderWay files going) old last
    not_rewritten some names same_files same_names old mid new last still follows moments rise ended =
        before_still held may_leave moment left_since faults (IsUnderWay files going) (IsUnderWay files going) old new last
        (behind_still held may_leave moment left_since faults (IsUnderWay files going) (IsUnderWay files going) old mid new still (record {
          follows = subst (λ (n : List (List ℕ)). Follows held may_leave (IsUnderWay files n) mid new) same_names (subst (λ (f : List NewFileParts). Follows held may_leave (IsUnderWay f names) mid new) same_files follows);
          moments = subst (λ (n : List (List ℕ)). LeavesOnly moment left_since may_leave (IsUnderWay files n) mid new) same_names (subst (λ (f : List NewFileParts). LeavesOnly moment left_since may_leave (IsUnderWay f names) mid new) same_files moments);
          faults_rise = rise;
        }) begins) ended (λ h k w. w)

  -- ---- a history

  module _ (files : SavedFiles) (history : HistoryParts) where
    pub nothing_saved : (old : F) → ((c : Held) → left_since old (moment old) c → may_leave old c) → Run (IsBeingSavedOver files history) (IsBeingSavedOver files history) old old
    nothing_saved old only = runs_at held may_leave moment left_since faults (IsBeingSavedOver files history) (IsBeingSavedOver files history) old only (λ h. inl refl) (λ h. inl refl)

    module _ (form : Saved) (is : IsSaved history form) (opens : OpensAs history form) where
      under : (h k : Held) → IsUnderWay (writes files form) (goings files form) h k → IsBeingSavedOver files history h k
      under h k so_far = inr (record { form = form; is = is; opens = opens; so_far = so_far })

      pub being_saved : (old new : F) → Run (IsUnderWay (writes files form) (goings files form)) (IsUnderWay (writes files form) (goings files form)) old new → Run (IsBeingSavedOver files history) (IsBeingSavedOver files history) old new
      being_saved old new ran = weaker held may_leave moment left_since faults (IsUnderWay (writes files form) (goings files form)) (IsBeingSavedOver files history) (IsUnderWay (writes files form) (goings files form)) (IsBeingSavedOver files history) old new ran under under

      pub was_saved : IsOrdered (slice_cmp nat_cmp) form.locks → (old new : F) → Run (IsDone (saved (writes files form) (goings files form))) (IsUnderWay (writes files form) (goings files form)) old new
          → AllAre (held old) (may_leave old) (λ h. AreKnown h (bytes_read files)) → Run (IsSavedOver files history) (IsBeingSavedOver files history) old new
      was_saved rising old new ran known =
          told_before held may_leave moment left_since faults (IsDone (saved (writes files form) (goings files form))) (IsUnderWay (writes files form) (goings files form)) (IsSavedOver files history) (IsBeingSavedOver files history) (λ h. AreKnown h (bytes_read files)) old new ran known.0 known.1
          (λ h k made places. record {
            form = form;
            is = is;
            opens = opens;
            made = made;
            places = subst (λ (x : Held). AreInPlace x (bytes_saved form)) (sym made) (a_save_puts_all_into_place files form h places rising (a_saved_journal_has_bytes history form is));
          }) (λ h k so_far places. under h k so_far)
