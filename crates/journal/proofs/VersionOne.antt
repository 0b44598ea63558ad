-- What version 1 saved of a history opens as that history.
use Rattle.std.proofs.Common.{◌≡◌, ◌≤◌, ◌<◌, ◌^◌, ℕ, ◌+◌, true, List, [], ◌∷◌, ◌++◌, length, Ok, refl, sym, ap, subst, ◌∙◌, inl, inr, arith}
use Rattle.std.specs.List.{AllByRecursion, AllZip, flat_map}
use Rattle.std.specs.Str.{bytes_eq, is_utf8}
use Rattle.std.proofs.lemmas.Bool.{cases_Bool}
use Rattle.std.proofs.lemmas.Option.{slice_get_within}
use Rattle.std.proofs.lemmas.Slice.Eq.{bytes_eq-Decides}
use Rattle.serde_json.specs.Written.{compact_text}
use Rattle.changes.specs.Changes.{ChangeParts, IsMinimal}
use Rattle.changes.specs.declared.change.parts.EntryChange.{EntryChange}
use Rattle.states.specs.State.{IsState}
use Rattle.states.specs.TargetNames.{is_target_name}
use Rattle.pylock.proofs.CanonicalBack.{ReadsVersions}
use Rattle.journal.specs.Values.{State, Target}
use Rattle.journal.specs.Changes.{AreSteps, HistoryParts, IsChange}
use Rattle.journal.specs.Tied.LocksWritten.{IsLawfulTarget, IsWrittenLock}
use Rattle.journal.specs.Opens.{BeginsWith, Opens, StepLines}
use Rattle.journal.specs.Saved.{header_for, target_for, targets_for}
use Rattle.journal.specs.Tied.{IsWritten}
use Rattle.journal.specs.VersionOne.{IsSavedByOne}
use Rattle.journal_format.specs.Lines.{IsStepLine, has_target, header_of_line, step_in, step_of_line}
use Rattle.journal_format.specs.VersionOne.{header_one, step_one}
use Rattle.journal_format.specs.Written.{line_of}
use Rattle.journal_format.specs.declared.header.Header.{Header}
use Rattle.journal_format.specs.declared.header.HeaderTarget.{HeaderTarget}
use Rattle.journal_format.specs.declared.header.JournalVersion.TheVariants.{One}
use Rattle.journal_format.proofs.LinesCut.{cut-written}
use Rattle.journal_format.proofs.VersionOneBack.{header_one-back, step_one-back}
use Rattle.journal.proofs.ChangesRead.{MayName, all-may, lawful-changes, locks-lawful, on-first}
use Rattle.journal.proofs.SavedVersions.{all-stay}
use Rattle.journal.proofs.Histories.{AreSteps-count}
use Rattle.journal.proofs.LinesOfText.{line-text}
use Rattle.journal.proofs.LocksAgain.{name-known}
use Rattle.journal.proofs.OpensAgain.{json-back, present-again, sha256-digest}
use Rattle.journal.proofs.PlainData.{IsPlain, read-plain}
use Rattle.journal.proofs.StatesAgain.{past-again, state-at}
use Rattle.journal.proofs.VersionOneData.{header_depth, header_depth-within, header_one-plain, step_depth, step_depth-within, step_one-plain}

-- the same header, of version 1
abbrev as_one : Header → Header
as_one header = record header { version = One }

-- a target that a header of one target without a name knows has no name
unnamed_by : (header : Header) (target : HeaderTarget) (name : List ℕ) → header.targets ≡ target ∷ [] → target.name ≡ [] → has_target header name ≡ true → name ≡ []
unnamed_by header target name one unnamed known =
    let here = subst (λ (ts : List HeaderTarget). has_target (record header { targets = ts }) name ≡ true) one known in
    elim (cases_Bool (bytes_eq target.name name)) [
      | inl same ↦ sym ((bytes_eq-Decides target.name name).0 same) ∙ unnamed
      | inr apart ↦ absurd (let odd = rw apart at here in cc)
    ]

-- a minimal change that is read back behind the header, as version 1 wrote it
record IsReadOne (header : Header) (change : ChangeParts) : Type 0 where
  pub minimal : IsMinimal change
  pub back : step_in (as_one header) (step_one change) ≡ Ok change
  pub plain : IsPlain (step_one change) step_depth

module _ (reads : ReadsVersions) (header : Header) (target : HeaderTarget) (one : header.targets ≡ target ∷ []) (unnamed : target.name ≡ []) where
  unnamed-entries : (cs : List EntryChange) → AllByRecursion (λ c. has_target header c.target ≡ true) cs → AllByRecursion (λ c. c.target ≡ []) cs
  unnamed-entries [] may = tt
  unnamed-entries (c ∷ cs) may = (unnamed_by header target c.target one unnamed may.0, unnamed-entries cs may.1)

  named-entries : (cs : List EntryChange) → AllByRecursion (λ c. c.target ≡ []) cs → AllByRecursion (λ c. is_target_name c.target ≡ true) cs
  named-entries [] none = tt
  named-entries (c ∷ cs) none = (subst (λ (name : List ℕ). is_target_name name ≡ true) (sym none.0) refl, named-entries cs none.1)

  change-one : (old : State) (change : ChangeParts) (new : State) → change.targets ≡ [] → MayName (as_one header) change → IsState old → IsState new → IsChange old change new → IsReadOne header change
  change-one old change new stay may h g is =
      let none = unnamed-entries change.entries may in
      let lawful = lawful-changes (as_one header) old change new h g is change.entries (λ c there. there) (named-entries change.entries none) may is.minimal.entries.each in
      let digests = on-first change old.targets new.targets h.some g.some is.leads.targets (locks-lawful old.lines old.targets h.locks) (locks-lawful new.lines new.targets g.locks) in
      record {
        minimal = is.minimal;
        back = step_one-back reads (as_one header) refl change stay none lawful digests;
        plain = step_one-plain (as_one header) change lawful is.minimal.splices.places;
      }

  changes-one : (states : List State) (changes : List ChangeParts) → AreSteps states changes → AllByRecursion IsState states → AllByRecursion (λ c. c.targets ≡ []) changes → AllByRecursion (MayName (as_one header)) changes
      → AllByRecursion (IsReadOne header) changes
  changes-one [] changes steps lawful stay may = absurd steps
  changes-one (s ∷ []) [] steps lawful stay may = tt
  changes-one (s ∷ []) (c ∷ cs) steps lawful stay may = absurd steps
  changes-one (s ∷ t ∷ states) [] steps lawful stay may = absurd steps
  changes-one (s ∷ t ∷ states) (c ∷ cs) steps lawful stay may =
      (change-one s c t stay.0 may.0 lawful.0 lawful.1.0 steps.0, changes-one (t ∷ states) cs steps.1 lawful.1 stay.1 may.1)

step_one-line : (header : Header) (c : ChangeParts) → IsWritten (step_one c) → IsReadOne header c → IsStepLine (as_one header) (compact_text (step_one c)) c
unfolding step_of_line
step_one-line header c written is = record { reads = rw (json-back (step_one c) written, is.back) refl; minimal = is.minimal }

-- the lines of changes are read as these
steps-one : (header : Header) (number : ℕ) (changes : List ChangeParts) → is_utf8 (flat_map (λ c. line_of (step_one c)) changes) ≡ true → AllByRecursion (IsReadOne header) changes
    → StepLines (as_one header) (length changes) number (flat_map (λ c. line_of (step_one c)) changes) (Ok changes)
steps-one header number [] text read = inl (refl, refl)
steps-one header number (c ∷ cs) text read =
    let rest = flat_map (λ c. line_of (step_one c)) cs in
    let parts = line-text (step_one c) rest text in
    let written : IsWritten (step_one c) = record { utf8 = parts.0; reads = read-plain (step_one c) step_depth step_depth-within read.0.plain } in
    inl ((c, rest), record { line = compact_text (step_one c); cut = cut-written (step_one c) rest; is_step = step_one-line header c written read.0 }, (Ok cs, steps-one header (number + 1) cs parts.1 read.1, refl))

begins-one : (header : Header) (target : HeaderTarget) (rest : List ℕ) → IsWritten (header_one (as_one header) target) → header_of_line (compact_text (header_one (as_one header) target)) ≡ Ok (as_one header)
    → BeginsWith (line_of (header_one (as_one header) target) ++ rest) (as_one header, rest)
begins-one header target rest written reads = record {
  line = compact_text (header_one (as_one header) target);
  cut = cut-written (header_one (as_one header) target) rest;
  header = reads;
}

-- what version 1 saved of a history opens as that history
pub one-opens : ReadsVersions → (history : HistoryParts) (requirements lock journal : List ℕ) → IsSavedByOne history requirements lock journal → Opens requirements (([], lock) ∷ []) journal (Ok history)
unfolding header_of_line
one-opens reads history requirements lock journal is =
    let past = history.past in
    let changes = history.changes in
    let state = is.state in
    let locks : List (List ℕ × List ℕ) = ([], lock) ∷ [] in
    let header = header_for state past.cursor changes requirements locks in
    let target = target_for is.target lock in
    let rest = flat_map (λ c. line_of (step_one c)) changes in
    let one : header.targets ≡ target ∷ [] = ap (λ (ts : List Target). targets_for ts locks) is.one in
    let state_lawful : IsState state = state-at past.states past.cursor state is.lawful is.state_is in
    let files : AllZip IsWrittenLock state.targets locks =
    subst (λ (ts : List Target). AllZip IsWrittenLock ts locks) (sym is.one) (record { file = is.lock_is; reads = is.lock_reads }, tt) in
    let target_lawful : IsLawfulTarget is.target = record { name = rw is.unnamed refl; environment = is.environment } in
    let targets : AllByRecursion IsLawfulTarget state.targets = subst (λ (ts : List Target). AllByRecursion IsLawfulTarget ts) (sym is.one) (target_lawful, tt) in
    let stay = all-stay changes is.stay in
    let may = all-may (as_one header) past.states changes past.cursor state stay is.steps is.state_is (λ name there. name-known state.targets locks name files there) in
    let count = AreSteps-count past.states changes is.steps in
    let within = slice_get_within past.states past.cursor state is.state_is in
    let least : past.cursor ≤ length changes = omega (arith, count, within) in
    let back = header_one-back (as_one header) target refl one is.unnamed (sha256-digest requirements) least is.environment (sha256-digest lock) in
    let counted : length changes < 2 ^ 64 = is.counted in
    let placed : past.cursor < 2 ^ 64 = omega (arith, least, counted) in
    let whole : is_utf8 (line_of (header_one (as_one header) target) ++ rest) ≡ true = subst (λ (bytes : List ℕ). is_utf8 bytes ≡ true) is.journal_is is.text in
    let parts = line-text (header_one (as_one header) target) rest whole in
    let written : IsWritten (header_one (as_one header) target) =
    record { utf8 = parts.0; reads = read-plain (header_one (as_one header) target) header_depth header_depth-within (header_one-plain (as_one header) target placed counted) } in
    let begins : BeginsWith journal (as_one header, rest) =
    subst (λ (bytes : List ℕ). BeginsWith bytes (as_one header, rest)) (sym is.journal_is)
    (begins-one header target rest written (rw (json-back (header_one (as_one header) target) written, back) refl)) in
    let present = present-again state past.cursor changes requirements locks state_lawful is.requirements_is files in
    let read = changes-one reads header target one is.unnamed past.states changes is.steps is.lawful stay may in
    let steps = steps-one header 2 changes parts.1 read in
    let walked = past-again past changes state is.steps is.lawful is.state_is in
    inl ((as_one header, rest), begins, (Ok state, present, (Ok changes, steps, (Ok past, walked, refl))))
