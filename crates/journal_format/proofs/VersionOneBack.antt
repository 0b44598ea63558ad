-- The JSON values that version 1 wrote are read as what they were written for.
use Rattle.std.proofs.Common.{◌≡◌, ◌≤◌, ℕ, true, false, List, [], ◌∷◌, Ok, refl, sym, ap, subst, ◌∙◌, arith}
use Rattle.std.specs.Prelude.{nat_le}
use Rattle.std.specs.List.{AllByRecursion}
use Rattle.std.proofs.lemmas.Bool.Decides.{nat_tests}
use Rattle.markers.specs.Environment.{IsEnvironment}
use Rattle.pylock.proofs.CanonicalBack.{Back, ReadsVersions, all-back}
use Rattle.changes.specs.Changes.{ChangeParts}
use Rattle.changes.specs.declared.change.parts.EntryChange.{EntryChange}
use Rattle.journal_format.specs.declared.header.Header.{Header}
use Rattle.journal_format.specs.declared.header.HeaderTarget.{HeaderTarget}
use Rattle.journal_format.specs.declared.header.JournalVersion.TheVariants.{One}
use Rattle.journal_format.specs.declared.header.JournalVersion.{JournalVersion}
use Rattle.journal_format.specs.Entries.{entry_in}
use Rattle.journal_format.specs.Lines.{digests_in, entry_change_in, header_in, may_name, splice_in, step_in, target_changes_in, targeted, targets_in, tells_targets}
use Rattle.journal_format.specs.VersionOne.{entry_change_one, header_one, step_one}
use Rattle.journal_format.specs.Written.{digests_data, entry_data, splice_data}
use Rattle.journal_format.proofs.EnvironmentsBack.{environment-back}
use Rattle.journal_format.proofs.StepsBack.{AreDigests, IsDigest, IsLawfulChange, digest-back, digests-back, digests-there, entry-on-back, entry-there, list-back, name-back, nullable-back, splice-back}

-- ---- steps

module _ (reads : ReadsVersions) (header : Header) (version : header.version ≡ One) where
  entry_change-back : (c : EntryChange) → c.target ≡ [] → IsLawfulChange header c → entry_change_in header (entry_change_one c) ≡ Ok c
  unfolding entry_change_in entry_change_one targeted
  entry_change-back c none h =
      let old = nullable-back entry_data (entry_in c.name) c.old entry-there (entry-on-back reads c.name c.old h.old) in
      let new = nullable-back entry_data (entry_in c.name) c.new entry-there (entry-on-back reads c.name c.new h.new) in
      let known : may_name One header [] ≡ true = subst (λ (name : List ℕ). may_name One header name ≡ true) none (subst (λ (v : JournalVersion). may_name v header c.target ≡ true) version h.known) in
      let whole : Ok (record { target = []; name = c.name; old = c.old; new = c.new }) ≡ Ok c =
      λ i. Ok (record { target = (sym none) i; name = c.name; old = c.old; new = c.new }) in
      rw (version, known, name-back c.name h.name, old, new) whole

  changes-back : (cs : List EntryChange) → AllByRecursion (λ c. c.target ≡ []) cs → AllByRecursion (IsLawfulChange header) cs → Back entry_change_one (entry_change_in header) cs
  changes-back [] none h = tt
  changes-back (c ∷ cs) none h = (entry_change-back c none.0 h.0, changes-back cs none.1 h.1)

  -- a step is read as the change, whose entries are of the target without a name
  pub step_one-back : (c : ChangeParts) → c.targets ≡ [] → AllByRecursion (λ e. e.target ≡ []) c.entries → AllByRecursion (IsLawfulChange header) c.entries → AreDigests c.digests → step_in header (step_one c) ≡ Ok c
  unfolding step_in step_one target_changes_in
  step_one-back c stay none entries digests =
      let changes = list-back entry_change_one (entry_change_in header) c.entries (changes-back c.entries none entries) in
      let splices = list-back splice_data splice_in c.splices (all-back splice_data splice_in c.splices splice-back) in
      let both = nullable-back digests_data digests_in c.digests digests-there (digests-back c.digests digests) in
      let tells : tells_targets header.version (step_one c) ≡ false = subst (λ (v : JournalVersion). tells_targets v (step_one c) ≡ false) (sym version) refl in
      rw (tells, changes, splices, both) (λ i. Ok (record { splices = c.splices; targets = (sym stay) i; entries = c.entries; digests = c.digests }))

-- ---- the header

header_one_by : (h : Header) (target : HeaderTarget) → h.version ≡ One → h.targets ≡ target ∷ [] → target.name ≡ [] → IsDigest h.requirements → nat_le h.cursor h.steps ≡ true
    → IsEnvironment target.environment → IsDigest target.lock → header_in (header_one h target) ≡ Ok h
unfolding header_in header_one targets_in
header_one_by h target version targets name requirements within environment lock =
    let unnamed : record { name = []; environment = target.environment; lock = target.lock } ≡ target =
    λ i. record { name = (sym name) i; environment = target.environment; lock = target.lock } in
    let one : record { name = []; environment = target.environment; lock = target.lock } ∷ [] ≡ h.targets = ap (λ t. t ∷ []) unnamed ∙ sym targets in
    let whole : Ok (record { version = One; cursor = h.cursor; requirements = h.requirements; steps = h.steps; targets = record { name = []; environment = target.environment; lock = target.lock } ∷ [] }) ≡ Ok h =
    λ i. Ok (record { version = (sym version) i; cursor = h.cursor; requirements = h.requirements; steps = h.steps; targets = one i }) in
    rw (environment-back target.environment environment, digest-back target.lock lock, digest-back h.requirements requirements, within) whole

-- a header is read back, with its one target
pub header_one-back : (h : Header) (target : HeaderTarget) → h.version ≡ One → h.targets ≡ target ∷ [] → target.name ≡ [] → IsDigest h.requirements → h.cursor ≤ h.steps
    → IsEnvironment target.environment → IsDigest target.lock → header_in (header_one h target) ≡ Ok h
header_one-back h target version targets name requirements least environment lock =
    let within : nat_le h.cursor h.steps ≡ true = grind (arith, nat_tests) in
    header_one_by h target version targets name requirements within environment lock
