-- The JSON value of a header is read as the header that it was written for.
use Rattle.std.proofs.Common.{◌≡◌, ◌≢◌, ◌≤◌, true, List, [], ◌∷◌, map, Ok, refl, arith}
use Rattle.std.specs.List.{AllByRecursion}
use Rattle.std.specs.Prelude.{nat_le}
use Rattle.std.proofs.lemmas.Bool.Decides.{nat_tests}
use Rattle.markers.specs.Environment.{IsEnvironment, Texts}
use Rattle.states.specs.TargetNames.{is_target_name}
use Rattle.serde_json.specs.View.{items_of}
use Rattle.journal_format.specs.declared.header.Header.{Header}
use Rattle.journal_format.specs.declared.header.HeaderTarget.{HeaderTarget}
use Rattle.journal_format.specs.declared.header.JournalVersion.{JournalVersion}
use Rattle.journal_format.specs.declared.header.JournalVersion.TheVariants.{One, Three, Two}
use Rattle.journal_format.specs.Forms.{each}
use Rattle.journal_format.specs.Lines.{are_targets, environment_in, header_in, target_in, targets_in}
use Rattle.journal_format.specs.Written.{environment_data, header_data, target_data}
use Rattle.journal_format.proofs.EnvironmentsBack.{environment-back}
use Rattle.pylock.proofs.CanonicalBack.{Back}
use Rattle.journal_format.proofs.StepsBack.{IsDigest, digest-back, list-back, target_name-back}

-- what a target has to have to be read back
pub record IsTarget (t : HeaderTarget) : Type 0 where
  pub name : is_target_name t.name ≡ true
  pub environment : IsEnvironment t.environment
  pub lock : IsDigest t.lock

target_by : (t : HeaderTarget) → environment_in (environment_data t.environment) ≡ Ok t.environment → IsDigest t.lock → is_target_name t.name ≡ true → target_in (target_data t) ≡ Ok t
unfolding target_in target_data
target_by t environment lock name = rw (environment, digest-back t.lock lock, target_name-back t.name name) refl

targets-back : (ts : List HeaderTarget) → AllByRecursion IsTarget ts → Back target_data target_in ts
targets-back [] h = tt
targets-back (t ∷ ts) h = (target_by t (environment-back t.environment h.0.environment) h.0.lock h.0.name, targets-back ts h.1)

-- what a header has to have to be read back
pub record IsHeader (h : Header) : Type 0 where
  pub later : h.version ≢ One
  pub requirements : IsDigest h.requirements
  pub within : h.cursor ≤ h.steps
  pub targets : AllByRecursion IsTarget h.targets
  pub rising : are_targets h.targets ≡ true

header_by : (h : Header) (version : JournalVersion) → h.version ≡ version → version ≢ One → IsDigest h.requirements → nat_le h.cursor h.steps ≡ true → each target_in (items_of (map target_data h.targets)) ≡ Ok h.targets
    → are_targets h.targets ≡ true → header_in (header_data h) ≡ Ok h
unfolding header_in header_data targets_in
header_by h One is later requirements within targets rising = absurd (later refl)
header_by h Two is later requirements within targets rising = rw (is, targets, rising, digest-back h.requirements requirements, within) refl
header_by h Three is later requirements within targets rising = rw (is, targets, rising, digest-back h.requirements requirements, within) refl

-- a header is read back
pub header-back : (h : Header) → IsHeader h → header_in (header_data h) ≡ Ok h
header-back h is =
    let within : nat_le h.cursor h.steps ≡ true = let least = is.within in grind (arith, nat_tests) in
    header_by h h.version refl is.later is.requirements within (list-back target_data target_in h.targets (targets-back h.targets is.targets)) is.rising
