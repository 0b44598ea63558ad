-- The JSON values of steps are read as what they were written for.
use Rattle.std.proofs.Common.{◌≡◌, ◌≢◌, ◌==◌, ℕ, not, true, false, List, [], ◌∷◌, length, map, Option, Some, None, is_some, Result, Ok, refl, subst, arith}
use Rattle.std.specs.Prelude.{IfSome}
use Rattle.std.specs.List.{AllByRecursion, list_all}
use Rattle.std.proofs.lemmas.Bool.{and_parts}
use Rattle.std.proofs.lemmas.Bool.Decides.{nat_tests}
use Rattle.hex.specs.Hex.{IsBytes}
use Rattle.pep440.specs.Canonical.{canonical}
use Rattle.pep440.specs.Version.{IsVersion, VersionParts}
use Rattle.markers.specs.Environment.{IsEnvironment, Texts}
use Rattle.markers.specs.Names.{is_normal}
use Rattle.distributions.specs.declared.file.DistributionFile.{DistributionFile}
use Rattle.pylock.specs.Packages.{EntryParts, IsPackage, is_other}
use Rattle.pylock.proofs.CanonicalBack.{Back, ReadsVersions, all-back, canonical-back, lower-back, names-back}
use Rattle.pylock.proofs.PackageFacts.{parts}
use Rattle.serde_json.specs.Data.{Data, string}
use Rattle.serde_json.specs.Find.{as_null}
use Rattle.serde_json.specs.View.{items_of}
use Rattle.changes.specs.Changes.{ChangeParts}
use Rattle.states.specs.TargetNames.{is_target_name}
use Rattle.changes.specs.declared.change.parts.DigestChange.{DigestChange}
use Rattle.changes.specs.declared.change.parts.EntryChange.{EntryChange}
use Rattle.changes.specs.declared.change.parts.Splice.{Splice}
use Rattle.changes.specs.declared.change.parts.TargetChange.{TargetChange}
use Rattle.pylock.specs.declared.flaw.Flaw.{Flaw}
use Rattle.journal_format.specs.declared.header.Header.{Header}
use Rattle.journal_format.specs.declared.header.JournalVersion.{JournalVersion}
use Rattle.journal_format.specs.declared.header.JournalVersion.TheVariants.{One, Three, Two}
use Rattle.journal_format.specs.Entries.{digest_in, entry_in, file_in, name_in, version_in}
use Rattle.journal_format.specs.Forms.{each, or_null, text_of}
use Rattle.journal_format.specs.Tied.LawfulTargets.{IsLawfulTarget}
use Rattle.journal_format.specs.Lines.{digests_in, entry_change_in, environment_in, may_name, splice_in, step_in, target_change_in, target_changes_in, target_name_in, targeted, tells_targets}
use Rattle.journal_format.specs.Written.{digest_data, digests_data, entry_change_data, entry_data, environment_data, file_data, nullable, splice_data, step_data, target_change_data}
use Rattle.journal_format.proofs.EnvironmentsBack.{environment-back}

module _ {X : Type 0} (form : X → Data) (reading : Data → Result X Flaw) where
  pub list-back : (xs : List X) → Back form reading xs → each reading (items_of (map form xs)) ≡ Ok xs
  unfolding each
  list-back [] h = refl
  list-back (x ∷ xs) h = rw (h.0, list-back xs h.1) refl

  -- what may be absent is read back, where no value of it is written as null
  pub nullable-back : (o : Option X) → ((x : X) → is_some (as_null (form x)) ≡ false) → IfSome o (λ x. reading (form x) ≡ Ok x) → or_null reading (nullable form o) ≡ Ok o
  nullable-back None there h = refl
  nullable-back (Some x) there h = rw (there x, h) refl

texts-back : (texts : List (List ℕ)) → each text_of (items_of (map string texts)) ≡ Ok texts
texts-back texts = list-back string text_of texts (all-back string text_of texts (λ _. refl))

pub name-back : (name : List ℕ) → is_normal name ≡ true → name_in (string name) ≡ Ok name
unfolding name_in
name-back name normal = rw normal refl

pub target_name-back : (name : List ℕ) → is_target_name name ≡ true → target_name_in (string name) ≡ Ok name
unfolding target_name_in
target_name-back name is = rw is refl

file-back : (f : DistributionFile) → file_in (file_data f) ≡ Ok f
unfolding file_in file_data
file-back f = refl

file-there : (f : DistributionFile) → is_some (as_null (file_data f)) ≡ false
unfolding file_data
file-there f = refl

sdist-back : (o : Option DistributionFile) → IfSome o (λ f. file_in (file_data f) ≡ Ok f)
sdist-back None = tt
sdist-back (Some f) = file-back f

python-back : (o : Option (List ℕ)) → IfSome o (λ t. text_of (string t) ≡ Ok t)
python-back None = tt
python-back (Some t) = refl

version-back : ReadsVersions → (v : VersionParts) → IsVersion v → version_in (string (canonical v)) ≡ Ok v
unfolding version_in
version-back reads v h = canonical-back reads v h

entry-back : ReadsVersions → (p : EntryParts) → IsPackage p → entry_in p.name (entry_data p) ≡ Ok p
unfolding entry_in entry_data
entry-back reads p h =
    let q = parts p h.parts in
    let dependencies = list-back string name_in p.dependencies (names-back string name_in name-back p.name p.dependencies (and_parts _ (list_all (is_other p.name) p.dependencies) q.dependencies).1) in
    let python = nullable-back string text_of p.requires_python (λ _. refl) (python-back p.requires_python) in
    let sdist = nullable-back file_data file_in p.sdist file-there (sdist-back p.sdist) in
    let version = version-back reads p.version h.version in
    let wheels = list-back file_data file_in p.wheels (all-back file_data file_in p.wheels file-back) in
    rw (dependencies, python, sdist, version, wheels, h.parts) refl

pub entry-there : (p : EntryParts) → is_some (as_null (entry_data p)) ≡ false
unfolding entry_data
entry-there p = refl

-- what is there of an entry is lawful, and on the name
abbrev pub IsEntryOn : List ℕ → Option EntryParts → Type 0
IsEntryOn name o = IfSome o (λ p. IsPackage p × (p.name ≡ name))

pub entry-on-back : ReadsVersions → (name : List ℕ) (o : Option EntryParts) → IsEntryOn name o → IfSome o (λ p. entry_in name (entry_data p) ≡ Ok p)
entry-on-back reads name None h = tt
entry-on-back reads name (Some p) h = subst (λ n. entry_in n (entry_data p) ≡ Ok p) h.1 (entry-back reads p h.0)

-- the entries of a change are lawful, and on its name, which is a normal one; it may be of its target behind the header
pub record IsLawfulChange (header : Header) (c : EntryChange) : Type 0 where
  pub target : is_target_name c.target ≡ true
  pub known : may_name header.version header c.target ≡ true
  pub name : is_normal c.name ≡ true
  pub old : IsEntryOn c.name c.old
  pub new : IsEntryOn c.name c.new

-- in a later version than 1 an entry has its target
targeted-later : (version : JournalVersion) (d : Data) → version ≢ One → targeted version d ≡ targeted Two d
unfolding targeted
targeted-later One d later = absurd (later refl)
targeted-later Two d later = refl
targeted-later Three d later = refl

module _ (reads : ReadsVersions) (header : Header) (later : header.version ≢ One) where
  entry_change-back : (c : EntryChange) → IsLawfulChange header c → entry_change_in header (entry_change_data c) ≡ Ok c
  unfolding entry_change_in entry_change_data targeted
  entry_change-back c h =
      let old = nullable-back entry_data (entry_in c.name) c.old entry-there (entry-on-back reads c.name c.old h.old) in
      let new = nullable-back entry_data (entry_in c.name) c.new entry-there (entry-on-back reads c.name c.new h.new) in
      rw (targeted-later header.version (entry_change_data c) later, target_name-back c.target h.target, h.known, name-back c.name h.name, old, new) refl

  changes-back : (cs : List EntryChange) → AllByRecursion (IsLawfulChange header) cs → Back entry_change_data (entry_change_in header) cs
  changes-back [] h = tt
  changes-back (c ∷ cs) h = (entry_change-back c h.0, changes-back cs h.1)

pub splice-back : (s : Splice) → splice_in (splice_data s) ≡ Ok s
unfolding splice_in splice_data
splice-back s = rw (texts-back s.old, texts-back s.new) refl

-- a digest of 32 bytes
pub record IsDigest (digest : List ℕ) : Type 0 where
  pub size : length digest ≡ 32
  pub bytes : IsBytes digest

pub digest-back : (bytes : List ℕ) → IsDigest bytes → digest_in (digest_data bytes) ≡ Ok bytes
unfolding digest_in
digest-back bytes h = lower-back bytes h.size h.bytes

pub digests-there : (d : DigestChange) → is_some (as_null (digests_data d)) ≡ false
unfolding digests_data
digests-there d = refl

-- both digests of a change
abbrev pub AreDigests : Option DigestChange → Type 0
AreDigests o = IfSome o (λ d. IsDigest d.old × IsDigest d.new)

pub digests-back : (o : Option DigestChange) → AreDigests o → IfSome o (λ d. digests_in (digests_data d) ≡ Ok d)
unfolding digests_in digests_data
digests-back None h = tt
digests-back (Some d) h = rw (digest-back d.old h.0, digest-back d.new h.1) refl

-- ---- targets

environment-there : (texts : Texts) → is_some (as_null (environment_data texts)) ≡ false
unfolding environment_data
environment-there texts = refl

environment-in-back : (o : Option Texts) → IfSome o IsEnvironment → IfSome o (λ t. environment_in (environment_data t) ≡ Ok t)
environment-in-back None h = tt
environment-in-back (Some t) h = environment-back t h

target_change-back : (c : TargetChange) → IsLawfulTarget c → target_change_in (target_change_data c) ≡ Ok c
unfolding target_change_in target_change_data
target_change-back c h =
    let old = nullable-back environment_data environment_in c.old environment-there (environment-in-back c.old h.old) in
    let new = nullable-back environment_data environment_in c.new environment-there (environment-in-back c.new h.new) in
    rw (target_name-back c.name h.name, old, new) refl

target_changes-back : (cs : List TargetChange) → AllByRecursion IsLawfulTarget cs → Back target_change_data target_change_in cs
target_changes-back [] h = tt
target_changes-back (c ∷ cs) h = (target_change-back c h.0, target_changes-back cs h.1)

-- ---- steps

-- a version has the targets of a step: version 3 all, version 2 none
abbrev pub HasTargets : JournalVersion → List TargetChange → Type 0
HasTargets One targets = ⊥
HasTargets Two targets = targets ≡ []
HasTargets Three targets = Unit {0}

is-later : (version : JournalVersion) (targets : List TargetChange) → HasTargets version targets → version ≢ One
is-later One targets has = absurd has
is-later Two targets has = λ one. cc one
is-later Three targets has = λ one. cc one

-- whether a step that was written tells of targets
tells-back : (version : JournalVersion) (splices : List Splice) (targets : List TargetChange) (entries : List EntryChange) (digests : Option DigestChange) → HasTargets version targets
    → tells_targets version (step_data (record { splices = splices; targets = targets; entries = entries; digests = digests })) ≡ not (length targets == 0)
unfolding step_data
tells-back One splices targets entries digests has = absurd has
tells-back Two splices [] entries digests has = refl
tells-back Two splices (t ∷ targets) entries digests has = absurd (cc has)
tells-back Three splices [] entries digests has = refl
tells-back Three splices (t ∷ targets) entries digests has = let some : (length (t ∷ targets) == 0) ≡ false = grind (arith, nat_tests) in rw some refl

module _ (reads : ReadsVersions) (header : Header) (splices : List Splice) (entries : List EntryChange) (digests : Option DigestChange) where
  step-by : (targets : List TargetChange) → tells_targets header.version (step_data (record { splices = splices; targets = targets; entries = entries; digests = digests })) ≡ not (length targets == 0)
      → each (entry_change_in header) (items_of (map entry_change_data entries)) ≡ Ok entries → each splice_in (items_of (map splice_data splices)) ≡ Ok splices
      → or_null digests_in (nullable digests_data digests) ≡ Ok digests → each target_change_in (items_of (map target_change_data targets)) ≡ Ok targets
      → step_in header (step_data (record { splices = splices; targets = targets; entries = entries; digests = digests })) ≡ Ok (record { splices = splices; targets = targets; entries = entries; digests = digests })
  unfolding step_in step_data target_changes_in
  step-by [] tells changes lines both moved = rw (tells, changes, lines, both) refl
  step-by (t ∷ targets) tells changes lines both moved =
      let some : (length (t ∷ targets) == 0) ≡ false = grind (arith, nat_tests) in
      rw (tells, some, changes, lines, both, moved, some) refl

-- a step is read as the change
pub step-back : ReadsVersions → (header : Header) (c : ChangeParts) → HasTargets header.version c.targets → AllByRecursion IsLawfulTarget c.targets → AllByRecursion (IsLawfulChange header) c.entries → AreDigests c.digests
    → step_in header (step_data c) ≡ Ok c
step-back reads header c has targets entries digests =
    let changes = list-back entry_change_data (entry_change_in header) c.entries (changes-back reads header (is-later header.version c.targets has) c.entries entries) in
    let splices = list-back splice_data splice_in c.splices (all-back splice_data splice_in c.splices splice-back) in
    let both = nullable-back digests_data digests_in c.digests digests-there (digests-back c.digests digests) in
    let moved = list-back target_change_data target_change_in c.targets (target_changes-back c.targets targets) in
    step-by reads header c.splices c.entries c.digests c.targets (tells-back header.version c.splices c.targets c.entries c.digests has) changes splices both moved
