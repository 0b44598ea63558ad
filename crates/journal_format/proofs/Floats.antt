-- The JSON values of a journal's lines have no float.
use Rattle.std.proofs.Common.{◌≡◌, ℕ, false, List, [], ◌∷◌, map, Option, Some, None, refl}
use Rattle.distributions.specs.declared.file.DistributionFile.{DistributionFile}
use Rattle.pylock.specs.Packages.{EntryParts}
use Rattle.changes.specs.Changes.{ChangeParts}
use Rattle.changes.specs.declared.change.parts.DigestChange.{DigestChange}
use Rattle.changes.specs.declared.change.parts.EntryChange.{EntryChange}
use Rattle.changes.specs.declared.change.parts.Splice.{Splice}
use Rattle.changes.specs.declared.change.parts.TargetChange.{TargetChange}
use Rattle.markers.specs.Environment.{Texts}
use Rattle.serde_json.specs.Data.{Data, string}
use Rattle.serde_json.specs.View.{items_of}
use Rattle.serde_json.specs.Written.{has_float, items_have_float}
use Rattle.journal_format.specs.declared.header.Header.{Header}
use Rattle.journal_format.specs.declared.header.HeaderTarget.{HeaderTarget}
use Rattle.journal_format.specs.Written.{digests_data, entry_change_data, entry_data, environment_data, file_data, header_data, nullable, splice_data, step_data, target_change_data, target_data}

module _ {X : Type 0} (form : X → Data) (plain : (x : X) → has_float (form x) ≡ false) where
  array-plain : (xs : List X) → items_have_float (items_of (map form xs)) ≡ false
  array-plain [] = refl
  array-plain (x ∷ xs) = rw (plain x, array-plain xs) refl

  nullable-plain : (x : Option X) → has_float (nullable form x) ≡ false
  nullable-plain None = refl
  nullable-plain (Some x) = plain x

string-plain : (text : List ℕ) → has_float (string text) ≡ false
string-plain text = refl

file-plain : (f : DistributionFile) → has_float (file_data f) ≡ false
unfolding file_data
file-plain f = refl

entry-plain : (p : EntryParts) → has_float (entry_data p) ≡ false
unfolding entry_data
entry-plain p =
    rw (array-plain string string-plain p.dependencies, nullable-plain string string-plain p.requires_python, nullable-plain file_data file-plain p.sdist, array-plain file_data file-plain p.wheels) refl

entry_change-plain : (c : EntryChange) → has_float (entry_change_data c) ≡ false
unfolding entry_change_data
entry_change-plain c = rw (nullable-plain entry_data entry-plain c.old, nullable-plain entry_data entry-plain c.new) refl

splice-plain : (s : Splice) → has_float (splice_data s) ≡ false
unfolding splice_data
splice-plain s = rw (array-plain string string-plain s.old, array-plain string string-plain s.new) refl

digests-plain : (d : DigestChange) → has_float (digests_data d) ≡ false
unfolding digests_data
digests-plain d = refl

environment-plain : (texts : Texts) → has_float (environment_data texts) ≡ false
unfolding environment_data
environment-plain texts = refl

target_change-plain : (c : TargetChange) → has_float (target_change_data c) ≡ false
unfolding target_change_data
target_change-plain c = rw (nullable-plain environment_data environment-plain c.old, nullable-plain environment_data environment-plain c.new) refl

step-plain-by : (splices : List Splice) (targets : List TargetChange) (entries : List EntryChange) (digests : Option DigestChange)
    → has_float (step_data (record { splices = splices; targets = targets; entries = entries; digests = digests })) ≡ false
unfolding step_data
step-plain-by splices [] entries digests =
    rw (array-plain entry_change_data entry_change-plain entries, array-plain splice_data splice-plain splices, nullable-plain digests_data digests-plain digests) refl
step-plain-by splices (t ∷ targets) entries digests =
    rw (
      array-plain entry_change_data entry_change-plain entries,
      array-plain splice_data splice-plain splices,
      nullable-plain digests_data digests-plain digests,
      target_change-plain t,
      array-plain target_change_data target_change-plain targets,
    ) refl

-- a step has no float
pub step-plain : (c : ChangeParts) → has_float (step_data c) ≡ false
step-plain c = step-plain-by c.splices c.targets c.entries c.digests

target-plain : (t : HeaderTarget) → has_float (target_data t) ≡ false
unfolding target_data environment_data
target-plain t = refl

-- a header has no float
pub header-plain : (h : Header) → has_float (header_data h) ≡ false
unfolding header_data
header-plain h = rw (array-plain target_data target-plain h.targets) refl
