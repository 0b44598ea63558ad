-- The JSON values of a journal's lines nest a few levels deep.
use Rattle.std.proofs.Common.{ℕ, ◌≤◌, List, [], ◌∷◌, map, Option, Some, None, arith}
use Rattle.distributions.specs.declared.file.DistributionFile.{DistributionFile}
use Rattle.pylock.specs.Packages.{EntryParts}
use Rattle.changes.specs.Changes.{ChangeParts}
use Rattle.changes.specs.declared.change.parts.DigestChange.{DigestChange}
use Rattle.changes.specs.declared.change.parts.EntryChange.{EntryChange}
use Rattle.changes.specs.declared.change.parts.Splice.{Splice}
use Rattle.changes.specs.declared.change.parts.TargetChange.{TargetChange}
use Rattle.markers.specs.Environment.{Texts}
use Rattle.serde_json.specs.Data.{Data, depth, items_depth, string}
use Rattle.serde_json.specs.Read.{max_depth}
use Rattle.serde_json.specs.View.{items_of}
use Rattle.journal_format.specs.declared.header.Header.{Header}
use Rattle.journal_format.specs.declared.header.HeaderTarget.{HeaderTarget}
use Rattle.journal_format.specs.Written.{digests_data, entry_change_data, entry_data, environment_data, file_data, header_data, nullable, splice_data, step_data, target_change_data, target_data}

module _ {X : Type 0} (form : X → Data) (n : ℕ) (within : (x : X) → depth (form x) ≤ n) where
  array-depth : (xs : List X) → items_depth (items_of (map form xs)) ≤ n
  array-depth [] = omega arith
  array-depth (x ∷ xs) = let first = within x in let rest = array-depth xs in omega (arith, first, rest)

  nullable-depth : (o : Option X) → depth (nullable form o) ≤ n
  nullable-depth None = omega arith
  nullable-depth (Some x) = within x

text-depth : (text : List ℕ) → depth (string text) ≤ 0
text-depth text = omega arith

file-depth : (f : DistributionFile) → depth (file_data f) ≤ 1
unfolding file_data
file-depth f = omega arith

entry-depth : (p : EntryParts) → depth (entry_data p) ≤ 3
unfolding entry_data
entry-depth p =
    let dependencies = array-depth string 0 text-depth p.dependencies in
    let python = nullable-depth string 0 text-depth p.requires_python in
    let sdist = nullable-depth file_data 1 file-depth p.sdist in
    let wheels = array-depth file_data 1 file-depth p.wheels in
    omega (arith, dependencies, python, sdist, wheels)

entry_change-depth : (c : EntryChange) → depth (entry_change_data c) ≤ 4
unfolding entry_change_data
entry_change-depth c =
    let old = nullable-depth entry_data 3 entry-depth c.old in
    let new = nullable-depth entry_data 3 entry-depth c.new in
    omega (arith, old, new)

splice-depth : (s : Splice) → depth (splice_data s) ≤ 2
unfolding splice_data
splice-depth s =
    let old = array-depth string 0 text-depth s.old in
    let new = array-depth string 0 text-depth s.new in
    omega (arith, old, new)

digests-depth : (d : DigestChange) → depth (digests_data d) ≤ 1
unfolding digests_data
digests-depth d = omega arith

environment-depth : (texts : Texts) → depth (environment_data texts) ≤ 1
unfolding environment_data
environment-depth texts = omega arith

target_change-depth : (c : TargetChange) → depth (target_change_data c) ≤ 2
unfolding target_change_data
target_change-depth c =
    let old = nullable-depth environment_data 1 environment-depth c.old in
    let new = nullable-depth environment_data 1 environment-depth c.new in
    omega (arith, old, new)

step-depth-by : (splices : List Splice) (targets : List TargetChange) (entries : List EntryChange) (digests : Option DigestChange)
    → depth (step_data (record { splices = splices; targets = targets; entries = entries; digests = digests })) ≤ max_depth
unfolding step_data
step-depth-by splices [] entries digests =
    let changed = array-depth entry_change_data 4 entry_change-depth entries in
    let lines = array-depth splice_data 2 splice-depth splices in
    let both = nullable-depth digests_data 1 digests-depth digests in
    omega (arith, changed, lines, both)
step-depth-by splices (t ∷ targets) entries digests =
    let changed = array-depth entry_change_data 4 entry_change-depth entries in
    let lines = array-depth splice_data 2 splice-depth splices in
    let both = nullable-depth digests_data 1 digests-depth digests in
    let moved = array-depth target_change_data 2 target_change-depth (t ∷ targets) in
    omega (arith, changed, lines, both, moved)

-- a step nests six levels at most
pub step-depth : (c : ChangeParts) → depth (step_data c) ≤ max_depth
step-depth c = step-depth-by c.splices c.targets c.entries c.digests

target-depth : (t : HeaderTarget) → depth (target_data t) ≤ 2
unfolding target_data environment_data
target-depth t = omega arith

-- a header nests four
pub header-depth : (h : Header) → depth (header_data h) ≤ max_depth
unfolding header_data
header-depth h = let targets = array-depth target_data 2 target-depth h.targets in omega (arith, targets)
