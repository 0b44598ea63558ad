-- The JSON values of version 1's lines nest only so deep, their keys rise and their numbers fit: they are read back from their texts.
use Rattle.std.proofs.Common.{◌≡◌, ◌^◌, ◌<◌, ◌≤◌, ℕ, zero, suc, true, List, [], ◌∷◌, map, Option, Some, None, option_to_list, refl, arith}
use Rattle.std.specs.List.{AllByRecursion, list_all}
use Rattle.std.proofs.lemmas.Bool.{and_parts, ltb-true}
use Rattle.markers.specs.Environment.{Texts, all_variables}
use Rattle.markers.specs.declared.variable.Variable.{Variable}
use Rattle.pylock.specs.Packages.{EntryParts, IsPackage}
use Rattle.distributions.specs.declared.file.DistributionFile.{DistributionFile}
use Rattle.pylock.proofs.PackageFacts.{fits, sdist_fit, wheels_fit}
use Rattle.changes.specs.Changes.{ChangeParts, PlacesFit}
use Rattle.changes.specs.declared.change.parts.DigestChange.{DigestChange}
use Rattle.changes.specs.declared.change.parts.EntryChange.{EntryChange}
use Rattle.changes.specs.declared.change.parts.Splice.{Splice}
use Rattle.serde_json.specs.Data.{string}
use Rattle.serde_json.specs.Read.{max_depth}
use Rattle.serde_json.specs.View.{items_of}
use Rattle.journal_format.specs.VersionOne.{entry_change_one, header_one, step_one}
use Rattle.journal_format.specs.Written.{digests_data, entry_data, environment_data, file_data, nullable, splice_data, variable_members}
use Rattle.journal_format.specs.declared.header.Header.{Header}
use Rattle.journal_format.specs.declared.header.HeaderTarget.{HeaderTarget}
use Rattle.journal_format.proofs.StepsBack.{IsEntryOn, IsLawfulChange}
use Rattle.journal.proofs.PlainData.{ArePlain, ArePlainMembers, IsPlain}

strings-plain : (n : ℕ) (texts : List (List ℕ)) → ArePlain (items_of (map string texts)) n
strings-plain n [] = tt
strings-plain n (text ∷ texts) = (tt, strings-plain n texts)

file-plain : (n : ℕ) (f : DistributionFile) → fits f ≡ true → IsPlain (file_data f) (suc n)
unfolding file_data
file-plain n f h =
    let size : f.size < 2 ^ 63 = ltb-true f.size (2 ^ 63) h in
    ((tt, (tt, (omega (arith, size), (tt, tt)))), refl)

files-plain : (n : ℕ) (fs : List DistributionFile) → list_all fits fs ≡ true → ArePlain (items_of (map file_data fs)) (suc n)
files-plain n [] h = tt
files-plain n (f ∷ fs) h = let p = and_parts (fits f) (list_all fits fs) h in (file-plain n f p.0, files-plain n fs p.1)

sdist-plain : (n : ℕ) (o : Option DistributionFile) → list_all fits (option_to_list o) ≡ true → IsPlain (nullable file_data o) (suc n)
sdist-plain n None h = tt
sdist-plain n (Some f) h = file-plain n f (and_parts (fits f) true h).0

python-plain : (n : ℕ) (o : Option (List ℕ)) → IsPlain (nullable string o) n
python-plain n None = tt
python-plain n (Some text) = tt

entry-plain : (n : ℕ) (p : EntryParts) → IsPackage p → IsPlain (entry_data p) (suc (suc (suc n)))
unfolding entry_data
entry-plain n p h = (
  (
    strings-plain (suc n) p.dependencies,
    (python-plain (suc (suc n)) p.requires_python, (sdist-plain (suc n) p.sdist (sdist_fit p h.parts), (tt, (files-plain n p.wheels (wheels_fit p h.parts), tt)))),
  ),
  refl,
)

entry-on-plain : (n : ℕ) (name : List ℕ) (o : Option EntryParts) → IsEntryOn name o → IsPlain (nullable entry_data o) (suc (suc (suc n)))
entry-on-plain n name None h = tt
entry-on-plain n name (Some p) h = entry-plain n p h.0

module _ (header : Header) where
  entries-plain : (n : ℕ) (cs : List EntryChange) → AllByRecursion (IsLawfulChange header) cs → ArePlain (items_of (map entry_change_one cs)) (suc (suc (suc (suc n))))
  unfolding entry_change_one
  entries-plain n [] h = tt
  entries-plain n (c ∷ cs) h = ((tt, (entry-on-plain n c.name c.old h.0.old, (entry-on-plain n c.name c.new h.0.new, tt))), entries-plain n cs h.1)

splices-plain : (n : ℕ) (splices : List Splice) → PlacesFit splices → ArePlain (items_of (map splice_data splices)) (suc (suc n))
unfolding splice_data
splices-plain n [] h = tt
splices-plain n (s ∷ splices) h = ((h.0, (strings-plain n s.old, (strings-plain n s.new, tt))), splices-plain n splices h.1)

digests-plain : (n : ℕ) (o : Option DigestChange) → IsPlain (nullable digests_data o) (suc n)
unfolding digests_data
digests-plain n None = tt
digests-plain n (Some d) = (tt, (tt, tt))

-- how deep the value of a step nests
abbrev pub step_depth : ℕ
step_depth = suc (suc (suc (suc (suc (suc zero)))))

pub step_depth-within : step_depth ≤ max_depth
step_depth-within = omega arith

pub step_one-plain : (header : Header) (c : ChangeParts) → AllByRecursion (IsLawfulChange header) c.entries → PlacesFit c.splices → IsPlain (step_one c) step_depth
unfolding step_one
step_one-plain header c entries places =
    ((entries-plain header zero c.entries entries, (splices-plain (suc (suc zero)) c.splices places, (digests-plain (suc (suc (suc (suc zero)))) c.digests, tt))), refl)

variables-plain : (texts : Texts) (variables : List Variable) (n : ℕ) → ArePlainMembers (variable_members texts variables) n
variables-plain texts [] n = tt
variables-plain texts (variable ∷ rest) n = (tt, variables-plain texts rest n)

-- how deep the value of a header nests
abbrev pub header_depth : ℕ
header_depth = suc (suc zero)

pub header_depth-within : header_depth ≤ max_depth
header_depth-within = omega arith

pub header_one-plain : (header : Header) (target : HeaderTarget) → header.cursor < 2 ^ 64 → header.steps < 2 ^ 64 → IsPlain (header_one header target) header_depth
unfolding header_one environment_data
header_one-plain header target cursor steps =
    let one : 1 < 2 ^ 64 = omega arith in
    ((cursor, ((variables-plain target.environment all_variables zero, refl), (one, (tt, (tt, (steps, tt)))))), refl)
