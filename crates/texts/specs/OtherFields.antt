-- Which fields differ of two entries that lock one version. All of it is reqlock's own rule.
use Rattle.std.specs.Prelude.{ℕ, ◌==◌, ◌&&◌, ◌||◌, Bool, true, false, not, List, [], ◌∷◌, ◌++◌, length, codes, Option, Some, None, if◌then◌else◌}
use Rattle.std.specs.List.{flat_map, list_any, zip}
use Rattle.std.specs.Ordering.{is_eq}
use Rattle.std.specs.Str.{bytes_eq}
use Rattle.pep440.specs.Order.{version_cmp}
use Rattle.distributions.specs.declared.file.DistributionFile.{DistributionFile}
use Rattle.pylock.specs.Packages.{EntryParts}

-- a file has another name, stands elsewhere, or has another size
abbrev pub is_elsewhere : DistributionFile → DistributionFile → Bool
is_elsewhere file other = not (bytes_eq file.name other.name) || not (bytes_eq file.url other.url) || not (file.size == other.size)

abbrev pub is_other_sdist : Option DistributionFile → Option DistributionFile → Bool
is_other_sdist None None = false
is_other_sdist (Some file) (Some other) = is_elsewhere file other
is_other_sdist old new = true

-- there are more or fewer files, or one of them is elsewhere
abbrev pub are_elsewhere : List DistributionFile → List DistributionFile → Bool
are_elsewhere files others = not (length files == length others) || list_any (λ pair. is_elsewhere pair.0 pair.1) (zip files others)

abbrev pub has_other_files : EntryParts → EntryParts → Bool
has_other_files old new = is_other_sdist old.sdist new.sdist || are_elsewhere old.wheels new.wheels

-- a file of the same name has another digest
abbrev pub has_other_digest : DistributionFile → DistributionFile → Bool
has_other_digest file other = bytes_eq file.name other.name && not (bytes_eq file.sha256 other.sha256)

abbrev pub has_other_sdist_digest : Option DistributionFile → Option DistributionFile → Bool
has_other_sdist_digest (Some file) (Some other) = has_other_digest file other
has_other_sdist_digest old new = false

abbrev pub has_other_hashes : EntryParts → EntryParts → Bool
has_other_hashes old new = has_other_sdist_digest old.sdist new.sdist || list_any (λ file. list_any (has_other_digest file) new.wheels) old.wheels

-- other Pythons are asked for, or they were or are asked for alone
abbrev pub asks_other_python : Option (List ℕ) → Option (List ℕ) → Bool
asks_other_python None None = false
asks_other_python (Some old) (Some new) = not (bytes_eq old new)
asks_other_python old new = true

-- other names are needed
abbrev pub has_other_needs : List (List ℕ) → List (List ℕ) → Bool
has_other_needs needs others = not (length needs == length others) || list_any (λ pair. not (bytes_eq pair.0 pair.1)) (zip needs others)

-- a word where it holds
abbrev pub told_if : Bool → List ℕ → List (List ℕ)
told_if holds word = if holds then word ∷ [] else []

-- which fields of two entries differ
abbrev pub fields_between : EntryParts → EntryParts → List (List ℕ)
fields_between old new =
    told_if (has_other_files old new) (codes "files") ++ told_if (has_other_hashes old new) (codes "hashes")
    ++ told_if (asks_other_python old.requires_python new.requires_python) (codes "requires-python")
    ++ told_if (has_other_needs old.dependencies new.dependencies) (codes "dependencies")

-- words in brackets, if there are any
abbrev pub in_brackets : List (List ℕ) → List ℕ
in_brackets [] = []
in_brackets (first ∷ rest) = codes " (" ++ first ++ flat_map (λ word. codes ", " ++ word) rest ++ codes ")"

-- which fields differ of entries that lock one version, however it is written
abbrev pub other_fields : EntryParts → EntryParts → List ℕ
other_fields old new = if is_eq (version_cmp old.version new.version) then in_brackets (fields_between old new) else []
