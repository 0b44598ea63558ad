-- Entries of a lock (PEP 751, "packages").
use Rattle.std.specs.Prelude.{◌≡◌, ℕ, ◌==◌, ◌&&◌, ◌||◌, not, Bool, true, List, length, map, Option, Some, None, is_ok, is_some, if◌then◌else◌}
use Rattle.std.specs.List.{list_all}
use Rattle.std.specs.Option.{option_map_or}
use Rattle.std.specs.Str.{bytes_eq}
use Rattle.pep440.specs.Tied.Sets.{set_of}
use Rattle.lists.specs.Spaces.{is_blank}
use Rattle.pep440.specs.Version.{IsVersion, VersionParts}
use Rattle.markers.specs.Names.{is_normal}
use Rattle.distributions.specs.declared.file.DistributionFile.{DistributionFile}
use Rattle.distributions.specs.Files.{is_lawful_sdist, is_lawful_wheel}
use Rattle.lists.specs.Rising.{rises}

-- what an entry holds
pub record EntryParts : Type 0 where
  pub name : List ℕ
  pub version : VersionParts
  pub requires_python : Option (List ℕ)
  pub dependencies : List (List ℕ)
  pub sdist : Option DistributionFile
  pub wheels : List DistributionFile

-- a set of specifiers that isn't spaces and tabs alone (PEP 440, "Version specifiers")
abbrev pub is_python : List ℕ → Bool
is_python text = not (is_blank text) && is_ok (set_of text)

-- the name of another package
abbrev pub is_other : List ℕ → List ℕ → Bool
is_other own name = is_normal name && not (bytes_eq name own)

-- names of other packages, in order, none twice
abbrev pub are_dependencies : List ℕ → List (List ℕ) → Bool
are_dependencies own names = rises names && list_all (is_other own) names

-- wheels in the order of their names, no name twice
abbrev pub are_wheels : List DistributionFile → Bool
are_wheels files = rises (map (λ f. f.name) files) && list_all is_lawful_wheel files

-- an entry has a name, lawful parts, and a file at least (reqlock's own rule)
abbrev pub is_package : EntryParts → Bool
is_package p =
    is_normal p.name && option_map_or is_python p.requires_python true && are_dependencies p.name p.dependencies
    && option_map_or is_lawful_sdist p.sdist true && are_wheels p.wheels && (is_some p.sdist || not (length p.wheels == 0))

-- what holds of every entry
pub record IsPackage (p : EntryParts) : Type 0 where
  pub version : IsVersion p.version
  pub parts : is_package p ≡ true

-- the entry of these parts, where they are lawful
abbrev pub entry_of : EntryParts → Option EntryParts
entry_of p = if is_package p then Some p else None
