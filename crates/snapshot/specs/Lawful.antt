-- What holds of every release that can be used (reqlock's own format of an index).
use Rattle.std.specs.Prelude.{◌≡◌, true, Some, Ok, MatchOption}
use Rattle.std.specs.List.{AllByRecursion}
use Rattle.std.specs.List.Sorted.{IsStrictlySortedBy}
use Rattle.distributions.specs.declared.file.DistributionFile.{DistributionFile}
use Rattle.distributions.specs.Files.{is_lawful, is_lawful_sdist, is_lawful_wheel}
use Rattle.snapshot.specs.Files.{each_file, has_file, has_file_name, has_url, name_cmp}
use Rattle.pep440.specs.Python.{python_of}
use Rattle.snapshot.specs.Release.{Release}

-- a file's size fits, and its digest is in lower case
abbrev pub IsFile : DistributionFile → Type 0
IsFile f = is_lawful f ≡ true

abbrev pub IsWheel : DistributionFile → Type 0
IsWheel f = is_lawful_wheel f ≡ true

abbrev pub IsSdist : DistributionFile → Type 0
IsSdist f = is_lawful_sdist f ≡ true

-- what it asks of Python is what its text reads as, which isn't blank; the wheels rise by name; there is a file; the
-- names of files are no paths, and their URLs are visible ASCII
pub record IsRelease (r : Release) : Type 0 where
  pub python : MatchOption r.requires_python Unit (λ p. python_of p.text ≡ Ok (Some p))
  pub sdist : MatchOption r.sdist Unit IsSdist
  pub wheels : AllByRecursion IsWheel r.wheels
  pub order : IsStrictlySortedBy name_cmp r.wheels
  pub files : has_file r.sdist r.wheels ≡ true
  pub names : each_file has_file_name r.sdist r.wheels ≡ true
  pub urls : each_file has_url r.sdist r.wheels ≡ true
