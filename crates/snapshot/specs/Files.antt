-- The files of a release (reqlock's own format of an index).
use Rattle.std.specs.Prelude.{ℕ, ◌==◌, ◌&&◌, ◌||◌, not, Bool, true, false, List, [], ◌∷◌, length, codes, fold, filter, find, Option, Some, None, option_and_then, Result, Ok, if◌then◌else◌}
use Rattle.std.specs.BTreeSet.{insert_key}
use Rattle.std.specs.Char.{is_ascii_graphic}
use Rattle.std.specs.Cmp.Lexicographic.{slice_cmp}
use Rattle.std.specs.List.{list_all}
use Rattle.std.specs.Option.{option_or}
use Rattle.std.specs.Ordering.{is_eq, nat_cmp}
use Rattle.std.specs.declared.cmp.Ordering.{Ordering}
use Rattle.serde_json.specs.Data.{Data}
use Rattle.serde_json.specs.Find.{as_number, as_str, as_u64}
use Rattle.distributions.specs.declared.file.DistributionFile.{DistributionFile}
use Rattle.distributions.specs.Digests.{digest_in}
use Rattle.distributions.specs.Forms.{form_of, is_tar_gz, is_wheel, is_zip}
use Rattle.distributions.specs.Sizes.{is_size}
use Rattle.snapshot.specs.declared.fault.Fault.{Fault}
use Rattle.snapshot.specs.Shape.{◌>>=◌, field, object_of, required}

-- a text that is not empty
abbrev pub filled : List ℕ → Option (List ℕ)
filled text = if length text == 0 then None else Some text

-- the number of bytes of a file
abbrev pub fitting_size : ℕ → Option ℕ
fitting_size n = if is_size n then Some n else None

abbrev pub as_filled : Data → Option (List ℕ)
as_filled d = option_and_then filled (as_str d)

abbrev pub as_size : Data → Option ℕ
as_size d = option_and_then fitting_size (option_and_then as_u64 (as_number d))

abbrev pub as_digest : Data → Option (List ℕ)
as_digest d = option_and_then digest_in (as_str d)

-- the keys of a file, in the order in which their shapes are tested
unfoldable pub file_of : Data → Result DistributionFile Fault
file_of d = do
  _ ← object_of d
  name ← field (required as_filled) (codes "name") d
  url ← field (required as_str) (codes "url") d
  size ← field (required as_size) (codes "size") d
  sha256 ← field (required as_digest) (codes "sha256") d
  Ok (record { name = name; url = url; size = size; sha256 = sha256 })

-- files by their names, in the order of bytes
abbrev pub name_cmp : DistributionFile → DistributionFile → Ordering
name_cmp f g = slice_cmp nat_cmp f.name g.name

-- whether g has the name of f
abbrev pub has_name_of : DistributionFile → DistributionFile → Bool
has_name_of f g = is_eq (name_cmp f g)

-- the files that are wheels, as they are listed
abbrev pub listed_wheels : List DistributionFile → List DistributionFile
listed_wheels files = filter (λ f. is_wheel (form_of f.name)) files

-- the wheels by name; of those with one name the first that is listed
abbrev pub wheels_of : List DistributionFile → List DistributionFile
wheels_of files = fold (insert_key name_cmp) [] (listed_wheels files)

-- the first file that is a `.tar.gz`, else the first that is a `.zip`
abbrev pub sdist_of : List DistributionFile → Option DistributionFile
sdist_of files = option_or (find (λ f. is_tar_gz (form_of f.name)) files) (find (λ f. is_zip (form_of f.name)) files)

-- whether there is a file to install from
abbrev pub has_file : Option DistributionFile → List DistributionFile → Bool
has_file (Some sdist) wheels = true
has_file None (wheel ∷ wheels) = true
has_file None [] = false

-- the signs that part a path on some system: a slash, a backslash, and the colon behind a drive
abbrev pub parts_a_path : ℕ → Bool
parts_a_path b = (b == 47 || b == 92) || b == 58

-- whether a byte may stand in a file's name
abbrev pub is_name_byte : ℕ → Bool
is_name_byte b = is_ascii_graphic b && not (parts_a_path b)

-- whether a file's name is one, and no path: visible ASCII without space
abbrev pub has_file_name : DistributionFile → Bool
has_file_name f = list_all is_name_byte f.name

-- whether a file's URL may be one: visible ASCII, as all else is percent-encoded (RFC 3986, "Characters")
abbrev pub has_url : DistributionFile → Bool
has_url f = list_all is_ascii_graphic f.url

-- whether a test holds of each file to install from
abbrev pub each_file : (DistributionFile → Bool) → Option DistributionFile → List DistributionFile → Bool
each_file test None wheels = list_all test wheels
each_file test (Some sdist) wheels = test sdist && list_all test wheels
