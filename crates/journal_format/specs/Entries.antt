-- The entries of a lock as a journal has them (reqlock's own format).
use Rattle.std.specs.Prelude.{ℕ, List, [], ◌∷◌, codes, Result, Ok}
use Rattle.pep440.specs.Version.{VersionParts}
use Rattle.pylock.specs.CanonicalTexts.{canonical_version, lower_digest, normal_name}
use Rattle.pylock.specs.Flaws.{◌>>=◌, found}
use Rattle.distributions.specs.declared.file.DistributionFile.{DistributionFile}
use Rattle.pylock.specs.declared.flaw.Flaw.{Flaw}
use Rattle.pylock.specs.Packages.{EntryParts, entry_of}
use Rattle.serde_json.specs.Data.{Data}
use Rattle.journal_format.specs.Forms.{at, list_of, number_of, only_keys, or_null, text_of}

-- the keys of a file
abbrev pub file_keys : List (List ℕ)
file_keys = codes "name" ∷ codes "sha256" ∷ codes "size" ∷ codes "url" ∷ []

-- a file
unfoldable pub file_in : Data → Result DistributionFile Flaw
file_in d = do
  _ ← only_keys file_keys d
  name ← at (codes "name") text_of d
  sha256 ← at (codes "sha256") text_of d
  size ← at (codes "size") number_of d
  url ← at (codes "url") text_of d
  Ok (record { name = name; url = url; size = size; sha256 = sha256 })

-- a name in its normal form
unfoldable pub name_in : Data → Result (List ℕ) Flaw
name_in d = do
  text ← text_of d
  normal_name text

-- a version in its canonical text
unfoldable pub version_in : Data → Result VersionParts Flaw
version_in d = do
  text ← text_of d
  canonical_version text

-- a digest of 32 bytes in hexadecimal digits, letters in lower case
unfoldable pub digest_in : Data → Result (List ℕ) Flaw
digest_in d = do
  text ← text_of d
  lower_digest text

-- the keys of an entry
abbrev pub entry_keys : List (List ℕ)
entry_keys = codes "dependencies" ∷ codes "requires_python" ∷ codes "sdist" ∷ codes "version" ∷ codes "wheels" ∷ []

-- the entry of a name
unfoldable pub entry_in : List ℕ → Data → Result EntryParts Flaw
entry_in name d = do
  _ ← only_keys entry_keys d
  dependencies ← at (codes "dependencies") (list_of name_in) d
  python ← at (codes "requires_python") (or_null text_of) d
  sdist ← at (codes "sdist") (or_null file_in) d
  version ← at (codes "version") version_in d
  wheels ← at (codes "wheels") (list_of file_in) d
  found (entry_of (record { name = name; version = version; requires_python = python; dependencies = dependencies; sdist = sdist; wheels = wheels }))
