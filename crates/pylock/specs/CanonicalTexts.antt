-- Texts that are the one written form of a name, a version or a digest.
use Rattle.std.specs.Prelude.{ℕ, List, Result, Ok, Err, if◌then◌else◌}
use Rattle.std.specs.Str.{bytes_eq}
use Rattle.hex.specs.Hex.{decode_sized, encode_lower}
use Rattle.hex.specs.declared.error.FromHexError.{FromHexError}
use Rattle.pep440.specs.Canonical.{canonical}
use Rattle.pep440.specs.Tied.Reading.{version_of}
use Rattle.pep440.specs.Version.{VersionParts}
use Rattle.pep440.specs.declared.fault.Fault.{Fault}
use Rattle.markers.specs.Names.{is_normal}
use Rattle.pylock.specs.declared.flaw.Flaw.{Flaw}
use Rattle.pylock.specs.declared.flaw.Flaw.TheVariants.{OtherForm}

-- a name in its normal form (PEP 503, "Normalized Names")
abbrev pub normal_name : List ℕ → Result (List ℕ) Flaw
normal_name text = if is_normal text then Ok text else Err OtherForm

-- the version that was read, where the text is its canonical one
abbrev pub if_canonical : List ℕ → Result VersionParts Fault → Result VersionParts Flaw
if_canonical text (Ok v) = if bytes_eq (canonical v) text then Ok v else Err OtherForm
if_canonical text (Err fault) = Err OtherForm

-- a version in its canonical text (PEP 440, "Normalization")
abbrev pub canonical_version : List ℕ → Result VersionParts Flaw
canonical_version text = if_canonical text (version_of text)

-- bytes whose hexadecimal digits, letters in lower case, are the text
abbrev pub if_lower : List ℕ → Result (List ℕ) FromHexError → Result (List ℕ) Flaw
if_lower text (Ok bytes) = if bytes_eq (encode_lower bytes) text then Ok bytes else Err OtherForm
if_lower text (Err e) = Err OtherForm

-- the digest of 32 bytes that a text is
abbrev pub lower_digest : List ℕ → Result (List ℕ) Flaw
lower_digest text = if_lower text (decode_sized text 32)
