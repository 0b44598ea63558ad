-- Names, versions and digests are read back from the texts that they are written as.
use Rattle.std.proofs.Common.{◌≡◌, ℕ, true, List, [], ◌∷◌, length, Result, Ok, refl}
use Rattle.std.proofs.lemmas.Bool.{and_parts}
use Rattle.std.proofs.lemmas.Slice.Eq.{bytes_eq-Decides}
use Rattle.std.specs.List.{AllByRecursion, list_all}
use Rattle.std.specs.Str.{bytes_eq}
use Rattle.hex.specs.Hex.{IsBytes, encode_lower}
use Rattle.hex.proofs.HexLemmas.{decode_sized-encode_lower}
use Rattle.pep440.specs.Canonical.{canonical}
use Rattle.pep440.specs.Tied.Reading.{version_of}
use Rattle.pep440.specs.Version.{IsVersion, VersionParts}
use Rattle.markers.specs.Names.{is_normal}
use Rattle.pylock.specs.declared.flaw.Flaw.{Flaw}
use Rattle.pylock.specs.CanonicalTexts.{canonical_version, lower_digest}
use Rattle.pylock.specs.Packages.{is_other}

same_bytes : (t : List ℕ) → bytes_eq t t ≡ true
same_bytes t = (bytes_eq-Decides t t).1 refl

-- the canonical text of a version is read as that version
abbrev pub ReadsVersions : Type 0
ReadsVersions = (v : VersionParts) → IsVersion v → version_of (canonical v) ≡ Ok v

pub canonical-back : ReadsVersions → (v : VersionParts) → IsVersion v → canonical_version (canonical v) ≡ Ok v
canonical-back reads v h = rw (reads v h, same_bytes (canonical v)) refl

pub lower-back : (bytes : List ℕ) → length bytes ≡ 32 → IsBytes bytes → lower_digest (encode_lower bytes) ≡ Ok bytes
lower-back bytes size is = rw (decode_sized-encode_lower bytes 32 size is, same_bytes (encode_lower bytes)) refl

module _ {D X : Type 0} (form : X → D) (reading : D → Result X Flaw) where
  -- each item of the list is read back
  abbrev pub Back : List X → Type 0
  Back = AllByRecursion (λ x. reading (form x) ≡ Ok x)

  pub all-back : (xs : List X) → ((x : X) → reading (form x) ≡ Ok x) → Back xs
  all-back [] h = tt
  all-back (x ∷ xs) h = (h x, all-back xs h)

module _ {D : Type 0} (form : List ℕ → D) (reading : D → Result (List ℕ) Flaw) (back : (name : List ℕ) → is_normal name ≡ true → reading (form name) ≡ Ok name) where
  -- the dependencies of a package
  pub names-back : (own : List ℕ) (names : List (List ℕ)) → list_all (is_other own) names ≡ true → Back form reading names
  names-back own [] h = tt
  names-back own (n ∷ ns) h =
      let all = and_parts (is_other own n) (list_all (is_other own) ns) h in
      (back n (and_parts (is_normal n) _ all.0).0, names-back own ns all.1)
