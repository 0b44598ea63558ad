-- The order of versions (PEP 440, "Summary of permitted suffixes and relative ordering").
use Rattle.std.specs.Prelude.{ℕ, ◌==◌, List, [], ◌∷◌, Option, Some, None}
use Rattle.std.specs.Ordering.{nat_cmp, on, then_cmp}
use Rattle.std.specs.declared.cmp.Ordering.{Ordering}
use Rattle.std.specs.Cmp.Lexicographic.{slice_cmp}
use Rattle.pep440.specs.declared.parts.Pre.{Pre}
use Rattle.pep440.specs.declared.parts.Pre.TheVariants.{Alpha, Beta, Candidate}
use Rattle.pep440.specs.declared.parts.LocalPart.{LocalPart}
use Rattle.pep440.specs.declared.parts.LocalPart.TheVariants.{Word, Number}
use Rattle.pep440.specs.Text.{trim_end}
use Rattle.pep440.specs.Version.{VersionParts}

-- a release without its trailing zeros
abbrev pub trimmed : List ℕ → List ℕ
trimmed ns = trim_end (λ n. n == 0) ns

-- ranks compare first, and then numbers
abbrev pub rank_cmp : ℕ × ℕ → ℕ × ℕ → Ordering
rank_cmp = then_cmp (on (λ p. p.0) nat_cmp) (on (λ p. p.1) nat_cmp)

-- a, then b, then rc, each by number
abbrev pub pre_part_key : Pre → ℕ × ℕ
pre_part_key (Alpha n) = (1, n)
pre_part_key (Beta n) = (2, n)
pre_part_key (Candidate n) = (3, n)

-- a version with dev and neither pre nor post comes first, and one without pre last
abbrev pub pre_key_of : Option Pre → Option ℕ → Option ℕ → ℕ × ℕ
pre_key_of (Some p) post dev = pre_part_key p
pre_key_of None None (Some n) = (0, 0)
pre_key_of None None None = (4, 0)
pre_key_of None (Some n) dev = (4, 0)

abbrev pub pre_key : VersionParts → ℕ × ℕ
pre_key v = pre_key_of v.pre v.post v.dev

-- no post part comes before each post number
abbrev pub post_key : Option ℕ → ℕ × ℕ
post_key None = (0, 0)
post_key (Some n) = (1, n)

-- no dev part comes after each dev number
abbrev pub dev_key : Option ℕ → ℕ × ℕ
dev_key (Some n) = (0, n)
dev_key None = (1, 0)

-- a local number is greater than a word; numbers go by value, and words by bytes
abbrev pub part_key : LocalPart → List ℕ
part_key (Word w) = 0 ∷ w
part_key (Number n) = 1 ∷ n ∷ []

abbrev pub part_cmp : LocalPart → LocalPart → Ordering
part_cmp = on part_key (slice_cmp nat_cmp)

-- the order of two versions without their local parts
abbrev pub public_cmp : VersionParts → VersionParts → Ordering
public_cmp = then_cmp (on (λ v. v.epoch) nat_cmp)
    (then_cmp (on (λ v. trimmed v.release) (slice_cmp nat_cmp))
    (then_cmp (on pre_key rank_cmp)
    (then_cmp (on (λ v. post_key v.post) rank_cmp)
    (on (λ v. dev_key v.dev) rank_cmp))))

-- the order of versions: no local part comes before any, and a list that extends another after it
abbrev pub version_cmp : VersionParts → VersionParts → Ordering
version_cmp = then_cmp public_cmp (on (λ v. v.local) (slice_cmp part_cmp))
