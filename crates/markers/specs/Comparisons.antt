-- How two texts compare in a marker (PEP 508, "Environment Markers").
use Rattle.std.specs.Prelude.{ℕ, ◌==◌, Bool, false, not, List, ◌++◌, Option, Some, None, if◌then◌else◌}
use Rattle.std.specs.Cmp.Lexicographic.{slice_cmp}
use Rattle.std.specs.List.{list_any}
use Rattle.std.specs.Ordering.{is_eq, is_ge, is_gt, is_le, is_lt, nat_cmp}
use Rattle.std.specs.Result.{result_ok}
use Rattle.std.specs.declared.cmp.Ordering.{Ordering}
use Rattle.pep440.specs.Matching.{matches}
use Rattle.pep440.specs.SetGrammar.{sign as operator_sign}
use Rattle.pep440.specs.Tied.Reading.{version_of}
use Rattle.pep440.specs.Tied.Sets.{set_of}
use Rattle.pep440.specs.Version.{VersionParts}
use Rattle.pep440.specs.declared.specifier.Clause.{Clause}
use Rattle.pep440.specs.declared.specifier.Operator.{Operator}
use Rattle.pep440.specs.declared.specifier.Operator.TheVariants as operators
use Rattle.markers.specs.declared.comparison.Comparison.{Comparison}
use Rattle.markers.specs.declared.comparison.Comparison.TheVariants as comparisons

-- the operator of a clause that is written as a comparison is
abbrev pub operator_of : Comparison → Operator
operator_of comparisons.Compatible = operators.Compatible
operator_of comparisons.Equal = operators.Equal
operator_of comparisons.NotEqual = operators.NotEqual
operator_of comparisons.AtMost = operators.AtMost
operator_of comparisons.AtLeast = operators.AtLeast
operator_of comparisons.Below = operators.Below
operator_of comparisons.Above = operators.Above

-- how a comparison is written
abbrev pub sign : Comparison → List ℕ
sign comparison = operator_sign (operator_of comparison)

-- the version that a text reads as, or none (PEP 440, "Version scheme")
unfoldable pub version_read : List ℕ → Option VersionParts
version_read text = result_ok (version_of text)

-- a comma stands in the text
abbrev pub has_comma : List ℕ → Bool
has_comma text = list_any (λ b. b == 44) text

-- the clauses that a sign and the text behind it read as, joined to the letter: none where a comma stands in the text (PEP 440, "Version specifiers")
unfoldable pub clauses_read : Comparison → List ℕ → Option (List Clause)
clauses_read comparison text = if has_comma text then None else result_ok (set_of (sign comparison ++ text))

-- the order of texts by their bytes
abbrev pub text_cmp : List ℕ → List ℕ → Ordering
text_cmp = slice_cmp nat_cmp

-- whether texts compare so; no text is compatible with another (reqlock's own rule)
abbrev pub text_compares : Comparison → List ℕ → List ℕ → Bool
text_compares comparisons.Compatible left right = false
text_compares comparisons.Equal left right = is_eq (text_cmp left right)
text_compares comparisons.NotEqual left right = not (is_eq (text_cmp left right))
text_compares comparisons.AtMost left right = is_le (text_cmp left right)
text_compares comparisons.AtLeast left right = is_ge (text_cmp left right)
text_compares comparisons.Below left right = is_lt (text_cmp left right)
text_compares comparisons.Above left right = is_gt (text_cmp left right)

-- the clauses decide of the version; where either is missing, what the texts say
abbrev pub decides : Option VersionParts → Option (List Clause) → Bool → Bool
decides (Some version) (Some clauses) texts = matches clauses version
decides (Some version) None texts = texts
decides None clauses texts = texts

-- whether the left text compares so with the right one (PEP 508, "Environment Markers"): as a version with clauses where both read so
abbrev pub compares : Comparison → List ℕ → List ℕ → Bool
compares comparison left right =
    decides (version_read left) (clauses_read comparison right) (text_compares comparison left right)
