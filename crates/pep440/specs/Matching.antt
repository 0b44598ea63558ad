-- Which versions a specifier matches (PEP 440, "Version specifiers").
use Rattle.std.specs.Prelude.{ℕ, ◌-◌, ◌==◌, ◌&&◌, ◌||◌, not, nat_eq, Bool, true, false, List, [], ◌∷◌, length, take, if◌then◌else◌}
use Rattle.std.specs.List.{list_all, list_any}
use Rattle.std.specs.Ordering.{is_eq, is_ge, is_gt, is_le, is_lt}
use Rattle.std.specs.Cmp.Lexicographic.{pointwise}
use Rattle.pep440.specs.declared.specifier.Operator.{Operator}
use Rattle.pep440.specs.declared.specifier.Operator.TheVariants as operators
use Rattle.pep440.specs.declared.specifier.Clause.{Clause}
use Rattle.pep440.specs.Version.{VersionParts, is_post, is_pre}
use Rattle.pep440.specs.Order.{public_cmp, trimmed, version_cmp}

-- `==V`: where V has no local part, that of the candidate is ignored (PEP 440, "Version matching")
abbrev pub equals : VersionParts → VersionParts → Bool
equals w v = is_eq (if length w.local == 0 then public_cmp v w else version_cmp v w)

-- a release, padded with zeros, begins with a prefix
abbrev pub begins : List ℕ → List ℕ → Bool
begins ns [] = true
begins [] (p ∷ ps) = (0 == p) && begins [] ps
begins (n ∷ ns) (p ∷ ps) = (n == p) && begins ns ps

-- `==V.*`: all but the epoch and the release is ignored (PEP 440, "Version matching")
abbrev pub has_prefix : ℕ → List ℕ → VersionParts → Bool
has_prefix epoch release v = (v.epoch == epoch) && begins v.release release

-- a release without its last number
abbrev pub without_last : List ℕ → List ℕ
without_last ns = take (length ns - 1) ns

-- equal epochs, and equal releases without their trailing zeros
abbrev pub same_release : VersionParts → VersionParts → Bool
same_release v w = (v.epoch == w.epoch) && pointwise nat_eq (trimmed v.release) (trimmed w.release)

-- `>=V` (PEP 440, "Inclusive ordered comparison")
abbrev pub at_least : VersionParts → VersionParts → Bool
at_least w v = is_ge (public_cmp v w)

-- `<V`: a pre-release of V is no match, unless V is one (PEP 440, "Exclusive ordered comparison")
abbrev pub below : VersionParts → VersionParts → Bool
below w v = is_lt (public_cmp v w) && (is_pre w || not (is_pre v && same_release v w))

-- `>V`: a post-release of V is no match, unless V is one (PEP 440, "Exclusive ordered comparison")
abbrev pub above : VersionParts → VersionParts → Bool
above w v = is_gt (public_cmp v w) && (is_post w || not (is_post v && same_release v w))

-- whether an operator with the version w matches the candidate v
abbrev pub operator_matches : Operator → VersionParts → VersionParts → Bool
operator_matches operators.Compatible w v = at_least w v && has_prefix w.epoch (without_last w.release) v
operator_matches operators.Equal w v = equals w v
operator_matches operators.NotEqual w v = not (equals w v)
operator_matches operators.EqualPrefix w v = has_prefix w.epoch w.release v
operator_matches operators.NotEqualPrefix w v = not (has_prefix w.epoch w.release v)
operator_matches operators.AtMost w v = is_le (public_cmp v w)
operator_matches operators.AtLeast w v = at_least w v
operator_matches operators.Below w v = below w v
operator_matches operators.Above w v = above w v

abbrev pub clause_matches : Clause → VersionParts → Bool
clause_matches c v = operator_matches c.operator c.version v

-- a set matches where all its clauses do
abbrev pub matches : List Clause → VersionParts → Bool
matches cs v = list_all (λ c. clause_matches c v) cs

-- `!=`, with `.*` or without
abbrev pub is_exclusion : Operator → Bool
is_exclusion operators.NotEqual = true
is_exclusion operators.NotEqualPrefix = true
is_exclusion operators.Compatible = false
is_exclusion operators.Equal = false
is_exclusion operators.EqualPrefix = false
is_exclusion operators.AtMost = false
is_exclusion operators.AtLeast = false
is_exclusion operators.Below = false
is_exclusion operators.Above = false

-- `==` without `.*`
abbrev pub is_pin : Operator → Bool
is_pin operators.Equal = true
is_pin operators.Compatible = false
is_pin operators.NotEqual = false
is_pin operators.EqualPrefix = false
is_pin operators.NotEqualPrefix = false
is_pin operators.AtMost = false
is_pin operators.AtLeast = false
is_pin operators.Below = false
is_pin operators.Above = false

-- a clause other than `!=` names a pre-release (reqlock's own rule)
abbrev pub names_pre : List Clause → Bool
names_pre cs = list_any (λ c. not (is_exclusion c.operator) && is_pre c.version) cs

-- a clause is `==` without `.*` (reqlock's own rule)
abbrev pub pins : List Clause → Bool
pins cs = list_any (λ c. is_pin c.operator) cs
