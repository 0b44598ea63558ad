-- A relation and the same one with the opposite operator don't both hold.
use Rattle.std.proofs.Common.{◌≡◌, ◌∙◌, ◌&&◌, Bool, true, false, not, ℕ, List, [], ◌∷◌, Option, Some, None, ap, refl, subst, sym, inl, inr}
use Rattle.std.specs.Ordering.{is_eq, is_ge, is_gt, is_le, is_lt}
use Rattle.std.specs.declared.cmp.Ordering.{Ordering}
use Rattle.std.specs.declared.cmp.Ordering.TheVariants.{Equal, Greater, Less}
use Rattle.markers.specs.Comparisons.{clauses_read, compares, decides, text_cmp, text_compares, version_read}
use Rattle.markers.specs.Environment.{Texts}
use Rattle.markers.specs.MarkerAtoms.{operand_text, relates}
use Rattle.markers.specs.Tied.Known.{known_clauses}
use Rattle.markers.specs.declared.comparison.Comparison.{Comparison}
use Rattle.markers.specs.declared.comparison.Comparison.TheVariants as comparisons
use Rattle.markers.specs.declared.marker_atom.Operand.{Operand}
use Rattle.markers.specs.declared.marker_atom.Operand.TheVariants as operands
use Rattle.markers.specs.declared.marker_atom.MarkerOperator.{MarkerOperator}
use Rattle.markers.specs.declared.marker_atom.MarkerOperator.TheVariants as marker_operators
use Rattle.pep440.specs.Matching.{clause_matches, matches, operator_matches}
use Rattle.pep440.specs.Version.{VersionParts}
use Rattle.pep440.specs.declared.specifier.Clause.{Clause}
use Rattle.pep440.specs.declared.specifier.Operator.{Operator}
use Rattle.exports.specs.Tied.Implication.{opposite_of}
use Rattle.exports.specs.Tied.Opposites.{are_opposed, has_operator, has_opposed, is_fixed, is_opposed, opposite_marker_operator}
use Rattle.exports.proofs.SaidConditions.{both-first, both-second, not-so, one-of, opposite-turns, plain-same, same-operator}

-- ---- texts

not-not : (b : Bool) → b ≡ not (not b)
not-not true = refl
not-not false = refl

gt-le : (o : Ordering) → is_gt o ≡ not (is_le o)
gt-le Less = refl
gt-le Equal = refl
gt-le Greater = refl

le-gt : (o : Ordering) → is_le o ≡ not (is_gt o)
le-gt Less = refl
le-gt Equal = refl
le-gt Greater = refl

lt-ge : (o : Ordering) → is_lt o ≡ not (is_ge o)
lt-ge Less = refl
lt-ge Equal = refl
lt-ge Greater = refl

ge-lt : (o : Ordering) → is_ge o ≡ not (is_lt o)
ge-lt Less = refl
ge-lt Equal = refl
ge-lt Greater = refl

-- of two comparisons one holds of texts exactly where the other doesn't
abbrev AreOpposite : Comparison → Comparison → Type 0
AreOpposite c d = (left text : List ℕ) → text_compares d left text ≡ not (text_compares c left text)

decides-texts : (read : Option VersionParts) (texts : Bool) → decides read None texts ≡ texts
decides-texts (Some version) texts = refl
decides-texts None texts = refl

-- where no clause is read, texts are compared
by-texts : (c : Comparison) (left text : List ℕ) → clauses_read c text ≡ None → compares c left text ≡ text_compares c left text
by-texts c left text none =
    ap (λ (read : Option (List Clause)). decides (version_read left) read (text_compares c left text)) none ∙ decides-texts (version_read left) (text_compares c left text)

-- ---- clauses

with-operator : (operator : Option Operator) (other : Operator) → has_operator operator other ≡ true → operator ≡ Some other
with-operator None other h = absurd cc
with-operator (Some operator) other h = ap Some (same-operator operator other h)

-- a version that a clause matches isn't matched by one that it is opposed to
pub opposed-apart : (clause other : Clause) (version : VersionParts) → is_opposed clause other ≡ true → clause_matches other version ≡ true → clause_matches clause version ≡ false
opposed-apart clause other version h m =
    let operators : opposite_of clause.operator ≡ Some other.operator = with-operator (opposite_of clause.operator) other.operator (both-first (has_operator (opposite_of clause.operator) other.operator) _ h) in
    let versions : clause.version ≡ other.version = plain-same clause.version other.version (both-second (has_operator (opposite_of clause.operator) other.operator) _ h) in
    opposite-turns clause.operator other.operator clause.version version operators (ap (λ (v : VersionParts). operator_matches other.operator v version) versions ∙ m)

not-first : (a b : Bool) → a ≡ false → (a && b) ≡ false
not-first true b h = absurd cc
not-first false b h = refl

not-second : (a b : Bool) → b ≡ false → (a && b) ≡ false
not-second true b h = h
not-second false b h = refl

one-apart : (clauses : List Clause) (other : Clause) (version : VersionParts) → has_opposed clauses other ≡ true → clause_matches other version ≡ true → matches clauses version ≡ false
one-apart [] other version h m = absurd cc
one-apart (clause ∷ clauses) other version h m = elim (one-of (is_opposed clause other) _ h) [
  | inl here ↦ not-first (clause_matches clause version) _ (opposed-apart clause other version here m)
  | inr there ↦ not-second (clause_matches clause version) _ (one-apart clauses other version there m)
]

all-apart : (clauses opposed : List Clause) (version : VersionParts) → are_opposed clauses opposed ≡ true → matches opposed version ≡ true → matches clauses version ≡ false
all-apart clauses [] version h m = absurd cc
all-apart clauses (other ∷ opposed) version h m = elim (one-of (has_opposed clauses other) _ h) [
  | inl here ↦ one-apart clauses other version here (both-first (clause_matches other version) _ m)
  | inr there ↦ all-apart clauses opposed version there (both-second (clause_matches other version) _ m)
]

decided : (read : Option VersionParts) (clauses opposed : List Clause) (texts other : Bool) → are_opposed clauses opposed ≡ true → other ≡ not texts → decides read (Some opposed) other ≡ true → decides read (Some clauses) texts ≡ false
decided (Some version) clauses opposed texts other h e m = all-apart clauses opposed version h m
decided None clauses opposed texts other h e m = not-so texts (sym e ∙ m)

-- ---- comparisons

-- where neither operator reads a clause
unread-turns : (c d : Comparison) → AreOpposite c d → (left : List ℕ) (right : Operand) (environment : Texts) → is_fixed (marker_operators.Compare d) right ≡ true
    → known_clauses (marker_operators.Compare c) right ≡ None → known_clauses (marker_operators.Compare d) right ≡ None
    → compares d left (operand_text environment right) ≡ not (compares c left (operand_text environment right))
unread-turns c d texts left (operands.Variable v) environment fixed none none_too = absurd cc
unread-turns c d texts left (operands.Quoted text) environment fixed none none_too = by-texts d left text none_too ∙ texts left text ∙ ap not (sym (by-texts c left text none))

-- where both do
read-turns : (c d : Comparison) → AreOpposite c d → (left : List ℕ) (right : Operand) (environment : Texts) (clauses opposed : List Clause)
    → known_clauses (marker_operators.Compare c) right ≡ Some clauses → known_clauses (marker_operators.Compare d) right ≡ Some opposed → are_opposed clauses opposed ≡ true
    → compares d left (operand_text environment right) ≡ true → compares c left (operand_text environment right) ≡ false
read-turns c d texts left (operands.Variable v) environment clauses opposed read read_too h m = absurd cc
read-turns c d texts left (operands.Quoted text) environment clauses opposed read read_too h m =
    let own : compares c left text ≡ decides (version_read left) (Some clauses) (text_compares c left text) = ap (λ (found : Option (List Clause)). decides (version_read left) found (text_compares c left text)) read in
    let its : compares d left text ≡ decides (version_read left) (Some opposed) (text_compares d left text) = ap (λ (found : Option (List Clause)). decides (version_read left) found (text_compares d left text)) read_too in
    own ∙ decided (version_read left) clauses opposed (text_compares c left text) (text_compares d left text) h (texts left text) (sym its ∙ m)

-- ---- operators

some-same : {A : Type 0} (x y : A) → Some x ≡ Some y → x ≡ y
some-same x y h = cc

-- neither operator reads a clause
abbrev pub AreUnread : MarkerOperator → MarkerOperator → Operand → Type 0
AreUnread operator other right = (is_fixed other right ≡ true) × (known_clauses operator right ≡ None) × (known_clauses other right ≡ None)

-- both do, and the clauses are opposed
pub record AreRead (operator other : MarkerOperator) (right : Operand) : Type 0 where
  pub clauses : List Clause
  pub opposed : List Clause
  pub read : known_clauses operator right ≡ Some clauses
  pub read_too : known_clauses other right ≡ Some opposed
  pub are : are_opposed clauses opposed ≡ true

-- with the other operator the operands aren't related as with the first
abbrev pub DontBoth : MarkerOperator → MarkerOperator → Operand → Operand → Texts → Type 0
DontBoth operator other left right environment =
    relates other (operand_text environment left) (operand_text environment right) ≡ true → relates operator (operand_text environment left) (operand_text environment right) ≡ false

abbrev pub IsOppositeOf : MarkerOperator → MarkerOperator → Type 0
IsOppositeOf operator other = (left right : Operand) (environment : Texts)
    → (AreUnread operator other right → relates other (operand_text environment left) (operand_text environment right) ≡ not (relates operator (operand_text environment left) (operand_text environment right)))
    × (AreRead operator other right → DontBoth operator other left right environment)

of-comparisons : (c d : Comparison) → AreOpposite c d → IsOppositeOf (marker_operators.Compare c) (marker_operators.Compare d)
of-comparisons c d texts left right environment = (
  λ u. unread-turns c d texts (operand_text environment left) right environment u.0 u.1 u.2,
  λ r m. read-turns c d texts (operand_text environment left) right environment r.clauses r.opposed r.read r.read_too r.are m,
)

in-unread : {A : Type 0} (right : Operand) (other : MarkerOperator) → AreRead marker_operators.In other right → A
in-unread right other r = let read = r.read in absurd cc

not_in-unread : {A : Type 0} (right : Operand) (other : MarkerOperator) → AreRead marker_operators.NotIn other right → A
not_in-unread right other r = let read = r.read in absurd cc

named : (operator other found : MarkerOperator) → Some found ≡ Some other → IsOppositeOf operator found → IsOppositeOf operator other
named operator other found e f = subst (IsOppositeOf operator) (some-same found other e) f

pub is-opposite : (operator other : MarkerOperator) → opposite_marker_operator operator ≡ Some other → IsOppositeOf operator other
is-opposite (marker_operators.Compare comparisons.Compatible) other e = absurd cc
is-opposite (marker_operators.Compare comparisons.Equal) other e =
    named (marker_operators.Compare comparisons.Equal) other (marker_operators.Compare comparisons.NotEqual) e (of-comparisons comparisons.Equal comparisons.NotEqual (λ left text. refl))
is-opposite (marker_operators.Compare comparisons.NotEqual) other e =
    named (marker_operators.Compare comparisons.NotEqual) other (marker_operators.Compare comparisons.Equal) e (of-comparisons comparisons.NotEqual comparisons.Equal (λ left text. not-not (is_eq (text_cmp left text))))
is-opposite (marker_operators.Compare comparisons.AtMost) other e =
    named (marker_operators.Compare comparisons.AtMost) other (marker_operators.Compare comparisons.Above) e (of-comparisons comparisons.AtMost comparisons.Above (λ left text. gt-le (text_cmp left text)))
is-opposite (marker_operators.Compare comparisons.AtLeast) other e =
    named (marker_operators.Compare comparisons.AtLeast) other (marker_operators.Compare comparisons.Below) e (of-comparisons comparisons.AtLeast comparisons.Below (λ left text. lt-ge (text_cmp left text)))
is-opposite (marker_operators.Compare comparisons.Below) other e =
    named (marker_operators.Compare comparisons.Below) other (marker_operators.Compare comparisons.AtLeast) e (of-comparisons comparisons.Below comparisons.AtLeast (λ left text. ge-lt (text_cmp left text)))
is-opposite (marker_operators.Compare comparisons.Above) other e =
    named (marker_operators.Compare comparisons.Above) other (marker_operators.Compare comparisons.AtMost) e (of-comparisons comparisons.Above comparisons.AtMost (λ left text. le-gt (text_cmp left text)))
is-opposite marker_operators.In other e = named marker_operators.In other marker_operators.NotIn e (λ left right environment. (λ u. refl, λ r. in-unread right marker_operators.NotIn r))
is-opposite marker_operators.NotIn other e = named marker_operators.NotIn other marker_operators.In e (λ left right environment. (λ u. not-not _, λ r. not_in-unread right marker_operators.In r))
