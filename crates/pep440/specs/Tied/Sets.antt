-- Reading a set of specifiers from left to right.
-- Tied to `PieceAnswers` by the law `a_piece_has_one_answer`, and to `SetAnswers` by the law
-- `a_set_has_one_answer`; need not be read.
use Rattle.std.specs.Prelude.{ℕ, ◌+◌, ◌-◌, ◌==◌, ◌&&◌, nat_le, nat_lt, slice_index, take, Bool, true, false, List, [], ◌∷◌, length, Option, Some, None, Result, Ok, Err, if◌then◌else◌}
use Rattle.std.specs.List.{list_all}
use Rattle.pep440.specs.declared.fault.Fault.{Fault}
use Rattle.pep440.specs.declared.fault.Fault.TheVariants.{ArbitraryEquality, BadClause, NumberTooLarge}
use Rattle.pep440.specs.declared.specifier.Operator.{Operator}
use Rattle.pep440.specs.declared.specifier.Operator.TheVariants as operators
use Rattle.pep440.specs.declared.specifier.Clause.{Clause}
use Rattle.pep440.specs.Version.{VersionParts, fits}
use Rattle.pep440.specs.SetGrammar.{takes}
use Rattle.pep440.specs.Tied.Reading.{bare_parts}
use Rattle.lists.specs.Spaces.{is_space_or_tab}
use Rattle.pep440.specs.Text.{pieces, trim_blank, trim_front}

infixl 10 ◌>>=◌
abbrev pub ◌>>=◌ : {A B : Type 0} → Result A Fault → (A → Result B Fault) → Result B Fault
(Ok x) >>= f = f x
(Err e) >>= f = Err e

-- the operators of two characters, by what stands before `=`
abbrev pub double_of : ℕ → Option Operator
double_of a =
    if a == 126 then Some operators.Compatible
    else (if a == 61 then Some operators.Equal
    else (if a == 33 then Some operators.NotEqual
    else (if a == 60 then Some operators.AtMost
    else (if a == 62 then Some operators.AtLeast else None))))

-- the operators of one character
abbrev pub single_of : ℕ → Option Operator
single_of a = if a == 60 then Some operators.Below else (if a == 62 then Some operators.Above else None)

-- an operator, and the text behind it
abbrev pub with_rest : Option Operator → List ℕ → Option (Operator × List ℕ)
with_rest None rest = None
with_rest (Some o) rest = Some (o, rest)

-- the longest operator that begins a piece, and the text behind it
abbrev pub operator_of : List ℕ → Option (Operator × List ℕ)
operator_of [] = None
operator_of (a ∷ []) = with_rest (single_of a) []
operator_of (a ∷ b ∷ rest) = if b == 61 then with_rest (double_of a) rest else with_rest (single_of a) (b ∷ rest)

-- `===` begins the piece (PEP 440, "Arbitrary equality")
abbrev pub is_arbitrary : List ℕ → Bool
is_arbitrary [] = false
is_arbitrary (a ∷ []) = false
is_arbitrary (a ∷ b ∷ []) = false
is_arbitrary (a ∷ b ∷ c ∷ rest) = (a == 61) && (b == 61) && (c == 61)

-- the clause at place k of an operator and the parts that its text spells
abbrev pub clause_with : ℕ → Operator → Option VersionParts → Result Clause Fault
clause_with k o None = Err (BadClause k)
clause_with k o (Some v) =
    if takes o v then (if fits v then Ok (record { operator = o; version = v }) else Err NumberTooLarge) else Err (BadClause k)

-- `.*` ends the text
abbrev pub ends_in_star : List ℕ → Bool
ends_in_star text = nat_le 2 (length text) && ((slice_index text (length text - 2) == 46) && (slice_index text (length text - 1) == 42))

-- what an operator means where `.*` stands behind the version, or not; only `==` and `!=` take it
abbrev pub star_operator : Bool → Operator → Option Operator
star_operator false o = Some o
star_operator true operators.Equal = Some operators.EqualPrefix
star_operator true operators.NotEqual = Some operators.NotEqualPrefix
star_operator true operators.Compatible = None
star_operator true operators.EqualPrefix = None
star_operator true operators.NotEqualPrefix = None
star_operator true operators.AtMost = None
star_operator true operators.AtLeast = None
star_operator true operators.Below = None
star_operator true operators.Above = None

-- the text in front of `.*`
abbrev pub version_text : Bool → List ℕ → List ℕ
version_text false text = text
version_text true text = take (length text - 2) text

abbrev pub clause_for : ℕ → Option Operator → Option VersionParts → Result Clause Fault
clause_for k None parts = Err (BadClause k)
clause_for k (Some o) parts = clause_with k o parts

-- the clause at place k of an operator and the text of its version
abbrev pub clause_text : ℕ → Operator → List ℕ → Result Clause Fault
clause_text k o text = clause_for k (star_operator (ends_in_star text) o) (bare_parts (version_text (ends_in_star text) text))

-- a clause behind its operator: spaces and tabs, a version, and `.*` where it may stand
abbrev pub clause_behind : ℕ → Option (Operator × List ℕ) → Result Clause Fault
clause_behind k None = Err (BadClause k)
clause_behind k (Some p) = clause_text k p.0 (trim_front is_space_or_tab p.1)

-- the clause that a piece at place k spells, or the first of its faults
abbrev pub clause_of : ℕ → List ℕ → Result Clause Fault
clause_of k piece = if is_arbitrary piece then Err ArbitraryEquality else clause_behind k (operator_of piece)

-- the clauses of pieces from place k on; behind a clause the last piece may be blank
unfoldable pub clauses_from : ℕ → List (List ℕ) → Result (List Clause) Fault
clauses_from k [] = Ok []
clauses_from k (piece ∷ []) =
    if nat_lt 1 k && list_all is_space_or_tab piece then Ok [] else (clause_of k (trim_blank piece) >>= λ c. Ok (c ∷ []))
clauses_from k (piece ∷ next ∷ rest) =
    clause_of k (trim_blank piece) >>= λ c. clauses_from (k + 1) (next ∷ rest) >>= λ cs. Ok (c ∷ cs)

-- the clauses of a text, or the fault of its first faulty clause; a blank text has none
abbrev pub set_of : List ℕ → Result (List Clause) Fault
set_of text = if list_all is_space_or_tab text then Ok [] else clauses_from 1 (pieces text)
