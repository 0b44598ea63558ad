-- Which pieces of a set of specifiers are clauses (PEP 440, "Version specifiers"), as a relation between a
-- whole piece and its clause, and what a set answers.
use Rattle.std.specs.Prelude.{◌≡◌, ℕ, ◌+◌, ◌==◌, ◌&&◌, ◌||◌, nat_lt, is_none, ⊤, Bool, true, false, List, [], ◌∷◌, ◌++◌, length, Result, Ok, Err, if◌then◌else◌, codes}
use Rattle.std.specs.Char.{is_ascii_alphanumeric}
use Rattle.std.specs.List.{list_all}
use Rattle.pep440.specs.declared.fault.Fault.{Fault}
use Rattle.pep440.specs.declared.fault.Fault.TheVariants.{ArbitraryEquality, BadClause, BadVersion, NumberTooLarge, OutOfMemory}
use Rattle.pep440.specs.declared.specifier.Operator.{Operator}
use Rattle.pep440.specs.declared.specifier.Operator.TheVariants as operators
use Rattle.pep440.specs.declared.specifier.Clause.{Clause}
use Rattle.lists.specs.Spaces.{is_space_or_tab}
use Rattle.pep440.specs.Text.{pieces, trim_blank}
use Rattle.pep440.specs.Version.{VersionParts, fits}
use Rattle.pep440.specs.Grammar.{IsVersionText, is_separator}

-- a byte that begins an operator: `!`, `<`, `=`, `>` or `~`
abbrev pub begins_operator : ℕ → Bool
begins_operator b = (b == 33) || ((b == 60) || ((b == 61) || ((b == 62) || (b == 126))))

-- a byte of a set: a letter, a digit, a separator, a space or a tab, `*`, `+`, `,`, or one that begins an operator
abbrev pub is_set_byte : ℕ → Bool
is_set_byte b = is_ascii_alphanumeric b || (is_separator b || (is_space_or_tab b || ((b == 42) || ((b == 43) || ((b == 44) || begins_operator b)))))

-- how an operator is written before its version
abbrev pub sign : Operator → List ℕ
sign operators.Compatible = codes "~="
sign operators.Equal = codes "=="
sign operators.NotEqual = codes "!="
sign operators.EqualPrefix = codes "=="
sign operators.NotEqualPrefix = codes "!="
sign operators.AtMost = codes "<="
sign operators.AtLeast = codes ">="
sign operators.Below = codes "<"
sign operators.Above = codes ">"

-- what an operator has behind its version
abbrev pub star : Operator → List ℕ
star operators.EqualPrefix = codes ".*"
star operators.NotEqualPrefix = codes ".*"
star operators.Compatible = []
star operators.Equal = []
star operators.NotEqual = []
star operators.AtMost = []
star operators.AtLeast = []
star operators.Below = []
star operators.Above = []

-- an epoch and a release alone
abbrev pub is_release_alone : VersionParts → Bool
is_release_alone v = is_none v.pre && is_none v.post && is_none v.dev && (length v.local == 0)

-- whether an operator may stand before these parts: `~=` asks for two release numbers, only `==` and `!=`
-- take a local part, and before `.*` an epoch and a release stand alone
abbrev pub takes : Operator → VersionParts → Bool
takes operators.Compatible v = nat_lt 1 (length v.release) && (length v.local == 0)
takes operators.Equal v = true
takes operators.NotEqual v = true
takes operators.EqualPrefix v = is_release_alone v
takes operators.NotEqualPrefix v = is_release_alone v
takes operators.AtMost v = length v.local == 0
takes operators.AtLeast v = length v.local == 0
takes operators.Below v = length v.local == 0
takes operators.Above v = length v.local == 0

-- a piece with nothing around it is an operator, spaces and tabs, a version that the operator takes, and `.*`
-- behind it where the operator has it
pub record IsClause (piece : List ℕ) (c : Clause) : Type 0 where
  pub blanks : List ℕ
  pub version : List ℕ
  pub whole : piece ≡ sign c.operator ++ (blanks ++ (version ++ star c.operator))
  pub are_blank : list_all is_space_or_tab blanks ≡ true
  pub spells : IsVersionText version c.version
  pub taken : takes c.operator c.version ≡ true

-- what holds of each clause of a `SpecifierSet`: its operator takes its version, and the numbers fit
pub record IsLawfulClause (c : Clause) : Type 0 where
  pub taken : takes c.operator c.version ≡ true
  pub numbers : fits c.version ≡ true

-- the piece begins with `===` (PEP 440, "Arbitrary equality")
abbrev pub IsArbitrary : List ℕ → Type 0
IsArbitrary piece = (rest : List ℕ) × (piece ≡ codes "===" ++ rest)

-- what the piece at a place, with nothing around it, answers: `===` is refused first, and a number that is too
-- large where all else is a clause
abbrev pub PieceAnswers : ℕ → List ℕ → Result Clause Fault → Type 0
PieceAnswers place piece (Ok c) = IsClause piece c × (fits c.version ≡ true)
PieceAnswers place piece (Err ArbitraryEquality) = IsArbitrary piece
PieceAnswers place piece (Err NumberTooLarge) = (c : Clause) × IsClause piece c × (fits c.version ≡ false)
PieceAnswers place piece (Err (BadClause n)) = (n ≡ place) × ¬ IsArbitrary piece × ((c : Clause) → ¬ IsClause piece c)
PieceAnswers place piece (Err BadVersion) = ⊥
PieceAnswers place piece (Err OutOfMemory) = ⊥

-- pieces without a blank one at their end
abbrev pub without_end : List (List ℕ) → List (List ℕ)
without_end [] = []
without_end (piece ∷ []) = if list_all is_space_or_tab piece then [] else piece ∷ []
without_end (piece ∷ next ∷ rest) = piece ∷ without_end (next ∷ rest)

-- the first piece, and the others without a blank one at their end
abbrev pub counted : List (List ℕ) → List (List ℕ)
counted [] = []
counted (piece ∷ rest) = piece ∷ without_end rest

-- the pieces of a text that have to be clauses: those between its commas, of which one may stand behind the
-- last clause; a blank text has none
abbrev pub clause_texts : List ℕ → List (List ℕ)
clause_texts text = if list_all is_space_or_tab text then [] else counted (pieces text)

-- each piece is its clause, spaces and tabs around it or not, and the numbers fit
abbrev pub AreClauses : List (List ℕ) → List Clause → Type 0
AreClauses [] [] = ⊤
AreClauses [] (c ∷ cs) = ⊥
AreClauses (piece ∷ ps) [] = ⊥
AreClauses (piece ∷ ps) (c ∷ cs) = IsClause (trim_blank piece) c × (fits c.version ≡ true) × AreClauses ps cs

-- the first of the pieces that has a fault has this one: those before it are clauses
pub record FirstFault (ps : List (List ℕ)) (fault : Fault) : Type 0 where
  pub before : List (List ℕ)
  pub piece : List ℕ
  pub behind : List (List ℕ)
  pub clauses : List Clause
  pub whole : ps ≡ before ++ piece ∷ behind
  pub are_clauses : AreClauses before clauses
  pub answers : PieceAnswers (length before + 1) (trim_blank piece) (Err fault)

-- what a set answers: the clauses of its pieces, or the fault of the first piece that has one
abbrev pub SetAnswers : List ℕ → Result (List Clause) Fault → Type 0
SetAnswers text (Ok clauses) = AreClauses (clause_texts text) clauses
SetAnswers text (Err fault) = FirstFault (clause_texts text) fault
