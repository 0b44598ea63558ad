-- Environments (PEP 508, "Environment Markers").
use Rattle.std.specs.Prelude.{◌≡◌, ℕ, ◌-◌, ◌==◌, ◌&&◌, ◌||◌, nat_le, nat_lt, not, Bool, true, false, List, [], ◌∷◌, ◌++◌, length, slice_index, take, map, find, codes, is_some, Option, Some, None, option_and_then, Result, Ok, Err, if◌then◌else◌}
use Rattle.std.specs.List.{flat_map, list_all, slice_index_or}
use Rattle.std.specs.Option.{option_map}
use Rattle.std.specs.Str.{bytes_eq, is_utf8}
use Rattle.serde_json.specs.Data.{Data, object}
use Rattle.serde_json.specs.Find.{as_str, get}
use Rattle.serde_json.specs.Read.{read}
use Rattle.markers.specs.declared.fault.Cause.{Cause}
use Rattle.markers.specs.declared.fault.Cause.TheVariants.{BadEnvironment}
use Rattle.markers.specs.declared.variable.Variable.{Variable}
use Rattle.markers.specs.declared.variable.Variable.TheVariants as variables
use Rattle.markers.specs.Comparisons.{version_read}
use Rattle.markers.specs.Variables.{variable_name}

-- the variables, in the byte order of their names
abbrev pub all_variables : List Variable
all_variables =
    variables.ImplementationName ∷ variables.ImplementationVersion ∷ variables.OsName ∷ variables.PlatformMachine ∷ variables.PlatformPythonImplementation ∷ variables.PlatformRelease ∷ variables.PlatformSystem
    ∷ variables.PlatformVersion ∷ variables.PythonFullVersion ∷ variables.PythonVersion ∷ variables.SysPlatform ∷ []

-- the texts of an environment, in the order of its variables
abbrev pub Texts : Type 0
Texts = List (List ℕ)

-- the place of a variable in that order
abbrev pub place_of : Variable → ℕ
place_of variables.ImplementationName = 0
place_of variables.ImplementationVersion = 1
place_of variables.OsName = 2
place_of variables.PlatformMachine = 3
place_of variables.PlatformPythonImplementation = 4
place_of variables.PlatformRelease = 5
place_of variables.PlatformSystem = 6
place_of variables.PlatformVersion = 7
place_of variables.PythonFullVersion = 8
place_of variables.PythonVersion = 9
place_of variables.SysPlatform = 10

-- the text of a variable
abbrev pub text_of : Texts → Variable → List ℕ
text_of texts variable = slice_index_or texts (place_of variable) []

-- the variable of that name, if there is one
abbrev pub variable_named : List ℕ → Option Variable
variable_named name = find (λ variable. bytes_eq (variable_name variable) name) all_variables

-- the text of the variable of that name, none for any other word
abbrev pub value_of : Texts → List ℕ → Option (List ℕ)
value_of texts name = option_map (text_of texts) (variable_named name)

-- ---- lawful texts

-- a printable ASCII character
abbrev pub is_printable : ℕ → Bool
is_printable b = nat_le 32 b && nat_le b 126

-- a printable ASCII character that stands for itself between double quotes (reqlock's own rule)
abbrev pub is_unescaped : ℕ → Bool
is_unescaped b = is_printable b && not (b == 34) && not (b == 92)

-- the variables whose texts are versions
abbrev pub is_versioned : Variable → Bool
is_versioned variables.PythonFullVersion = true
is_versioned variables.PythonVersion = true
is_versioned variable = false

-- whether a variable may have the text (reqlock's own rule)
abbrev pub is_lawful : Variable → List ℕ → Bool
is_lawful variable text = list_all is_unescaped text && (not (is_versioned variable) || is_some (version_read text))

-- what holds of every `Environment`
pub record IsEnvironment (texts : Texts) : Type 0 where
  pub count : length texts ≡ 11
  pub lawful : (variable : Variable) → is_lawful variable (text_of texts variable) ≡ true

-- ---- reading

-- `+` ends the text
abbrev pub ends_in_plus : List ℕ → Bool
ends_in_plus text = nat_lt 0 (length text) && (slice_index text (length text - 1) == 43)

-- a text without a `+` at its end
abbrev pub without_plus : List ℕ → List ℕ
without_plus text = if ends_in_plus text then take (length text - 1) text else text

-- the text that is kept for a variable: Python writes `+` behind the full version of an unreleased build
abbrev pub kept_text : Variable → List ℕ → List ℕ
kept_text variables.PythonFullVersion text = without_plus text
kept_text variable text = text

-- a text that is lawful for its variable
abbrev pub checked_text : Variable → List ℕ → Result (List ℕ) Cause
checked_text variable text = if is_lawful variable text then Ok text else Err (BadEnvironment (Some variable))

-- the text of a variable, where there is a lawful one
abbrev pub text_for : Variable → Option (List ℕ) → Result (List ℕ) Cause
text_for variable None = Err (BadEnvironment (Some variable))
text_for variable (Some text) = checked_text variable (kept_text variable text)

-- the text that an object has for a variable
unfoldable pub text_in : Data → Variable → Result (List ℕ) Cause
text_in d variable = text_for variable (option_and_then as_str (get (variable_name variable) d))

infixl 10 ◌>>=◌
-- the next step, unless this one has a fault
abbrev pub ◌>>=◌ : {A B : Type 0} → Result A Cause → (A → Result B Cause) → Result B Cause
(Ok x) >>= f = f x
(Err e) >>= f = Err e

-- the texts that an object has for variables, or the fault of the first that has none
unfoldable pub texts_in : Data → List Variable → Result Texts Cause
texts_in d [] = Ok []
texts_in d (variable ∷ rest) = do
  text ← text_in d variable
  texts ← texts_in d rest
  Ok (text ∷ texts)

-- a JSON value that is an object
abbrev pub object_in : Option Data → Result Data Cause
object_in (Some (object members)) = Ok (object members)
object_in found = Err (BadEnvironment None)

-- the JSON object of the bytes, which have to be UTF-8
unfoldable pub object_of : List ℕ → Result Data Cause
object_of bytes = if is_utf8 bytes then object_in (read bytes) else Err (BadEnvironment None)

-- the environment of a file, or why it is refused
unfoldable pub environment_of : List ℕ → Result Texts Cause
environment_of bytes = do
  d ← object_of bytes
  texts_in d all_variables

-- ---- writing

-- `NAME == "VALUE"`
abbrev pub condition : Texts → Variable → List ℕ
condition texts variable = variable_name variable ++ (codes " == \"" ++ (text_of texts variable ++ codes "\""))

-- conditions, joined by `and`
abbrev pub joined : List (List ℕ) → List ℕ
joined [] = []
joined (first ∷ rest) = first ++ flat_map (λ next. codes " and " ++ next) rest

-- the marker that names each text of an environment
unfoldable pub marker_text : Texts → List ℕ
marker_text texts = joined (map (condition texts) all_variables)
