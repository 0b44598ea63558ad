-- The words of what is refused. All of it is reqlock's own rule.
use Rattle.std.specs.Prelude.{ℕ, List, codes}
use Rattle.markers.specs.declared.fault.Cause.{Cause}
use Rattle.markers.specs.declared.fault.Cause.TheVariants as causes
use Rattle.pep440.specs.declared.fault.Fault.{Fault}
use Rattle.pep440.specs.declared.fault.Fault.TheVariants as faults

-- the word of a fault of specifiers: its name in lower case with a hyphen before each inner capital
abbrev pub fault_word : Fault → List ℕ
fault_word faults.BadVersion = codes "bad-version"
fault_word faults.NumberTooLarge = codes "number-too-large"
fault_word (faults.BadClause place) = codes "bad-clause"
fault_word faults.ArbitraryEquality = codes "arbitrary-equality"
fault_word faults.OutOfMemory = codes "out-of-memory"

-- the word of a cause, in the same way; that of a specifier is the word of its own fault
abbrev pub word_of : Cause → List ℕ
word_of causes.BadName = codes "bad-name"
word_of causes.BadMarker = codes "bad-marker"
word_of causes.MarkerTooDeep = codes "marker-too-deep"
word_of causes.UrlRequirement = codes "url-requirement"
word_of causes.OptionLine = codes "option-line"
word_of causes.Continuation = codes "continuation"
word_of causes.OddCharacter = codes "odd-character"
word_of causes.NotUtf8 = codes "not-utf8"
word_of (causes.BadEnvironment variable) = codes "bad-environment"
word_of (causes.Specifier fault) = fault_word fault
word_of causes.OutOfMemory = codes "out-of-memory"
