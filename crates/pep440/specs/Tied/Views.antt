-- What private readers return, with the texts behind the references.
-- Tied to `Reading` by the contracts of private functions; need not be read.
use Rattle.std.specs.Prelude.{ℕ, ◌^◌, nat_lt, Bool, true, false, List, [], ◌∷◌, Option, Some, None, Result, Ok, Err, if◌then◌else◌, option_copied}
use Rattle.std.specs.List.{list_all}
use Rattle.std.specs.Borrow.{Bor}
use Rattle.pep440.specs.declared.fault.Fault.{Fault}
use Rattle.pep440.specs.declared.fault.Fault.TheVariants.{NumberTooLarge}
use Rattle.pep440.specs.declared.parts.LocalPart.{LocalPart}
use Rattle.pep440.specs.declared.parts.LocalPart.TheVariants.{Number, Word}
use Rattle.pep440.specs.declared.parts.Pre.{Pre}
use Rattle.pep440.specs.declared.spans.SpannedText.{SpannedText}
use Rattle.pep440.specs.declared.words.PreWord.{PreWord}
use Rattle.pep440.specs.Tied.Reading.{Spans, is_local_from, pre_with}
use Rattle.pep440.specs.Grammar.{value_from}
use Rattle.pep440.specs.declared.specifier.Operator.{Operator}

abbrev pub operator_view : Option (Operator × Bor (List ℕ)) → Option (Operator × List ℕ)
operator_view None = None
operator_view (Some p) = Some (p.0, p.1.now)

abbrev pub word_view : Option (PreWord × Bor (List ℕ)) → Option (PreWord × List ℕ)
word_view None = None
word_view (Some p) = Some (p.0, p.1.now)

abbrev pub span_view : SpannedText → Spans
span_view s = record {
  epoch = s.epoch.now;
  release = s.release.now;
  pre = word_view s.pre;
  post = option_copied s.post;
  dev = option_copied s.dev;
  local = s.local.now;
}

-- the text behind `+`, or none
abbrev pub is_local : List ℕ → Bool
is_local [] = true
is_local (b ∷ rest) = is_local_from false (b ∷ rest)

-- a number that was read, where it is below 2 ^ 64
abbrev pub capped : ℕ → Result ℕ Fault
capped n = if nat_lt n (2 ^ 64) then Ok n else Err NumberTooLarge

abbrev pub map_ok : {X Y : Type 0} → (X → Y) → Result X Fault → Result Y Fault
map_ok f (Ok x) = Ok (f x)
map_ok f (Err e) = Err e

abbrev pub capped_option : Option (List ℕ) → Result (Option ℕ) Fault
capped_option None = Ok None
capped_option (Some digits) = map_ok (λ n. Some n) (capped (value_from 0 digits))

abbrev pub capped_pre : Option (PreWord × List ℕ) → Result (Option Pre) Fault
capped_pre None = Ok None
capped_pre (Some p) = map_ok (λ n. Some (pre_with p.0 n)) (capped (value_from 0 p.1))

-- the number of a local part is below 2 ^ 64
abbrev pub part_fits : LocalPart → Bool
part_fits (Word w) = true
part_fits (Number n) = nat_lt n (2 ^ 64)

abbrev pub fitting_part : LocalPart → Result LocalPart Fault
fitting_part p = if part_fits p then Ok p else Err NumberTooLarge

abbrev pub fitting_locals : List LocalPart → Result (List LocalPart) Fault
fitting_locals ps = if list_all part_fits ps then Ok ps else Err NumberTooLarge
