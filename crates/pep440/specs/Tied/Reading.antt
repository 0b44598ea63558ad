-- Reading a version from left to right.
-- Tied to `Spells` by the law `a_text_reads_as_what_it_spells`; need not be read.
use Rattle.std.specs.Prelude.{ℕ, ◌+◌, ◌-◌, ◌*◌, ◌^◌, ◌==◌, ◌&&◌, ◌||◌, nat_lt, Bool, true, false, List, [], ◌∷◌, ◌++◌, map, Option, Some, None, unwrap_or, Result, Ok, Err, if◌then◌else◌, codes}
use Rattle.std.specs.Char.{is_ascii_alphanumeric, is_ascii_digit, to_ascii_lowercase}
use Rattle.std.specs.Option.{option_map}
use Rattle.std.specs.List.{list_all}
use Rattle.pep440.specs.declared.fault.Fault.{Fault}
use Rattle.pep440.specs.declared.fault.Fault.TheVariants.{BadVersion, NumberTooLarge}
use Rattle.pep440.specs.declared.parts.Pre.{Pre}
use Rattle.pep440.specs.declared.parts.Pre.TheVariants as pres
use Rattle.pep440.specs.declared.parts.LocalPart.{LocalPart}
use Rattle.pep440.specs.declared.parts.LocalPart.TheVariants.{Number, Word}
use Rattle.pep440.specs.declared.words.PreWord.{PreWord}
use Rattle.pep440.specs.declared.words.PreWord.TheVariants as words
use Rattle.pep440.specs.Text.{trim_end, trim_front}
use Rattle.pep440.specs.Version.{VersionParts, fits}
use Rattle.pep440.specs.Grammar.{is_separator, is_space, value_from}

-- the numbers of a release of which `n` has been read
abbrev pub numbers_from : ℕ → List ℕ → List ℕ
numbers_from n [] = n ∷ []
numbers_from n (b ∷ rest) = if b == 46 then n ∷ numbers_from 0 rest else numbers_from (n * 10 + (b - 48)) rest

-- numbers that were read, where each is below 2 ^ 64
abbrev pub fitting_numbers : List ℕ → Result (List ℕ) Fault
fitting_numbers ns = if list_all (λ n. nat_lt n (2 ^ 64)) ns then Ok ns else Err NumberTooLarge

-- ---- the spans of a text

-- the digits that a text begins with, and what follows them
abbrev pub digits_of : List ℕ → List ℕ
digits_of [] = []
digits_of (b ∷ rest) = if is_ascii_digit b then b ∷ digits_of rest else []

abbrev pub after_digits : List ℕ → List ℕ
after_digits [] = []
after_digits (b ∷ rest) = if is_ascii_digit b then after_digits rest else b ∷ rest

abbrev pub starts_digit : List ℕ → Bool
starts_digit [] = false
starts_digit (b ∷ rest) = is_ascii_digit b

-- the longest run of digits and of `.` with a digit behind it, and what follows it
abbrev pub goes_on : ℕ → List ℕ → Bool
goes_on b rest = is_ascii_digit b || ((b == 46) && starts_digit rest)

abbrev pub release_of : List ℕ → List ℕ
release_of [] = []
release_of (b ∷ rest) = if goes_on b rest then b ∷ release_of rest else []

abbrev pub after_release : List ℕ → List ℕ
after_release [] = []
after_release (b ∷ rest) = if goes_on b rest then after_release rest else b ∷ rest

-- a text without a `v` at its front
abbrev pub after_lead : List ℕ → List ℕ
after_lead [] = []
after_lead (b ∷ rest) = if to_ascii_lowercase b == 118 then rest else b ∷ rest

-- the digits of an epoch, none where there is none, and what follows it
abbrev pub epoch_end : List ℕ → List ℕ → List ℕ → List ℕ × List ℕ
epoch_end text digits [] = ([], text)
epoch_end text digits (b ∷ rest) = if b == 33 then (digits, rest) else ([], text)

abbrev pub epoch_at : List ℕ → List ℕ × List ℕ
epoch_at text = if starts_digit text then epoch_end text (digits_of text) (after_digits text) else ([], text)

abbrev pub after_separator : List ℕ → List ℕ
after_separator [] = []
after_separator (b ∷ rest) = if is_separator b then rest else b ∷ rest

-- what follows a word that a text begins with, in letters of either case
abbrev pub strip_word : List ℕ → List ℕ → Option (List ℕ)
strip_word [] text = Some text
strip_word (c ∷ word) [] = None
strip_word (c ∷ word) (b ∷ rest) = if to_ascii_lowercase b == c then strip_word word rest else None

-- a text without a word that it may begin with
abbrev pub optional_word : List ℕ → List ℕ → List ℕ
optional_word word text = unwrap_or (strip_word word text) text

-- which word stood there, with what follows it
abbrev pub named : PreWord → Option (List ℕ) → Option (PreWord × List ℕ)
named w None = None
named w (Some rest) = Some (w, rest)

-- `pre`, or `preview`, whose first letter stands before the text
abbrev pub preview_rest : Option (List ℕ) → Option (List ℕ)
preview_rest None = None
preview_rest (Some rest) = Some (optional_word (codes "view") rest)

-- the word that begins with a letter, behind which the text stands
abbrev pub pre_word_of : ℕ → List ℕ → Option (PreWord × List ℕ)
pre_word_of c rest =
    if c == 97 then Some (words.Alpha, optional_word (codes "lpha") rest)
    else (if c == 98 then Some (words.Beta, optional_word (codes "eta") rest)
    else (if c == 99 then Some (words.Candidate, rest)
    else (if c == 114 then named words.Candidate (strip_word (codes "c") rest)
    else (if c == 112 then named words.Candidate (preview_rest (strip_word (codes "re") rest)) else None))))

abbrev pub pre_word_at : List ℕ → Option (PreWord × List ℕ)
pre_word_at [] = None
pre_word_at (b ∷ rest) = pre_word_of (to_ascii_lowercase b) rest

abbrev pub post_word_of : ℕ → List ℕ → Option (List ℕ)
post_word_of c rest =
    if c == 112 then strip_word (codes "ost") rest else (if c == 114 then Some (optional_word (codes "ev") rest) else None)

abbrev pub post_word_at : List ℕ → Option (List ℕ)
post_word_at [] = None
post_word_at (b ∷ rest) = post_word_of (to_ascii_lowercase b) rest

-- the digits behind a word, and what follows them
abbrev pub number_behind : List ℕ → List ℕ × List ℕ
number_behind text = (digits_of (after_separator text), after_digits (after_separator text))

-- a labelled part: its digits, and what follows it; where there is no word, the text itself follows
abbrev pub label_at : Option (List ℕ) → List ℕ → Option (List ℕ) × List ℕ
label_at None text = (None, text)
label_at (Some rest) text = (Some (number_behind rest).0, (number_behind rest).1)

abbrev pub pre_label_at : Option (PreWord × List ℕ) → List ℕ → Option (PreWord × List ℕ) × List ℕ
pre_label_at None text = (None, text)
pre_label_at (Some p) text = (Some (p.0, (number_behind p.1).0), (number_behind p.1).1)

abbrev pub pre_at : List ℕ → Option (PreWord × List ℕ) × List ℕ
pre_at text = pre_label_at (pre_word_at (after_separator text)) text

-- `-` and a digit
abbrev pub is_implicit : List ℕ → Bool
is_implicit [] = false
is_implicit (b ∷ rest) = (b == 45) && starts_digit rest

abbrev pub post_at : List ℕ → Option (List ℕ) × List ℕ
post_at text = label_at (if is_implicit text then Some text else post_word_at (after_separator text)) text

abbrev pub dev_at : List ℕ → Option (List ℕ) × List ℕ
dev_at text = label_at (strip_word (codes "dev") (after_separator text)) text

-- whether a text is local parts with separators between them; `some` says whether a byte of a part stands before it
abbrev pub is_local_from : Bool → List ℕ → Bool
is_local_from some [] = some
is_local_from some (b ∷ rest) = if is_separator b then some && is_local_from false rest else is_ascii_alphanumeric b && is_local_from true rest

-- the text behind `+`, empty where there is no local part
abbrev pub local_at : List ℕ → Option (List ℕ)
local_at [] = Some []
local_at (b ∷ body) = if (b == 43) && is_local_from false body then Some body else None

-- where the parts of a version stand in its text
pub record Spans : Type 0 where
  pub epoch : List ℕ
  pub release : List ℕ
  pub pre : Option (PreWord × List ℕ)
  pub post : Option (List ℕ)
  pub dev : Option (List ℕ)
  pub local : List ℕ

-- the spans, where nothing but a local part is left
abbrev pub spans_with : List ℕ → List ℕ → Option (PreWord × List ℕ) → Option (List ℕ) → Option (List ℕ) → Option (List ℕ) → Option Spans
spans_with epoch release pre post dev None = None
spans_with epoch release pre post dev (Some local) =
    Some (record { epoch = epoch; release = release; pre = pre; post = post; dev = dev; local = local })

abbrev pub dev_spans : List ℕ → List ℕ → Option (PreWord × List ℕ) → Option (List ℕ) → List ℕ → Option Spans
dev_spans epoch release pre post text = spans_with epoch release pre post (dev_at text).0 (local_at (dev_at text).1)

abbrev pub post_spans : List ℕ → List ℕ → Option (PreWord × List ℕ) → List ℕ → Option Spans
post_spans epoch release pre text = dev_spans epoch release pre (post_at text).0 (post_at text).1

abbrev pub release_spans : List ℕ → List ℕ → Option Spans
release_spans epoch text =
    if starts_digit text then post_spans epoch (release_of text) (pre_at (after_release text)).0 (pre_at (after_release text)).1 else None

-- the spans of a version with nothing around it
unfoldable pub spans_of : List ℕ → Option Spans
spans_of text = release_spans (epoch_at (after_lead text)).0 (epoch_at (after_lead text)).1

-- ---- the parts in the spans

abbrev pub pre_with : PreWord → ℕ → Pre
pre_with words.Alpha n = pres.Alpha n
pre_with words.Beta n = pres.Beta n
pre_with words.Candidate n = pres.Candidate n

abbrev pub pre_of : PreWord × List ℕ → Pre
pre_of p = pre_with p.0 (value_from 0 p.1)

-- a text of digits alone is a number, and any other a word
abbrev pub part_of : List ℕ → LocalPart
part_of text = if list_all is_ascii_digit text then Number (value_from 0 text) else Word (map to_ascii_lowercase text)

-- the local parts of a text, of which the first is read up to `front`
abbrev pub locals_from : List ℕ → List ℕ → List LocalPart
locals_from front [] = part_of front ∷ []
locals_from front (b ∷ rest) = if is_separator b then part_of front ∷ locals_from [] rest else locals_from (front ++ b ∷ []) rest

abbrev pub locals_of : List ℕ → List LocalPart
locals_of [] = []
locals_of (b ∷ rest) = locals_from [] (b ∷ rest)

-- what the spans spell, over numbers of any size
abbrev pub parts_in : Spans → VersionParts
parts_in s = record {
  epoch = value_from 0 s.epoch;
  release = numbers_from 0 s.release;
  pre = option_map pre_of s.pre;
  post = option_map (value_from 0) s.post;
  dev = option_map (value_from 0) s.dev;
  local = locals_of s.local;
}

-- the parts that a text with nothing around it spells
abbrev pub bare_parts : List ℕ → Option VersionParts
bare_parts text = option_map parts_in (spans_of text)

-- a text freed of the white space around it
abbrev pub trim_space : List ℕ → List ℕ
trim_space text = trim_end is_space (trim_front is_space text)

-- the parts that a text spells
abbrev pub parts_of : List ℕ → Option VersionParts
parts_of text = bare_parts (trim_space text)

-- parts that were read, where their numbers fit
abbrev pub fitting : Option VersionParts → Result VersionParts Fault
fitting None = Err BadVersion
fitting (Some v) = if fits v then Ok v else Err NumberTooLarge

-- the version that a text spells, or why there is none
abbrev pub version_of : List ℕ → Result VersionParts Fault
version_of text = fitting (parts_of text)
