-- The text of a change, as a pipe gets it. All of it is reqlock's own rule.
use Rattle.std.specs.Prelude.{ℕ, ◌+◌, ◌-◌, ◌^◌, ◌==◌, min, Bool, false, not, List, [], ◌∷◌, ◌++◌, find, length, codes, decimal, is_some, Option, Some, None, option_and_then, if◌then◌else◌}
use Rattle.std.specs.List.{flat_map}
use Rattle.std.specs.Option.{option_map_or}
use Rattle.std.specs.Str.{bytes_eq}
use Rattle.hex.specs.Hex.{encode_lower}
use Rattle.pep440.specs.Canonical.{canonical}
use Rattle.markers.specs.declared.variable.Variable.{Variable}
use Rattle.markers.specs.Environment.{Texts, all_variables, text_of}
use Rattle.markers.specs.Variables.{variable_name}
use Rattle.pep508.specs.Parts.{content_of, ending_of}
use Rattle.pylock.specs.Packages.{EntryParts}
use Rattle.states.specs.declared.target.Target.{Target}
use Rattle.changes.specs.Changes.{ChangeParts, changes_on}
use Rattle.changes.specs.declared.change.parts.Splice.{Splice}
use Rattle.changes.specs.declared.change.parts.TargetChange.{TargetChange}
use Rattle.changes.specs.declared.change.parts.EntryChange.{EntryChange}
use Rattle.changes.specs.declared.change.parts.DigestChange.{DigestChange}
use Rattle.phrases.specs.Plain.{change_text, plain_text, target_line}
use Rattle.texts.specs.OtherFields.{other_fields}
use Rattle.texts.specs.declared.sign.Sign.{Sign}
use Rattle.texts.specs.declared.sign.Sign.TheVariants.{Came, Went}

-- what stands before what came or went
abbrev pub mark : Sign → List ℕ
mark Came = codes "+ "
mark Went = codes "- "

-- a text as a line
abbrev pub as_line : List ℕ → List ℕ
as_line text = text ++ codes "\n"

-- ---- lines of the requirements file

-- the end of a line that is told; where it has no ending of its own, that is told
abbrev pub end_told : List ℕ → List ℕ
end_told line = if length (ending_of line) == 0 then codes "\n\\ no line ending\n" else codes "\n"

-- a line behind its sign and its number, without its own ending
abbrev pub line_told : Sign → ℕ → List ℕ → List ℕ
line_told sign number line = mark sign ++ decimal number ++ codes ": " ++ plain_text (content_of line) ++ end_told line

-- sums of numbers stop at the greatest one of 64 bits
abbrev pub held : ℕ → ℕ
held number = min number (2 ^ 64 - 1)

-- lines one below another, of which the first has this number
abbrev pub lines_told : Sign → ℕ → List (List ℕ) → List ℕ
lines_told sign first [] = []
lines_told sign first (line ∷ rest) = line_told sign first line ++ lines_told sign (held (first + 1)) rest

-- a splice: the lines that it takes out, with their old numbers, and those that it puts in, with their new ones; so many lines were
-- put in and taken out before it
abbrev pub splice_told : ℕ → ℕ → Splice → List ℕ
splice_told put taken splice =
    lines_told Went (held (splice.place + 1)) splice.old ++ lines_told Came (held (splice.place + 1 + put) - taken) splice.new

-- splices one below another
abbrev pub splices_told : ℕ → ℕ → List Splice → List ℕ
splices_told put taken [] = []
splices_told put taken (splice ∷ rest) =
    splice_told put taken splice ++ splices_told (put + length splice.new) (taken + length splice.old) rest

-- ---- targets

-- a target by its name, where it has one
abbrev pub named : List ℕ → List ℕ
named [] = codes "target"
named (b ∷ rest) = codes "target " ++ (b ∷ rest)

-- a variable has another text in the new environment
abbrev pub is_other : Texts → Texts → Variable → Bool
is_other old new variable = not (bytes_eq (text_of old variable) (text_of new variable))

-- the line of a variable that has another text, with both
abbrev pub variable_lines : List ℕ → Texts → Texts → Variable → List (List ℕ)
variable_lines name old new variable =
    if is_other old new variable
    then (named name ++ codes ": " ++ change_text (variable_name variable) (text_of old variable) (text_of new variable)) ∷ []
    else []

-- what becomes of a target: a line that it comes or goes, or one for each variable that has another text
abbrev pub lines_between : List ℕ → Option Texts → Option Texts → List (List ℕ)
lines_between name None (Some new) = (mark Came ++ named name) ∷ []
lines_between name (Some old) None = (mark Went ++ named name) ∷ []
lines_between name (Some old) (Some new) = flat_map (variable_lines name old new) all_variables
lines_between name None None = []

abbrev pub target_lines : TargetChange → List (List ℕ)
target_lines change = lines_between change.name change.old change.new

-- the sign of a target that comes or goes as a whole
abbrev pub sign_between : Option Texts → Option Texts → Option Sign
sign_between None (Some new) = Some Came
sign_between (Some old) None = Some Went
sign_between (Some old) (Some new) = None
sign_between None None = None

abbrev pub sign_of : List TargetChange → List ℕ → Option Sign
sign_of targets name = option_and_then (λ (t : TargetChange). sign_between t.old t.new) (find (λ t. bytes_eq t.name name) targets)

-- ---- entries

-- an entry that came or went
abbrev pub entry_told : Sign → EntryParts → List ℕ
entry_told sign entry = mark sign ++ entry.name ++ codes " " ++ canonical entry.version

-- how many entries came or went with their target
abbrev pub noun_of : ℕ → List ℕ
noun_of count = if count == 1 then codes "entry" else codes "entries"

abbrev pub count_told : Sign → ℕ → List ℕ
count_told sign count = mark sign ++ decimal count ++ codes " " ++ noun_of count

-- what becomes of an entry: it comes, goes, or has another version or other fields
abbrev pub entry_between : List ℕ → Option EntryParts → Option EntryParts → List ℕ
entry_between name None (Some new) = entry_told Came new
entry_between name (Some old) None = entry_told Went old
entry_between name (Some old) (Some new) = change_text name (canonical old.version) (canonical new.version) ++ other_fields old new
entry_between name None None = []

abbrev pub entry_change_told : EntryChange → List ℕ
entry_change_told change = entry_between change.name change.old change.new

-- what stands above the entries of a target: its name, and how many come or go with it, where it comes or goes
abbrev pub heading : ChangeParts → List ℕ → List ℕ
heading change target =
    target_line target ++ option_map_or (λ sign. as_line (count_told sign (length (changes_on target change.entries)))) (sign_of change.targets target) []

-- an entry is on the target of the one before it, if there is one
abbrev pub is_same_target : Option EntryChange → EntryChange → Bool
is_same_target None entry = false
is_same_target (Some last) entry = bytes_eq last.target entry.target

-- what stands above an entry; none where it is on the target of the one before it
abbrev pub heading_of : ChangeParts → Option EntryChange → EntryChange → List ℕ
heading_of change last entry = if is_same_target last entry then [] else heading change entry.target

-- the line of an entry; none where its target comes or goes
abbrev pub entry_line : ChangeParts → EntryChange → List ℕ
entry_line change entry = if is_some (sign_of change.targets entry.target) then [] else as_line (entry_change_told entry)

-- entries one below another behind the one before them, if there is one: the first of each target stands below its heading
abbrev pub entries_told : ChangeParts → Option EntryChange → List EntryChange → List ℕ
entries_told change last [] = []
entries_told change last (entry ∷ rest) = heading_of change last entry ++ entry_line change entry ++ entries_told change (Some entry) rest

-- ---- the whole

-- a digest of the index
abbrev pub digest_told : Sign → List ℕ → List ℕ
digest_told sign digest = mark sign ++ codes "index: " ++ encode_lower digest ++ codes "\n"

-- the old digest of the index and the new one, where they differ
abbrev pub digests_told : Option DigestChange → List ℕ
digests_told None = []
digests_told (Some digests) = digest_told Went digests.old ++ digest_told Came digests.new

-- a change: lines of the requirements file, targets, entries, and the index
abbrev pub diff_text : ChangeParts → List ℕ
diff_text change =
    splices_told 0 0 change.splices ++ flat_map as_line (flat_map target_lines change.targets)
    ++ entries_told change None change.entries ++ digests_told change.digests

-- a first lock: its entries below the name of its target
abbrev pub first_lock_told : Target → List ℕ
first_lock_told target =
    if length target.lock.entries == 0 then [] else target_line target.name ++ flat_map (λ entry. as_line (entry_told Came entry)) target.lock.entries

abbrev pub first_lock_text : List Target → List ℕ
first_lock_text targets = flat_map first_lock_told targets
