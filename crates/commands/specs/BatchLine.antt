-- The lines of a batch, and the command of each. All of it is reqlock's own rule.
use Rattle.std.specs.Prelude.{ℕ, Bool, true, false, ◌≡◌, ◌==◌, ◌-◌, nat_lt, not, if◌then◌else◌, List, [], ◌∷◌, Option, Some, None, length, slice_index, take, drop, filter, codes}
use Rattle.std.specs.List.{filter_map, before_first, position_or_len, slice_split}
use Rattle.std.specs.Str.{is_utf8, bytes_eq}
use Rattle.lists.specs.Spaces.{is_space_or_tab, trim_end, trim_start}
use Rattle.edits.specs.declared.request.Edit.{Edit as EditValue}
use Rattle.edits.specs.declared.request.Edit.TheVariants.{Add, Constrain, Relock, Remove, Upgrade, UpgradeAll}
use Rattle.commands.specs.declared.batch_line.Item.{Item}
use Rattle.commands.specs.declared.batch_line.Item.TheVariants.{Edit, Undo, Redo, BadCommand}

-- a line without its LF, and whether an LF ended it
pub record Line : Type 0 where
  pub bytes : List ℕ
  pub is_ended : Bool

-- the lines whose first one begins with this byte
abbrev pub with_first : ℕ → List Line → List Line
with_first b [] = record { bytes = b ∷ []; is_ended = false } ∷ []
with_first b (line ∷ lines) = record { bytes = b ∷ line.bytes; is_ended = line.is_ended } ∷ lines

-- an input is cut behind each LF, and a rest without an LF is a last line
abbrev pub input_lines_of : List ℕ → List Line
input_lines_of [] = []
input_lines_of (b ∷ bs) = if b == 10 then record { bytes = []; is_ended = true } ∷ input_lines_of bs else with_first b (input_lines_of bs)

-- the most bytes of a line that is read, its CR counted and its LF not
abbrev pub longest_line : ℕ
longest_line = 65536

-- a text without the CR at its end, where it has one
abbrev pub without_cr : List ℕ → List ℕ
without_cr bytes = if slice_index bytes (length bytes - 1) == 13 then take (length bytes - 1) bytes else bytes

-- the text of a line: where an LF ended it, one CR before the LF is dropped
abbrev pub line_text : Line → List ℕ
line_text line = if line.is_ended then without_cr line.bytes else line.bytes

-- what stands from the first element that passes on, or nothing where none does
abbrev pub from_first : (ℕ → Bool) → List ℕ → List ℕ
from_first test text = drop (position_or_len test text) text

-- the first word of a text, up to a space or a tab, and what stands behind the space that follows it
abbrev pub first_word : List ℕ → List ℕ
first_word text = before_first is_space_or_tab text

abbrev pub behind_word : List ℕ → List ℕ
behind_word text = trim_start (from_first is_space_or_tab text)

-- the words of a text: what stands between spaces and tabs
abbrev pub words_of : List ℕ → List (List ℕ)
words_of text = filter (λ word. not (length word == 0)) (slice_split is_space_or_tab text)

-- an edit that takes a text: it is not empty
abbrev pub taking : (List ℕ → EditValue) → List ℕ → Item
taking edit [] = BadCommand
taking edit (b ∷ bs) = Edit (edit (b ∷ bs))

-- the line that is to be added, as it stands to its end
abbrev pub addition_of : List ℕ → Item
addition_of rest = taking Add rest

-- the name that is to be removed
abbrev pub removal_of : List ℕ → Item
removal_of rest = taking (λ text. Remove (trim_end text)) rest

-- a name and its specifiers, which may be missing
abbrev pub constraint_of : List ℕ → Item
constraint_of rest = taking (λ text. Constrain (first_word text) (behind_word text)) rest

-- the names that are to be upgraded, or all where none is told
abbrev pub upgrade_of : List (List ℕ) → Item
upgrade_of [] = Edit UpgradeAll
upgrade_of (name ∷ names) = Edit (Upgrade (name ∷ names))

-- a command that takes no text
abbrev pub plain : Item → List ℕ → Item
plain item [] = item
plain item (b ∷ bs) = BadCommand

-- the command of a word and the text behind it
abbrev pub command_of : List ℕ → List ℕ → Item
command_of word rest =
    if bytes_eq word (codes "add") then addition_of rest else
    if bytes_eq word (codes "remove") then removal_of rest else
    if bytes_eq word (codes "constrain") then constraint_of rest else
    if bytes_eq word (codes "upgrade") then upgrade_of (words_of rest) else
    if bytes_eq word (codes "relock") then plain (Edit Relock) rest else
    if bytes_eq word (codes "undo") then plain Undo rest else
    if bytes_eq word (codes "redo") then plain Redo rest else
    BadCommand

-- the command of a trimmed text: none where it is blank
abbrev pub item_in : List ℕ → Option Item
item_in [] = None
item_in (b ∷ bs) = Some (command_of (first_word (b ∷ bs)) (behind_word (b ∷ bs)))

-- the command of the text of a line: one that isn't UTF-8 is a bad command
abbrev pub item_in_text : List ℕ → Option Item
item_in_text text = if is_utf8 text then item_in (trim_start text) else Some BadCommand

-- the command of a line: a line that is too long is a bad command, whatever it holds
abbrev pub item_of : Line → Option Item
item_of line = if nat_lt longest_line (length line.bytes) then Some BadCommand else item_in_text (line_text line)

-- an edit, whose texts have to be copied
abbrev pub IsEdit : Option Item → Type 0
IsEdit None = ⊥
IsEdit (Some (Edit edit)) = Unit {0}
IsEdit (Some Undo) = ⊥
IsEdit (Some Redo) = ⊥
IsEdit (Some BadCommand) = ⊥

-- no byte is an LF
abbrev pub IsUnbroken : List ℕ → Type 0
IsUnbroken [] = Unit {0}
IsUnbroken (b ∷ bs) = ((b == 10) ≡ false) × IsUnbroken bs

-- the commands of an input, one for each line that isn't blank
abbrev pub commands_of : List ℕ → List Item
commands_of input = filter_map item_of (input_lines_of input)

-- the command of a line that an LF ended: any other has not been read to its end
abbrev pub ended_item_of : Line → Option Item
ended_item_of line = if line.is_ended then item_of line else None

-- the commands of an input whose lines an LF ended
abbrev pub ended_commands_of : List ℕ → List Item
ended_commands_of input = filter_map ended_item_of (input_lines_of input)
