-- How replies are written. All of it is reqlock's own rule.
use Rattle.std.specs.Prelude.{ℕ, Bool, true, false, List, ◌++◌, codes, decimal}
use Rattle.std.specs.List.{flat_map}
use Rattle.states.specs.declared.refusal.Refusal.{Refusal}
use Rattle.states.specs.declared.refusal.Refusal.TheVariants as refusals
use Rattle.journal.specs.declared.commands.Reply.{Reply}
use Rattle.journal.specs.declared.commands.Reply.TheVariants.{Done, Same, Refused}

-- the word of a refusal: its name in lower case with a hyphen before each inner capital
abbrev pub word_of : Refusal → List ℕ
word_of refusals.BadText = codes "bad-text"
word_of (refusals.AlreadyPresent line) = codes "already-present"
word_of refusals.NotPresent = codes "not-present"
word_of (refusals.Ambiguous count) = codes "ambiguous"
word_of (refusals.NotLocked name) = codes "not-locked"
word_of refusals.NoSolution = codes "no-solution"
word_of refusals.NothingChanges = codes "nothing-changes"
word_of refusals.OutOfMemory = codes "out-of-memory"
word_of refusals.NothingToUndo = codes "nothing-to-undo"
word_of refusals.NothingToRedo = codes "nothing-to-redo"
word_of (refusals.FilesDisagree file) = codes "files-disagree"
word_of (refusals.JournalBroken line) = codes "journal-broken"
word_of refusals.BadCommand = codes "bad-command"
word_of refusals.BadTarget = codes "bad-target"
word_of (refusals.DuplicateTarget name) = codes "duplicate-target"
word_of refusals.NoTarget = codes "no-target"

-- one reply: the cursor where it was done, no details where it was refused
abbrev pub text_of_reply : Reply → List ℕ
text_of_reply (Done cursor) = codes "ok " ++ decimal cursor ++ codes "\n"
text_of_reply Same = codes "same\n"
text_of_reply (Refused refusal) = codes "refused " ++ word_of refusal ++ codes "\n"

-- the replies one after another
abbrev pub reply_text : List Reply → List ℕ
reply_text = flat_map text_of_reply

-- whether a reply tells of an accepted command
abbrev pub is_accepted : Reply → Bool
is_accepted (Done cursor) = true
is_accepted Same = false
is_accepted (Refused refusal) = false
