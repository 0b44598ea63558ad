-- What is to be done at the end of a batch. All of it is reqlock's own rule.
use Rattle.std.specs.Prelude.{◌≡◌, Bool, true, false, List, [], ◌∷◌, Option, None, Some}
use Rattle.std.specs.List.{list_any}
use Rattle.states.specs.declared.refusal.Refusal.{Refusal}
use Rattle.journal.specs.declared.commands.Reply.{Reply}
use Rattle.journal.specs.declared.commands.Reply.TheVariants.{Done, Same, Refused}
use Rattle.commands.specs.declared.batch_end.BatchEnd.{BatchEnd}
use Rattle.commands.specs.declared.batch_end.BatchEnd.TheVariants.{Save, Leave, Refuse}
use Rattle.commands.specs.Replies.{is_accepted}

-- the first of the replies that refuses its command
abbrev pub first_refusal : List Reply → Option Refusal
first_refusal [] = None
first_refusal (Done cursor ∷ replies) = first_refusal replies
first_refusal (Same ∷ replies) = first_refusal replies
first_refusal (Refused refusal ∷ replies) = Some refusal

-- the history is saved exactly where a reply is `ok`; but where all or none are to be done, no reply is a refusal or nothing is saved
abbrev pub IsEnd : Bool → List Reply → BatchEnd → Type 0
IsEnd is_all_or_none replies Save = (list_any is_accepted replies ≡ true) × (is_all_or_none ≡ true → first_refusal replies ≡ None)
IsEnd is_all_or_none replies Leave = (list_any is_accepted replies ≡ false) × (is_all_or_none ≡ true → first_refusal replies ≡ None)
IsEnd is_all_or_none replies (Refuse line) = (is_all_or_none ≡ true) × (first_refusal replies ≡ Some line.refusal)
