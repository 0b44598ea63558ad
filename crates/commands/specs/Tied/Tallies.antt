-- What is known of the replies of a batch. Tied to `IsEnd` by the clauses of `batch_to_its_end`; need not be read.
use Rattle.std.specs.Prelude.{ℕ, Bool, true, false, List, [], ◌∷◌, Option, None, Some}
use Rattle.std.specs.Option.{option_or}
use Rattle.states.specs.declared.refusal.Refusal.{Refusal}
use Rattle.journal.specs.declared.commands.Reply.{Reply}
use Rattle.journal.specs.declared.commands.Reply.TheVariants.{Done, Same, Refused}
use Rattle.commands.specs.declared.batch_end.BatchEnd.{BatchEnd}
use Rattle.commands.specs.declared.batch_end.BatchEnd.TheVariants.{Save, Leave, Refuse}
use Rattle.commands.specs.declared.batch_end.Tally.{Tally}

-- before the first reply
abbrev pub no_replies : Tally
no_replies = record { has_accepted = false; refused = None }

-- with one reply more
abbrev pub with_reply : Tally → Reply → Tally
with_reply tally (Done cursor) = record { has_accepted = true; refused = tally.refused }
with_reply tally Same = tally
with_reply tally (Refused refusal) = record { has_accepted = tally.has_accepted; refused = option_or tally.refused (Some refusal) }

-- with these replies more
abbrev pub with_replies : Tally → List Reply → Tally
with_replies tally [] = tally
with_replies tally (reply ∷ replies) = with_replies (with_reply tally reply) replies

-- what is to be done at the end, by whether a reply is `ok`
abbrev pub end_by_itself : Bool → BatchEnd
end_by_itself true = Save
end_by_itself false = Leave

-- where all or none are to be done, by whether a reply is `ok` and by the first refusal, whose line has this number
abbrev pub end_of_all : Bool → Option Refusal → ℕ → BatchEnd
end_of_all accepted None number = end_by_itself accepted
end_of_all accepted (Some refusal) number = Refuse (record { number = number; refusal = refusal })

-- the same of all replies
abbrev pub end_of : Bool → Tally → ℕ → BatchEnd
end_of true tally number = end_of_all tally.has_accepted tally.refused number
end_of false tally number = end_by_itself tally.has_accepted
