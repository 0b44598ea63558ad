-- A batch of commands on a history. All of it is reqlock's own rule.
use Rattle.std.specs.Prelude.{ℕ, ◌≡◌, ◌<◌, Bool, List, [], ◌∷◌, ◌++◌, Option, None, Some, Result, OnOk, IfErr, IfSome, length}
use Rattle.std.specs.List.{filter_map}
use Rattle.std.specs.Io.KnownBytes.{Appends, Consumes, IsAtEnd}
use Rattle.states.specs.declared.pool.Pool.{Pool}
use Rattle.states.specs.declared.refusal.Refusal.TheVariants as refusals
use Rattle.journal.specs.declared.commands.Reply.{Reply}
use Rattle.journal.specs.declared.commands.Reply.TheVariants.{Refused}
use Rattle.journal.specs.Changes.{HistoryParts}
use Rattle.journal.specs.Commands.{Asked, Editing, Undoing, Redoing}
use Rattle.journal.specs.Histories.{RunWithChanges}
use Rattle.commands.specs.declared.batch.StreamFault.{StreamFault}
use Rattle.commands.specs.declared.batch.StreamFault.TheVariants.{Read, Write, OutOfMemory}
use Rattle.commands.specs.declared.batch_end.BatchEnd.{BatchEnd}
use Rattle.commands.specs.declared.batch_line.Item.{Item}
use Rattle.commands.specs.declared.batch_line.Item.TheVariants.{Edit, Undo, Redo, BadCommand}
use Rattle.commands.specs.BatchEnds.{IsEnd}
use Rattle.commands.specs.BatchLine.{commands_of, ended_commands_of}
use Rattle.commands.specs.Faults.{is_failed_read, is_failed_write}
use Rattle.commands.specs.Replies.{text_of_reply, reply_text}

-- the command of an item on a history: a bad command has none
abbrev pub command_in : Pool → Item → Option Asked
command_in pool (Edit edit) = Some (Editing edit pool)
command_in pool Undo = Some Undoing
command_in pool Redo = Some Redoing
command_in pool BadCommand = None

-- the replies to items, by those to their commands: a bad command is refused
abbrev pub replies_of : List Item → List Reply → List Reply
replies_of [] replies = []
replies_of (BadCommand ∷ items) replies = Refused refusals.BadCommand ∷ replies_of items replies
replies_of (Edit edit ∷ items) [] = []
replies_of (Edit edit ∷ items) (reply ∷ replies) = reply ∷ replies_of items replies
replies_of (Undo ∷ items) [] = []
replies_of (Undo ∷ items) (reply ∷ replies) = reply ∷ replies_of items replies
replies_of (Redo ∷ items) [] = []
replies_of (Redo ∷ items) (reply ∷ replies) = reply ∷ replies_of items replies

-- a run over the commands of the items, and with it these replies to the items
abbrev pub Replied : Pool → List Item → List Reply → HistoryParts → HistoryParts → Type 0
Replied pool items replies old new = (answers : List Reply) × RunWithChanges old (filter_map (command_in pool) items) answers new × (replies ≡ replies_of items answers)

-- some commands were done, each with its reply
abbrev pub SomeDone : Pool → HistoryParts → HistoryParts → Type 0
SomeDone pool old new = (items : List Item) × (replies : List Reply) × Replied pool items replies old new

-- the same, and what is to be done at the end, where all or none are to be done or each by itself
abbrev pub SomeDoneTo : Bool → BatchEnd → Pool → HistoryParts → HistoryParts → Type 0
SomeDoneTo is_all_or_none end pool old new = (items : List Item) × (replies : List Reply) × Replied pool items replies old new × IsEnd is_all_or_none replies end

-- a run over these items, whose replies were written where the bytes before and after are known
abbrev pub Answered : Pool → List Item → HistoryParts → HistoryParts → Option (List ℕ) → Option (List ℕ) → Type 0
Answered pool items old new before after = (replies : List Reply) × Replied pool items replies old new × Appends before after (reply_text replies)

-- the same, and what is to be done at the end
abbrev pub AnsweredTo : Bool → BatchEnd → Pool → List Item → HistoryParts → HistoryParts → Option (List ℕ) → Option (List ℕ) → Type 0
AnsweredTo is_all_or_none end pool items old new before after =
    (replies : List Reply) × Replied pool items replies old new × Appends before after (reply_text replies) × IsEnd is_all_or_none replies end

-- of a text a front was written, and something is missing
pub record IsCutOff (text : List ℕ) (before after : Option (List ℕ)) : Type 0 where
  pub front : List ℕ
  pub missing : List ℕ
  pub text_is : text ≡ front ++ missing
  pub is_missing : 0 < length missing
  pub written : Appends before after front

-- a run over these items, whose replies were written, but for an end of the last one
pub record BreaksOff (pool : Pool) (items : List Item) (old new : HistoryParts) (before after : Option (List ℕ)) : Type 0 where
  pub told : List Reply
  pub last : Reply
  pub replied : Replied pool items (told ++ last ∷ []) old new
  pub front : List ℕ
  pub missing : List ℕ
  pub last_is : text_of_reply last ≡ front ++ missing
  pub is_missing : 0 < length missing
  pub written : Appends before after (reply_text told ++ front)

-- of the bytes that were read the lines that an LF ended are answered, and a rest without LF isn't
pub record EndsInReading (pool : Pool) (input : List ℕ) (left : Option (List ℕ)) (old new : HistoryParts) (before after : Option (List ℕ)) : Type 0 where
  pub read : List ℕ
  pub read_is : Consumes (Some input) left read
  pub answered : Answered pool (ended_commands_of read) old new before after

-- the first commands of the input are done, and the reply to the last of them is the one that breaks off
pub record EndsInWriting (pool : Pool) (input : List ℕ) (old new : HistoryParts) (before after : Option (List ℕ)) : Type 0 where
  pub done : List Item
  pub more : List Item
  pub commands_are : commands_of input ≡ done ++ more
  pub breaks_off : BreaksOff pool done old new before after

-- what is done where a batch ends at a fault, of an input of which these bytes are left
abbrev pub EndsAt : StreamFault → Pool → List ℕ → Option (List ℕ) → HistoryParts → HistoryParts → Option (List ℕ) → Option (List ℕ) → Type 0
EndsAt Read pool input left old new before after = EndsInReading pool input left old new before after
EndsAt Write pool input left old new before after = EndsInWriting pool input old new before after
EndsAt OutOfMemory pool input left old new before after = (new ≡ old) × (after ≡ before) × (left ≡ Some input)

-- how a batch ends that begins where no call on its streams has failed: whatever the streams hold, some commands were done;
-- without a fault all was read; the source has failed where the fault is `Read`, the sink where it is `Write`, and else neither
pub record Ends {T : Type 0} (result : Result T StreamFault) (pool : Pool) (had rest : Option (List ℕ)) (source_failed : Bool) (old new : HistoryParts) (before after : Option (List ℕ)) (sink_failed : Bool) : Type 0 where
  pub done : SomeDone pool old new
  pub end : OnOk result (IsAtEnd rest)
  pub source : source_failed ≡ is_failed_read result
  pub sink : sink_failed ≡ is_failed_write result
  pub left : IfErr result (λ e. IfSome had (λ input. EndsAt e pool input rest old new before after))
