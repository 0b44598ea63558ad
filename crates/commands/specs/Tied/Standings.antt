-- What the parts of `batch` promise one another. Tied to `commands_of` and `Run` by the clauses of `batch`; need not be read.
use Rattle.std.specs.Prelude.{ℕ, ◌≡◌, Bool, List, ◌++◌, Option, None, Some, Result, OnOk, OnErr}
use Rattle.std.specs.Io.KnownBytes.{Appends}
use Rattle.states.specs.declared.pool.Pool.{Pool}
use Rattle.journal.specs.declared.commands.Reply.{Reply}
use Rattle.journal.specs.Changes.{HistoryParts}
use Rattle.commands.specs.declared.batch.StreamFault.{StreamFault}
use Rattle.commands.specs.declared.batch_end.Tally.{Tally}
use Rattle.commands.specs.declared.batch_line.Item.{Item}
use Rattle.commands.specs.BatchLine.{commands_of, ended_commands_of, IsUnbroken}
use Rattle.commands.specs.Faults.{IsOfSink}
use Rattle.commands.specs.Replies.{reply_text}
use Rattle.commands.specs.Runs.{Replied, BreaksOff}
use Rattle.commands.specs.Tied.Tallies.{with_replies}

-- where a batch stands: its history, what was written where that is known, and what is known of the replies
pub record Standing : Type 0 where
  pub history : HistoryParts
  pub written : Option (List ℕ)
  pub tally : Tally

abbrev pub standing : HistoryParts → Option (List ℕ) → Tally → Standing
standing history written tally = record { history = history; written = written; tally = tally }

-- the items were answered
abbrev pub Advances : Pool → List Item → Standing → Standing → Type 0
Advances pool items old new =
    (replies : List Reply) × Replied pool items replies old.history new.history × Appends old.written new.written (reply_text replies) × (new.tally ≡ with_replies old.tally replies)

-- some items were answered
abbrev pub SomeAdvance : Pool → Standing → Standing → Type 0
SomeAdvance pool old new = (items : List Item) × Advances pool items old new

-- the items were answered, or the sink has failed and the reply to the last of them breaks off
pub record Answers {T : Type 0} (result : Result T StreamFault) (pool : Pool) (items : List Item) (old new : Standing) (sink_failed : Bool) : Type 0 where
  pub advances : OnOk result (Advances pool items old new)
  pub breaks : OnErr result (BreaksOff pool items old.history new.history old.written new.written)
  pub sink : IsOfSink result sink_failed

-- of `bytes` so many commands were answered that those left are the ones of `back` and what follows
pub record AnswersAllBut (pool : Pool) (bytes back : List ℕ) (old new : Standing) : Type 0 where
  pub done : List Item
  pub advances : Advances pool done old new
  pub left : (rest : List ℕ) → commands_of (bytes ++ rest) ≡ done ++ commands_of (back ++ rest)
  pub ended : (rest : List ℕ) → ended_commands_of (bytes ++ rest) ≡ done ++ ended_commands_of (back ++ rest)

-- of an input these bytes are left, and what was read of it is answered up to a pending line
pub record ReadsOf (pool : Pool) (input pending rest : List ℕ) (old new : Standing) : Type 0 where
  pub read : List ℕ
  pub input_is : input ≡ read ++ rest
  pub unbroken : IsUnbroken pending
  pub answers : AnswersAllBut pool read pending old new

-- the same of a source whose bytes may be unknown: then some items are answered
abbrev pub Reads : Pool → Option (List ℕ) → List ℕ → Option (List ℕ) → Standing → Standing → Type 0
Reads pool None pending left old new = SomeAdvance pool old new
Reads pool (Some input) pending None old new = ⊥
Reads pool (Some input) pending (Some rest) old new = ReadsOf pool input pending rest old new

-- of these bytes the first commands are done, and the reply to the last of them breaks off
pub record Breaks (pool : Pool) (bytes : List ℕ) (old new : Standing) : Type 0 where
  pub done : List Item
  pub breaks_off : BreaksOff pool done old.history new.history old.written new.written
  pub left : (rest : List ℕ) → (more : List Item) × (commands_of (bytes ++ rest) ≡ done ++ more)
