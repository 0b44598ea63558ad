-- What commands do to a history, over whole states. All of it is reqlock's own rule.
use Rattle.std.specs.Prelude.{◌≡◌, ◌≢◌, ◌⊎◌, List, [], ◌∷◌, Result, Ok, Err, IsSomeAnd}
use Rattle.journal.specs.Values.{State, Targets, Edit, Pool, Snapshot, ReqFile, Refusal, NothingChanges, NothingToUndo, NothingToRedo, OutOfMemory}
use Rattle.edits.specs.Edits.{FirstResult, EditResult}
use Rattle.edits.specs.declared.pins.TargetPins.{TargetPins}
use Rattle.journal.specs.declared.commands.Reply.{Reply}
use Rattle.journal.specs.declared.commands.Reply.TheVariants.{Done, Same, Refused}
use Rattle.journal.specs.Past.{Past, present, starts, pushed, IsAtStart, IsAtEnd, IsUndone, IsRedone}
use Rattle.journal.specs.Commands.{Asked, Editing, Undoing, Redoing}

-- this is what the edit makes of the present state
abbrev pub Makes : Past → Edit → Pool → Result State Refusal → Type 0
Makes past edit pool answer = IsSomeAnd (present past) (λ state. EditResult state edit pool answer)

-- this is why the edit of the present state is refused
abbrev pub RefusesEdit : Past → Edit → Pool → Refusal → Type 0
RefusesEdit past edit pool refusal = (refusal ≡ OutOfMemory) ⊎ (Makes past edit pool (Err refusal) × (refusal ≢ NothingChanges))

-- the refusal of a move that has nowhere to go, or of one that has for want of memory
abbrev pub RefusesMove : Type 0 → Refusal → Refusal → Type 0
RefusesMove nowhere nothing refusal = (nowhere × (refusal ≡ nothing)) ⊎ ((¬ nowhere) × (refusal ≡ OutOfMemory))

-- one command, its reply, and the history before and after it. The only choice is to refuse for want of memory
abbrev pub Step : Past → Asked → Reply → Past → Type 0
Step old (Editing edit pool) (Done k) new = (state : State) × Makes old edit pool (Ok state) × (new ≡ pushed old state) × (k ≡ new.cursor)
Step old (Editing edit pool) Same new = Makes old edit pool (Err NothingChanges) × (new ≡ old)
Step old (Editing edit pool) (Refused refusal) new = RefusesEdit old edit pool refusal × (new ≡ old)
Step old Undoing (Done k) new = IsUndone old new × (k ≡ new.cursor)
Step old Undoing Same new = ⊥
Step old Undoing (Refused refusal) new = RefusesMove (IsAtStart old) NothingToUndo refusal × (new ≡ old)
Step old Redoing (Done k) new = IsRedone old new × (k ≡ new.cursor)
Step old Redoing Same new = ⊥
Step old Redoing (Refused refusal) new = RefusesMove (IsAtEnd old) NothingToRedo refusal × (new ≡ old)

-- a list of commands, with a reply for each: the steps in turn
abbrev pub Run : Past → List Asked → List Reply → Past → Type 0
Run old [] [] new = new ≡ old
Run old (asked ∷ more) (reply ∷ replies) new = (next : Past) × Step old asked reply next × Run next more replies new
Run old [] (reply ∷ replies) new = ⊥
Run old (asked ∷ more) [] new = ⊥

-- the history begins with the state of these lines for the targets, where these versions are handed in
abbrev pub BeginsWith : ReqFile → Targets → List TargetPins → Snapshot → Past → Type 0
BeginsWith lines targets pins snapshot past = (state : State) × FirstResult lines targets pins snapshot (Ok state) × (past ≡ starts state)

-- the same where none is handed in
abbrev pub IsStart : ReqFile → Targets → Snapshot → Past → Type 0
IsStart lines targets snapshot past = BeginsWith lines targets [] snapshot past
