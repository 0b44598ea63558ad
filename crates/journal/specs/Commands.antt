-- What a history is asked for.
use Rattle.journal.specs.Values.{Edit, Pool}
use Rattle.journal.specs.declared.commands.Command.{Command}
use Rattle.journal.specs.declared.commands.Command.TheVariants.{Edit as EditCommand, Undo, Redo}

-- the value of a command: an edit with what versions are chosen from, undo, or redo
pub data Asked : Type 0 where
  Editing : (edit : Edit) (pool : Pool) → Asked
  Undoing : Asked
  Redoing : Asked

-- what a command asks for
abbrev pub asked_of : Command → Asked
asked_of (EditCommand edit pool) = Editing edit pool
asked_of Undo = Undoing
asked_of Redo = Redoing
