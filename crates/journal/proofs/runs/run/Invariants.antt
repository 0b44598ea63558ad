use Rattle.std.proofs.Common.{◌≡◌, length, take, map, vec_len, vec_capacity}
use Rattle.journal.specs.Changes.{parts_of}
use Rattle.journal.specs.Commands.{asked_of}
use Rattle.journal.specs.Histories.{RunWithChanges}
use Rattle.journal.proofs.runs.run.Given as goal

abbrev pub invariant-loop-command : goal.invariant-loop-command
invariant-loop-command g l = record {
  run : RunWithChanges (parts_of (g.H.History.past l.fn.history) (g.H.History.changes l.fn.history)) (map asked_of (take l.command-index l.commands)) l.replies.items
      (parts_of (g.H.History.past l.history) (g.H.History.changes l.history));
  len : vec_len l.replies ≡ l.command-index;
  room : vec_capacity l.replies ≡ length l.commands;
}
