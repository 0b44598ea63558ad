use Rattle.std.proofs.Common.{◌+◌, ◌≤◌, length}
use Rattle.journal.proofs.StepFacts.{ReadSoFar}
use Rattle.journal.proofs.history_reader.steps.steps_of.Given as goal

abbrev pub invariant-loop-place : goal.invariant-loop-place
invariant-loop-place l = record {
  read : ReadSoFar l.header l.steps l.bytes l.place l.rest l.changes.items;
  within : l.place + length l.rest ≤ length l.bytes;
}
