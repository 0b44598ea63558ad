use Rattle.std.proofs.Common.{◌≡◌, length, drop}
use Rattle.pep440.specs.Text.{pieces}
use Rattle.pep508.specs.Requirement.{names_of}
use Rattle.pep508.proofs.Names.{behind}
use Rattle.pep508.proofs.requirement.names_of.Given as goal

abbrev pub invariant-loop-piece : goal.invariant-loop-piece
invariant-loop-piece l = behind l.names (names_of (drop (length l.yielded) (pieces l.text))) ≡ names_of (pieces l.text)
