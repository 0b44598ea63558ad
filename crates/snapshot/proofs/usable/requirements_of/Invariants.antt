use Rattle.std.proofs.Common.{◌≡◌, drop}
use Rattle.snapshot.specs.Releases.{requirements_from}
use Rattle.snapshot.proofs.UsableFacts.{with_front}
use Rattle.snapshot.proofs.usable.requirements_of.Given as goal

abbrev pub invariant-loop-place : goal.invariant-loop-place
invariant-loop-place l = with_front l.requirements.items (requirements_from l.place (drop l.place l.texts)) ≡ requirements_from 0 l.texts
