use Rattle.std.proofs.Common.{◌≡◌, None, map, take}
use Rattle.problems.specs.Rules.{wants_of}
use Rattle.problems.proofs.release_wants.all_bare.Given as goal

abbrev pub invariant-loop-release : goal.invariant-loop-release
invariant-loop-release l = l.rows.items ≡ map (wants_of l.environment None) (take l.release-index l.releases)
