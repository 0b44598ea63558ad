use Rattle.std.proofs.Common.{◌≡◌, drop}
use Rattle.std.specs.List.{list_all}
use Rattle.set_refutations.specs.Tied.SetCases.{is_listed}
use Rattle.set_refutations.proofs.set_grounds.version_list.are_listed.Given as goal

abbrev pub invariant-loop-place : goal.invariant-loop-place
invariant-loop-place l = list_all (is_listed l.others) l.versions ≡ list_all (is_listed l.others) (drop l.place l.versions)
