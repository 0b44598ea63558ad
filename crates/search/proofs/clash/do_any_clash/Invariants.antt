use Rattle.std.proofs.Common.{◌≡◌, false, take}
use Rattle.std.specs.List.{list_any}
use Rattle.search.specs.Tied.Search.{clash_in, taken_at}
use Rattle.search.specs.Table.{rules_of}
use Rattle.search.proofs.clash.do_any_clash.Given as goal

abbrev pub invariant-loop-at : goal.invariant-loop-at
invariant-loop-at l = list_any (clash_in (rules_of l.table) (taken_at l.taken)) (take l.at l.required) ≡ false
