use Rattle.std.proofs.Common.{take}
use Rattle.std.specs.List.{AllByRecursion}
use Rattle.json.specs.Value.{value_view}
use Rattle.snapshot.specs.Tied.Meaning.{IsData}
use Rattle.snapshot.proofs.pass.data.+data.Given as goal

abbrev pub invariant-are_data-loop-place : goal.invariant-are_data-loop-place
invariant-are_data-loop-place l = AllByRecursion (λ v. IsData (value_view v)) (take l.place l.items)

abbrev pub invariant-have_data-loop-place : goal.invariant-have_data-loop-place
invariant-have_data-loop-place l = AllByRecursion (λ m. IsData (value_view m.1)) (take l.place l.members)
