use Rattle.std.proofs.Common.{◌≡◌, ℕ, List, map, take, if◌then◌else◌}
use Rattle.markers.specs.MarkerExtras.{is_among}
use Rattle.problems.specs.Tied.ByExtra.{listed_for, put_last}
use Rattle.problems.proofs.by_extra.list_extras.Given as goal

abbrev pub invariant-loop-extra : goal.invariant-loop-extra
invariant-loop-extra l = (other : List ℕ) → listed_for l.named other ≡ (if is_among other (map (λ name. name.now) (take l.extra-index l.names)) then put_last l.place (listed_for l.fn.named other) else listed_for l.fn.named other)
