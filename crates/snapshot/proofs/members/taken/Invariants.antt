use Rattle.std.proofs.Common.{◌≡◌, length, map}
use Rattle.serde_json.specs.View.{members_view}
use Rattle.serde_json.specs.Find.{get_member}
use Rattle.snapshot.specs.Tied.Keys.{values_in}
use Rattle.snapshot.proofs.members.taken.Given as goal

abbrev pub invariant-loop-key : goal.invariant-loop-key
invariant-loop-key g l =
    (length l.found ≡ g.row.N) ×
    (values_in l.found (map (λ key. key.now) l.keys) (members_view l.key-iterator) ≡ map (λ key. get_member key.now (members_view l.fn.members.entries)) l.keys)
