use Rattle.std.proofs.Common.{◌∙◌, rules, of_calls}
use Rattle.std.proofs.lemmas.List.{take_rest}
use Rattle.std.proofs.lemmas.List.Sorted.{IsPartitionPoint-from_clause}
use Rattle.std.specs.Ordering.{is_le, is_lt}
use Rattle.changes.proofs.OwnChanges.{own-are, parted-before, parted-rest, point-behind, stands}
use Rattle.changes.proofs.change.by_target.own_changes.Goals as goal

pub returns : goal.returns
returns c =
    let target = c.args.target.now in
    let changes = c.args.changes.now in
    let before = IsPartitionPoint-from_clause (λ e. is_lt (stands target e)) changes _ c.partition_point-before.ensures.partitioned (parted-before changes target c.requires) (λ a r f k. search (rules, of_calls)) in
    let rest = take_rest changes c.partition_point-before.result ∙ point-behind (λ e. is_lt (stands target e)) changes c.partition_point-before.result c.partition_point-before.ensures.bound before in
    let own = IsPartitionPoint-from_clause (λ e. is_le (stands target e)) _ _ c.partition_point-own.ensures.partitioned (parted-rest changes _ target rest c.requires) (λ a r f k. search (rules, of_calls)) in
    own-are changes _ target _ rest c.partition_point-own.ensures.bound own
