use Rattle.std.proofs.Common.{rules, of_calls}
use Rattle.std.proofs.lemmas.List.Sorted.{IsPartitionPoint-from_clause}
use Rattle.std.specs.Ordering.{is_lt}
use Rattle.states.proofs.EntrySearch.{stands}
use Rattle.changes.proofs.EntriesBelow.{count-at, parted}
use Rattle.changes.proofs.change.exchanged_entries.count_below.Goals as goal

pub returns : goal.returns
returns c =
    let name = c.args.name.now in
    let entries = c.args.entries.now in
    let point = IsPartitionPoint-from_clause (λ e. is_lt (stands name e)) entries _ c.partition_point.ensures.partitioned (parted entries name c.requires) (λ a r f k. search (rules, of_calls)) in
    count-at name entries _ c.partition_point.ensures.bound point
