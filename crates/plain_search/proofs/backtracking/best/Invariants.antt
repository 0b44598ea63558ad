use Rattle.std.proofs.Common.{[]}
use Rattle.plain_search.proofs.WorkLeft.{work_of}
use Rattle.search.specs.Tied.Front.{IsFrontOf}
use Rattle.search.specs.Table.{rules_of}
use Rattle.search.specs.Tied.Search.{IsSearch}
use Rattle.plain_search.proofs.backtracking.best.Given as goal

abbrev pub invariant-search : goal.invariant-search
invariant-search l = record {
  search : IsSearch (rules_of l.table) [] l.frames.items;
  stands : IsFrontOf l.table l.frames.items l.front;
}

abbrev pub decreases-search : goal.decreases-search
decreases-search l = work_of l.table l.frames.items
