use Rattle.std.proofs.Common.{[], ◌++◌, ◌≡◌, List, vec_len}
use Rattle.search.specs.declared.parts.Frame.{Frame}
use Rattle.search.specs.Table.{rules_of}
use Rattle.search.specs.Tied.Search.{pins_of, IsSearch, IsRefuted}
use Rattle.plain_search.proofs.backtracking.retreat.Given as goal

abbrev pub invariant-loop-last : goal.invariant-loop-last
invariant-loop-last l = record {
  rest : List Frame;
  split : l.fn.frames.items ≡ l.frames.items ++ rest;
  search : IsSearch (rules_of l.table) [] l.frames.items;
  refuted : IsRefuted (rules_of l.table) (pins_of l.frames.items);
}

abbrev pub decreases-loop-last : goal.decreases-loop-last
decreases-loop-last l = vec_len l.frames
