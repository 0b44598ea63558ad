use Rattle.std.proofs.Common.{length, ◌≡◌, ◌≤◌, ◌+◌, take}
use Rattle.std.specs.List.{suffix_len}
use Rattle.std.specs.Str.{IsCharBoundary}
use Rattle.lists.specs.Spaces.{is_space_or_tab}
use Rattle.lists.proofs.spaces.cut_tail.Given as goal

abbrev pub invariant-loop-end : goal.invariant-loop-end
invariant-loop-end l = record {
  within : l.end ≤ length l.bytes;
  counted : l.end + suffix_len is_space_or_tab l.bytes ≡ length l.bytes + suffix_len is_space_or_tab (take l.end l.bytes);
  cut : IsCharBoundary l.bytes l.end;
}

abbrev pub decreases-loop-end : goal.decreases-loop-end
decreases-loop-end l = l.end
