use Rattle.std.proofs.Common.{length, ◌-◌, ◌≡◌, ◌≤◌, ◌+◌, drop}
use Rattle.std.specs.List.{prefix_len}
use Rattle.std.specs.Str.{IsCharBoundary}
use Rattle.lists.specs.Spaces.{is_space_or_tab}
use Rattle.lists.proofs.spaces.cut_lead.Given as goal

abbrev pub invariant-loop-place : goal.invariant-loop-place
invariant-loop-place l = record {
  within : l.place ≤ length l.bytes;
  counted : prefix_len is_space_or_tab l.bytes ≡ l.place + prefix_len is_space_or_tab (drop l.place l.bytes);
  cut : IsCharBoundary l.bytes l.place;
}

abbrev pub decreases-loop-place : goal.decreases-loop-place
decreases-loop-place l = length l.bytes - l.place
