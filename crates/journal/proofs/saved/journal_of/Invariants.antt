use Rattle.std.proofs.Common.{◌≡◌, ◌++◌, string_bytes, take}
use Rattle.std.specs.List.{AllByRecursion, flat_map}
use Rattle.journal_format.specs.Written.{header_data, line_of, step_data}
use Rattle.journal.specs.Tied.{IsWritten}
use Rattle.journal.proofs.saved.journal_of.Given as goal

abbrev pub invariant-loop-place : goal.invariant-loop-place
invariant-loop-place g l = record {
  lines : string_bytes l.lines ≡ line_of (header_data l.header) ++ flat_map (λ change. line_of (step_data change)) (take l.place (g.H.History.changes l.history));
  first : IsWritten (header_data l.header);
  others : AllByRecursion (λ change. IsWritten (step_data change)) (take l.place (g.H.History.changes l.history));
}
