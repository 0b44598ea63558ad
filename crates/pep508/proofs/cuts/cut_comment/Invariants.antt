use Rattle.std.proofs.Common.{◌≡◌, ◌+◌, drop, true}
use Rattle.pep508.specs.Parts.{comment_place}
use Rattle.pep508.proofs.cuts.cut_comment.Given as goal

abbrev pub invariant-loop-place : goal.invariant-loop-place
invariant-loop-place l = comment_place true l.bytes ≡ l.place + comment_place l.at_start (drop l.place l.bytes)
