use Rattle.std.proofs.Common.{◌≤◌, length, arith, string_bytes}
use Rattle.journal_format.specs.Written.{header_data, line_of}
use Rattle.journal.proofs.Histories.{AreSteps-count}
use Rattle.journal.proofs.WrittenFacts.{lines_all, lines_more, written_all, written_more}
use Rattle.journal.proofs.saved.journal_of.Goals as goal

pub loop-place-preserved : goal.loop-place-preserved
loop-place-preserved g c =
    let changes = g.H.History.changes c.args.history.now in
    record {
      lines = rw c.in_ok-push_step.ensures.line
          (lines_more (line_of (header_data c.args.header.now)) (string_bytes c.loop-place.lines) changes c.loop-place.place c.change.result.now c.change.ensures.change c.loop-place.invariant.lines);
      first = c.loop-place.invariant.first;
      others = written_more changes c.loop-place.place c.change.result.now c.change.ensures.change c.loop-place.invariant.others c.in_ok-push_step.ensures.written;
    }

pub returns : goal.returns
returns g c =
    let changes = g.H.History.changes c.args.history.now in
    let count = AreSteps-count _ _ c.steps-place-end.ensures.lead in
    let past : length changes ≤ c.loop-place.place = omega (arith, count, c.steps-place-end.ensures.steps, c.loop-place-test.false) in
    record {
      lines = lines_all (line_of (header_data c.args.header.now)) (string_bytes c.loop-place.lines) changes c.loop-place.place past c.loop-place.invariant.lines;
      written = written_all c.args.header.now changes c.loop-place.place past c.loop-place.invariant.first c.loop-place.invariant.others;
    }
