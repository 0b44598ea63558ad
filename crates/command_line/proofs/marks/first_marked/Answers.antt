use Rattle.std.proofs.Common.{◌∙◌, List, sym}
use Rattle.std.proofs.lemmas.List.{at_drop_all}
use Rattle.command_line.specs.Marks.{first_marked}
use Rattle.command_line.specs.Options.{marks_of}
use Rattle.command_line.proofs.MarksInTurn.{Mark, none_marked, passes, stops}
use Rattle.command_line.proofs.marks.first_marked.Goals as goal

pub returns-then-holds : goal.returns-then-holds
returns-then-holds c = sym (stops c.args.marks.now _ _ c.loop-shown-test.true c.if-holds.true) ∙ c.loop-shown.invariant

pub loop-shown-preserved : goal.loop-shown-preserved
loop-shown-preserved c = sym (passes c.args.marks.now _ _ c.loop-shown-test.true c.if-holds.false) ∙ c.loop-shown.invariant

pub returns : goal.returns
returns c = none_marked ∙ sym (at_drop_all (λ (ms : List Mark). first_marked (marks_of ms)) c.args.marks.now _ c.loop-shown-test.false) ∙ c.loop-shown.invariant
