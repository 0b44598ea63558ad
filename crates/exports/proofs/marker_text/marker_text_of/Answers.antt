use Rattle.std.proofs.Common.{◌∙◌, ap, subst, sym, string_bytes}
use Rattle.exports.specs.Conditions.{IsMarkerOf}
use Rattle.exports.specs.Tied.Told.{conditions_told}
use Rattle.exports.proofs.ToldConditions.{conditions-told, told-step, told-whole}
use Rattle.exports.proofs.marker_text.marker_text_of.Goals as goal

pub loop-condition-preserved : goal.loop-condition-preserved
loop-condition-preserved c =
    told-step c.args.environment.now c.args.conditions.now c.loop-condition.condition-index c.condition-item.result (string_bytes c.loop-condition.text) (string_bytes c.push_condition.new.text)
    c.loop-condition-test.true c.condition-item.is c.loop-condition.invariant c.in_ok-push_condition.ensures

pub returns-clause-told : goal.returns-clause-told
returns-clause-told c =
    told-whole c.args.environment.now c.args.conditions.now c.loop-condition.condition-index (string_bytes c.loop-condition.text) c.loop-condition-test.false c.loop-condition.invariant

pub returns-clause-none : goal.returns-clause-none
returns-clause-none c = λ none.
    told-whole c.args.environment.now c.args.conditions.now c.loop-condition.condition-index (string_bytes c.loop-condition.text) c.loop-condition-test.false c.loop-condition.invariant
    ∙ ap (conditions_told c.args.environment.now) none

pub returns-clause-some : goal.returns-clause-some
returns-clause-some c = λ some.
    subst (IsMarkerOf c.args.environment.now c.args.conditions.now)
    (sym (told-whole c.args.environment.now c.args.conditions.now c.loop-condition.condition-index (string_bytes c.loop-condition.text) c.loop-condition-test.false c.loop-condition.invariant))
    (conditions-told c.a_text_reads_as_the_marker_that_it_spells.ensures.found c.args.environment.now c.recall_invariant.ensures c.args.conditions.now c.requires some)
