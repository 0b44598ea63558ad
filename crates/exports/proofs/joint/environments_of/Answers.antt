use Rattle.std.proofs.Common.{◌∙◌, arith, Bool, [], map, ap, sym, if◌then◌else◌}
use Rattle.std.proofs.lemmas.Grind.{common_steps}
use Rattle.std.proofs.lemmas.List.{take_all}
use Rattle.exports.specs.declared.cover.Cover.{Cover}
use Rattle.exports.proofs.joint.environments_of.Goals as goal

pub loop-cover-preserved : goal.loop-cover-preserved
loop-cover-preserved c = grind (arith, common_steps)

pub returns : goal.returns
returns c =
    c.from_vec.ensures ∙ c.loop-cover.invariant ∙ ap (map (λ (cover : Cover). cover.marker)) (take_all c.loop-cover.cover-index c.args.covers.now c.loop-cover-test.false)
    ∙ sym (ap (λ (b : Bool). if b then [] else map (λ (cover : Cover). cover.marker) c.args.covers.now) (sym c.do_some_ask_nothing.ensures ∙ c.if-do_some_ask_nothing.false))
