use Rattle.std.proofs.Common.{◌≡◌, ◌∙◌, true, sym}
use Rattle.std.specs.List.{list_any}
use Rattle.exports.specs.Tied.Implication.{says}
use Rattle.exports.proofs.KeptConditions.{kept-pushed, kept-said}
use Rattle.exports.proofs.SaidConditions.{said-among}
use Rattle.exports.proofs.kept_conditions.keep.Goals as goal

pub returns-then-is_said : goal.returns-then-is_said
returns-then-is_said c =
    let said : list_any (λ condition. says condition c.args.condition) c.args.conditions.now ≡ true = rw c.as_slice.ensures at (sym c.is_said.ensures ∙ c.if-is_said.true) in
    kept-said c.args.environment.now c.args.conditions.now c.args.condition c.requires (said-among c.args.conditions.now c.args.condition said)

pub returns : goal.returns
returns c = kept-pushed c.args.environment.now c.args.conditions.now c.push.new.self c.args.condition c.requires c.in_ok-push.ensures.items
