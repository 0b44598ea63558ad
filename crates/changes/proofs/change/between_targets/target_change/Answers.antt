use Rattle.std.proofs.Common.{refl}
use Rattle.std.specs.Option.{option_copied}
use Rattle.states.proofs.PartFacts.{not-so}
use Rattle.changes.proofs.BetweenTargets.{change-made, change-none}
use Rattle.changes.proofs.change.between_targets.target_change.Goals as goal

pub returns-then-is_same : goal.returns-then-is_same
returns-then-is_same c =
    change-none c.args.name.now (option_copied c.args.old) (option_copied c.args.new) c.in_ok-old.old c.in_ok-new.new c.in_ok-old.ensures c.in_ok-new.ensures (c.if-is_same.ensures.0 refl)

pub returns : goal.returns
returns c =
    rw c.in_ok-name.ensures.cases
    (change-made c.args.name.now (option_copied c.args.old) (option_copied c.args.new) c.in_ok-old.old c.in_ok-new.new c.in_ok-old.ensures c.in_ok-new.ensures (λ same. not-so (c.if-is_same.ensures.1 same)))
