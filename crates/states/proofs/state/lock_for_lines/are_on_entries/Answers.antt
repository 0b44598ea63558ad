use Rattle.std.proofs.Common.{sym, subst}
use Rattle.std.specs.List.{AllByRecursion}
use Rattle.states.specs.State.{IsAnEntry}
use Rattle.states.proofs.PartFacts.{AllByRecursion-at, not-so}
use Rattle.states.proofs.state.lock_for_lines.are_on_entries.Goals as goal

pub returns-then-not-is_an_entry : goal.returns-then-not-is_an_entry
returns-then-not-is_an_entry c =
    let here = λ (all : AllByRecursion (IsAnEntry c.args.entries.now) c.args.names.now). subst (IsAnEntry c.args.entries.now) (sym c.name-item.is)
    (AllByRecursion-at (IsAnEntry c.args.entries.now) c.args.names.now c.loop-name.name-index c.name-item.result c.loop-name-test.true all) in
    (λ h. absurd (not-so h), λ all. c.if-not-is_an_entry.ensures.1 (here all))
