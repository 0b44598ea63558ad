use Rattle.std.proofs.Common.{Contains, sym, subst}
use Rattle.std.specs.List.{AllByRecursion}
use Rattle.pylock.specs.Packages.{EntryParts}
use Rattle.states.proofs.PartFacts.{AllByRecursion-at, not-so}
use Rattle.states.proofs.state.reach.have_names.Goals as goal

pub returns-then-not-has : goal.returns-then-not-has
returns-then-not-has c =
    let here = λ (all : AllByRecursion (λ (e : EntryParts). Contains c.args.names.now e.name) c.args.entries.now). subst (λ (e : EntryParts). Contains c.args.names.now e.name) (sym c.entry-item.is)
    (AllByRecursion-at (λ (e : EntryParts). Contains c.args.names.now e.name) c.args.entries.now c.loop-entry.entry-index c.entry-item.result c.loop-entry-test.true all) in
    (λ h. absurd (not-so h), λ all. (rw c.name.ensures at c.if-not-has.ensures).1 (here all))
