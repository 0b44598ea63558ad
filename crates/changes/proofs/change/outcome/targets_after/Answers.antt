use Rattle.std.proofs.Common.{◌≡◌, [], true, false}
use Rattle.std.specs.List.{AllZip, list_all, list_any}
use Rattle.std.specs.Prelude.{MatchOption}
use Rattle.std.specs.Str.{bytes_eq}
use Rattle.states.proofs.PartFacts.{IfOk-onto}
use Rattle.changes.specs.Changes.{ChangesTarget, ChangesTargets}
use Rattle.changes.specs.Tied.Only.{IsTheOnly}
use Rattle.changes.specs.Tied.Retargeted.{NoTargets}
use Rattle.changes.proofs.MovedFacts.{made-of-each, none-unknown}
use Rattle.changes.proofs.Retargeted.{empty-from}
use Rattle.changes.proofs.change.outcome.targets_after.Goals as goal

pub returns-then-not-are_known : goal.returns-then-not-are_known
returns-then-not-are_known c =
    let stays : c.args.change.now.targets ≡ [] = empty-from c.args.change.now.targets (rw c.targets.ensures at c.if-not-is_empty.ensures) in
    let unknown : list_all (λ e. list_any (λ t. bytes_eq e.target t.name) c.args.targets.now) c.args.change.now.entries ≡ false =
    rw (c.are_known.ensures, c.entries.ensures) at c.if-not-are_known.true in
    none-unknown c.args.change.now c.args.targets.now stays unknown

pub returns : goal.returns
returns c =
    let change = c.args.change.now in
    let olds = c.args.targets.now in
    let stays : change.targets ≡ [] = empty-from change.targets (rw c.targets.ensures at c.if-not-is_empty.ensures) in
    let known : list_all (λ e. list_any (λ t. bytes_eq e.target t.name) olds) change.entries ≡ true =
    rw (c.are_known.ensures, c.entries.ensures) at c.if-not-are_known.false in
    IfOk-onto (IsTheOnly (AllZip (ChangesTarget change) olds)) (λ made. MatchOption made (NoTargets change olds) (ChangesTargets change.targets change olds)) c.all_moved.result
    (made-of-each change olds stays known) c.all_moved.ensures
