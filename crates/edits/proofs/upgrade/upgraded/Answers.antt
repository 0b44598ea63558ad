use Rattle.std.proofs.Common.{◌∙◌, inr, rules}
use Rattle.edits.proofs.NamesRead.{refused-first}
use Rattle.edits.proofs.Refusals.{read-so}
use Rattle.edits.proofs.upgrade.upgraded.Goals as goal

pub returns-in-Some-clause-err : goal.returns-in-Some-clause-err
returns-in-Some-clause-err c =
    let k = read-so _ _ c.in_ok-names.names c.in_ok-names.ensures in
    inr (refused-first c.args.targets.now c.args.texts.now c.in_ok-names.names c.in-Some.name.now c.in_ok-copy_of.field-0 k.0 k.1
    (rw c.as_slice.ensures at c.in-Some.ensures) (c.in_ok-copy_of.ensures ∙ c.normal.ensures))

pub returns-clause-ok : goal.returns-clause-ok
returns-clause-ok c = search rules
