use Rattle.search.proofs.WhatIsLeft.{table-lawful}
use Rattle.search.specs.Table.{TableParts, rules_of}
use Rattle.set_conflicts.proofs.Kept.{cut-excludes, follows-none}
use Rattle.set_conflicts.proofs.justification.is_derived.Goals as goal

pub returns : goal.returns
returns c = λ t pins k.
    let table : TableParts = c.args.table.now in
    cut-excludes (rules_of table) (table-lawful table c.requires.known) pins c.args.domains.now c.args.derivation.now.term.node c.args.derivation.now.term.versions c.as_slice-conflict.result.now
    (follows-none table c.requires.known c.args.recorded.now c.requires.each c.as_slice-conflict.result.now (c.in_ok-follows.ensures t)) (c.does_cut.ensures c.if-not-does_cut.false) k
