use Rattle.std.proofs.Common.{subst}
use Rattle.search.proofs.WhatIsLeft.{table-lawful}
use Rattle.search.specs.Table.{TableParts, rules_of}
use Rattle.set_conflicts.specs.Tied.Domains.{Cuts}
use Rattle.set_conflicts.proofs.Kept.{cut-excludes, recorded-none}
use Rattle.set_conflicts.proofs.Listed.{item-member}
use Rattle.set_conflicts.proofs.justification.is_cut_by.Goals as goal

pub returns : goal.returns
returns c = λ t pins k.
    let table : TableParts = c.args.table.now in
    cut-excludes (rules_of table) (table-lawful table c.requires.known) pins c.args.domains.now c.args.cut.now.node c.args.cut.now.versions c.index-recorded-at.result
    (recorded-none table c.requires.known c.args.recorded.now c.requires.each c.index-recorded-at.result (item-member c.args.recorded.now c.args.at c.index-recorded-at.result c.if-at-recorded.false c.index-recorded-at.is))
    (subst (λ conflict. Cuts c.args.domains.now c.args.cut.now.node c.args.cut.now.versions conflict) c.as_slice.ensures (c.does_cut.ensures t)) k
