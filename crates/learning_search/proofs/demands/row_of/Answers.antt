use Rattle.std.proofs.Common.{length, sym, ◌∙◌, ap, arith}
use Rattle.std.proofs.lemmas.Bool.{ltb-true}
use Rattle.learning_search.proofs.Rows.{row-at, row-beyond}
use Rattle.learning_search.proofs.demands.row_of.Goals as goal

pub returns-in-None : goal.returns-in-None
returns-in-None c = sym (row-beyond c.args.rows.now c.args.name c.in-None.ensures.lookup.3)

pub returns-in-Some : goal.returns-in-Some
returns-in-Some c =
    c.as_slice.ensures.value
    ∙ ap (λ row. row.items) (c.in-Some.ensures.lookup.4 (omega arith) c.in-Some.row.now)
    ∙ sym (row-at c.args.rows.now c.args.name c.in-Some.row.now (ltb-true c.args.name (length c.args.rows.now) (sym c.in-Some.ensures.lookup.0)))
