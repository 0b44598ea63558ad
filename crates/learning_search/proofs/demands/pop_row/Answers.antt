use Rattle.std.proofs.Common.{◌-◌, ◌∙◌, length, take, sym, ap}
use Rattle.learning_search.proofs.Rows.{last-left, row-at, row-set_other, row-set_same, vec-size}
use Rattle.learning_search.proofs.demands.pop_row.Goals as goal

pub returns-clause-own : goal.returns-clause-own
returns-clause-own c demand front e =
    row-set_same c.args.rows.now.items c.args.name c.pop.new.self c.requires
    ∙ c.pop.ensures.rest
    ∙ ap (λ n. take (n - 1) c.index_mut.result.now.items) (vec-size c.index_mut.result.now)
    ∙ ap (λ row. take (length row.items - 1) row.items) c.index_mut.ensures.value
    ∙ ap (λ xs. take (length xs - 1) xs) (sym (row-at c.args.rows.now.items c.args.name c.index_mut.result.now c.requires))
    ∙ last-left _ front demand e

pub returns-clause-others : goal.returns-clause-others
returns-clause-others c n d = row-set_other c.args.rows.now.items c.args.name n c.pop.new.self d
