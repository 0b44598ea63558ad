use Rattle.std.proofs.Common.{◌++◌, ◌∷◌, [], ◌∙◌, sym, ap}
use Rattle.search.proofs.Marks.{set-length}
use Rattle.learning_search.proofs.Rows.{row-at, row-set_other, row-set_same}
use Rattle.learning_search.proofs.demands.push_row.Goals as goal

pub returns : goal.returns
returns c = record {
  room = set-length c.args.rows.now.items c.args.name c.push.new.self;
  own =
      row-set_same c.args.rows.now.items c.args.name c.push.new.self c.requires
      ∙ c.in_ok-push.ensures.items
      ∙ ap (λ row. row.items ++ c.args.demand ∷ []) c.index_mut.ensures.value
      ∙ ap (λ xs. xs ++ c.args.demand ∷ []) (sym (row-at c.args.rows.now.items c.args.name c.index_mut.result.now c.requires));
  others = λ n d. row-set_other c.args.rows.now.items c.args.name n c.push.new.self d;
}
