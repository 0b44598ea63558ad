use Rattle.std.proofs.Common.{Contains, ◌<◌, sym, subst, subst₂}
use Rattle.search.specs.Table.{TableParts, candidates_of, name_of}
use Rattle.set_conflicts.proofs.known_terms.is_known.Goals as goal

pub returns : goal.returns
returns c = λ t.
    let table : TableParts = c.args.table.now in (
      subst₂ (λ n m. n < m) c.node-node.ensures c.node_count.ensures c.if-node-node_count.false,
      λ place i.
          let listed : Contains c.candidates.result.now place = c.in_ok-candidates.ensures.only place (c.lies_within.ensures.within t place (subst (λ xs. Contains xs place) (sym c.set.ensures) i)) in
          let own : Contains (candidates_of table (name_of table c.node-node.result)) place = subst (λ n. Contains (candidates_of table n) place) c.name_of.ensures.name (subst (λ xs. Contains xs place) c.candidates.ensures listed) in
          subst (λ n. Contains (candidates_of table (name_of table n)) place) c.node-node.ensures own,
    )
