use Rattle.std.proofs.Common.{ℕ, subst}
use Rattle.learning_search.proofs.Rows.{rowed-push}
use Rattle.learning_search.specs.Tied.Demands.{IsListed}
use Rattle.learning_search.proofs.demands.Demands.list.Goals as goal

pub returns-clause-rowed : goal.returns-clause-rowed
returns-clause-rowed c = rowed-push c.args.table.now c.args.self.now (record { listed = c.push.new.self; rows = c.push_row.new.rows; free = c.args.self.now.free; names_to_check = c.args.self.now.names_to_check }) c.args.demand c.requires.rowed
    (subst (λ (m : ℕ). IsListed c.args.self.now.rows.items c.push_row.new.rows.items m c.args.demand) c.requires.name c.in_ok-push_row.ensures) c.requires.known c.in_ok-push.ensures.items
