use Rattle.std.proofs.Common.{ℕ, List, ◌≡◌, ◌<◌, ◌++◌, ◌∷◌, [], Contains, length, sym, subst}
use Rattle.std.proofs.lemmas.List.Elements.{Contains-push}
use Rattle.learning_search.proofs.Rows.{demand-room, rowed-pop}
use Rattle.learning_search.specs.declared.demands.Demand.{Demand}
use Rattle.learning_search.specs.Tied.Demands.{row_at}
use Rattle.search.specs.Table.{rules_of}
use Rattle.learning_search.proofs.demands.Demands.drop_one.Goals as goal

pub name_required-requires : goal.name_required-requires
name_required-requires c = c.requires.rowed.known c.in-Some.demand (subst (λ xs. Contains xs c.in-Some.demand) (sym c.in-Some.ensures.items) (Contains-push c.pop.new.self.items c.in-Some.demand))

pub pop_row-requires : goal.pop_row-requires
pop_row-requires c = subst (λ m. m < length c.args.self.now.rows.items) (sym c.name_required.ensures)
    (subst (λ k. (rules_of c.args.table.now).name c.in-Some.demand.requirement < k) (sym c.requires.rowed.room)
    (demand-room c.args.table.now c.requires.table c.in-Some.demand.requirement (c.requires.rowed.known c.in-Some.demand (subst (λ xs. Contains xs c.in-Some.demand) (sym c.in-Some.ensures.items) (Contains-push c.pop.new.self.items c.in-Some.demand)))))

pub returns-in-Some-clause-rowed : goal.returns-in-Some-clause-rowed
returns-in-Some-clause-rowed c = rowed-pop c.args.table.now c.args.self.now (record { listed = c.pop.new.self; rows = c.pop_row.new.rows; free = c.args.self.now.free; names_to_check = c.args.self.now.names_to_check }) c.in-Some.demand c.requires.rowed c.in-Some.ensures.items c.pop_row.ensures.length
    (subst (λ (m : ℕ). (front : List Demand) → row_at c.args.self.now.rows.items m ≡ front ++ c.in-Some.demand ∷ [] → row_at c.pop_row.new.rows.items m ≡ front) c.name_required.ensures (c.pop_row.ensures.own c.in-Some.demand))
    (subst (λ (m : ℕ). (n : ℕ) → (n ≡ m → ⊥) → row_at c.pop_row.new.rows.items n ≡ row_at c.args.self.now.rows.items n) c.name_required.ensures c.pop_row.ensures.others)
