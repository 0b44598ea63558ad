use Rattle.std.proofs.Common.{ℕ, List, Option, ◌++◌, ◌∷◌, [], ◌≡◌, ◌-◌, ◌∙◌, Contains, length, take, map, refl, sym, ap, subst, arith}
use Rattle.std.proofs.lemmas.Grind.{common_steps}
use Rattle.learning_search.proofs.Rows.{last-left, row-from, rowed-same, vec-size}
use Rattle.learning_search.proofs.Watching.{none-to_check, decided-row, watched-settled}
use Rattle.learning_search.specs.declared.demands.Demands.{Demands}
use Rattle.learning_search.specs.declared.demands.Demand.{Demand}
use Rattle.search.specs.declared.conflict.NodeChoice.{NodeChoice}
use Rattle.learning_search.specs.declared.next_node.NeededNode.{NeededNode}
use Rattle.learning_search.specs.Tied.Demands.{AreRowed, row_at}
use Rattle.learning_search.specs.Tied.Demanded.{AreKnownDemands, IsOnDecided, NoneOnDecided}
use Rattle.learning_search.specs.Tied.Gathering.{choice_at}
use Rattle.learning_search.specs.Tied.Learned.{first_at}
use Rattle.search.specs.Table.{TableParts, rules_of}
use Rattle.learning_search.proofs.next_node.next_on_decided.Goals as goal

-- what is known of a row, and of a needed node in it
known-row : (t : TableParts) (demands : Demands) (n : ℕ) (row : List Demand) → AreRowed t demands → row ≡ row_at demands.rows.items n → AreKnownDemands (length t.requirements) row
known-row t demands n row h e a i = h.known a (row-from t demands n a h (subst (λ xs. Contains xs a) e i)).0

row-decided : (t : TableParts) (demands : Demands) (first : ℕ → Option (NodeChoice ℕ ℕ)) (chosen : List (NodeChoice ℕ ℕ)) (n : ℕ) (row : List Demand) (need : NeededNode) → AreRowed t demands → row ≡ row_at demands.rows.items n → IsOnDecided (rules_of t) first chosen row need → IsOnDecided (rules_of t) first chosen demands.listed.items need
row-decided t demands first chosen n row need h e k = decided-row t demands first chosen n need h (subst (λ xs. IsOnDecided (rules_of t) first chosen xs need) e k)

pub need_from-requires : goal.need_from-requires
need_from-requires c = known-row c.args.table.now c.loop-name.demands c.in-Some.name c.row_of-row.result.now c.loop-name.invariant.rowed (c.row_of-row.ensures ∙ ap (λ rs. row_at rs c.in-Some.name) c.as_slice-in-Some.ensures.value)

pub returns-in-Some-need_from-clause-found : goal.returns-in-Some-need_from-clause-found
returns-in-Some-need_from-clause-found c = row-decided c.args.table.now c.loop-name.demands (first_at c.args.taken.now) (map choice_at c.args.choices.now.entries) c.in-Some.name c.row_of-row.result.now c.in-Some-need_from.need c.loop-name.invariant.rowed (c.row_of-row.ensures ∙ ap (λ rs. row_at rs c.in-Some.name) c.as_slice-in-Some.ensures.value) c.in-Some-need_from.ensures

pub need_on_decided-requires : goal.need_on_decided-requires
need_on_decided-requires c = known-row c.args.table.now c.loop-name.demands c.in-Some.name c.row_of-row.result.now c.loop-name.invariant.rowed (c.row_of-row.ensures ∙ ap (λ rs. row_at rs c.in-Some.name) c.as_slice-in-Some.ensures.value)

pub returns-in-Some-need_on_decided-clause-found : goal.returns-in-Some-need_on_decided-clause-found
returns-in-Some-need_on_decided-clause-found c = row-decided c.args.table.now c.loop-name.demands (first_at c.args.taken.now) (map choice_at c.args.choices.now.entries) c.in-Some.name c.row_of-row.result.now c.in-Some-need_on_decided.need c.loop-name.invariant.rowed (c.row_of-row.ensures ∙ ap (λ rs. row_at rs c.in-Some.name) c.as_slice-in-Some.ensures.value) c.in-Some-need_on_decided.ensures

pub loop-name-preserved : goal.loop-name-preserved
loop-name-preserved c =
    let t : TableParts = c.args.table.now in
    let old : Demands = c.loop-name.demands in
    let new : Demands = record { listed = c.loop-name.demands.listed; rows = c.loop-name.demands.rows; free = c.loop-name.demands.free; names_to_check = c.pop.new.self } in
    let chosen : List (NodeChoice ℕ ℕ) = map choice_at c.args.choices.now.entries in
    let row : c.row_of-row.result.now ≡ row_at c.loop-name.demands.rows.items c.in-Some.name = c.row_of-row.ensures ∙ ap (λ rs. row_at rs c.in-Some.name) c.as_slice-in-Some.ensures.value in
    let split : c.loop-name.demands.names_to_check.items ≡ c.in-Some.ensures.0 ++ c.in-Some.name ∷ [] = sym c.as_slice.ensures.value ∙ c.in-Some.ensures.1 in
    let front : c.pop.new.self.items ≡ c.in-Some.ensures.0 = c.pop.ensures.rest ∙ ap (λ n. take (n - 1) c.loop-name.demands.names_to_check.items) (vec-size c.loop-name.demands.names_to_check) ∙ last-left c.loop-name.demands.names_to_check.items c.in-Some.ensures.0 c.in-Some.name split in
    record {
      rowed = rowed-same t old new c.loop-name.invariant.rowed refl refl;
      watched = watched-settled t old new c.args.taken.now chosen c.in-Some.name c.loop-name.invariant.rowed c.loop-name.invariant.watched
          (subst (λ (xs : List Demand). NoneOnDecided (rules_of t) (first_at c.args.taken.now) chosen xs) row c.in_default-need_on_decided.ensures) refl refl (split ∙ ap (λ xs. xs ++ c.in-Some.name ∷ []) (sym front));
      listed = c.loop-name.invariant.listed;
    }

pub returns-clause-found : goal.returns-clause-found
returns-clause-found c = none-to_check c.args.table.now c.loop-name.demands c.args.taken.now (map choice_at c.args.choices.now.entries) c.loop-name.invariant.watched (sym c.as_slice.ensures.value ∙ c.in_default.ensures)

pub loop-name-smaller : goal.loop-name-smaller
loop-name-smaller c = grind (arith, common_steps)
