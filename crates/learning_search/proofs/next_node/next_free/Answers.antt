use Rattle.std.proofs.Common.{ℕ, List, Option, Some, None, IfSome, IsSome, ◌↔◌, ◌∷◌, ◌≡◌, ◌<◌, ◌∙◌, Contains, length, map, refl, sym, ap, subst, arith, true, false}
use Rattle.std.specs.BTreeSet.{keys}
use Rattle.learning_search.proofs.Rows.{row-from, rowed-same}
use Rattle.learning_search.proofs.Watching.{least-found, watched-taken}
use Rattle.learning_search.specs.declared.demands.Demands.{Demands}
use Rattle.learning_search.specs.Tied.Demands.{row_at}
use Rattle.learning_search.specs.Tied.Gathering.{choice_at}
use Rattle.search.specs.Table.{TableParts}
use Rattle.learning_search.proofs.next_node.next_free.Goals as goal

pub need_on-requires : goal.need_on-requires
need_on-requires c a i =
    let row : c.row_of-row.result.now ≡ row_at c.loop-name.demands.rows.items c.in-Some.name = c.row_of-row.ensures ∙ ap (λ rs. row_at rs c.in-Some.name) c.as_slice.ensures.value in
    c.loop-name.invariant.rowed.known a (row-from c.args.table.now c.loop-name.demands c.in-Some.name a c.loop-name.invariant.rowed (subst (λ xs. Contains xs a) row i)).0

pub returns-in-Some-need_on-clause-found : goal.returns-in-Some-need_on-clause-found
returns-in-Some-need_on-clause-found c =
    let row : c.row_of-row.result.now ≡ row_at c.loop-name.demands.rows.items c.in-Some.name = c.row_of-row.ensures ∙ ap (λ rs. row_at rs c.in-Some.name) c.as_slice.ensures.value in
    let k = c.in-Some-need_on.ensures in
    least-found c.args.table.now c.requires.table c.loop-name.demands c.args.taken.now (map choice_at c.args.choices.now.entries) c.in-Some.name c.in-Some-need_on.need k.1 c.loop-name.invariant.rowed c.loop-name.invariant.watched c.in-Some.ensures.2
    k.0 (subst (λ xs. Contains xs k.1) row k.2) k.3 k.4

-- the first key is dropped
dropped : (old new : List ℕ) (popped : Option ℕ) (n : ℕ) (rest : List ℕ) → old ≡ n ∷ rest → (IsSome popped ↔ (0 < length old)) → IfSome popped (λ k. old ≡ k ∷ new) → old ≡ n ∷ new
dropped old new None n rest e v r = absurd (let k : false ≡ true = v.1 (let l : length old ≡ length (n ∷ rest) = ap length e in omega arith) in cc)
dropped old new (Some k) n rest e v r = let same : k ≡ n = (let f : k ∷ new ≡ n ∷ rest = sym r ∙ e in cc) in r ∙ ap (λ m. m ∷ new) same

pub loop-name-preserved : goal.loop-name-preserved
loop-name-preserved c =
    let t : TableParts = c.args.table.now in
    let old : Demands = c.loop-name.demands in
    let new : Demands = record { listed = c.loop-name.demands.listed; rows = c.loop-name.demands.rows; free = c.pop_first.new.self; names_to_check = c.loop-name.demands.names_to_check } in
    let row : c.row_of-row.result.now ≡ row_at c.loop-name.demands.rows.items c.in-Some.name = c.row_of-row.ensures ∙ ap (λ rs. row_at rs c.in-Some.name) c.as_slice.ensures.value in
    record {
      rowed = rowed-same t old new c.loop-name.invariant.rowed refl refl;
      watched = watched-taken t old new c.args.taken.now (map choice_at c.args.choices.now.entries) c.in-Some.name c.loop-name.invariant.rowed c.loop-name.invariant.watched
          (λ none. sym row ∙ c.in_default-need_on.ensures none) refl refl
          (dropped (keys c.loop-name.demands.free) (keys c.pop_first.new.self) c.pop_first.result c.in-Some.name c.in-Some.ensures.0 c.in-Some.ensures.1 c.pop_first.ensures.variant c.pop_first.ensures.removal);
      listed = c.loop-name.invariant.listed;
    }
