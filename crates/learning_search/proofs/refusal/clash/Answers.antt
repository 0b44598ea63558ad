use Rattle.std.proofs.Common.{ℕ, List, Option, MatchOption, Some, None, Contains, ◌≡◌, ◌∙◌, ap, sym, subst, length}
use Rattle.learning_search.proofs.DemandLists.{AreFirst, clash-version, clash-demands, clash-wanted, none-clashes}
use Rattle.learning_search.proofs.Rows.{row-from, row-to}
use Rattle.search.proofs.WhatIsLeft.{table-lawful}
use Rattle.learning_search.specs.declared.partial_solution.PartialSolution.{PartialSolution}
use Rattle.learning_search.specs.Tied.Demands.{row_at}
use Rattle.search.specs.declared.conflict.NodeChoice.{NodeChoice}
use Rattle.learning_search.specs.declared.demands.Demand.{Demand}
use Rattle.learning_search.specs.declared.assignment.Assignment.{Assignment}
use Rattle.learning_search.specs.Tied.Demanded.{AreKnownDemands, DemandsFit, DemandClashes, WantedFits, WantedClashes, Clashes}
use Rattle.learning_search.specs.Tied.Learned.{FitsBefore, IsPartialSolution, demands_of, first_at}
use Rattle.search.specs.Table.{TableParts, rules_of}
use Rattle.learning_search.proofs.refusal.clash.Goals as goal

pub returns-in-Some : goal.returns-in-Some
returns-in-Some c =
    let t : TableParts = c.args.table.now in let hs : List Assignment = c.args.partial.now.assignments.items in
    let same : AreFirst (rules_of t) hs (first_at c.as_slice-taken.result.now) = λ n. ap (λ xs. first_at xs n) c.as_slice-taken.ensures.value ∙ c.requires.partial.taken n in
    clash-version (rules_of t) hs (first_at c.as_slice-taken.result.now) same c.args.candidate c.in-Some.other c.in-Some.ensures.0 c.in-Some.ensures.1

-- what is required on a name, of all that is required
abbrev Row : TableParts → PartialSolution → NodeChoice ℕ ℕ → List Demand → Type 0
Row t p c row = row ≡ row_at p.demands.rows.items ((rules_of t).on c.node)

known-row : (t : TableParts) (p : PartialSolution) (c : NodeChoice ℕ ℕ) (row : List Demand) → IsPartialSolution t p → Row t p c row → AreKnownDemands (length t.requirements) row
known-row t p c row s e a i = s.rowed.known a (row-from t p.demands ((rules_of t).on c.node) a s.rowed (subst (λ xs. Contains xs a) e i)).0

fit-row : (t : TableParts) (p : PartialSolution) (c : NodeChoice ℕ ℕ) (row : List Demand) → IsPartialSolution t p → Row t p c row → DemandsFit (rules_of t) row c → DemandsFit (rules_of t) (demands_of (rules_of t) p.assignments.items) c
fit-row t p c row s e h a i named = h a (subst (λ xs. Contains xs a) (ap (row_at p.demands.rows.items) named ∙ sym e) (row-to t p.demands a s.rowed (subst (λ xs. Contains xs a) (sym s.listed) i))) named

clash-row : (t : TableParts) (p : PartialSolution) (c other : NodeChoice ℕ ℕ) (row : List Demand) → IsPartialSolution t p → Row t p c row → DemandClashes (rules_of t) row c other → DemandClashes (rules_of t) (demands_of (rules_of t) p.assignments.items) c other
clash-row t p c other row s e h = record {
  demand = h.demand;
  there = subst (λ xs. Contains xs h.demand) s.listed (row-from t p.demands ((rules_of t).on c.node) h.demand s.rowed (subst (λ xs. Contains xs h.demand) e h.there)).0;
  named = h.named;
  refused = h.refused;
  is = h.is;
}

pub demand_clash-requires-clause-known : goal.demand_clash-requires-clause-known
demand_clash-requires-clause-known c = known-row c.args.table.now c.args.partial.now c.args.candidate c.row_of-row.result.now c.requires.partial (c.row_of-row.ensures ∙ ap (λ rs. row_at rs c.name_of.result) c.as_slice.ensures.value ∙ ap (row_at c.args.partial.now.demands.rows.items) c.name_of.ensures.name)

pub returns-in-Some-demand_clash : goal.returns-in-Some-demand_clash
returns-in-Some-demand_clash c =
    let t : TableParts = c.args.table.now in
    clash-demands (rules_of t) c.args.partial.now.assignments.items c.args.candidate c.in-Some-demand_clash.other (clash-row t c.args.partial.now c.args.candidate c.in-Some-demand_clash.other c.row_of-row.result.now c.requires.partial (c.row_of-row.ensures ∙ ap (λ rs. row_at rs c.name_of.result) c.as_slice.ensures.value ∙ ap (row_at c.args.partial.now.demands.rows.items) c.name_of.ensures.name) c.in-Some-demand_clash.ensures)

-- the last of the tests decides
decided : (t : TableParts) (hs : List Assignment) (first : ℕ → Option (NodeChoice ℕ ℕ)) (c : NodeChoice ℕ ℕ) (wants : List ℕ) → AreFirst (rules_of t) hs first → wants ≡ (rules_of t).wants c.node c.version → (((r : ℕ) → Contains ((rules_of t).wants c.node c.version) r → WantedFits (rules_of t) first c r) → FitsBefore (rules_of t) hs c) → (o : Option (NodeChoice ℕ ℕ)) → MatchOption o ((r : ℕ) → Contains wants r → WantedFits (rules_of t) first c r) (λ other. (r : ℕ) × Contains wants r × WantedClashes (rules_of t) first c r other) → MatchOption o (FitsBefore (rules_of t) hs c) (λ other. Clashes (rules_of t) hs c other)
decided t hs first c wants same is fits None h = fits (λ r i. h r (subst (λ rs. Contains rs r) (sym is) i))
decided t hs first c wants same is fits (Some other) h = clash-wanted (rules_of t) hs first same c other h.0 (subst (λ rs. Contains rs h.0) is h.1) h.2

pub returns : goal.returns
returns c =
    let t : TableParts = c.args.table.now in let hs : List Assignment = c.args.partial.now.assignments.items in
    let same : AreFirst (rules_of t) hs (first_at c.as_slice-taken.result.now) = λ n. ap (λ xs. first_at xs n) c.as_slice-taken.ensures.value ∙ c.requires.partial.taken n in
    let listed : DemandsFit (rules_of t) (demands_of (rules_of t) hs) c.args.candidate = fit-row t c.args.partial.now c.args.candidate c.row_of-row.result.now c.requires.partial (c.row_of-row.ensures ∙ ap (λ rs. row_at rs c.name_of.result) c.as_slice.ensures.value ∙ ap (row_at c.args.partial.now.demands.rows.items) c.name_of.ensures.name) c.in_default-demand_clash.ensures in
    decided t hs (first_at c.as_slice-taken.result.now) c.args.candidate c.wants-wants.result.now same c.wants-wants.ensures.wants
    (λ wants. none-clashes t (table-lawful t c.requires.table) c.requires.learning.0 hs (first_at c.as_slice-taken.result.now) same c.requires.learning.1 c.args.candidate c.in_default.ensures listed wants)
    c.wanted_clash.result c.wanted_clash.ensures
