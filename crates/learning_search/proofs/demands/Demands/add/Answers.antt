use Rattle.std.proofs.Common.{ℕ, List, Option, Some, None, MatchOption, Contains, Bool, true, false, not, is_some, map, ◌≡◌, ◌∷◌, [], ◌∙◌, inl, inr, sym, ap, subst, arith}
use Rattle.std.proofs.lemmas.Grind.{common_steps}
use Rattle.std.proofs.lemmas.List.Elements.{Contains-append_left, Contains-push}
use Rattle.std.specs.BTreeSet.{keys, insert_key}
use Rattle.std.specs.Ordering.{nat_cmp}
use Rattle.learning_search.proofs.Rows.{inserted, is-none, is-some, none-of}
use Rattle.learning_search.proofs.Watching.{watched-push}
use Rattle.search.specs.declared.conflict.NodeChoice.{NodeChoice}
use Rattle.learning_search.specs.Tied.Demands.{IsChosen}
use Rattle.learning_search.specs.Tied.Gathering.{choice_at}
use Rattle.learning_search.specs.Tied.Learned.{IsFree, first_at}
use Rattle.search.specs.Table.{TableParts, rules_of, required_nodes, requirement_at}
use Rattle.learning_search.proofs.demands.Demands.add.Goals as goal

not-true : (a b : Bool) → a ≡ not b → b ≡ true → a ≡ false
not-true a b e h = e ∙ ap not h

not-off : (a b : Bool) → a ≡ not b → b ≡ false → a ≡ true
not-off a b e h = e ∙ ap not h

some-none : (o : Option (NodeChoice ℕ ℕ)) (d : NodeChoice ℕ ℕ) → o ≡ Some d → o ≡ None → ⊥
some-none None d e f = cc
some-none (Some c) d e f = cc

pub returns-then-is_none-clause-watched : goal.returns-then-is_none-clause-watched
returns-then-is_none-clause-watched c =
    let t : TableParts = c.args.table.now in
    let name : ℕ = (rules_of t).name c.args.demand.requirement in
    let free : first_at c.args.taken.now name ≡ None = ap (first_at c.args.taken.now) (sym c.name_required-name.ensures) ∙ sym c.first_on.ensures ∙ is-none c.first_on.result (not-true (is_some c.first_on.result) c.is_none.result c.is_none.ensures c.if-is_none.true) in
    let ks : keys c.insert.new.self ≡ insert_key nat_cmp (keys c.list.new.self.free) c.name_required-name.result = c.in_ok-insert.ensures.keys in
    watched-push t c.args.self.now (record { listed = c.list.new.self.listed; rows = c.list.new.self.rows; free = c.insert.new.self; names_to_check = c.list.new.self.names_to_check }) c.args.demand c.args.taken.now (map choice_at c.args.choices.now.entries) c.requires.watched c.in_ok-list.ensures.listed
    (λ m i. subst (λ xs. Contains xs m) (sym ks) ((inserted (keys c.list.new.self.free) c.name_required-name.result).1 m (subst (λ f. Contains (keys f) m) (sym c.in_ok-list.ensures.free) i)))
    (λ m i. subst (λ v. Contains v.items m) (sym c.in_ok-list.ensures.names_to_check) i)
    (λ _. subst (λ m. Contains (keys c.insert.new.self) m) c.name_required-name.ensures (subst (λ xs. Contains xs c.name_required-name.result) (sym ks) (inserted (keys c.list.new.self.free) c.name_required-name.result).0))
    (λ d node some k. absurd (some-none (first_at c.args.taken.now name) d some free))

pub returns-in_ok-push-clause-watched : goal.returns-in_ok-push-clause-watched
returns-in_ok-push-clause-watched c =
    let t : TableParts = c.args.table.now in
    let name : ℕ = (rules_of t).name c.args.demand.requirement in
    watched-push t c.args.self.now (record { listed = c.list.new.self.listed; rows = c.list.new.self.rows; free = c.list.new.self.free; names_to_check = c.push.new.self }) c.args.demand c.args.taken.now (map choice_at c.args.choices.now.entries) c.requires.watched c.in_ok-list.ensures.listed
    (λ m i. subst (λ f. Contains (keys f) m) (sym c.in_ok-list.ensures.free) i)
    (λ m i. subst (λ xs. Contains xs m) (sym c.in_ok-push.ensures.items) (Contains-append_left c.list.new.self.names_to_check.items (c.name_required-name.result ∷ []) m (subst (λ v. Contains v.items m) (sym c.in_ok-list.ensures.names_to_check) i)))
    (λ none. absurd (is-some c.first_on.result (not-off (is_some c.first_on.result) c.is_none.result c.is_none.ensures c.if-is_none.false) (c.first_on.ensures ∙ ap (first_at c.args.taken.now) c.name_required-name.ensures ∙ none)))
    (λ d node some k. inr (subst (λ m. Contains c.push.new.self.items m) c.name_required-name.ensures (subst (λ xs. Contains xs c.name_required-name.result) (sym c.in_ok-push.ensures.items) (Contains-push c.list.new.self.names_to_check.items c.name_required-name.result))))

pub returns-else-is_some-clause-watched : goal.returns-else-is_some-clause-watched
returns-else-is_some-clause-watched c =
    let t : TableParts = c.args.table.now in
    let chosen : List (NodeChoice ℕ ℕ) = map choice_at c.args.choices.now.entries in
    let none_free : c.first_free_of.result ≡ None = none-of c.first_free_of.result (sym c.is_some.ensures ∙ c.if-is_some.false) in
    let all : (node : ℕ) → Contains (required_nodes (requirement_at t c.args.demand.requirement)) node → IsChosen chosen node = subst (λ (o : Option ℕ). MatchOption o ((node : ℕ) → Contains (required_nodes (requirement_at t c.args.demand.requirement)) node → IsChosen chosen node) (λ node. Contains (required_nodes (requirement_at t c.args.demand.requirement)) node × IsFree chosen node)) none_free c.first_free_of.ensures in
    watched-push t c.args.self.now c.list.new.self c.args.demand c.args.taken.now chosen c.requires.watched c.in_ok-list.ensures.listed
    (λ m i. subst (λ f. Contains (keys f) m) (sym c.in_ok-list.ensures.free) i)
    (λ m i. subst (λ v. Contains v.items m) (sym c.in_ok-list.ensures.names_to_check) i)
    (λ none. absurd (is-some c.first_on.result (not-off (is_some c.first_on.result) c.is_none.result c.is_none.ensures c.if-is_none.false) (c.first_on.ensures ∙ ap (first_at c.args.taken.now) c.name_required-name.ensures ∙ none)))
    (λ d node some k. inl (all node k))

pub list-requires-clause-room : goal.list-requires-clause-room
list-requires-clause-room c = grind (arith, common_steps)
