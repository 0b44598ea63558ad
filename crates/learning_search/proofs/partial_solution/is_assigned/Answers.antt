use Rattle.std.proofs.Common.{ℕ, ◌≡◌, ◌∙◌, Contains, map, sym, ap, subst}
use Rattle.std.proofs.lemmas.Bool.{eqb-true}
use Rattle.std.specs.Option.{option_copied}
use Rattle.learning_search.proofs.Entries.{lookup-found}
use Rattle.learning_search.specs.Tied.Gathering.{choice_at, decision}
use Rattle.learning_search.proofs.partial_solution.is_assigned.Goals as goal

pub returns-in-Some : goal.returns-in-Some
returns-in-Some c = λ t.
    let same : c.in-Some.place.now ≡ c.args.decision.version = eqb-true c.in-Some.place.now c.args.decision.version t in
    subst (λ v. Contains (map choice_at c.args.choices.now.entries) (decision c.args.decision.node v)) same
    (lookup-found c.args.choices.now.entries c.args.decision.node c.in-Some.place.now (sym c.get.ensures.value ∙ ap (λ o. option_copied {T = ℕ} o) c.in-Some.is))
