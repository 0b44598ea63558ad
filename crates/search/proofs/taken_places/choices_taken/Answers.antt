use Rattle.std.proofs.Common.{◌≡◌, ◌∙◌, ◌+◌, sym, subst, ap, List, ℕ}
use Rattle.search.proofs.TakenFacts.{IsListed, listed-none, listed-push, listed-end}
use Rattle.search.specs.declared.parts.TableChoice.{TableChoice}
use Rattle.search.specs.Tied.Search.{taken_at}
use Rattle.search.specs.Table.{place_in}
use Rattle.search.proofs.taken_places.choices_taken.Goals as goal
use Rattle.search.proofs.taken_places.choices_taken.Goals.{in-Some+in_ok-push, in_default}

pub loop-name-preserved : goal.loop-name-preserved
loop-name-preserved c = elim c.match-taken-name.branch [
  | in-Some+in_ok-push w ↦ subst (λ (cs : List TableChoice). IsListed (taken_at c.args.taken.now) (c.loop-name.name + 1) cs) (sym (ap (λ v. v.items) w.choices-is ∙ w.in_ok-push.ensures.items))
      (listed-push (taken_at c.args.taken.now) c.loop-name.name w.in-Some.place c.loop-name.choices.items c.loop-name.invariant w.in-Some.is)
  | in_default w ↦ subst (λ (cs : List TableChoice). IsListed (taken_at c.args.taken.now) (c.loop-name.name + 1) cs) (sym (ap (λ v. v.items) w.choices-is))
      (listed-none (taken_at c.args.taken.now) c.loop-name.name c.loop-name.choices.items c.loop-name.invariant w.in_default.is)
]

pub returns-clause-same : goal.returns-clause-same
returns-clause-same c = subst (λ (cs : List TableChoice). (n : ℕ) → place_in cs n ≡ taken_at c.args.taken.now n) (sym c.from_vec.ensures) (listed-end c.args.taken.now c.loop-name.name c.loop-name.choices.items c.loop-name.invariant c.loop-name-test.false)
