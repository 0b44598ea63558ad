use Rattle.std.proofs.Common.{◌∙◌, ◌≡◌, ◌≢◌, ◌++◌, ◌∷◌, [], ℕ, List, Contains, ap, arith, sym, subst}
use Rattle.std.proofs.lemmas.Grind.{common_steps}
use Rattle.std.specs.List.{AllPairs}
use Rattle.states.proofs.ReachFacts.{once-pushed}
use Rattle.states.proofs.state.reach.Names.push.Goals as goal

pub invariant_of-self-then-is_err : goal.invariant_of-self-then-is_err
invariant_of-self-then-is_err c =
    let back : c.self.inside.listed.items ≡ c.pop.new.self.items = grind (arith, common_steps) in
    (grind (arith, common_steps), subst (AllPairs (λ (x y : List ℕ). x ≢ y)) back c.self.invariant.1)

pub invariant_of-self-else-is_err : goal.invariant_of-self-else-is_err
invariant_of-self-else-is_err c =
    let pushed : c.push.new.self.items ≡ c.self.inside.listed.items ++ c.args.name.now ∷ [] = c.in_ok-push.ensures.items ∙ ap (λ (name : List ℕ). c.self.inside.listed.items ++ name ∷ []) c.in_ok-clone.ensures.cases in (
      grind (arith, common_steps),
      subst (AllPairs (λ (x y : List ℕ). x ≢ y)) (sym pushed)
          (once-pushed c.self.inside.listed.items c.args.name.now c.self.invariant.1 (λ there. c.requires (subst (λ (names : List (List ℕ)). Contains names c.args.name.now) c.self.view_is there))),
    )
