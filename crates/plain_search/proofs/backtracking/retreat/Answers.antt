use Rattle.std.proofs.Common.{◌++◌, ◌∷◌, ◌+◌, [], sym, ◌∙◌, ap, subst, false, append_assoc, arith}
use Rattle.std.proofs.lemmas.Grind.{common_steps}
use Rattle.plain_search.proofs.Steps.{retreat-found, retreat-none}
use Rattle.search.specs.Table.{rules_of}
use Rattle.search.specs.Tied.Search.{pins_of, IsSearch, IsRefuted}
use Rattle.plain_search.specs.Tied.Steps.{IsTried}
use Rattle.plain_search.proofs.backtracking.retreat.Goals as goal

pub returns-then-branch-clause-search : goal.returns-then-branch-clause-search
returns-then-branch-clause-search c = λ _.
    let t = c.args.table.now in let fs = c.pop.new.self.items in let last = c.in-Some.last in
    retreat-found t c.requires.known fs c.try_next.new.frames.items last
    (subst (λ xs. IsSearch (rules_of t) [] xs) c.in-Some.ensures.items c.loop-last.invariant.search)
    (subst (λ xs. IsRefuted (rules_of t) (pins_of xs)) c.in-Some.ensures.items c.loop-last.invariant.refuted)
    (subst (λ b. IsTried t last.name (last.turn + 1) fs c.try_next.new.frames.items b) c.if-branch.true c.in_ok-try_next.ensures)

pub loop-last-preserved : goal.loop-last-preserved
loop-last-preserved c =
    let t = c.args.table.now in let fs = c.pop.new.self.items in let last = c.in-Some.last in let new = c.try_next.new.frames.items in
    let tried : IsTried t last.name (last.turn + 1) fs new false = subst (λ b. IsTried t last.name (last.turn + 1) fs new b) c.if-branch.false c.in_ok-try_next.ensures in
    let k : IsSearch (rules_of t) [] new × IsRefuted (rules_of t) (pins_of new) = retreat-none t c.requires.known fs new last
    (subst (λ xs. IsSearch (rules_of t) [] xs) c.in-Some.ensures.items c.loop-last.invariant.search)
    (subst (λ xs. IsRefuted (rules_of t) (pins_of xs)) c.in-Some.ensures.items c.loop-last.invariant.refuted)
    tried in
    record {
      rest = last ∷ c.loop-last.invariant.rest;
      split = c.loop-last.invariant.split ∙ ap (λ xs. xs ++ c.loop-last.invariant.rest) c.in-Some.ensures.items ∙ append_assoc fs (last ∷ []) c.loop-last.invariant.rest ∙ ap (λ xs. xs ++ last ∷ c.loop-last.invariant.rest) (sym tried.0);
      search = k.0;
      refuted = k.1;
    }

pub returns-then-branch-clause-forward : goal.returns-then-branch-clause-forward
returns-then-branch-clause-forward c = grind (arith, common_steps)
