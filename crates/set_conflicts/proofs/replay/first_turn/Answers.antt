use Rattle.std.proofs.Common.{ℕ, List, ◌≡◌, ◌<◌, ◌∙◌, Contains, length, take, ap, subst, subst₂}
use Rattle.search.specs.Table.{TableParts, candidates_of, name_of}
use Rattle.set_conflicts.proofs.Listed.{each-more}
use Rattle.set_conflicts.proofs.replay.first_turn.Goals as goal

pub loop-turn-preserved : goal.loop-turn-preserved
loop-turn-preserved c = each-more (λ v. Contains c.in-Some.set.now v → ⊥) c.candidates-candidates.result.now c.loop-turn.turn 0 c.loop-turn-test.true c.loop-turn.invariant (c.has.ensures.absent c.if-has.false)

pub returns-then-has : goal.returns-then-has
returns-then-has c =
    let t : TableParts = c.args.table.now in
    let listed : c.candidates-candidates.result.now ≡ candidates_of t (name_of t c.args.node) = c.candidates-candidates.ensures ∙ ap (λ n. candidates_of t n) c.name_of.ensures.name in
    record {
      marked = c.in-Some.ensures.0.marked;
      below = c.in-Some.ensures.0.below;
      within = subst (λ (xs : List ℕ). c.loop-turn.turn < length xs) listed c.loop-turn-test.true;
      passed = subst₂ (λ (xs set : List ℕ). (v : ℕ) → Contains (take c.loop-turn.turn xs) v → Contains set v → ⊥) listed c.in-Some.ensures.1 c.loop-turn.invariant;
    }
