use Rattle.std.proofs.Common.{◌≡◌, ◌+◌, [], ◌∷◌, ◌++◌, take, arith, rules, sym}
use Rattle.std.proofs.lemmas.Grind.{common_steps}
use Rattle.states.specs.State.{IsState}
use Rattle.journal.proofs.Histories.{AreSteps-pushed}
use Rattle.journal.proofs.StepsJoined.{all-append, all-take}
use Rattle.journal.proofs.whole.WholeHistoryHistory.push.Goals as goal
use Rattle.journal.proofs.whole.WholeHistoryHistory.push.Goals.{then-next-len+in_ok-reserve+in_ok-reserve-2, else-next-len}

pub invariant_of-self-2 : goal.invariant_of-self-2
invariant_of-self-2 c =
    let states : c.push_reserved.new.self.items ≡ take (c.self.inside.cursor + 1) c.self.inside.states.items ++ c.args.edited.state ∷ [] =
    elim c.if-next-len.branch [ then-next-len+in_ok-reserve+in_ok-reserve-2 w ↦ search rules | else-next-len w ↦ search rules ] in
    let changes : c.push_reserved-2.new.self.items ≡ take c.self.inside.cursor c.self.inside.changes.items ++ c.args.edited.change ∷ [] =
    elim c.if-next-len.branch [ then-next-len+in_ok-reserve+in_ok-reserve-2 w ↦ search rules | else-next-len w ↦ search rules ] in
    record {
      cursor = elim c.if-next-len.branch [ then-next-len+in_ok-reserve+in_ok-reserve-2 w ↦ grind (arith, common_steps) | else-next-len w ↦ grind (arith, common_steps) ];
      count = elim c.if-next-len.branch [ then-next-len+in_ok-reserve+in_ok-reserve-2 w ↦ grind (arith, common_steps) | else-next-len w ↦ grind (arith, common_steps) ];
      steps = rw (states, changes) (AreSteps-pushed c.self.inside.states.items c.self.inside.changes.items c.self.inside.cursor c.args.edited.state c.args.edited.change c.self.invariant.steps (rw (sym c.self.view_is) at c.requires));
      lawful = rw states (all-append IsState (take (c.self.inside.cursor + 1) c.self.inside.states.items) (c.args.edited.state ∷ []) (all-take IsState (c.self.inside.cursor + 1) c.self.inside.states.items c.self.invariant.lawful) (c.recall_invariant.ensures, tt));
    }
