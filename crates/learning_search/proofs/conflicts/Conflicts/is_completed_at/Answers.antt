use Rattle.std.proofs.Common.{List, ◌<◌, length, map, subst, arith, ℕ}
use Rattle.search.specs.declared.conflict.NodeChoice.{NodeChoice}
use Rattle.learning_search.specs.Tied.Gathering.{IsWithin, choice_at}
use Rattle.learning_search.proofs.conflicts.Conflicts.is_completed_at.Goals as goal

pub returns-then-place-len : goal.returns-then-place-len
returns-then-place-len c = λ t. (
  let l : c.args.place < length c.args.self.now.list.items = let e = c.len.ensures in let k = c.if-place-len.true in omega arith in l,
  subst (λ (xs : List (NodeChoice ℕ ℕ)). IsWithin xs (map choice_at c.args.choices.now.entries) c.args.candidate) c.at.ensures (c.is_completed.ensures t),
)
