use Rattle.std.proofs.Common.{Some, subst}
use Rattle.std.specs.BTreeMap.{Updates}
use Rattle.std.specs.Cmp.Lexicographic.{slice_cmp}
use Rattle.std.specs.Ordering.{nat_cmp}
use Rattle.problems.proofs.NumbersFound.{listed-extra, listed-extra_others}
use Rattle.problems.proofs.nodes.Numbers.list.Goals as goal

pub returns-in_ok-insert-in-Some-clause-listed : goal.returns-in_ok-insert-in-Some-clause-listed
returns-in_ok-insert-in-Some-clause-listed c =
    let updates = subst (λ extra. Updates (slice_cmp nat_cmp) c.args.self.now.by_extra c.insert.new.self extra (Some c.args.number)) c.in_ok-clone-in-Some.ensures.cases c.in_ok-insert-in-Some.ensures.updates in
    rw c.in-Some.is (listed-extra c.args.self.now c.insert.new.self c.in-Some.extra.now c.args.number updates)

pub returns-in_ok-insert-in-Some-clause-others : goal.returns-in_ok-insert-in-Some-clause-others
returns-in_ok-insert-in-Some-clause-others c =
    let updates = subst (λ extra. Updates (slice_cmp nat_cmp) c.args.self.now.by_extra c.insert.new.self extra (Some c.args.number)) c.in_ok-clone-in-Some.ensures.cases c.in_ok-insert-in-Some.ensures.updates in
    rw c.in-Some.is (listed-extra_others c.args.self.now c.insert.new.self c.in-Some.extra.now c.args.number updates)
