use Rattle.std.proofs.Common.{◌∙◌, ℕ, List, None, Some, option_copied, rules, sym, subst}
use Rattle.std.specs.BTreeMap.{BTreeMap, UpdatesBy}
use Rattle.std.specs.Cmp.Lexicographic.{slice_cmp}
use Rattle.std.specs.Ordering.{nat_cmp}
use Rattle.problems.specs.declared.nodes.Numbers.{Numbers}
use Rattle.problems.proofs.NumbersFound.{listed-name_others, nothing-listed}
use Rattle.problems.proofs.nodes.list.Goals as goal

pub returns-in_err-list-in-Some-clause-others : goal.returns-in_err-list-in-Some-clause-others
returns-in_err-list-in-Some-clause-others c =
    let there = rw c.in-Some.is at c.get_mut.ensures.value in
    listed-name_others c.args.by_name.now (c.get_mut.follows.lender c.list.new.self) c.args.name.now (option_copied c.args.extra) (Some c.in-Some.numbers.now) c.list.new.self (sym there)
    ((c.get_mut.follows.holds c.list.new.self).3 (search rules)) c.list.ensures.others

pub returns-in_ok-list-in-Some-clause-others : goal.returns-in_ok-list-in-Some-clause-others
returns-in_ok-list-in-Some-clause-others c =
    let there = rw c.in-Some.is at c.get_mut.ensures.value in
    listed-name_others c.args.by_name.now (c.get_mut.follows.lender c.list.new.self) c.args.name.now (option_copied c.args.extra) (Some c.in-Some.numbers.now) c.list.new.self (sym there)
    ((c.get_mut.follows.holds c.list.new.self).3 (search rules)) c.list.ensures.others

pub returns-in_ok-insert-in-None-clause-others : goal.returns-in_ok-insert-in-None-clause-others
returns-in_ok-insert-in-None-clause-others c =
    let none = rw c.in-None.is at c.get_mut.ensures.value in
    let named = subst (λ name. UpdatesBy (slice_cmp nat_cmp) (slice_cmp nat_cmp name) c.get_mut.follows.lender-at-none c.insert.new.self (Some c.list-in-None.new.self)) c.in_ok-clone-in-None.ensures.cases c.in_ok-insert-in-None.ensures.updates in
    let updates = subst (λ (old : BTreeMap (List ℕ) Numbers). UpdatesBy (slice_cmp nat_cmp) (slice_cmp nat_cmp c.args.name.now) old c.insert.new.self (Some c.list-in-None.new.self)) c.get_mut.follows.holds-at-none named in
    listed-name_others c.args.by_name.now c.insert.new.self c.args.name.now (option_copied c.args.extra) None c.list-in-None.new.self (sym none) updates
    (λ other apart. c.list-in-None.ensures.others other apart ∙ nothing-listed c.new.result c.new.ensures.empty other)
