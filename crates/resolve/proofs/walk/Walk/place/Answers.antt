use Rattle.std.proofs.Common.{◌∙◌, sym, rules}
use Rattle.resolve.proofs.OnWay.{placed-followed, placed-waiting}
use Rattle.resolve.proofs.walk.Walk.place.Goals as goal

pub returns-in_ok-wait-in-None-clause-placed : goal.returns-in_ok-wait-in-None-clause-placed
returns-in_ok-wait-in-None-clause-placed c =
    let none = rw (c.in-None.is, c.name.ensures) at c.get.ensures.value in
    let given = c.args.self.now.following.wants in
    λ _. placed-waiting given (c.own_needs_are_enough.ensures.lawful given) c.args.self.now.taken.entries c.args.self.now.waiting.entries c.wait.new.waiting.entries c.args.self.now.following.nodes c.args.wanted.now c.args.asks.now (sym none) c.in_ok-wait-in-None.ensures

pub returns-in_ok-follow_all-in-Some-clause-placed : goal.returns-in_ok-follow_all-in-Some-clause-placed
returns-in_ok-follow_all-in-Some-clause-placed c =
    let some = rw (c.in-Some.is, c.name.ensures) at c.get.ensures.value in
    let given = c.args.self.now.following.wants in
    λ _. placed-followed given (c.own_needs_are_enough.ensures.lawful given) (c.own_needs_are_enough.ensures.few given) c.args.self.now.taken.entries c.args.self.now.waiting.entries c.args.self.now.following.nodes c.follow_all.new.self.nodes c.args.wanted.now c.in-Some.version.now c.args.asks.now c.follow_all.new.asks (sym some)
    (sym (rw c.problem.ensures at c.admits.ensures) ∙ c.if-not-admits.false) c.in_ok-follow_all-in-Some.ensures.followed

pub returns-then-not-admits-clause-placed : goal.returns-then-not-admits-clause-placed
returns-then-not-admits-clause-placed c = search rules
