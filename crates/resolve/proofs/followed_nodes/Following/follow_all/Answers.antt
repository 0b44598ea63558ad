use Rattle.std.proofs.Common.{◌∷◌, [], map, subst}
use Rattle.problems.specs.Problem.{ProblemParts}
use Rattle.problems.specs.Rules.{bare, with_extra}
use Rattle.resolve.specs.Tied.Walking.{Follow}
use Rattle.resolve.proofs.OnWay.{follow-then}
use Rattle.resolve.proofs.followed_nodes.Following.follow_all.Goals as goal

pub returns-clause-followed : goal.returns-clause-followed
returns-clause-followed c =
    let first = rw c.name-name.ensures at c.in_ok-follow.ensures.followed in
    let extras = rw (c.name-name.ensures, c.extras.ensures) at c.in_ok-follow_extras.ensures.followed in
    let second = subst (λ (given : ProblemParts). Follow given c.args.version.now (map (with_extra c.args.wanted.now.name) c.args.wanted.now.extras) c.follow.new.self.nodes c.follow_extras.new.self.nodes c.follow.new.asks c.follow_extras.new.asks) c.follow.ensures.same extras in
    follow-then c.args.self.now.wants c.args.version.now (bare c.args.wanted.now.name ∷ []) (map (with_extra c.args.wanted.now.name) c.args.wanted.now.extras) c.args.self.now.nodes c.follow.new.self.nodes c.follow_extras.new.self.nodes
    c.args.asks.now c.follow.new.asks c.follow_extras.new.asks first second
