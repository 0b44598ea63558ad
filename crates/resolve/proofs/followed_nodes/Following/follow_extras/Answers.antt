use Rattle.std.proofs.Common.{◌∙◌, ◌∷◌, [], refl, subst}
use Rattle.problems.specs.Problem.{ProblemParts}
use Rattle.problems.specs.Rules.{with_extra}
use Rattle.resolve.specs.Tied.Walking.{Follow}
use Rattle.resolve.proofs.OnWay.{follow-more, follow-none}
use Rattle.resolve.proofs.followed_nodes.Following.follow_extras.Goals as goal

pub loop-extra-init : goal.loop-extra-init
loop-extra-init c = record { same = refl; followed = follow-none c.args.self.now.wants c.args.version.now c.args.self.now.nodes c.args.asks.now }

pub loop-extra-preserved : goal.loop-extra-preserved
loop-extra-preserved c =
    let before = c.loop-extra.invariant in
    let next = subst (λ (given : ProblemParts). Follow given c.args.version.now (with_extra c.args.name.now c.extra-item.result ∷ []) c.loop-extra.self.nodes c.follow.new.self.nodes c.loop-extra.asks c.follow.new.asks) before.same c.in_ok-follow.ensures.followed in
    record {
      same = c.follow.ensures.same ∙ before.same;
      followed = follow-more c.args.self.now.wants c.args.version.now (with_extra c.args.name.now) c.args.self.now.nodes c.loop-extra.self.nodes c.follow.new.self.nodes c.args.asks.now c.loop-extra.asks c.follow.new.asks c.args.extras.now c.loop-extra.extra-index c.extra-item.result
          c.loop-extra-test.true c.extra-item.is before.followed next;
    }
