use Rattle.std.proofs.Common.{◌<◌, ◌+◌, ◌∙◌, ℕ, List, drop, length, refl, arith, subst}
use Rattle.std.specs.BTreeMap.{BTreeMap}
use Rattle.pep440.specs.Version.{VersionParts}
use Rattle.problems.specs.Problem.{ProblemParts}
use Rattle.resolve.specs.Tied.Walking.{IsOnWay, IsPlaced}
use Rattle.resolve.proofs.OnWay.{settle-more, settle-smaller}
use Rattle.resolve.proofs.walk.Walk.settle.Goals as goal

pub loop-at-init : goal.loop-at-init
loop-at-init c = record { same = refl; taken = refl; way = c.requires }

pub loop-at-preserved : goal.loop-at-preserved
loop-at-preserved c =
    let given = c.args.self.now.following.wants in
    let taken = c.args.self.now.taken.entries in
    let before = c.loop-at.invariant in
    let walk = c.loop-at.self in
    let next = c.place.new.self in
    let within : c.loop-at.at < length c.loop-at.asks = let e = c.len.ensures in let t = c.loop-at-test.true in omega arith in
    let placed : IsPlaced given taken walk.waiting.entries next.waiting.entries walk.following.nodes next.following.nodes c.at-wanted.result.now c.loop-at.asks c.place.new.asks =
    subst (λ (map : BTreeMap (List ℕ) VersionParts). IsPlaced given map.entries walk.waiting.entries next.waiting.entries walk.following.nodes next.following.nodes c.at-wanted.result.now c.loop-at.asks c.place.new.asks) before.taken
    (subst (λ (problem : ProblemParts). IsPlaced problem walk.taken.entries walk.waiting.entries next.waiting.entries walk.following.nodes next.following.nodes c.at-wanted.result.now c.loop-at.asks c.place.new.asks) before.same
    (c.in_ok-place.ensures.placed c.if-not-branch.false)) in
    record {
      same = c.place.ensures.same.0 ∙ before.same;
      taken = c.place.ensures.same.1 ∙ before.taken;
      way = settle-more given taken walk.waiting.entries next.waiting.entries walk.following.nodes next.following.nodes c.at-wanted.result.now c.loop-at.asks c.place.new.asks c.loop-at.at within c.at-wanted.ensures before.way placed;
    }

pub loop-at-smaller : goal.loop-at-smaller
loop-at-smaller c =
    let given = c.args.self.now.following.wants in
    let taken = c.args.self.now.taken.entries in
    let before = c.loop-at.invariant in
    let walk = c.loop-at.self in
    let next = c.place.new.self in
    let within : c.loop-at.at < length c.loop-at.asks = let e = c.len.ensures in let t = c.loop-at-test.true in omega arith in
    let placed : IsPlaced given taken walk.waiting.entries next.waiting.entries walk.following.nodes next.following.nodes c.at-wanted.result.now c.loop-at.asks c.place.new.asks =
    subst (λ (map : BTreeMap (List ℕ) VersionParts). IsPlaced given map.entries walk.waiting.entries next.waiting.entries walk.following.nodes next.following.nodes c.at-wanted.result.now c.loop-at.asks c.place.new.asks) before.taken
    (subst (λ (problem : ProblemParts). IsPlaced problem walk.taken.entries walk.waiting.entries next.waiting.entries walk.following.nodes next.following.nodes c.at-wanted.result.now c.loop-at.asks c.place.new.asks) before.same
    (c.in_ok-place.ensures.placed c.if-not-branch.false)) in
    let way : IsOnWay given taken next.waiting.entries next.following.nodes (drop (c.loop-at.at + 1) c.place.new.asks) =
    settle-more given taken walk.waiting.entries next.waiting.entries walk.following.nodes next.following.nodes c.at-wanted.result.now c.loop-at.asks c.place.new.asks c.loop-at.at within c.at-wanted.ensures before.way placed in
    settle-smaller given taken walk.waiting.entries next.waiting.entries next.waiting.entries walk.following.nodes next.following.nodes c.at-wanted.result.now c.loop-at.asks c.place.new.asks (drop (c.loop-at.at + 1) c.place.new.asks) c.loop-at.at within
    placed way c.len-count.ensures.once (c.own_needs_are_enough.ensures.needed given)
