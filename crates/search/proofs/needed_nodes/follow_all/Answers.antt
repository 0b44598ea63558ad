use Rattle.std.proofs.Common.{[], ◌<◌, length, arith, sym, ◌∙◌, append-nil}
use Rattle.search.proofs.Walks.{extends-then, followed-needed, followed-required}
use Rattle.search.specs.Tied.Search.{taken_at}
use Rattle.search.specs.Table.{rules_of}
use Rattle.search.proofs.needed_nodes.follow_all.Goals as goal

pub loop-at-init : goal.loop-at-init
loop-at-init c = record {
  followed = c.requires.followed;
  within = omega arith;
  room = c.requires.room;
  kept = ([], sym (append-nil c.args.required.now.members));
  required_room = c.requires.required_room;
}

pub loop-at-preserved : goal.loop-at-preserved
loop-at-preserved c =
    let h : c.loop-at.at < length c.loop-at.nodes.members = let e = c.len.ensures.len in let t = c.loop-at-test.true in omega arith in
    let g = c.in_ok-follow_at.ensures.grown in
    record {
      followed = c.in_ok-follow_at.ensures.followed;
      within = omega arith;
      kept = extends-then c.args.required.now.members c.loop-at.required.members c.follow_at.new.required.members c.loop-at.invariant.kept c.in_ok-follow_at.ensures.kept;
      room = c.in_ok-follow_at.ensures.room ∙ c.loop-at.invariant.room;
      required_room = c.in_ok-follow_at.ensures.required_room ∙ c.loop-at.invariant.required_room;
    }

pub returns-clause-needed : goal.returns-clause-needed
returns-clause-needed c = followed-needed (rules_of c.args.table.now) (taken_at c.args.taken.now) c.loop-at.nodes.members c.loop-at.required.members c.args.known_before c.loop-at.at c.loop-at.invariant.followed
    (let e = c.len.ensures.len in let t = c.loop-at-test.false in omega arith)

pub returns-clause-required : goal.returns-clause-required
returns-clause-required c = followed-required (rules_of c.args.table.now) (taken_at c.args.taken.now) c.loop-at.nodes.members c.loop-at.required.members c.args.known_before c.loop-at.at c.loop-at.invariant.followed
    (let e = c.len.ensures.len in let t = c.loop-at-test.false in omega arith)
