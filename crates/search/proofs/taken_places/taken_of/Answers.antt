use Rattle.std.proofs.Common.{◌<◌, ◌∙◌, sym, subst, get_or, arith}
use Rattle.std.proofs.lemmas.Grind.{common_steps}
use Rattle.lists.proofs.Members.{get_or-any}
use Rattle.search.proofs.Ranges.{at-member}
use Rattle.search.proofs.TakenFacts.{first-more}
use Rattle.search.specs.declared.parts.Frame.{Frame}
use Rattle.search.proofs.taken_places.taken_of.Goals as goal

pub take_frame-requires : goal.take_frame-requires
take_frame-requires c =
    let zero : Frame = record { name = 0; place = 0; turn = 0 } in
    let f : Frame = get_or c.args.frames.now c.loop-frame.frame-index zero in
    subst (λ n. f.name < n) (sym c.loop-frame.invariant.room) (c.requires f (at-member c.args.frames.now c.loop-frame.frame-index zero c.loop-frame-test.true))

pub loop-frame-preserved : goal.loop-frame-preserved
loop-frame-preserved c =
    let zero : Frame = record { name = 0; place = 0; turn = 0 } in
    let f : Frame = get_or c.args.frames.now c.loop-frame.frame-index zero in
    record {
      room = c.take_frame.ensures.room ∙ c.loop-frame.invariant.room;
      same = first-more c.loop-frame.taken.items c.take_frame.new.taken.items c.args.frames.now c.loop-frame.frame-index f c.loop-frame-test.true (get_or-any c.args.frames.now c.loop-frame.frame-index zero f c.loop-frame-test.true) c.take_frame.ensures c.loop-frame.invariant.same;
    }

pub loop-frame-init : goal.loop-frame-init
loop-frame-init c = grind (arith, common_steps)

pub returns-clause-same : goal.returns-clause-same
returns-clause-same c = grind (arith, common_steps)
