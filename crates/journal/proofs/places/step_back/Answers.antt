use Rattle.journal.proofs.PlacesFacts.{step-back, stepped-back}
use Rattle.journal.proofs.places.step_back.Goals as goal

pub carry-requires : goal.carry-requires
carry-requires g c =
    step-back (g.H.History.past c.args.history.now) c.args.place c.change.result.now c.args.state.now c.in_ok-back.back c.change.ensures.step c.steps-steps.ensures.lawful c.requires.at
    c.in_ok-back.ensures

pub returns : goal.returns
returns g c = record {
  at = stepped-back (g.H.History.past c.args.history.now) c.args.place c.change.result.now c.args.state.now c.in_ok-back.back c.carry.new.state c.change.ensures.step c.steps-steps.ensures.lawful
      c.requires.at c.in_ok-back.ensures c.in_ok-carry.ensures.led;
}
