use Rattle.journal.proofs.PlacesFacts.{stepped-on}
use Rattle.journal.proofs.places.step_on.Goals as goal

pub returns : goal.returns
returns g c = record {
  at = stepped-on (g.H.History.past c.args.history.now) c.args.place c.change.result.now c.args.state.now c.carry.new.state c.change.ensures.step c.steps-steps.ensures.lawful c.requires.at
      c.in_ok-carry.ensures.led;
}
