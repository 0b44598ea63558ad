use Rattle.states.proofs.Among.{known-from, known-of}
use Rattle.states.proofs.state.reach.Names.has.Goals as goal

pub returns : goal.returns
returns c = rw (← c.self.view_is, c.contains.ensures) (
  (λ h. known-from c.self.inside.listed.items c.self.inside.known c.args.name.now c.self.invariant.0 h),
  (λ there. known-of c.self.inside.listed.items c.self.inside.known c.args.name.now c.self.invariant.0 there),
)
