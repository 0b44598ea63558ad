use Rattle.files.proofs.first_inputs.first_inputs.Goals as goal

pub returns-clause-first : goal.returns-clause-first
returns-clause-first g c = record {
  read = c.in_ok-environments.environments.items;
  at = c.in_ok-environments.ensures;
  made = c.in_ok-first.ensures.targets;
  pins = (c.in_ok-pins.pins.items, c.in_ok-pins.ensures, c.in_ok-first.ensures.pins);
}
