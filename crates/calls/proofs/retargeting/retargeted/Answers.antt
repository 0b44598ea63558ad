use Rattle.calls.proofs.retargeting.retargeted.Goals as goal

pub returns-clause-history : goal.returns-clause-history
returns-clause-history g c = rw (c.in_ok-made_of.ensures.files, c.in_ok-made_of.ensures.session) c.in_ok-session.ensures

pub returns-clause-edit : goal.returns-clause-edit
returns-clause-edit g c = record {
  read = c.in_ok-read.read.environments.items;
  pinned = c.in_ok-read.read.pins.items;
  read_at = c.in_ok-read.ensures.environments;
  pinned_at = c.in_ok-read.ensures.pins;
  retarget = c.in_ok-made_of.ensures.edit;
}

pub returns-clause-index : goal.returns-clause-index
returns-clause-index g c = (c.in_ok-read.read.index.items, c.in_ok-read.ensures.index, c.in_ok-made_of.ensures.index)

pub returns-clause-places : goal.returns-clause-places
returns-clause-places g c = rw c.in_ok-made_of.ensures.files c.in_ok-files.ensures
