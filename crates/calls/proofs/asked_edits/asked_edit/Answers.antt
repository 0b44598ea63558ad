use Rattle.calls.proofs.asked_edits.asked_edit.Goals as goal

pub returns-clause-edit : goal.returns-clause-edit
returns-clause-edit g c = rw (c.unsaved.ensures.session, c.unsaved.ensures.edit) (record {
  files = c.in_ok-read.read.history.files;
  places = c.in_ok-read.ensures.places;
  stand = c.in_ok-read.ensures.history;
  made = c.in_ok-read.ensures.edit;
})

pub returns-clause-index : goal.returns-clause-index
returns-clause-index g c = rw c.unsaved.ensures.index c.in_ok-read.ensures.index
