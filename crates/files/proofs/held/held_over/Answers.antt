use Rattle.files.proofs.held.held_over.Goals as goal

pub returns-clause-history : goal.returns-clause-history
returns-clause-history g c = record { files = c.in_ok-files.files; tells = c.in_ok-held.ensures; places = c.in_ok-files.ensures }
