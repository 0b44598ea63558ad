use Rattle.files.proofs.saved_history.session_over.Goals as goal

pub returns-clause-history : goal.returns-clause-history
returns-clause-history g c = record { files = c.in_ok-session.field-0.files; opens = c.in_ok-session.ensures.stand; places = c.in_ok-session.ensures.places }
