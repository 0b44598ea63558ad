use Rattle.edits.proofs.KeepLaws.{kept-found}
use Rattle.edits.proofs.laws.an_edit_without_others_finds_what_keeps_all.Goals as goal

pub returns : goal.returns
returns c = kept-found c.solutions_without_others_keep_all.ensures
