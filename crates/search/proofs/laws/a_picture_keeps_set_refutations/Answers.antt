use Rattle.std.proofs.Common.{[]}
use Rattle.search.proofs.PicturedSets.{EachSetFollows-pictured, set-refutation-pictured}
use Rattle.search.proofs.laws.a_picture_keeps_set_refutations.Goals as goal

pub returns-clause-each : goal.returns-clause-each
returns-clause-each g c = λ t picture rules same known h a conflicts. EachSetFollows-pictured t picture rules same known h a [] conflicts

pub returns-clause-refutation : goal.returns-clause-refutation
returns-clause-refutation g c = λ t picture rules same known h a conflicts. set-refutation-pictured t picture rules same known h a conflicts
