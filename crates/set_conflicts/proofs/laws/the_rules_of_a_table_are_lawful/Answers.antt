use Rattle.search.proofs.WhatIsLeft.{table-lawful}
use Rattle.set_conflicts.proofs.laws.the_rules_of_a_table_are_lawful.Goals as goal

pub returns : goal.returns
returns c = λ t known. table-lawful t known
