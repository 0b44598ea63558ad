use Rattle.search.specs.Table.{places_eq, rules_of}
use Rattle.search.proofs.PlacesEquality.{places-equality}
use Rattle.set_conflicts.proofs.laws.a_set_refutation_leaves_no_solution.Goals as goal

pub returns : goal.returns
returns c = λ t known conflicts refutation. c.what_follows_from_sets_lies_in_no_solution.ensures.none (rules_of t) places_eq (c.the_rules_of_a_table_are_lawful.ensures t known) (places-equality (rules_of t)) conflicts refutation
