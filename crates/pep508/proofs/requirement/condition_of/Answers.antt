use Rattle.std.proofs.Common.{◌∙◌, sym, lit<}
use Rattle.pep508.proofs.Places.{begins_with-cut}
use Rattle.pep508.proofs.requirement.condition_of.Goals as goal

pub range_from-requires : goal.range_from-requires
range_from-requires c = λ _.
    begins_with-cut 59 c.args.marker.now (lit< tt) (lit< tt) c.utf8.marker (sym c.begins_with.ensures ∙ c.if-not-begins_with.false)
