use Rattle.std.proofs.Common.{[], get_or, sym}
use Rattle.std.proofs.lemmas.List.{length-map}
use Rattle.set_refutations.proofs.earlier_sets.EarlierSets.len.Goals as goal

pub returns-in-Some : goal.returns-in-Some
returns-in-Some c =
    let all = c.self.inside.conflicts.now in
    rw (sym c.self.view_is, c.in-Some.is) (sym (length-map c.in-Some.places.now (λ place. get_or all place [])))
