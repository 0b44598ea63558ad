use Rattle.std.proofs.Common.{◌∙◌, [], get_or, sym}
use Rattle.set_refutations.proofs.Lent.{few-read}
use Rattle.set_refutations.proofs.earlier_sets.EarlierSets.at.Goals as goal

pub returns-in-Some : goal.returns-in-Some
returns-in-Some c =
    let all = c.self.inside.conflicts.now in
    rw (sym c.self.view_is, c.in-Some.is) (c.few_at.ensures ∙ few-read (λ place. get_or all place []) c.in-Some.places.now c.args.place [])

pub returns-in-None : goal.returns-in-None
returns-in-None c = rw (sym c.self.view_is, c.in-None.is) c.listed.ensures
