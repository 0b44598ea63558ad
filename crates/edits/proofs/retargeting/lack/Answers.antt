use Rattle.std.proofs.Common.{◌≡◌, ◌∙◌, Some, None, refl, sym, ap}
use Rattle.std.specs.Option.{option_copied}
use Rattle.problems.specs.Solutions.{version_for}
use Rattle.states.proofs.GatheredNames.{lookup-get}
use Rattle.edits.proofs.retargeting.lack.Goals as goal

pub returns-in-Some : goal.returns-in-Some
returns-in-Some c =
    let found : version_for c.args.versions.now.entries c.args.name.now ≡ Some c.in-Some.field-0.now =
    lookup-get c.args.name.now c.args.versions.now.entries ∙ sym c.get.ensures.value ∙ ap option_copied c.in-Some.is in
    rw found refl

pub returns-in-None : goal.returns-in-None
returns-in-None c =
    let none : version_for c.args.versions.now.entries c.args.name.now ≡ None =
    lookup-get c.args.name.now c.args.versions.now.entries ∙ sym c.get.ensures.value ∙ ap option_copied c.in-None.is in
    rw none refl
