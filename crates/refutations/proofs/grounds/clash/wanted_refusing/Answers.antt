use Rattle.std.proofs.Common.{◌≡◌, ◌∙◌, Bool, find, subst}
use Rattle.std.specs.List.{list_any}
use Rattle.std.specs.Option.{option_copied}
use Rattle.pep508.specs.Requirement.{RequirementParts}
use Rattle.problems.specs.Tied.ChoiceTests.{refuses}
use Rattle.problems.specs.Choices.{ChoiceParts}
use Rattle.problems.specs.Rules.{wants}
use Rattle.refutations.proofs.Grounded.{find-wanted}
use Rattle.refutations.proofs.grounds.clash.wanted_refusing.Goals as goal

pub returns : goal.returns
returns c =
    let given = c.args.problem.now in
    let inside = c.one.inside in
    let test : RequirementParts → Bool = λ wanted. list_any (refuses given wanted) c.args.conflict.now in
    let some = rw (c.dependencies-dependencies.ensures, c.as_ref.ensures.value) at c.dependency_refusing.ensures in
    subst (λ (one : ChoiceParts). option_copied c.dependency_refusing.result ≡ find test (wants given one.node one.version)) c.one.view_is
    (some ∙ find-wanted test given (record { name = inside.name; extra = inside.extra }) inside.version)
