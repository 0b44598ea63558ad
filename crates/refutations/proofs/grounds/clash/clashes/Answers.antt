use Rattle.std.proofs.Common.{◌≡◌, ◌∙◌, Bool, subst}
use Rattle.std.specs.List.{list_any}
use Rattle.pep508.specs.Requirement.{RequirementParts}
use Rattle.problems.specs.Tied.ChoiceTests.{refuses}
use Rattle.problems.specs.Choices.{ChoiceParts}
use Rattle.problems.specs.Rules.{wants}
use Rattle.problems.proofs.Wants.{any-wanted}
use Rattle.refutations.proofs.grounds.clash.clashes.Goals as goal

pub returns : goal.returns
returns c =
    let given = c.args.problem.now in
    let inside = c.one.inside in
    let test : RequirementParts → Bool = λ wanted. list_any (refuses given wanted) c.args.conflict.now in
    let some = rw (c.dependencies-dependencies.ensures, c.as_ref.ensures.value) at c.some_refuses_one.ensures in
    subst (λ (one : ChoiceParts). c.some_refuses_one.result ≡ list_any test (wants given one.node one.version)) c.one.view_is
    (some ∙ any-wanted test given (record { name = inside.name; extra = inside.extra }) inside.version)
