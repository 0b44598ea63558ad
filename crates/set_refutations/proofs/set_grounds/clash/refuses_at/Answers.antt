use Rattle.std.proofs.Common.{◌≡◌, ◌∙◌, Bool, subst}
use Rattle.std.specs.List.{list_any}
use Rattle.std.specs.Option.{option_copied}
use Rattle.pep508.specs.Requirement.{RequirementParts}
use Rattle.problems.specs.Tied.ChoiceTests.{refuses}
use Rattle.problems.specs.Rules.{wants}
use Rattle.problems.specs.declared.node.Node.{Node}
use Rattle.problems.proofs.Wants.{any-wanted}
use Rattle.set_refutations.proofs.set_grounds.clash.refuses_at.Goals as goal

pub returns : goal.returns
returns c =
    let given = c.args.problem.now in
    let inside = c.node.inside in
    let test : RequirementParts → Bool = λ wanted. refuses given wanted c.args.choice.now in
    let some = rw c.dependencies-dependencies.ensures at c.some_refuses.ensures in
    subst (λ (node : Node). c.some_refuses.result ≡ list_any test (wants given node c.args.version.now)) c.node.view_is
    (some ∙ any-wanted test given (record { name = inside.name.now; extra = option_copied inside.extra }) c.args.version.now)
