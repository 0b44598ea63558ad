use Rattle.std.proofs.Common.{◌≡◌, ◌∙◌, Bool, subst}
use Rattle.std.specs.List.{list_any}
use Rattle.pep508.specs.Requirement.{RequirementParts}
use Rattle.set_refutations.specs.SetRefutations.{TermParts}
use Rattle.problems.specs.Rules.{wants}
use Rattle.set_refutations.specs.Tied.SetCases.{needs}
use Rattle.problems.proofs.Wants.{any-wanted}
use Rattle.set_refutations.proofs.set_grounds.exhaustion.version_needs.Goals as goal

pub returns : goal.returns
returns c =
    let given = c.args.problem.now in
    let inside = c.term.inside in
    let test : RequirementParts → Bool = λ wanted. needs wanted c.args.node.now in
    let some = rw (c.dependencies-dependencies.ensures, c.as_ref.ensures.value) at c.some_needs.ensures in
    subst (λ (one : TermParts). c.some_needs.result ≡ list_any test (wants given one.node c.args.version.now)) c.term.view_is
    (some ∙ any-wanted test given (record { name = inside.name; extra = inside.extra }) c.args.version.now)
