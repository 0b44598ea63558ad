use Rattle.std.proofs.Common.{◌≡◌, ◌∙◌, List, None, filter, IfOk, ap, subst}
use Rattle.markers.specs.Environment.{Texts}
use Rattle.pep508.specs.Requirement.{RequirementParts}
use Rattle.problems.specs.Admission.{dependencies_at}
use Rattle.problems.specs.Problem.{ProblemParts}
use Rattle.problems.specs.Rules.{bare, counts}
use Rattle.problems.specs.Tied.OwnNeeds.{own_wants}
use Rattle.problems.proofs.node_wants.NodeWants.bare.Goals as goal

pub returns : goal.returns
returns c =
    let given = c.args.self.now in
    let environment = ap (λ (problem : ProblemParts). problem.environment) (c.problem.view_is ∙ c.self.view_is) in
    let dependencies = c.dependencies-dependencies.ensures ∙ ap (λ (problem : ProblemParts). dependencies_at problem c.args.name.now c.args.version.now) c.self.view_is in
    let same : filter (counts c.problem.inside.environment None) c.dependencies-dependencies.result.now ≡ own_wants given (bare c.args.name.now) c.args.version.now =
    ap (λ (texts : Texts). filter (counts texts None) c.dependencies-dependencies.result.now) environment ∙ ap (λ (listed : List RequirementParts). filter (counts given.environment None) listed) dependencies in
    subst (λ (found : List RequirementParts). IfOk c.counted.result (λ (wanted : List RequirementParts). wanted ≡ found)) same c.counted.ensures
