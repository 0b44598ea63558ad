use Rattle.std.proofs.Common.{◌≡◌, ◌∙◌, ◌&&◌, Bool, List, Some, ap}
use Rattle.std.specs.List.{list_any}
use Rattle.pep508.specs.Requirement.{RequirementParts}
use Rattle.problems.specs.Rules.{counts, nodes_of, wants}
use Rattle.set_refutations.specs.SetRefutations.{TermParts}
use Rattle.problems.specs.Admission.{dependencies_at}
use Rattle.set_refutations.specs.Tied.SetCases.{is_left_out}
use Rattle.problems.proofs.Wants.{any-wanted}
use Rattle.set_refutations.proofs.SetsGrounded.{none-alike}
use Rattle.set_refutations.proofs.set_grounds.exhaustion.node_left_at.Goals as goal

pub returns : goal.returns
returns c =
    let given = c.args.problem.now in
    let version = c.args.version.now in
    let term = c.args.term.now in
    let test : RequirementParts → Bool = λ wanted. list_any (is_left_out given c.args.earlier.now c.args.conflict.now (Some term)) (nodes_of wanted) in
    let listed : List RequirementParts = dependencies_at given term.node.name version in
    let some : Bool = list_any (λ wanted. counts given.environment term.node.extra wanted && test wanted) listed in
    let at : c.dependencies-dependencies.result.now ≡ listed = c.dependencies-dependencies.ensures ∙ ap (λ (one : TermParts). dependencies_at given one.node.name version) c.term.view_is in
    none-alike c.node_left_behind.result _ some (list_any test (wants given term.node version)) (any-wanted test given term.node version) (rw at at c.node_left_behind.ensures)
