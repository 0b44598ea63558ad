use Rattle.std.proofs.Common.{◌≡◌, ◌∙◌, ℕ, List, Some, ap, sym, subst}
use Rattle.std.specs.List.{slice_get}
use Rattle.std.specs.Option.{option_copied}
use Rattle.pep508.specs.Requirement.{RequirementParts}
use Rattle.problems.specs.Problem.{ProblemParts}
use Rattle.problems.specs.declared.node.Node.{Node}
use Rattle.refutations.proofs.Grounded.{needy-ground}
use Rattle.problems.proofs.WalkedLists.{placed}
use Rattle.refutations.proofs.grounds.exhaustion.exhausted_by_line.Goals as goal

pub returns-in-Some : goal.returns-in-Some
returns-in-Some c =
    let active = c.as_slice-lines.ensures ∙ ap (λ (g : ProblemParts). g.active) c.problem.view_is in
    let lines = c.as_slice-lines.result.now in
    let place = c.loop-place.place in
    let line = c.index-lines-place.result in
    let extra = option_copied c.in-Some.extra in
    let at = subst (λ (ls : List RequirementParts). slice_get ls place ≡ Some line) active (placed lines place line c.loop-place-test.true c.index-lines-place.is) in
    let k = needy-ground c.args.problem.now c.args.earlier.conflicts.now c.args.conflict.now line place extra at c.in-Some.ensures in
    let node : List ℕ → Node = λ n. record { name = n; extra = extra } in
    (k.0, k.1 ∙ ap node (sym c.name.ensures), (k.2, k.3, k.4))
