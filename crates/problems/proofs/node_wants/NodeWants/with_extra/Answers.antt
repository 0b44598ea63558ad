use Rattle.std.proofs.Common.{◌∙◌, ℕ, List, Some, ap, subst, sym}
use Rattle.std.specs.BTreeMap.{Updates}
use Rattle.std.specs.Cmp.Lexicographic.{slice_cmp}
use Rattle.std.specs.Ordering.{nat_cmp}
use Rattle.pep508.specs.Requirement.{RequirementParts}
use Rattle.problems.specs.Problem.{ProblemParts}
use Rattle.problems.specs.Tied.ByExtra.{Depending}
use Rattle.problems.specs.Tied.OwnNeeds.{named_wants}
use Rattle.problems.specs.Tied.GroupedReleases.{IsOfItsRelease}
use Rattle.problems.proofs.Grouping.{lawful-put}
use Rattle.problems.proofs.node_wants.NodeWants.with_extra.Goals as goal

pub returns-clause-wanted : goal.returns-clause-wanted
returns-clause-wanted c =
    let given = c.args.self.now in
    c.in_ok-wanted.ensures
    ∙ ap (λ (d : Depending). named_wants d.environment c.args.extra.now d.dependencies) c.in_ok-grouped.ensures.release
    ∙ ap (λ (dependencies : List RequirementParts). named_wants given.environment c.args.extra.now dependencies) c.in_ok-grouped.ensures.dependencies

pub invariant_of-self-2 : goal.invariant_of-self-2
invariant_of-self-2 c =
    let given = c.self.inside.problem.now in
    let grouped = c.in_ok-grouped.grouped in
    let is = subst (λ (problem : ProblemParts). IsOfItsRelease problem c.args.name.now grouped) (sym (c.self.view_is ∙ c.take.ensures.same)) c.in_ok-grouped.ensures.release in
    let updates = subst (λ (name : List ℕ). Updates (slice_cmp nat_cmp) c.self.inside.by_name c.insert.new.self name (Some grouped)) c.in_ok-clone.ensures.cases c.in_ok-insert.ensures.updates in
    lawful-put (λ name found. IsOfItsRelease given name found) c.self.inside.by_name c.insert.new.self c.args.name.now grouped c.self.invariant is updates
