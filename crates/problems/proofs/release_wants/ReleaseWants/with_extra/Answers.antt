use Rattle.std.proofs.Common.{◌≡◌, ◌∙◌, ℕ, List, Some, filter, map, ap, subst, sym}
use Rattle.std.specs.BTreeMap.{Updates}
use Rattle.std.specs.Cmp.Lexicographic.{slice_cmp}
use Rattle.std.specs.Ordering.{nat_cmp}
use Rattle.problems.specs.Problem.{ProblemParts}
use Rattle.problems.specs.Rules.{counts}
use Rattle.problems.specs.Tied.ByExtra.{Depending}
use Rattle.problems.specs.Tied.GroupedReleases.{grouped_on}
use Rattle.problems.proofs.Grouping.{counted-on, lawful-put}
use Rattle.problems.proofs.release_wants.ReleaseWants.with_extra.Goals as goal

pub returns-clause-wanted : goal.returns-clause-wanted
returns-clause-wanted c =
    let groups = c.as_slice.ensures ∙ c.in_ok-groups.ensures.groups in
    c.in_ok-rows.ensures ∙ ap (map (λ (d : Depending). filter (counts d.environment (Some c.args.extra.now)) d.dependencies)) groups ∙ counted-on c.args.self.now c.args.extra.now c.args.name.now

pub invariant_of-self-2 : goal.invariant_of-self-2
invariant_of-self-2 c =
    let given = c.self.inside.problem.now in
    let groups : List Depending = c.in_ok-groups.groups in
    let is = subst (λ (problem : ProblemParts). groups ≡ grouped_on problem c.args.name.now) (sym (c.self.view_is ∙ c.take.ensures.same)) c.in_ok-groups.ensures.groups in
    let updates = subst (λ (name : List ℕ). Updates (slice_cmp nat_cmp) c.self.inside.by_name c.insert.new.self name (Some groups)) c.in_ok-clone.ensures.cases c.in_ok-insert.ensures.updates in
    lawful-put (λ (name : List ℕ) (found : List Depending). found ≡ grouped_on given name) c.self.inside.by_name c.insert.new.self c.args.name.now groups c.self.invariant is updates
