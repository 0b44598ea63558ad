use Rattle.std.proofs.Common.{◌≡◌, ◌∙◌, List, Contains, subst, sym}
use Rattle.lists.proofs.Members.{Contains-filter, Contains-map}
use Rattle.pep508.specs.Requirement.{RequirementParts}
use Rattle.snapshot.specs.Release.{Release}
use Rattle.problems.specs.Problem.{ProblemParts, releases_on}
use Rattle.problems.specs.Rules.{counts, wants_of}
use Rattle.problems.specs.Tied.Growing.{requirements_met}
use Rattle.resolve.proofs.gathered_nodes.Gathering.ask_node.Goals as goal

pub ask_releases-requires-clause-met : goal.ask_releases-requires-clause-met
ask_releases-requires-clause-met c = λ wanted there asked within.
    let given = c.args.wants.now in
    let node = c.in_ok-node.node in
    let rows = c.as_slice-2.ensures ∙ c.in_ok-releases.ensures.wanted in
    let listed : (release : Release) × Contains (releases_on given node.name) release × (wants_of given.environment node.extra release ≡ wanted) =
    Contains-map (wants_of given.environment node.extra) (releases_on given node.name) wanted (subst (λ (lists : List (List RequirementParts)). Contains lists wanted) rows there) in
    let counted : Contains (wants_of given.environment node.extra listed.0) asked = subst (λ (list : List RequirementParts). Contains list asked) (sym listed.2) within in
    let met = c.what_is_needed_can_be_met.ensures.dependencies given node.name listed.0 asked listed.1 (Contains-filter (counts given.environment node.extra) listed.0.dependencies asked counted).0 in
    subst (λ (problem : ProblemParts). Contains (requirements_met problem) asked) (sym (c.problem.ensures ∙ c.at.ensures.same)) met
