use Rattle.std.proofs.Common.{◌≡◌, ◌∙◌, ℕ, List, Option, None, Some, ap, map, sym}
use Rattle.std.specs.BTreeSet.{keys}
use Rattle.pep508.specs.Requirement.{RequirementParts}
use Rattle.problems.specs.Problem.{ProblemParts}
use Rattle.problems.specs.Tied.OwnNeeds.{own_wants}
use Rattle.problems.specs.Solutions.{version_for}
use Rattle.states.specs.Names.{with_names}
use Rattle.states.specs.Tied.Dependencies.{names_in, names_of, names_wanted}
use Rattle.states.proofs.GatheredNames.{gathered-more, lookup-get, needed-wanted, none-needed}
use Rattle.states.proofs.dependencies.add_node.Goals as goal
use Rattle.states.proofs.dependencies.add_node.Goals.{in-Some-remove, in-None}

pub returns-in_default-clause-names : goal.returns-in_default-clause-names
returns-in_default-clause-names c =
    let none : version_for c.args.versions.now.entries c.args.node.now.name ≡ None = lookup-get c.args.node.now.name c.args.versions.now.entries ∙ sym (rw c.in_default.is at c.get.ensures.value) in
    λ own. none-needed c.args.wants.now (version_for c.args.versions.now.entries) c.args.node.now (names_in c.args.gathered.now own) none own

pub returns-clause-names : goal.returns-clause-names
returns-clause-names c =
    let given = c.args.wants.now in
    let chosen = version_for c.args.versions.now.entries in
    let picked : chosen c.args.node.now.name ≡ Some c.in-Some.version.now = lookup-get c.args.node.now.name c.args.versions.now.entries ∙ sym (rw c.in-Some.is at c.get.ensures.value) in
    let taken : names_in c.args.gathered.now c.args.node.now.name ≡ c.match-remove.names.keys = elim c.match-remove.branch [
      | in-Some-remove w ↦ ap names_of (sym w.in-Some-remove.ensures.value) ∙ ap keys (sym w.names-is)
      | in-None w ↦ ap names_of (sym w.in-None.ensures.value) ∙ sym (ap keys w.names-is ∙ w.new-names.ensures.empty)
    ] in
    let node = c.args.node.now in
    let version = c.in-Some.version.now in
    let names = c.match-remove.names.keys in
    let problem = c.problem.ensures ∙ c.at.ensures.same in
    let at = ap (λ (extra : Option (List ℕ)). own_wants given (record { name = node.name; extra = extra }) version) c.as_ref.ensures.value in
    let wanted = c.as_slice.ensures ∙ c.in_ok-wanted.ensures.wanted ∙ at in
    let needed =
    c.in_ok-add_names.ensures
    ∙ ap (λ (of : ProblemParts). with_names names (names_wanted of.environment node (map (λ w. w.now) c.as_slice.result.now))) problem
    ∙ ap (λ (listed : List RequirementParts). with_names names (names_wanted given.environment node listed)) wanted
    ∙ ap (with_names names) (needed-wanted given chosen node version picked) in
    let put = rw c.in_ok-name.ensures.cases at c.in_ok-insert.ensures.updates in
    gathered-more given chosen c.args.node.now c.args.gathered.now c.remove.new.self c.insert.new.self c.match-remove.names c.add_names.new.names taken c.remove.ensures.updates needed put
