use Rattle.problems.specs.Solutions.{version_for}
use Rattle.states.proofs.LockFacts.{AreEntries-answer, AreNeeds-gathered}
use Rattle.states.proofs.Released.{solution-released}
use Rattle.states.proofs.locks.entries_of.Goals as goal

pub entries-requires-clause-released : goal.entries-requires-clause-released
entries-requires-clause-released c = solution-released c.args.problem.now (version_for c.args.versions.now.entries) c.requires.solution

pub entries-requires-clause-needs : goal.entries-requires-clause-needs
entries-requires-clause-needs c =
    let gathered = rw c.as_slice.ensures at c.in_ok-gathered.ensures in
    AreNeeds-gathered c.args.problem.now (version_for c.args.versions.now.entries) c.in_ok-nodes.nodes c.in_ok-gathered.gathered c.in_ok-nodes.ensures gathered

pub returns : goal.returns
returns c =
    let gathered = rw c.as_slice.ensures at c.in_ok-gathered.ensures in
    AreEntries-answer c.other_extras_are_as_none.ensures c.args.problem.now c.args.versions.now.entries c.in_ok-nodes.nodes c.in_ok-gathered.gathered c.entries.result
    c.entries.ensures.entries c.entries.ensures.rising c.entries.ensures.releases c.in_ok-nodes.ensures gathered
