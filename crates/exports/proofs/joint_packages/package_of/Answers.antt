use Rattle.exports.proofs.joint_packages.package_of.Goals as goal

pub returns-clause-lawful : goal.returns-clause-lawful
returns-clause-lawful c = record {
  marked = rw c.in_ok-entry.ensures c.in_ok-marker.ensures;
  needs = rw c.in_ok-entry.ensures c.in_ok-needs.ensures;
}
