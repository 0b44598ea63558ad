use Rattle.changes.specs.Changes.{ChangeParts}
use Rattle.changes.specs.Tied.Ends.{DoRise}
use Rattle.changes.proofs.ChangeFacts.{IsMinimal-inverse}
use Rattle.changes.proofs.change.Change.inverse.Goals as goal

pub splices_back-requires : goal.splices_back-requires
splices_back-requires c =
    let rise : DoRise c.self.inside.splices = record {
      apart = c.self.invariant.splices.apart;
      places = c.self.invariant.splices.places;
      places_back = c.self.invariant.splices.places_back;
    } in
    rw c.as_slice.ensures rise

pub invariant_of-result : goal.invariant_of-result
invariant_of-result c =
    let change : ChangeParts = record { splices = c.self.inside.splices; targets = c.self.inside.targets; entries = c.self.inside.entries; digests = c.self.inside.digests } in
    rw (c.in_ok-splices.ensures, c.as_slice.ensures, c.in_ok-targets.ensures, c.as_slice-2.ensures, c.in_ok-entries.ensures, c.as_slice-3.ensures, c.digests_back.ensures) (IsMinimal-inverse change c.self.invariant)
