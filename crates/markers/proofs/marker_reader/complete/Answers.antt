use Rattle.std.proofs.Common.{refl}
use Rattle.std.proofs.lemmas.Result.{err_from_is_err_and}
use Rattle.markers.specs.Tied.MarkerReading.{added, atom_of}
use Rattle.markers.proofs.ReadFacts.{fault_of_part, some-ok_or}
use Rattle.markers.proofs.marker_reader.complete.Goals as goal

pub returns-in_err-atom : goal.returns-in_err-atom
returns-in_err-atom c =
    let p = err_from_is_err_and c.from_residual.result c.from_residual.ensures.1 in
    let found = atom_of c.args.left c.args.operator c.in-Side.right in
    rw (c.in-Side.is, p.1, p.2) (fault_of_part found (added c.args.outer c.args.group found) c.in_err-atom.field-0.0 (λ missing. rw missing refl) c.in_err-atom.ensures)

pub returns : goal.returns
returns c =
    let found = some-ok_or (atom_of c.args.left c.args.operator c.in-Side.right) c.in_ok-atom.atom c.in_ok-atom.ensures in
    rw (c.in-Side.is, found, c.in_ok-group.ensures, c.atom.ensures) refl
