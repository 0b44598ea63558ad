use Rattle.std.proofs.Common.{◌≡◌, Ok, refl}
use Rattle.pep440.specs.Tied.Sets.{set_of}
use Rattle.pep508.specs.Parts.{trim}
use Rattle.pep508.proofs.LineCut.{trim_first, trim_last}
use Rattle.pep508.proofs.specifier_text.SpecifierText.read.Goals as goal

pub invariant_of-result : goal.invariant_of-result
invariant_of-result c =
    let read : set_of (trim c.args.text.now) ≡ Ok c.in_ok-parse.field-0 = rw c.trim-text.ensures at c.in_ok-parse.ensures in
    rw (c.in_ok-text.ensures, c.trim-text.ensures) (record { reads = rw read refl; first = trim_first c.args.text.now; last = trim_last c.args.text.now })
