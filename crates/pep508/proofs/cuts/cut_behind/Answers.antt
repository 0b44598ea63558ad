use Rattle.std.proofs.Common.{◌≡◌, ◌<◌, length, arith}
use Rattle.std.proofs.lemmas.Grind.{common_steps}
use Rattle.std.proofs.lemmas.Str.{IsCharBoundary-after_ascii}
use Rattle.pep508.proofs.Places.{place_of-stands, place_of-within}
use Rattle.pep508.specs.Parts.{place_of}
use Rattle.pep508.proofs.cuts.cut_behind.Goals as goal

pub overflow_add-place : goal.overflow_add-place
overflow_add-place c =
    let place : c.place_of-place.result ≡ place_of c.args.byte c.args.text.now = rw c.as_bytes.ensures.value at c.place_of-place.ensures in
    omega (arith, place_of-within c.args.byte c.args.text.now, c.as_bytes.type_inv.0, c.as_bytes.ensures.len)

pub split_at-requires-2 : goal.split_at-requires-2
split_at-requires-2 c =
    let place : c.place_of-place.result ≡ place_of c.args.byte c.args.text.now = rw c.as_bytes.ensures.value at c.place_of-place.ensures in
    let within : place_of c.args.byte c.args.text.now < length c.args.text.now = omega (arith, place_of-within c.args.byte c.args.text.now) in
    rw place (IsCharBoundary-after_ascii c.args.text.now _ c.utf8.text within (omega (arith, place_of-stands c.args.byte c.args.text.now within)))

pub returns-then-place-text : goal.returns-then-place-text
returns-then-place-text c = grind (arith, common_steps)
