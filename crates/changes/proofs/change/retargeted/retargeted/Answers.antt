use Rattle.std.proofs.Common.{◌≡◌, ◌∙◌, Some, List, ℕ, subst}
use Rattle.states.specs.StateParts.{digest_of}
use Rattle.changes.specs.Changes.{ChangesDigest}
use Rattle.changes.specs.Tied.Only.{IsTheOnly}
use Rattle.changes.specs.Tied.Retargeted.{AreMade, names_met}
use Rattle.changes.proofs.Retargeted.{digest-first, empty-from, names-made, none-by-name, none-left, some-from}
use Rattle.changes.proofs.change.retargeted.retargeted.Goals as goal

pub returns-in_default-2 : goal.returns-in_default-2
returns-in_default-2 c =
    let change = c.args.change.now in
    let olds = c.args.targets.now in
    let digest = digest-first olds c.in-Some.first.now c.in-Some.ensures.value in
    let only : IsTheOnly (ChangesDigest change.digests (digest_of olds)) (Some c.in-Some-digest_after.digest) = rw digest (rw (c.in-Some-digest_after.is, c.digests.ensures, c.snapshot.ensures) at c.digest_after.ensures) in
    none-by-name change c.in-Some-digest_after.digest olds only (rw c.in_default-2.is at c.in_ok-made.ensures)

pub returns-then-is_empty : goal.returns-then-is_empty
returns-then-is_empty c =
    let change = c.args.change.now in
    let olds = c.args.targets.now in
    let digest = digest-first olds c.in-Some.first.now c.in-Some.ensures.value in
    let only : IsTheOnly (ChangesDigest change.digests (digest_of olds)) (Some c.in-Some-digest_after.digest) = rw digest (rw (c.in-Some-digest_after.is, c.digests.ensures, c.snapshot.ensures) at c.digest_after.ensures) in
    let names : c.in_ok-names-2.names ≡ names_met change olds = c.in_ok-names-2.ensures.names ∙ (rw (c.in_ok-names.ensures, c.targets.ensures, c.entries.ensures) at c.in_ok-put_names.ensures) in
    let made : AreMade change c.in-Some-digest_after.digest olds (names_met change olds) c.in-Some-2.made =
    subst (λ (l : List (List ℕ)). AreMade change c.in-Some-digest_after.digest olds l c.in-Some-2.made) names (rw (c.in-Some-2.is, c.as_slice.ensures) at c.in_ok-made.ensures) in
    none-left change c.in-Some-digest_after.digest olds c.in-Some-2.made only made (empty-from c.in-Some-2.made c.if-is_empty.ensures)

pub returns : goal.returns
returns c =
    let change = c.args.change.now in
    let olds = c.args.targets.now in
    let digest = digest-first olds c.in-Some.first.now c.in-Some.ensures.value in
    let only : IsTheOnly (ChangesDigest change.digests (digest_of olds)) (Some c.in-Some-digest_after.digest) = rw digest (rw (c.in-Some-digest_after.is, c.digests.ensures, c.snapshot.ensures) at c.digest_after.ensures) in
    let names : c.in_ok-names-2.names ≡ names_met change olds = c.in_ok-names-2.ensures.names ∙ (rw (c.in_ok-names.ensures, c.targets.ensures, c.entries.ensures) at c.in_ok-put_names.ensures) in
    let made : AreMade change c.in-Some-digest_after.digest olds (names_met change olds) c.in-Some-2.made =
    subst (λ (l : List (List ℕ)). AreMade change c.in-Some-digest_after.digest olds l c.in-Some-2.made) names (rw (c.in-Some-2.is, c.as_slice.ensures) at c.in_ok-made.ensures) in
    names-made change c.in-Some-digest_after.digest olds c.in-Some-2.made c.requires.are only.0 made (some-from c.in-Some-2.made c.if-is_empty.ensures)
