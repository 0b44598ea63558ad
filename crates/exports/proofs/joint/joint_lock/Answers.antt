use Rattle.exports.proofs.JointLocks.{all-fit, anywhere-of, clash-of, covers-fit, only-of, told-of}
use Rattle.exports.proofs.joint.joint_lock.Goals as goal

pub returns-clause-told : goal.returns-clause-told
returns-clause-told c =
    told-of c.a_text_reads_as_the_marker_that_it_spells.ensures.found c.args.lines.now c.args.snapshot.now c.in_ok-covers.covers
    (covers-fit c.args.lines.now c.args.snapshot.now c.in_ok-covers.covers c.args.targets.now c.in_ok-covers.ensures.targets (rw c.lines-lines.ensures at c.in_ok-covers.ensures.covers) (rw (c.in_default.is, c.lines-lines.ensures) at c.in_ok-unfit.ensures.all)) c.in_ok-lock_of.field-0
    (record { environments = rw c.as_slice.ensures at c.in_ok-lock_of.ensures.environments; packages = rw c.as_slice.ensures at c.in_ok-lock_of.ensures.packages }) c.args.targets.now
    c.in_ok-covers.ensures.targets

pub returns-clause-fit : goal.returns-clause-fit
returns-clause-fit c = all-fit c.args.lines.now c.args.snapshot.now c.args.targets.now (rw (c.in_default.is, c.lines-lines.ensures) at c.in_ok-unfit.ensures.all)

pub returns-clause-only : goal.returns-clause-only
returns-clause-only c =
    only-of c.a_text_reads_as_the_marker_that_it_spells.ensures.found c.args.lines.now c.args.snapshot.now c.in_ok-covers.covers
    (covers-fit c.args.lines.now c.args.snapshot.now c.in_ok-covers.covers c.args.targets.now c.in_ok-covers.ensures.targets (rw c.lines-lines.ensures at c.in_ok-covers.ensures.covers) (rw (c.in_default.is, c.lines-lines.ensures) at c.in_ok-unfit.ensures.all)) c.in_ok-lock_of.field-0
    (record { environments = rw c.as_slice.ensures at c.in_ok-lock_of.ensures.environments; packages = rw c.as_slice.ensures at c.in_ok-lock_of.ensures.packages }) c.args.targets.now
    c.in_ok-covers.ensures.targets

pub returns-clause-anywhere : goal.returns-clause-anywhere
returns-clause-anywhere c =
    anywhere-of c.args.lines.now c.args.snapshot.now c.in_ok-covers.covers
    (covers-fit c.args.lines.now c.args.snapshot.now c.in_ok-covers.covers c.args.targets.now c.in_ok-covers.ensures.targets (rw c.lines-lines.ensures at c.in_ok-covers.ensures.covers) (rw (c.in_default.is, c.lines-lines.ensures) at c.in_ok-unfit.ensures.all)) c.in_ok-lock_of.field-0
    (record { environments = rw c.as_slice.ensures at c.in_ok-lock_of.ensures.environments; packages = rw c.as_slice.ensures at c.in_ok-lock_of.ensures.packages }) c.args.targets.now
    c.in_ok-covers.ensures.targets

pub returns-in-Some-clause-refused : goal.returns-in-Some-clause-refused
returns-in-Some-clause-refused c =
    let there = rw c.in-Some.is at c.in_ok-unfit.ensures.there in
    let clash = rw (c.in-Some.is, c.lines-lines.ensures) at c.in_ok-unfit.ensures.clash in
    rw c.in_ok-differing.ensures
    (clash-of c.args.lines.now c.args.snapshot.now c.args.targets.now c.in-Some.one.now c.in-Some.other.now there.0 there.1 clash)
