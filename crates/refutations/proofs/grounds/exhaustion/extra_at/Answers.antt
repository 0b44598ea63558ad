use Rattle.std.proofs.Common.{◌≡◌, ◌∙◌, sym, false}
use Rattle.refutations.specs.Tied.Cases.{none_left}
use Rattle.problems.specs.Rules.{bare}
use Rattle.problems.proofs.Wants.{extra-found, none-left_out}
use Rattle.refutations.proofs.grounds.exhaustion.extra_at.Goals as goal

pub returns-in-Some : goal.returns-in-Some
returns-in-Some c =
    let wanted = c.args.wanted.now in
    let test = none_left c.args.problem.now c.args.earlier.conflicts.now c.args.conflict.now in
    extra-found test wanted c.in-Some.extra.now (rw (c.name-name.ensures, c.extras.ensures) at c.in-Some.ensures)

pub returns : goal.returns
returns c =
    let wanted = c.args.wanted.now in
    let test = none_left c.args.problem.now c.args.earlier.conflicts.now c.args.conflict.now in
    let none = rw (c.name-name.ensures, c.extras.ensures) at c.in_default.ensures in
    let first = rw c.name-name.ensures at c.none_left_at.ensures.whole in
    λ h.
    let bare_left : test (bare wanted.name) ≡ false = sym (first h) ∙ c.if-none_left_at.false in
    none-left_out test wanted bare_left (none h)
