use Rattle.std.proofs.Common.{◌≡◌, ◌∙◌, sym, false}
use Rattle.std.specs.Option.{option_copied}
use Rattle.problems.specs.Rules.{bare, with_extra}
use Rattle.set_refutations.specs.Tied.SetCases.{is_left_out}
use Rattle.problems.proofs.Deciding.{found-is, found-none}
use Rattle.problems.proofs.Wants.{extra-found, none-left_out}
use Rattle.set_refutations.proofs.set_grounds.exhaustion.node_left_out.Goals as goal

pub returns-in_err-extra : goal.returns-in_err-extra
returns-in_err-extra c =
    let wanted = c.args.wanted.now in
    let test = is_left_out c.args.problem.now c.args.earlier.now c.args.conflict.now (option_copied c.args.term) in
    let first = rw c.name-name.ensures at c.is_left_out.ensures in
    let bare_left : test (bare wanted.name) ≡ false = sym first ∙ c.if-is_left_out.false in
    rw c.from_residual.ensures (none-left_out test wanted bare_left (found-none (λ extra. test (with_extra wanted.name extra)) wanted.extras (sym c.in_err-extra.ensures)))

pub returns : goal.returns
returns c =
    let wanted = c.args.wanted.now in
    let test = is_left_out c.args.problem.now c.args.earlier.now c.args.conflict.now (option_copied c.args.term) in
    rw c.name-name.ensures (extra-found test wanted c.in_ok-extra.extra.now (found-is (λ extra. test (with_extra wanted.name extra)) wanted.extras c.in_ok-extra.extra.now (sym c.in_ok-extra.ensures)))
