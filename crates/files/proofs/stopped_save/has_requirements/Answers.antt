use Rattle.std.proofs.Common.{◌≡◌, ◌∙◌, ◌+◌, ◌-◌, ◌<◌, ◌||◌, ap, arith, sym, take}
use Rattle.std.specs.List.{list_any}
use Rattle.files.specs.Beside.{has_lines, has_requirements}
use Rattle.files.proofs.StateFacts.{any-there, or_false, or_true}
use Rattle.files.proofs.stopped_save.has_requirements.Goals as goal

pub returns-then-branch-clause-has : goal.returns-then-branch-clause-has
returns-then-branch-clause-has c =
    let past = c.undone.session.past in
    let test = has_lines c.args.requirements.now in
    let before = list_any test (take past.cursor past.states) in
    let there = any-there test past.states past.cursor c.in_ok-is_present.field-0 c.in_ok-is_present.ensures.has in
    let passes = there ∙ ap (λ b. before || b) c.if-branch.true ∙ or_true before in
    sym (ap (λ s. has_requirements s c.args.requirements.now) (sym c.undone.invariant.0) ∙ sym c.undone.invariant.1 ∙ passes)

pub undone-preserved : goal.undone-preserved
undone-preserved c =
    let past = c.undone.session.past in
    let test = has_lines c.args.requirements.now in
    let before = list_any test (take past.cursor past.states) in
    let there = any-there test past.states past.cursor c.in_ok-is_present.field-0 c.in_ok-is_present.ensures.has in
    let fails = there ∙ ap (λ b. before || b) c.if-branch.false ∙ or_false before in
    let undone = c.in_ok-undo.ensures.undone in
    let behind : 0 < past.cursor = undone.0 in
    let place : past.cursor - 1 + 1 ≡ past.cursor = omega arith in
    rw undone.1 (c.undone.invariant.0, ap (λ n. list_any test (take n past.states)) place ∙ sym fails ∙ c.undone.invariant.1)
