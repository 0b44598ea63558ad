use Rattle.std.proofs.Common.{◌≡◌, ◌∙◌, ℕ, List, true, sym, subst}
use Rattle.changes.specs.Tied.Whole.{is_ended}
use Rattle.changes.proofs.change.file.is_last_ended.Goals as goal

pub returns-in-Some : goal.returns-in-Some
returns-in-Some c = λ h l at.
    let last = c.in-Some.ensures.value in
    let same : c.in-Some.line.now ≡ l = cc in
    subst (λ (x : List ℕ). is_ended x ≡ true) same (sym c.is_ended.ensures ∙ h)

pub returns-in-None : goal.returns-in-None
returns-in-None c = λ h l at. let none = c.in-None.ensures.value in cc
