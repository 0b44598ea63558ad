use Rattle.std.proofs.Common.{◌≡◌, ◌∙◌, ◌==◌, List, true, length, ap, sym}
use Rattle.std.specs.Prelude.{string_bytes}
use Rattle.exports.specs.declared.condition.Condition.{Condition}
use Rattle.exports.proofs.JointLocks.{met-by-all}
use Rattle.exports.proofs.JointPackages.{read-exactly}
use Rattle.exports.proofs.SaidConditions.{nat-same, none-left}
use Rattle.exports.proofs.covering.target_marker.Goals as goal

pub returns-then-is_empty-clause-lock : goal.returns-then-is_empty-clause-lock
returns-then-is_empty-clause-lock c = λ other.
    c.in_ok-conditions.ensures.lock other
    (met-by-all c.args.environment.now other c.in_ok-conditions.conditions
    (none-left c.in_ok-conditions.conditions (nat-same (length c.in_ok-conditions.conditions) 0 (sym c.is_empty.ensures ∙ c.if-is_empty.true))))

pub returns-in-Ok-clause-lock : goal.returns-in-Ok-clause-lock
returns-in-Ok-clause-lock c = λ other lawful h.
    let told = rw c.as_slice.ensures at (c.in_ok-text.ensures.some (λ none.
    let empty : c.is_empty.result ≡ true = c.is_empty.ensures ∙ ap (λ (cs : List Condition). length cs == 0) (sym c.as_slice.ensures ∙ none) in cc)) in
    c.in_ok-conditions.ensures.lock other
    ((read-exactly c.args.environment.now c.in_ok-conditions.conditions (string_bytes c.in_ok-text.text) c.in-Ok.marker told (rw c.as_str.ensures.value at c.in-Ok.ensures) other lawful).0 h)
