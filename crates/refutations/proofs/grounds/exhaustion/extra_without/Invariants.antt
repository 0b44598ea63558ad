use Rattle.std.proofs.Common.{◌≡◌, drop, None}
use Rattle.std.specs.List.{list_any}
use Rattle.refutations.specs.Tied.Cases.{none_left}
use Rattle.problems.specs.Rules.{with_extra}
use Rattle.refutations.proofs.grounds.exhaustion.extra_without.Given as goal

abbrev pub invariant-loop-place : goal.invariant-loop-place
invariant-loop-place l = l.earlier.hints ≡ None → list_any (λ extra. none_left l.problem l.earlier.conflicts.now l.conflict (with_extra l.name extra)) l.extras
    ≡ list_any (λ extra. none_left l.problem l.earlier.conflicts.now l.conflict (with_extra l.name extra)) (drop l.place l.extras)
