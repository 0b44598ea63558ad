use Rattle.std.proofs.Common.{◌≡◌, drop}
use Rattle.std.specs.List.{list_all}
use Rattle.refutations.specs.Tied.Cases.{completes}
use Rattle.refutations.proofs.grounds.completion.none_fits.Given as goal

abbrev pub invariant-loop-place : goal.invariant-loop-place
invariant-loop-place l = list_all (λ release. completes l.earlier.conflicts.now l.conflict (record { node = l.node; version = release.version })) l.releases
    ≡ list_all (λ release. completes l.earlier.conflicts.now l.conflict (record { node = l.node; version = release.version })) (drop l.place l.releases)
