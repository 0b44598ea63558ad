use Rattle.std.proofs.Common.{◌≡◌, ◌∙◌, List, ℕ, subst}
use Rattle.changes.specs.Tied.Between.{AreEntriesBetween, names_of, target_change_on}
use Rattle.changes.specs.Tied.Retargeted.{on_names}
use Rattle.changes.proofs.BetweenTargets.{between-all}
use Rattle.changes.proofs.change.between_targets.targets_between.Goals as goal

pub returns : goal.returns
returns c =
    let old = c.args.old.now in
    let new = c.args.new.now in
    let names : c.in_ok-names.names ≡ names_of old new = c.in_ok-names.ensures.names ∙ c.in_ok-names_of.ensures in
    let targets : c.in_ok-targets.targets ≡ on_names (target_change_on old new) (names_of old new) =
    subst (λ (l : List (List ℕ)). c.in_ok-targets.targets ≡ on_names (target_change_on old new) l) names (rw c.as_slice.ensures at c.in_ok-targets.ensures) in
    let entries : AreEntriesBetween old new (names_of old new) c.in_ok-entries.entries =
    subst (λ (l : List (List ℕ)). AreEntriesBetween old new l c.in_ok-entries.entries) names (rw c.as_slice-2.ensures at c.in_ok-entries.ensures) in
    between-all old new c.in_ok-targets.targets c.in_ok-entries.entries targets entries
