-- Refusals that are told by their word, with the status of a refusal.
use Rattle.std.proofs.Common.{◌⊎◌, ℕ, List, inl, inr}
use Rattle.std.specs.Prelude.{Option}
use Rattle.stops.specs.declared.stop.Stop.TheVariants as stops
use Rattle.states.specs.declared.refusal.Refusal.{Refusal}
use Rattle.states.specs.declared.refusal.Refusal.TheVariants as refusals
use Rattle.reports.specs.Statuses.{HasStatus, IsPrinted, refusal_line}
use Rattle.reports.specs.declared.report.Status.{Status}
use Rattle.reports.specs.declared.report.Status.TheVariants as statuses

-- neither the words of the call are refused nor a solution is missing
abbrev pub IsByWord : Refusal → Type 0
IsByWord refusals.BadTarget = ⊥
IsByWord (refusals.DuplicateTarget name) = ⊥
IsByWord refusals.NoTarget = ⊥
IsByWord refusals.NoSolution = ⊥
IsByWord refusal = Unit {0}

pub told-by-word : (refusal : Refusal) (status : Status) (before after : Option (List ℕ)) → IsByWord refusal
    → IsPrinted (refusal_line refusal) statuses.Refused status before after → HasStatus (stops.Refused refusal) status before after
told-by-word refusals.BadTarget status before after is printed = absurd is
told-by-word (refusals.DuplicateTarget name) status before after is printed = absurd is
told-by-word refusals.NoTarget status before after is printed = absurd is
told-by-word refusals.NoSolution status before after is printed = absurd is
told-by-word refusal status before after is printed = printed

pub either : {A B C : Type 0} → (A → C) → (B → C) → A ⊎ B → C
either f g (inl a) = f a
either f g (inr b) = g b
