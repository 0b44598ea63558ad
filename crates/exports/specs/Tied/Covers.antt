-- What a target's cover is.
-- Tied to `IsMarkedBy` by the contract of `joint_lock`; need not be read.
use Rattle.std.specs.Prelude.{◌≡◌, ℕ, List}
use Rattle.std.specs.List.{AllByRecursion}
use Rattle.markers.specs.Environment.{IsEnvironment, Texts}
use Rattle.snapshot.specs.Packages.{Index}
use Rattle.exports.specs.Conditions.{IsTellable, MeetsAll}
use Rattle.exports.specs.Laws.{HasSameLock}
use Rattle.exports.specs.Questions.{AnswerEachAlike}
use Rattle.exports.specs.Tied.Told.{conditions_told}
use Rattle.exports.specs.declared.cover.Cover.{Cover}

-- conditions that its own environment meets, which can be told, are told by the marker, and under which each question is answered alike and
-- its lock is one elsewhere
pub record IsCover (lines : List (List ℕ)) (index : Index) (cover : Cover) : Type 0 where
  pub lawful : IsEnvironment cover.target.environment
  pub own : MeetsAll cover.target.environment cover.target.environment cover.conditions
  pub tellable : AllByRecursion IsTellable cover.conditions
  pub told : cover.marker ≡ conditions_told cover.target.environment cover.conditions
  pub answers : (other : Texts) → MeetsAll cover.target.environment other cover.conditions → AnswerEachAlike lines index cover.target.environment other
  pub alike : (other : Texts) → MeetsAll cover.target.environment other cover.conditions → HasSameLock lines index cover.target.environment other
