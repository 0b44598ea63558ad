-- The values of the crates below that a history speaks of.
pub use Rattle.states.specs.declared.pool.Pool.{Pool}
pub use Rattle.states.specs.declared.state.State.{State}
pub use Rattle.states.specs.declared.target.Target.{Target}
pub use Rattle.states.specs.declared.targets.Targets.{Targets}
pub use Rattle.edits.specs.declared.request.Edit.{Edit}
pub use Rattle.states.specs.declared.refusal.Refusal.{Refusal}
pub use Rattle.states.specs.declared.refusal.Refusal.TheVariants.{NothingChanges, NothingToUndo, NothingToRedo, OutOfMemory}
pub use Rattle.pep508.specs.declared.file.ReqFile.{ReqFile}
pub use Rattle.snapshot.specs.declared.snapshot.Snapshot.{Snapshot}
