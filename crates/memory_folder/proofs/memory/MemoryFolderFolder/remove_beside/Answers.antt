use Rattle.std.proofs.Common.{[], ◌∷◌, ap, refl, inl, inr}
use Rattle.folder.specs.Calls.{IsDoneOrNot}
use Rattle.folder.specs.Held.{cleared}
use Rattle.memory_folder.specs.Changes.{held_after}
use Rattle.memory_folder.specs.declared.changes.Change.TheVariants.{Cleared}
use Rattle.memory_folder.proofs.Calls.{elapses_more, follows_more, one_each}
use Rattle.memory_folder.proofs.memory.MemoryFolderFolder.remove_beside.Goals as goal

pub returns-clause-done : goal.returns-clause-done
returns-clause-done c = follows_more _ _ _ (Cleared c.in_ok-copy_of.field-0 ∷ []) c.in_ok-add.ensures.ok (ap (λ n. cleared n (held_after c.args.self.now.changes.items)) c.in_ok-copy_of.ensures)

pub returns-clause-time : goal.returns-clause-time
returns-clause-time c =
    elapses_more _ _ _ (Cleared c.in_ok-copy_of.field-0 ∷ []) c.in_ok-add.ensures.ok
    (one_each (IsDoneOrNot (cleared c.args.name.now)) (Cleared c.in_ok-copy_of.field-0) (held_after c.args.self.now.changes.items) (inl refl) (inr (ap (λ n. cleared n (held_after c.args.self.now.changes.items)) c.in_ok-copy_of.ensures)))
