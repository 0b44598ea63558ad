use Rattle.std.proofs.Common.{◌≡◌, [], ◌∷◌, ◌∙◌, rules}
use Rattle.folder.specs.Held.{IsSameBut}
use Rattle.folder.proofs.Names.{at_fault, same_but-refl}
use Rattle.memory_folder.specs.Changes.{held_after}
use Rattle.memory_folder.specs.declared.changes.Change.TheVariants.{Staged}
use Rattle.memory_folder.proofs.Calls.{elapses_more, follows_more, one_each, staged_all, staged_once, staged_twice, two_each, two_more}
use Rattle.memory_folder.proofs.memory.MemoryFolderFolder.stage.Goals as goal

pub returns-in_err-add-2-clause-fault : goal.returns-in_err-add-2-clause-fault
returns-in_err-add-2-clause-fault c = at_fault c.from_residual-in_err-add-2.result _ (follows_more _ _ _ (Staged c.in_ok-copy_of.field-0 c.from_vec.result ∷ []) (c.in_err-add-2.ensures.err ∙ c.in_ok-add.ensures.ok) (staged_once c.args.name.now c.in_ok-copy_of.field-0 c.from_vec.result (held_after c.args.self.now.changes.items) c.in_ok-copy_of.ensures))

pub returns-in_err-add-2-clause-time : goal.returns-in_err-add-2-clause-time
returns-in_err-add-2-clause-time c =
    elapses_more _ _ _ (Staged c.in_ok-copy_of.field-0 c.from_vec.result ∷ []) (c.in_err-add-2.ensures.err ∙ c.in_ok-add.ensures.ok) (one_each (IsSameBut (c.args.name.now ∷ [])) (Staged c.in_ok-copy_of.field-0 c.from_vec.result) (held_after c.args.self.now.changes.items) (same_but-refl (c.args.name.now ∷ []) (held_after c.args.self.now.changes.items)) (staged_once c.args.name.now c.in_ok-copy_of.field-0 c.from_vec.result (held_after c.args.self.now.changes.items) c.in_ok-copy_of.ensures))

pub returns-clause-done : goal.returns-clause-done
returns-clause-done c =
    let whole : c.from_vec-2.result ≡ c.args.bytes.now = search rules in
    follows_more _ _ _ (Staged c.in_ok-copy_of.field-0 c.from_vec.result ∷ Staged c.in_ok-copy_of-2.field-0 c.from_vec-2.result ∷ []) (two_more c.args.self.now.changes.items c.add.new.changes.items c.add-2.new.changes.items (Staged c.in_ok-copy_of.field-0 c.from_vec.result) (Staged c.in_ok-copy_of-2.field-0 c.from_vec-2.result) c.in_ok-add.ensures.ok c.in_ok-add-2.ensures.ok) (staged_twice c.args.name.now c.in_ok-copy_of.field-0 c.in_ok-copy_of-2.field-0 c.from_vec.result c.from_vec-2.result c.args.bytes.now (held_after c.args.self.now.changes.items) c.in_ok-copy_of.ensures c.in_ok-copy_of-2.ensures whole)

pub returns-clause-time : goal.returns-clause-time
returns-clause-time c =
    let whole : c.from_vec-2.result ≡ c.args.bytes.now = search rules in
    elapses_more _ _ _ (Staged c.in_ok-copy_of.field-0 c.from_vec.result ∷ Staged c.in_ok-copy_of-2.field-0 c.from_vec-2.result ∷ []) (two_more c.args.self.now.changes.items c.add.new.changes.items c.add-2.new.changes.items (Staged c.in_ok-copy_of.field-0 c.from_vec.result) (Staged c.in_ok-copy_of-2.field-0 c.from_vec-2.result) c.in_ok-add.ensures.ok c.in_ok-add-2.ensures.ok)
    (two_each (IsSameBut (c.args.name.now ∷ [])) (Staged c.in_ok-copy_of.field-0 c.from_vec.result) (Staged c.in_ok-copy_of-2.field-0 c.from_vec-2.result) (held_after c.args.self.now.changes.items) (same_but-refl (c.args.name.now ∷ []) (held_after c.args.self.now.changes.items)) (staged_once c.args.name.now c.in_ok-copy_of.field-0 c.from_vec.result (held_after c.args.self.now.changes.items) c.in_ok-copy_of.ensures) (staged_all c.args.name.now c.args.bytes.now (held_after c.args.self.now.changes.items) _ (staged_twice c.args.name.now c.in_ok-copy_of.field-0 c.in_ok-copy_of-2.field-0 c.from_vec.result c.from_vec-2.result c.args.bytes.now (held_after c.args.self.now.changes.items) c.in_ok-copy_of.ensures c.in_ok-copy_of-2.ensures whole)))
