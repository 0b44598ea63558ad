use Rattle.std.proofs.Common.{ℕ, List, sym, ◌∙◌, ap, subst}
use Rattle.lists.specs.Bits.{LiesWithin}
use Rattle.search.specs.Table.{TableParts, candidates_of, name_of}
use Rattle.set_conflicts.proofs.SetsOf.{each-pushed, pushed-room}
use Rattle.set_conflicts.proofs.domains.all_sets.Goals as goal

pub loop-node-preserved : goal.loop-node-preserved
loop-node-preserved c =
    let t : TableParts = c.args.table.now in
    let sets : List (List ℕ) = c.loop-node.sets.items in
    let set : List ℕ = c.in_ok-set_of.field-0 in
    let own : LiesWithin (candidates_of t (name_of t c.loop-node.node)) set = subst (λ xs. LiesWithin xs set) (c.candidates-places.ensures ∙ ap (λ n. candidates_of t n) c.name_of.ensures.name) c.in_ok-set_of.ensures.all in
    record {
      room = pushed-room sets c.push.new.self.items set c.loop-node.node c.in_ok-push.ensures.items c.loop-node.invariant.room;
      all = each-pushed (λ n xs. LiesWithin (candidates_of t (name_of t n)) xs) sets c.push.new.self.items set c.in_ok-push.ensures.items c.loop-node.invariant.all
          (subst (λ n. LiesWithin (candidates_of t (name_of t n)) set) (sym c.loop-node.invariant.room) own);
    }
