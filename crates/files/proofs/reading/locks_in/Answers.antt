use Rattle.std.proofs.Common.{◌≡◌, ◌∙◌, [], subst, sym}
use Rattle.std.proofs.lemmas.List.{nil_from_length}
use Rattle.std.proofs.lemmas.Result.{err_from_is_err_and}
use Rattle.files.proofs.FaultyFiles.{fault-memory, fault-name}
use Rattle.files.proofs.HeldFiles.{no_lock_held, one_lock_more_held}
use Rattle.files.proofs.NamedLocks.{HaveNamesWith, all-left, none-left, one_name_less}
use Rattle.files.proofs.UnreadFiles.{unread_memory, unread_name}
use Rattle.files.specs.Beside.{has}
use Rattle.files.specs.NextLocks.{LacksLockOf}
use Rattle.files.specs.Places.{LacksLock}
use Rattle.files.proofs.reading.locks_in.Goals as goal

pub loop-name-init : goal.loop-name-init
loop-name-init g c = (
  no_lock_held (g.F.Folder.held c.args.folder.now) (has c.args.beside.now) c.new-locks.result.entries c.new-locks.ensures.empty,
  all-left c.new-locks.result.entries c.into_iter-name-iterator.result.rest.items c.args.names c.new-locks.ensures.empty (c.into_iter-name-iterator.ensures.into_iter_gives.0 ∙ c.into_vec-name-items.ensures),
)

pub loop-name-preserved-in_ok-insert : goal.loop-name-preserved-in_ok-insert
loop-name-preserved-in_ok-insert g c = (
  one_lock_more_held (g.F.Folder.held c.args.folder.now) (has c.args.beside.now) c.loop-name.locks.entries c.insert.new.self.entries c.in-Some.name c.in_ok-clone.field-0 c.in_ok-lock.lock.items c.from_vec.result
      c.in_ok-clone.ensures.cases c.from_vec.ensures c.in_ok-insert.ensures.entries c.loop-name.invariant.0 c.in_ok-lock.ensures.bytes,
  one_name_less c.loop-name.locks.entries c.insert.new.self.entries c.in-Some.name c.from_vec.result c.next.new.self.rest.items c.args.names c.in_ok-insert.ensures.entries
      (subst (λ l. HaveNamesWith c.loop-name.locks.entries l c.args.names) c.in-Some.ensures.steps.0 c.loop-name.invariant.1),
)

pub loop-name-preserved : goal.loop-name-preserved
loop-name-preserved g c = (
  one_lock_more_held (g.F.Folder.held c.args.folder.now) (has c.args.beside.now) c.loop-name.locks.entries c.insert.new.self.entries c.in-Some.name c.in_ok-clone.field-0 c.in_ok-lock.lock.items c.from_vec.result
      c.in_ok-clone.ensures.cases c.from_vec.ensures c.in_ok-insert.ensures.entries c.loop-name.invariant.0 c.in_ok-lock.ensures.bytes,
  one_name_less c.loop-name.locks.entries c.insert.new.self.entries c.in-Some.name c.from_vec.result c.next.new.self.rest.items c.args.names c.in_ok-insert.ensures.entries
      (subst (λ l. HaveNamesWith c.loop-name.locks.entries l c.args.names) c.in-Some.ensures.steps.0 c.loop-name.invariant.1),
)

pub returns : goal.returns
returns g c =
    let none : c.loop-name.name-iterator.rest.items ≡ [] = nil_from_length c.loop-name.name-iterator.rest.items (sym c.loop-name.name-iterator.rest.ok.0 ∙ c.in-None.ensures.steps.0) in
    record {
      stand = c.loop-name.invariant.0;
      named = none-left c.loop-name.locks.entries c.args.names (subst (λ l. HaveNamesWith c.loop-name.locks.entries l c.args.names) none c.loop-name.invariant.1);
      unread = tt;
      fault = tt;
    }

pub returns-in_err-lock : goal.returns-in_err-lock
returns-in_err-lock g c =
    let p = err_from_is_err_and c.from_residual-in_err-lock.result c.from_residual-in_err-lock.ensures.1 in
    let held = g.F.Folder.held c.args.folder.now in
    rw p.1 (record {
      stand = tt;
      named = tt;
      unread =
          unread_name held (g.F.HistoryFolder.may_fail c.args.folder.now) (has c.args.beside.now) c.loop-name.locks.entries c.in-Some.name c.in_ok-clone.field-0 c.loop-name.name-iterator.rest.items c.next.new.self.rest.items c.args.names
          c.in_err-lock.field-0.0 p.0 p.2 c.in_ok-clone.ensures.cases c.in-Some.ensures.steps.0 c.loop-name.invariant.1 c.in_err-lock.ensures.fault;
      fault =
          fault-name (g.F.HistoryFolder.may_fail c.args.folder.now) held (has c.args.beside.now) c.loop-name.locks.entries c.in-Some.name c.in_ok-clone.field-0 c.loop-name.name-iterator.rest.items c.next.new.self.rest.items c.args.names
          c.in_err-lock.field-0.0 p.0 p.2 c.in_ok-clone.ensures.cases c.in-Some.ensures.steps.0 c.loop-name.invariant.1 c.in_err-lock.ensures.fault;
    })

pub returns-in_err-clone : goal.returns-in_err-clone
returns-in_err-clone g c =
    let p = err_from_is_err_and c.from_residual.result c.from_residual.ensures.1 in
    rw p.1 (record {
      stand = tt;
      named = tt;
      unread = unread_memory (g.F.Folder.held c.args.folder.now) (g.F.HistoryFolder.may_fail c.args.folder.now) (LacksLock (has c.args.beside.now) c.args.names) p.0 p.2;
      fault = fault-memory (g.F.HistoryFolder.may_fail c.args.folder.now) (g.F.Folder.held c.args.folder.now) (LacksLockOf (has c.args.beside.now) c.args.names) p.0 p.2;
    })

pub returns-in_err-insert : goal.returns-in_err-insert
returns-in_err-insert g c =
    let p = err_from_is_err_and c.from_residual-in_err-insert.result c.from_residual-in_err-insert.ensures.1 in
    rw p.1 (record {
      stand = tt;
      named = tt;
      unread = unread_memory (g.F.Folder.held c.args.folder.now) (g.F.HistoryFolder.may_fail c.args.folder.now) (LacksLock (has c.args.beside.now) c.args.names) p.0 p.2;
      fault = fault-memory (g.F.HistoryFolder.may_fail c.args.folder.now) (g.F.Folder.held c.args.folder.now) (LacksLockOf (has c.args.beside.now) c.args.names) p.0 p.2;
    })
