use Rattle.std.proofs.Common.{◌∙◌, subst, sym}
use Rattle.std.proofs.lemmas.Result.{err_from_is_err_and}
use Rattle.inputs.specs.declared.input_files.InputFile.TheVariants.{Journal, Requirements}
use Rattle.files.proofs.FaultyFiles.{fault-lock, fault-memory, fault-unread}
use Rattle.files.proofs.HeldFiles.{stand_held}
use Rattle.files.proofs.UnreadFiles.{no-journal, no-requirements, unread_file, unread_lock, unread_memory}
use Rattle.files.specs.Beside.{has}
use Rattle.files.specs.NextLocks.{IsFaultOf, IsLacking}
use Rattle.files.specs.Places.{AreUnread, NoFilesStand}
use Rattle.files.proofs.saved_files.SavedFiles.read_with.Goals as goal

pub returns : goal.returns
returns g c = record {
  stand =
      stand_held (g.F.Folder.held c.args.folder.now) (has c.args.beside.now) (record { requirements = c.in_ok-requirements.requirements.items; locks = c.in_ok-locks.locks.entries; journal = c.in_ok-journal.journal })
      c.in_ok-requirements.ensures.bytes c.in_ok-locks.ensures.stand c.in_ok-journal.ensures.journal;
  named = record { names = c.in_ok-names.names; named = c.in_ok-names.ensures.names; have = c.in_ok-locks.ensures.named };
  unread = tt;
  fault = tt;
}

pub returns-in_err-requirements : goal.returns-in_err-requirements
returns-in_err-requirements g c =
    let p = err_from_is_err_and c.from_residual.result c.from_residual.ensures.1 in
    let held = g.F.Folder.held c.args.folder.now in
    let may_fail = g.F.HistoryFolder.may_fail c.args.folder.now in
    let is_beside = has c.args.beside.now in
    rw p.1 (record {
      stand = tt;
      named = tt;
      unread =
          subst (AreUnread held may_fail (NoFilesStand is_beside)) (sym p.2)
          (unread_file held may_fail (NoFilesStand is_beside) (is_beside Requirements) Requirements c.in_err-requirements.field-0.0 (no-requirements is_beside) c.in_err-requirements.ensures.fault);
      fault =
          subst (IsFaultOf may_fail held (IsLacking is_beside)) (sym p.2)
          (fault-unread may_fail held (IsLacking is_beside) (is_beside Requirements) Requirements c.in_err-requirements.field-0.0 (λ h none. (tt, none)) c.in_err-requirements.ensures.fault);
    })

pub returns-in_err-journal : goal.returns-in_err-journal
returns-in_err-journal g c =
    let p = err_from_is_err_and c.from_residual-in_err-journal.result c.from_residual-in_err-journal.ensures.1 in
    let held = g.F.Folder.held c.args.folder.now in
    let may_fail = g.F.HistoryFolder.may_fail c.args.folder.now in
    let is_beside = has c.args.beside.now in
    rw p.1 (record {
      stand = tt;
      named = tt;
      unread =
          subst (AreUnread held may_fail (NoFilesStand is_beside)) (sym p.2)
          (unread_file held may_fail (NoFilesStand is_beside) (is_beside Journal) Journal c.in_err-journal.field-0.0 (no-journal is_beside) c.in_err-journal.ensures.fault);
      fault =
          subst (IsFaultOf may_fail held (IsLacking is_beside)) (sym p.2)
          (fault-unread may_fail held (IsLacking is_beside) (is_beside Journal) Journal c.in_err-journal.field-0.0 (λ h none. (tt, none)) c.in_err-journal.ensures.fault);
    })

pub returns-in_err-names : goal.returns-in_err-names
returns-in_err-names g c =
    let p = err_from_is_err_and c.from_residual-in_err-names.result c.from_residual-in_err-names.ensures.1 in
    rw p.1 (record {
      stand = tt;
      named = tt;
      unread = unread_memory (g.F.Folder.held c.args.folder.now) (g.F.HistoryFolder.may_fail c.args.folder.now) (NoFilesStand (has c.args.beside.now)) p.0 (p.2 ∙ c.in_err-names.ensures.memory);
      fault = fault-memory (g.F.HistoryFolder.may_fail c.args.folder.now) (g.F.Folder.held c.args.folder.now) (IsLacking (has c.args.beside.now)) p.0 (p.2 ∙ c.in_err-names.ensures.memory);
    })

pub returns-in_err-locks : goal.returns-in_err-locks
returns-in_err-locks g c =
    let p = err_from_is_err_and c.from_residual-in_err-locks.result c.from_residual-in_err-locks.ensures.1 in
    let held = g.F.Folder.held c.args.folder.now in
    let may_fail = g.F.HistoryFolder.may_fail c.args.folder.now in
    let is_beside = has c.args.beside.now in
    rw p.1 (record {
      stand = tt;
      named = tt;
      unread =
          subst (AreUnread held may_fail (NoFilesStand is_beside)) (sym p.2)
          (unread_lock held may_fail is_beside c.in_ok-journal.journal c.in_ok-names.names c.in_err-locks.field-0.0 c.in_ok-journal.ensures.journal c.in_ok-names.ensures.names c.in_err-locks.ensures.unread);
      fault =
          subst (IsFaultOf may_fail held (IsLacking is_beside)) (sym p.2)
          (fault-lock may_fail held is_beside c.in_ok-journal.journal c.in_ok-names.names c.in_err-locks.field-0.0 c.in_ok-journal.ensures.journal c.in_ok-names.ensures.names c.in_err-locks.ensures.fault);
    })
