use Rattle.std.proofs.Common.{◌∙◌, inl, subst, sym}
use Rattle.std.proofs.lemmas.Result.{err_from_is_err_and}
use Rattle.inputs.specs.declared.input_files.InputFile.TheVariants.{Journal}
use Rattle.files.proofs.HeldFiles.{read_held}
use Rattle.files.specs.Beside.{has}
use Rattle.files.specs.Places.{IsUnread}
use Rattle.files.proofs.reading.journal_in.Goals as goal

pub returns : goal.returns
returns g c = record {
  journal = read_held (g.F.Folder.held c.args.folder.now) (has c.args.beside.now Journal) Journal c.in_ok-bytes.bytes.items c.in_ok-read.field-0 (c.in_ok-read.ensures ∙ c.from_vec.ensures) c.in_ok-bytes.ensures.bytes;
  fault = tt;
}

pub returns-in_err-bytes : goal.returns-in_err-bytes
returns-in_err-bytes g c =
    let p = err_from_is_err_and c.from_residual.result c.from_residual.ensures.1 in
    rw p.1 (record { journal = tt; fault = subst (IsUnread (g.F.Folder.held c.args.folder.now) (g.F.HistoryFolder.may_fail c.args.folder.now) (has c.args.beside.now Journal) Journal) (sym p.2) c.in_err-bytes.ensures.fault })

pub returns-in_err-read : goal.returns-in_err-read
returns-in_err-read g c = let p = err_from_is_err_and c.from_residual-in_err-read.result c.from_residual-in_err-read.ensures.1 in rw p.1 (record { journal = tt; fault = inl p.2 })
