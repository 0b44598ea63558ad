use Rattle.std.proofs.Common.{◌∙◌, Option, ap, codes, inl, subst}
use Rattle.std.proofs.lemmas.Result.{err_from_is_err_and}
use Rattle.std.specs.Prelude.{MatchOption, unwrap_or}
use Rattle.clap.specs.Words.{found_of, rows_of}
use Rattle.command_line.specs.Misuses.{IsMisused, IsWellUsed}
use Rattle.command_line.specs.declared.misuse.Misuse.{Misuse}
use Rattle.command_line.proofs.Misused.{by_lack}
use Rattle.command_line.proofs.Requests.{now_or}
use Rattle.command_line.proofs.request.read_invocation.Goals as goal

pub returns-in-Some-clause-unread : goal.returns-in-Some-clause-unread
returns-in-Some-clause-unread c = inl c.in-Some.ensures.misuse

pub returns-in_err-read_subcommand-clause-unread : goal.returns-in_err-read_subcommand-clause-unread
returns-in_err-read_subcommand-clause-unread c =
    let before = rows_of (found_of c.args.before.now) in
    let behind = rows_of (found_of c.args.behind.now) in
    let P : Option Misuse → Type 0 = λ found. MatchOption found (IsWellUsed before c.args.name.now behind) (IsMisused before c.args.name.now behind) in
    let used = subst P c.in_default.is c.first_misuse.ensures.misuse in
    let p = err_from_is_err_and c.from_residual.result c.from_residual.ensures.1 in
    rw (p.1, p.2) (by_lack before c.args.name.now behind _ used c.in_err-read_subcommand.ensures.fault)

pub returns-clause-read : goal.returns-clause-read
returns-clause-read c =
    let before = rows_of (found_of c.args.before.now) in
    let behind = rows_of (found_of c.args.behind.now) in
    let P : Option Misuse → Type 0 = λ found. MatchOption found (IsWellUsed before c.args.name.now behind) (IsMisused before c.args.name.now behind) in
    record {
      used = subst P c.in_default.is c.first_misuse.ensures.misuse;
      subcommand = c.in_ok-read_subcommand.ensures.subcommand;
      dir = ap (λ s. s.now) c.unwrap_or.ensures ∙ now_or c.chosen.result _ ∙ ap (λ text. unwrap_or text (codes ".")) c.chosen.ensures;
      verbosity = c.verbosity.ensures;
      color = c.color.ensures;
    }
