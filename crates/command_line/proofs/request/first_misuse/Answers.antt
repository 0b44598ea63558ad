use Rattle.std.proofs.Common.{◌∙◌, ap, sym}
use Rattle.clap.specs.Words.{found_of, rows_of}
use Rattle.command_line.specs.Options.{text_of}
use Rattle.command_line.proofs.Misused.{by_value}
use Rattle.command_line.proofs.request.first_misuse.Goals as goal

-- each of the four finds nothing
pub returns : goal.returns
returns c =
    let before = rows_of (found_of c.args.before.now) in
    let behind = rows_of (found_of c.args.behind.now) in
    let once = sym c.option_twice.ensures ∙ ap text_of c.in_default.is in
    let taken = sym c.stray_flag.ensures ∙ ap text_of c.in_default-stray_flag.is in
    let alone = sym c.excluded.ensures ∙ ap text_of c.in_default-excluded.is in
    let whole = sym c.missing.ensures ∙ ap text_of c.in_default-missing.is in
    record { misuse = by_value before c.args.name.now behind c.unknown_value.result once taken alone whole c.unknown_value.ensures.unknown }
