use Rattle.std.proofs.Common.{Err, ◌∙◌, ap, sym, true≢false}
use Rattle.pylock.proofs.text.printed.Goals as goal

pub returns-in-Ok : goal.returns-in-Ok
returns-in-Ok c = c.in-Ok.ensures.reads_back c.requires.depth

-- `toml` refuses no date of a table whose dates are valid
pub unreachable-requires : goal.unreachable-requires
unreachable-requires c = true≢false (sym c.requires.dates ∙ c.table_to_string.ensures.dates.0 (c.in-Err-DateInvalid.is ∙ ap Err c.in-Err-DateInvalid.field-0-is))
