use Rattle.std.proofs.Common.{◌≡◌, Some, ◌∙◌, ap, string_bytes, true}
use Rattle.std.specs.Str.{is_utf8}
use Rattle.toml.specs.Parse.{parse_document}
use Rattle.pylock.specs.Tables.{table_of}
use Rattle.pylock.proofs.BackFacts.{lock-back}
use Rattle.pylock.proofs.DateFacts.{lock-valid}
use Rattle.pylock.proofs.DepthFacts.{lock-depth}
use Rattle.pylock.proofs.TextFacts.{text-back}
use Rattle.pylock.proofs.lock.Lock.print.Goals as goal

pub printed-requires-clause-depth : goal.printed-requires-clause-depth
printed-requires-clause-depth c = rw c.in_ok-table.ensures.table (lock-depth c.args.self.now)

pub printed-requires-clause-dates : goal.printed-requires-clause-dates
printed-requires-clause-dates c = rw c.in_ok-table.ensures.table (lock-valid c.args.self.now)

pub returns-clause-table : goal.returns-clause-table
returns-clause-table c = c.in_ok-text.ensures ∙ ap Some c.in_ok-table.ensures.table

pub returns-clause-reads_back : goal.returns-clause-reads_back
returns-clause-reads_back c =
    let parsed : parse_document (string_bytes c.in_ok-text.text) ≡ Some (table_of c.args.self.now) = c.in_ok-text.ensures ∙ ap Some c.in_ok-table.ensures.table in
    let utf8 : is_utf8 (string_bytes c.in_ok-text.text) ≡ true = rw (← c.as_str.ensures.value) c.is_utf8.ensures in
    text-back (string_bytes c.in_ok-text.text) (table_of c.args.self.now) c.args.self.now utf8 parsed (lock-back c.a_canonical_text_is_read.ensures c.args.self.now c.recall_invariant.ensures)
