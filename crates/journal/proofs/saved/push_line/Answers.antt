use Rattle.std.proofs.lemmas.Str.{is_utf8-from_IsUtf8}
use Rattle.journal.proofs.WrittenFacts.{is-written, on-ok}
use Rattle.journal.proofs.saved.push_line.Goals as goal

pub returns-clause-written : goal.returns-clause-written
returns-clause-written c =
    let text = c.in_ok-text.ensures.text c.requires.plain in
    let utf8 = is_utf8-from_IsUtf8 _ (rw c.as_str.ensures.value at c.as_str.utf8) in
    on-ok _ _ (is-written _ _ text utf8 (c.in_ok-text.ensures.reads_back c.requires.depth))
