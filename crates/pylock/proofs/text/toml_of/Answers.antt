use Rattle.std.proofs.Common.{refl, inr, sym, ◌∙◌, true≢false}
use Rattle.std.proofs.lemmas.Str.{is_utf8-from_IsUtf8}
use Rattle.pylock.specs.LockOfTable.{toml_of}
use Rattle.pylock.proofs.TextFacts.{not_toml}
use Rattle.pylock.proofs.text.toml_of.Goals as goal

pub returns-in-Ok-clause-table : goal.returns-in-Ok-clause-table
unfolding toml_of
returns-in-Ok-clause-table c = rw (is_utf8-from_IsUtf8 _ c.in-Ok.ensures.ok.0, c.in-Ok.ensures.ok.1) refl

pub returns-else-is_memory-clause-refused : goal.returns-else-is_memory-clause-refused
returns-else-is_memory-clause-refused c = inr (not_toml c.args.bytes.now (c.in-Err.ensures.refused (λ memory. true≢false (sym (c.is_memory.ensures.1 memory) ∙ c.if-is_memory.false))))
