use Rattle.std.proofs.Common.{sym, ◌∙◌}
use Rattle.snapshot.proofs.MeaningFacts.{whole_number}
use Rattle.snapshot.proofs.pass.data.whole_of.Goals as goal

pub returns : goal.returns
returns c = rw (← c.as_bytes-bytes.ensures.value) (whole_number c.as_bytes-bytes.result.now c.scan.result c.to_u64.result (sym c.has_minus.ensures ∙ c.if-has_minus.false) c.scan.ensures.parts c.to_u64.ensures)
