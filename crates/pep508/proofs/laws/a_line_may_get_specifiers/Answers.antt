use Rattle.pep508.proofs.ExchangedLine.{stands}
use Rattle.pep508.proofs.laws.a_line_may_get_specifiers.Goals as goal

pub returns : goal.returns
returns c = stands (λ text clauses set is. record {
  bytes = c.a_set_has_its_bytes.ensures.bytes text clauses set;
  begins = c.a_set_has_its_bytes.ensures.first text clauses set is.first;
  first = is.first;
  last = is.last;
})
