use Rattle.std.specs.List.{AllByRecursion}
use Rattle.pep440.specs.SetGrammar.{IsLawfulClause}
use Rattle.pep440.specs.Text.{pieces}
use Rattle.pep440.proofs.LawfulClauses.{all-lawful}
use Rattle.pep440.proofs.specifier.SpecifierSet.parse.Goals as goal

pub invariant_of-result-2 : goal.invariant_of-result-2
invariant_of-result-2 c =
    let lawful : AllByRecursion IsLawfulClause c.in_ok-clauses.clauses.items = all-lawful 1 (pieces c.as_bytes-bytes.result.now) c.in_ok-clauses.clauses.items c.in_ok-clauses.ensures in
    rw c.from_vec.ensures lawful
