use Rattle.std.proofs.Common.{◌≡◌, ◌∙◌, sym, get_or, arith}
use Rattle.std.proofs.lemmas.Bool.{eqb-true}
use Rattle.std.proofs.lemmas.Str.{IsCharBoundary-after_ascii}
use Rattle.pep508.proofs.cuts.inside.Goals as goal

pub range-requires-clause-start_boundary : goal.range-requires-clause-start_boundary
range-requires-clause-start_boundary c = λ _.
    let begins : get_or c.args.text.now 0 0 ≡ c.args.first = eqb-true _ _ (sym c.begins_with.ensures ∙ c.if-begins_with.true) in
    IsCharBoundary-after_ascii c.args.text.now 0 c.utf8.text (omega arith) (omega (arith, c.requires.first))
