use Rattle.std.proofs.Common.{◌≡◌, ◌∙◌, length, sym}
use Rattle.std.proofs.lemmas.Bool.{eqb-true}
use Rattle.pep508.specs.Parts.{ending_of}
use Rattle.pep508.proofs.Endings.{requirement_of-ended}
use Rattle.pep508.proofs.line.Line.ended.Goals as goal

pub invariant_of-result : goal.invariant_of-result
invariant_of-result c =
    let content = c.self.inside.shared.value in
    let none : length c.ending.result.now ≡ 0 = eqb-true _ _ (sym c.is_empty.ensures ∙ c.if-not-is_empty.false) in
    let bare : length (ending_of content.text) ≡ 0 = rw (c.self.view_is, ← c.ending.ensures) none in
    rw (c.in_ok-put_behind.ensures.text, c.in_ok-put_behind.ensures.requirement)
    (requirement_of-ended content.text _ content.requirement bare c.requires c.self.invariant)
