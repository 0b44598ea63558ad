use Rattle.std.proofs.Common.{◌≡◌, ◌∙◌, inl, inr, true, sym}
use Rattle.exports.proofs.EachAnswer.{not-false, not-true}
use Rattle.exports.proofs.apart.do_fit.Goals as goal

pub returns-then-are_same-clause-fit : goal.returns-then-are_same-clause-fit
returns-then-are_same-clause-fit c = λ is. inl (rw (c.entries.ensures, c.entries-2.ensures) at (c.are_same.ensures.0 c.if-are_same.true))

pub returns-clause-fit : goal.returns-clause-fit
returns-clause-fit c = λ is. inr (c.in_ok-alike.ensures.apart (not-true c.in_ok-alike.alike is))

pub returns-clause-clash : goal.returns-clause-clash
returns-clause-clash c = λ is. (
  λ same. (let so : c.are_same.result ≡ true = c.are_same.ensures.1 (c.entries.ensures ∙ same ∙ sym c.entries-2.ensures) in cc),
  c.in_ok-alike.ensures.alike (not-false c.in_ok-alike.alike is),
)
