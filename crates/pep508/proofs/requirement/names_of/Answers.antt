use Rattle.std.proofs.Common.{◌≡◌, ◌∙◌, ℕ, List, length, sym, ap, inl, inr, arith, lit<, Ok, Err}
use Rattle.std.proofs.lemmas.Iterator.Consumers.{YieldsList-turn, YieldsList-end}
use Rattle.std.proofs.lemmas.Iterator.Splits.{YieldsList-from_str_split}
use Rattle.std.proofs.lemmas.List.{append-nil, at_drop_all, length_push}
use Rattle.std.proofs.lemmas.Result.{err_from_is_err_and}
use Rattle.markers.specs.Names.{name_of}
use Rattle.pep440.specs.Text.{pieces}
use Rattle.pep508.specs.Parts.{trim}
use Rattle.pep508.specs.Requirement.{names_of}
use Rattle.pep508.proofs.Names.{names_of-fault, names_of-more}
use Rattle.pep508.proofs.requirement.names_of.Goals as goal

pub returns-in_err-name : goal.returns-in_err-name
returns-in_err-name c =
    let p = err_from_is_err_and c.from_residual.result c.from_residual.ensures.1 in
    let turn = YieldsList-turn (YieldsList-from_str_split {s = c.into_iter-piece-iterator.result} 44 c.args.text.now (lit< tt) (cc) (cc) (cc)) c.loop-piece.yielded _ c.loop-piece.yielded_by _ _ c.in-Some.piece c.in-Some.is c.next.ensures.steps in
    rw (p.1, p.2) (elim c.in_err-name.ensures [
      | inl memory ↦ inl memory
      | inr refused ↦
          let fault : name_of (trim c.in-Some.piece.now) ≡ Err c.in_err-name.field-0.0 = rw c.trim.ensures at refused in
          inr (sym c.loop-piece.invariant ∙ names_of-fault c.loop-piece.names (pieces c.args.text.now) _ c.in-Some.piece.now c.in_err-name.field-0.0 turn.0 turn.1 fault)
    ])

pub loop-piece-preserved : goal.loop-piece-preserved
loop-piece-preserved c =
    let turn = YieldsList-turn (YieldsList-from_str_split {s = c.into_iter-piece-iterator.result} 44 c.args.text.now (lit< tt) (cc) (cc) (cc)) c.loop-piece.yielded _ c.loop-piece.yielded_by _ _ c.in-Some.piece c.in-Some.is c.next.ensures.steps in
    let read : name_of (trim c.in-Some.piece.now) ≡ Ok c.in_ok-name.name = rw c.trim.ensures at c.in_ok-name.ensures in
    rw (c.in-Ok.ensures.items, length_push)
    (names_of-more c.loop-piece.names (pieces c.args.text.now) _ c.in-Some.piece.now c.in_ok-name.name turn.0 turn.1 read ∙ c.loop-piece.invariant)

pub returns : goal.returns
unfolding names_of
returns c =
    let end = YieldsList-end (YieldsList-from_str_split {s = c.into_iter-piece-iterator.result} 44 c.args.text.now (lit< tt) (cc) (cc) (cc)) c.loop-piece.yielded _ c.loop-piece.yielded_by _ _ c.in-None.is c.next.ensures.steps in
    let rest = at_drop_all names_of (pieces c.args.text.now) (length c.loop-piece.yielded) (omega (arith, end.1)) in
    sym c.loop-piece.invariant ∙ rw rest (ap (λ (l : List (List ℕ)). Ok l) (append-nil c.loop-piece.names))
