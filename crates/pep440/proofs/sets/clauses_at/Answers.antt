use Rattle.std.proofs.Common.{◌≡◌, ◌+◌, sym, arith, vec_len, Ok, drop, take}
use Rattle.std.proofs.lemmas.Grind.{common_steps}
use Rattle.std.proofs.lemmas.Result.{err_from_is_err_and}
use Rattle.pep440.specs.Tied.Sets.{clause_of, clauses_from}
use Rattle.pep440.specs.Text.{pieces, trim_blank}
use Rattle.pep440.specs.Answers.{Fails}
use Rattle.pep440.proofs.SetFacts.{ends_blank, ends_clause, ends_fault, goes_on, stops}
use Rattle.pep440.proofs.sets.clauses_at.Goals as goal

pub returns-in_err-clause : goal.returns-in_err-clause
returns-in_err-clause c =
    let p = err_from_is_err_and c.from_residual-in_err-clause.result c.from_residual-in_err-clause.ensures.1 in
    let piece = take c.in-Some.comma c.pieces.rest.now in
    let behind = drop (c.in-Some.comma + 1) c.pieces.rest.now in
    let fault : Fails c.in_err-clause.field-0.0 (clause_of (vec_len c.pieces.clauses + 1) (trim_blank piece)) = rw (← c.cut_at.ensures.front, ← c.len.ensures, ← c.trim_blank.ensures) c.in_err-clause.ensures in
    rw (p.1, p.2) (stops c.in_err-clause.field-0.0 c.pieces.clauses.items (vec_len c.pieces.clauses + 1) c.pieces.rest.now piece behind (clauses_from 1 (pieces c.args.text.now)) c.in-Some.ensures.some fault c.pieces.invariant)

pub pieces-preserved : goal.pieces-preserved
pieces-preserved c =
    let piece = take c.in-Some.comma c.pieces.rest.now in
    let behind = drop (c.in-Some.comma + 1) c.pieces.rest.now in
    let read : clause_of (vec_len c.pieces.clauses + 1) (trim_blank piece) ≡ Ok c.in_ok-clause.clause = rw (← c.cut_at.ensures.front, ← c.len.ensures, ← c.trim_blank.ensures) c.in_ok-clause.ensures in
    rw (c.in_ok-push.ensures.items, c.cut_at.ensures.behind)
    (goes_on c.pieces.clauses.items (vec_len c.pieces.clauses + 1) (vec_len c.push.new.self + 1) c.pieces.rest.now piece behind c.in_ok-clause.clause (clauses_from 1 (pieces c.args.text.now))
    (omega (arith, c.in_ok-push.ensures.len)) c.in-Some.ensures.some read c.pieces.invariant)

pub returns-then-is_end : goal.returns-then-is_end
returns-then-is_end c =
    ends_blank c.pieces.clauses.items (vec_len c.pieces.clauses + 1) c.pieces.rest.now (clauses_from 1 (pieces c.args.text.now))
    (rw (← c.len-place.ensures) (sym c.if-is_end.ensures)) c.in_default.ensures.none c.pieces.invariant

pub returns-in_err-last : goal.returns-in_err-last
returns-in_err-last c =
    let p = err_from_is_err_and c.from_residual-in_err-last.result c.from_residual-in_err-last.ensures.1 in
    let fault : Fails c.in_err-last.field-0.0 (clause_of (vec_len c.pieces.clauses + 1) (trim_blank c.pieces.rest.now)) = rw (← c.len-place.ensures, ← c.trim_blank-2.ensures) c.in_err-last.ensures in
    rw (p.1, p.2) (ends_fault c.in_err-last.field-0.0 c.pieces.clauses.items (vec_len c.pieces.clauses + 1) c.pieces.rest.now (clauses_from 1 (pieces c.args.text.now))
    (rw (← c.len-place.ensures) (sym c.if-is_end.ensures)) c.in_default.ensures.none fault c.pieces.invariant)

pub returns : goal.returns
returns c =
    let read : clause_of (vec_len c.pieces.clauses + 1) (trim_blank c.pieces.rest.now) ≡ Ok c.in_ok-last.last = rw (← c.len-place.ensures, ← c.trim_blank-2.ensures) c.in_ok-last.ensures in
    rw c.in_ok-push-2.ensures.items (ends_clause c.pieces.clauses.items (vec_len c.pieces.clauses + 1) c.pieces.rest.now c.in_ok-last.last (clauses_from 1 (pieces c.args.text.now))
    (rw (← c.len-place.ensures) (sym c.if-is_end.ensures)) c.in_default.ensures.none read c.pieces.invariant)

pub pieces-smaller : goal.pieces-smaller
pieces-smaller c = grind (arith, common_steps)
