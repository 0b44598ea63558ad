use Rattle.std.proofs.Common.{◌≡◌, [], ◌∷◌, false, Some, Err, sym, ◌∙◌, arith}
use Rattle.std.proofs.lemmas.Grind.{common_steps}
use Rattle.std.specs.Prelude.{ok_or}
use Rattle.std.proofs.lemmas.Result.{err_from_is_err_and}
use Rattle.lists.specs.Answers.{Answers}
use Rattle.markers.specs.Tied.MarkerReading.{finished, step, tree_of}
use Rattle.lists.specs.Spaces.{is_space_or_tab}
use Rattle.markers.specs.Tied.MarkerTokens.{token_at, tokens_from}
use Rattle.markers.specs.declared.fault.Cause.TheVariants.{BadMarker, OutOfMemory}
use Rattle.markers.proofs.ReadFacts.{fault_of_part, some-ok_or, tree_in, tree_in-bad_token, tree_in-no_token, tree_in-space, tree_in-token}
use Rattle.markers.proofs.marker_reader.tree_of.Goals as goal

pub tokens-preserved-then-is_space_or_tab : goal.tokens-preserved-then-is_space_or_tab
tokens-preserved-then-is_space_or_tab c =
    let cut : c.tokens.left.now ≡ c.in-Some.first ∷ c.in-Some.rest.now = c.in-Some.ensures in
    let here : tree_in c.tokens.reader (tokens_from 0 (c.in-Some.first ∷ c.in-Some.rest.now)) ≡ tree_of c.args.text.now = rw cut at c.tokens.invariant in
    sym (tree_in-space c.tokens.reader c.in-Some.first c.in-Some.rest.now (sym c.is_space_or_tab.ensures ∙ c.if-is_space_or_tab.true)) ∙ here

pub returns-in_err-token : goal.returns-in_err-token
returns-in_err-token c =
    let p = err_from_is_err_and c.from_residual.result c.from_residual.ensures.1 in
    let cut : c.tokens.left.now ≡ c.in-Some.first ∷ c.in-Some.rest.now = c.in-Some.ensures in
    let here : tree_in c.tokens.reader (tokens_from 0 (c.in-Some.first ∷ c.in-Some.rest.now)) ≡ tree_of c.args.text.now = rw cut at c.tokens.invariant in
    let solid : is_space_or_tab c.in-Some.first ≡ false = sym c.is_space_or_tab.ensures ∙ c.if-is_space_or_tab.false in
    let fault : Answers OutOfMemory (ok_or (token_at (c.in-Some.first ∷ c.in-Some.rest.now)) BadMarker) (Err c.in_err-token.field-0.0) = rw (← cut) c.in_err-token.ensures in
    rw (p.1, p.2)
    (fault_of_part (token_at (c.in-Some.first ∷ c.in-Some.rest.now)) (tree_of c.args.text.now) c.in_err-token.field-0.0
    (λ missing. sym here ∙ tree_in-no_token c.tokens.reader c.in-Some.first c.in-Some.rest.now solid missing) fault)

pub returns-in_err-reader : goal.returns-in_err-reader
returns-in_err-reader c =
    let p = err_from_is_err_and c.from_residual-in_err-reader.result c.from_residual-in_err-reader.ensures.1 in
    let cut : c.tokens.left.now ≡ c.in-Some.first ∷ c.in-Some.rest.now = c.in-Some.ensures in
    let here : tree_in c.tokens.reader (tokens_from 0 (c.in-Some.first ∷ c.in-Some.rest.now)) ≡ tree_of c.args.text.now = rw cut at c.tokens.invariant in
    let solid : is_space_or_tab c.in-Some.first ≡ false = sym c.is_space_or_tab.ensures ∙ c.if-is_space_or_tab.false in
    let found : token_at (c.in-Some.first ∷ c.in-Some.rest.now) ≡ Some (c.in_ok-token.token, c.in_ok-token.more) = rw (← cut) (some-ok_or (token_at c.tokens.left.now) (c.in_ok-token.token, c.in_ok-token.more) c.in_ok-token.ensures) in
    rw (p.1, p.2)
    (fault_of_part (step c.tokens.reader c.in_ok-token.token) (tree_of c.args.text.now) c.in_err-reader.field-0.0
    (λ stuck. sym here ∙ tree_in-bad_token c.tokens.reader c.in-Some.first c.in-Some.rest.now c.in_ok-token.token c.in_ok-token.more solid found stuck) c.in_err-reader.ensures)

pub tokens-preserved : goal.tokens-preserved
tokens-preserved c =
    let cut : c.tokens.left.now ≡ c.in-Some.first ∷ c.in-Some.rest.now = c.in-Some.ensures in
    let here : tree_in c.tokens.reader (tokens_from 0 (c.in-Some.first ∷ c.in-Some.rest.now)) ≡ tree_of c.args.text.now = rw cut at c.tokens.invariant in
    let solid : is_space_or_tab c.in-Some.first ≡ false = sym c.is_space_or_tab.ensures ∙ c.if-is_space_or_tab.false in
    let found : token_at (c.in-Some.first ∷ c.in-Some.rest.now) ≡ Some (c.in_ok-token.token, c.in_ok-token.more) = rw (← cut) (some-ok_or (token_at c.tokens.left.now) (c.in_ok-token.token, c.in_ok-token.more) c.in_ok-token.ensures) in
    let taken : step c.tokens.reader c.in_ok-token.token ≡ Some c.in_ok-reader.reader = some-ok_or (step c.tokens.reader c.in_ok-token.token) c.in_ok-reader.reader c.in_ok-reader.ensures in
    rw c.behind-left.ensures
    (sym (tree_in-token c.tokens.reader c.in_ok-reader.reader c.in-Some.first c.in-Some.rest.now c.in_ok-token.token c.in_ok-token.more solid found taken) ∙ here)

pub returns : goal.returns
unfolding tokens_from
returns c =
    let ends : c.tokens.left.now ≡ [] = c.in_default.ensures in
    let here : finished c.tokens.reader ≡ tree_of c.args.text.now = rw ends at c.tokens.invariant in
    rw (← here) c.finished.ensures

pub tokens-smaller : goal.tokens-smaller
unfolding tree_of
tokens-smaller c = grind (arith, common_steps)
