use Rattle.std.proofs.Common.{◌≡◌, ℕ, List, ◌++◌, ◌∙◌, sym, ap, append_assoc, append-nil, string_bytes}
use Rattle.std.proofs.lemmas.List.{at_drop_more, at_drop_all, take_rest}
use Rattle.markers.specs.Tied.Names.{normal_read}
use Rattle.markers.proofs.NormalForms.{normal-is_read}
use Rattle.markers.proofs.name.normal_form.Goals as goal

pub loop-place-preserved : goal.loop-place-preserved
unfolding normal_read
loop-place-preserved c =
    let more = at_drop_more normal_read c.args.name.now c.loop-place.place 0 c.loop-place-test.true in
    rw (c.in_ok-push_normal.ensures, take_rest, append_assoc) (c.loop-place.invariant ∙ ap (λ (rest : List ℕ). string_bytes c.loop-place.normal ++ rest) more)

pub returns : goal.returns
unfolding normal_read
returns c =
    let end = at_drop_all normal_read c.args.name.now c.loop-place.place c.loop-place-test.false in
    let read : normal_read c.args.name.now ≡ string_bytes c.loop-place.normal = c.loop-place.invariant ∙ rw end (append-nil _) in
    sym read ∙ normal-is_read c.args.name.now c.requires.name
