use Rattle.std.proofs.Common.{◌≡◌, [], ◌∷◌, Some, None, ap, arith, drop, map, sym, ◌∙◌, string_bytes}
use Rattle.std.proofs.lemmas.Grind.{common_steps}
use Rattle.toml.specs.View.{members_view, view}
use Rattle.toml.proofs.Views.{Entry}
use Rattle.pylock.specs.Forms.{after}
use Rattle.pylock.proofs.FormFacts.{known-step, unknown-end, unknown-step}
use Rattle.pylock.proofs.forms.unknown_key.Goals as goal

pub loop-key-preserved : goal.loop-key-preserved
loop-key-preserved c =
    let e : Entry = (c.in-Some.key.now, c.in-Some._value.now) in
    let iter : c.loop-key.key-iterator ≡ e ∷ c.next.new.self = grind (arith, common_steps) in
    let rest : Some (map (λ k. k.now) (drop c.in-Some-place_behind.place c.args.known.now)) ≡ after (string_bytes e.0) (map (λ k. k.now) (drop c.loop-key.from c.args.known.now)) = rw (← c.as_str.ensures.value) c.in-Some-place_behind.ensures in
    let step = known-step _ _ (string_bytes e.0) (view e.1) (members_view c.next.new.self) rest in
    sym step ∙ (rw iter at c.loop-key.invariant)

pub returns-in-None-place_behind : goal.returns-in-None-place_behind
returns-in-None-place_behind c =
    let e : Entry = (c.in-Some.key.now, c.in-Some._value.now) in
    let iter : c.loop-key.key-iterator ≡ e ∷ c.next.new.self = grind (arith, common_steps) in
    let none : None ≡ after (string_bytes e.0) (map (λ k. k.now) (drop c.loop-key.from c.args.known.now)) = rw (← c.as_str.ensures.value) c.in-None-place_behind.ensures in
    let step = unknown-step _ (string_bytes e.0) (view e.1) (members_view c.next.new.self) none in
    ap Some c.as_str-in-None-place_behind.ensures.value ∙ sym step ∙ (rw iter at c.loop-key.invariant)

pub returns : goal.returns
returns c =
    let iter : c.loop-key.key-iterator ≡ [] = grind (arith, common_steps) in
    sym (unknown-end _) ∙ (rw iter at c.loop-key.invariant)
