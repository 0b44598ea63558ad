use Rattle.std.proofs.Common.{List, ◌≡◌, ◌<◌, ◌++◌, ◌∷◌, [], true, false, length, sym, ◌∙◌, ap, subst, arith, length-append}
use Rattle.std.specs.Ordering.{nat_cmp}
use Rattle.search.proofs.Fronts.{same-push}
use Rattle.plain_search.proofs.Steps.{entered-is}
use Rattle.plain_search.proofs.Steps.{tried-first, tried-none}
use Rattle.search.proofs.WhatIsLeft.{candidates-named}
use Rattle.search.specs.declared.parts.Frame.{Frame}
use Rattle.plain_search.specs.declared.backtracking.Step.TheVariants.{Entered, Refuted}
use Rattle.search.specs.Tied.Search.{pins_of}
use Rattle.search.specs.Solutions.{version_pinned}
use Rattle.plain_search.specs.Tied.Steps.{IsTried}
use Rattle.search.specs.Table.{TableParts}
use Rattle.plain_search.proofs.backtracking.enter.Goals as goal

pub returns-then-not-branch-clause-step : goal.returns-then-not-branch-clause-step
returns-then-not-branch-clause-step c =
    let tried : IsTried c.args.table.now c.args.name 0 c.args.frames.now.items c.try_turn.new.frames.items false = subst (λ b. IsTried c.args.table.now c.args.name 0 c.args.frames.now.items c.try_turn.new.frames.items b) c.if-not-branch.true c.in_ok-try_turn.ensures in
    (tried.0, tried-none c.args.table.now c.requires.known c.args.frames.now.items c.try_turn.new.frames.items c.args.name c.requires.next tried)

pub returns-then-not-branch-clause-stands : goal.returns-then-not-branch-clause-stands
returns-then-not-branch-clause-stands c = λ e. absurd (let k : Refuted ≡ Entered = e in cc)

pub last_of-requires : goal.last_of-requires
last_of-requires c =
    let tried : IsTried c.args.table.now c.args.name 0 c.args.frames.now.items c.try_turn.new.frames.items true = subst (λ b. IsTried c.args.table.now c.args.name 0 c.args.frames.now.items c.try_turn.new.frames.items b) c.if-not-branch.false c.in_ok-try_turn.ensures in
    let e = ap length (c.as_slice.ensures.value ∙ tried.2) in
    omega (arith, e, length-append c.args.frames.now.items (tried.0 ∷ []))

pub enter-requires-clause-known : goal.enter-requires-clause-known
enter-requires-clause-known c =
    let t : TableParts = c.args.table.now in
    let tried : IsTried t c.args.name 0 c.args.frames.now.items c.try_turn.new.frames.items true = subst (λ b. IsTried t c.args.name 0 c.args.frames.now.items c.try_turn.new.frames.items b) c.if-not-branch.false c.in_ok-try_turn.ensures in
    let p : c.last_of.result ≡ tried.0 = entered-is t c.args.frames.now.items c.try_turn.new.frames.items c.as_slice.result.now c.args.name c.last_of.result tried c.as_slice.ensures.value c.last_of.ensures in
    subst (λ n. n < length t.candidates) (sym (ap (λ (f : Frame). f.name) p ∙ tried.1.named)) (candidates-named t.candidates c.args.name tried.1.within)

pub enter-requires-clause-front : goal.enter-requires-clause-front
enter-requires-clause-front c = c.requires.stands.stands

pub enter-requires-clause-fits : goal.enter-requires-clause-fits
enter-requires-clause-fits c = c.requires.fits

pub returns-clause-step : goal.returns-clause-step
returns-clause-step c =
    let tried : IsTried c.args.table.now c.args.name 0 c.args.frames.now.items c.try_turn.new.frames.items true = subst (λ b. IsTried c.args.table.now c.args.name 0 c.args.frames.now.items c.try_turn.new.frames.items b) c.if-not-branch.false c.in_ok-try_turn.ensures in
    tried-first c.args.table.now c.requires.known c.args.frames.now.items c.try_turn.new.frames.items c.args.name c.requires.search c.requires.next tried

pub returns-clause-stands : goal.returns-clause-stands
returns-clause-stands c = λ _.
    let t : TableParts = c.args.table.now in let fs : List Frame = c.args.frames.now.items in let new : List Frame = c.try_turn.new.frames.items in
    let tried : IsTried t c.args.name 0 fs new true = subst (λ b. IsTried t c.args.name 0 fs new b) c.if-not-branch.false c.in_ok-try_turn.ensures in
    let p : c.last_of.result ≡ tried.0 = entered-is t fs new c.as_slice.result.now c.args.name c.last_of.result tried c.as_slice.ensures.value c.last_of.ensures in
    record {
      stands = c.in_ok-enter.ensures.front;
      same = λ n. same-push c.args.front.now.taken.items c.enter.new.self.taken.items fs c.last_of.result c.in_ok-enter.ensures.taken c.requires.stands.same n
          ∙ ap (λ (xs : List Frame). version_pinned nat_cmp (pins_of xs) n) (ap (λ (f : Frame). fs ++ f ∷ []) p ∙ sym tried.2);
    }
