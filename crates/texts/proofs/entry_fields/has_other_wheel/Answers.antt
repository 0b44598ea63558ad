use Rattle.std.proofs.Common.{◌≡◌, ◌∙◌, Equal, rules, of_calls, sym, subst}
use Rattle.std.proofs.lemmas.Fn.{always_returns_same}
use Rattle.texts.proofs.WheelSearch.{found-at, none-at, stands}
use Rattle.texts.proofs.entry_fields.has_other_wheel.Goals as goal

pub returns-in-Ok : goal.returns-in-Ok
returns-in-Ok c =
    let name = c.args.file.now.name in
    let tie = c.in-Ok.ensures.position (stands name) (always_returns_same _ _ _ (λ a r f k. search (rules, of_calls))) in
    let here = c.index-wheels-position.result in
    c.has_other_digest.ensures
    ∙ found-at c.args.file.now c.args.wheels.now here c.requires (c.in-Ok.position, c.in-Ok.ensures.bound, sym c.index-wheels-position.is)
    (subst (λ f. stands name f ≡ Equal) (sym c.index-wheels-position.is) (tie here))

pub returns-in-Err : goal.returns-in-Err
returns-in-Err c =
    none-at c.args.file.now c.args.wheels.now c.in-Err.field-0 c.requires
    (c.in-Err.ensures.position (stands c.args.file.now.name) (always_returns_same _ _ _ (λ a r f k. search (rules, of_calls))))
