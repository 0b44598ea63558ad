use Rattle.std.proofs.Common.{◌≡◌, Equal, rules, of_calls, sym, subst}
use Rattle.std.proofs.lemmas.Fn.{always_returns_same}
use Rattle.states.proofs.EntrySearch.{found-on, none-on, stands}
use Rattle.states.proofs.state.lock_for_lines.entry_on.Goals as goal

pub returns-in-Ok : goal.returns-in-Ok
returns-in-Ok c =
    let tie = c.in-Ok.ensures.position (stands c.args.name.now) (always_returns_same _ _ _ (λ a r f k. search (rules, of_calls))) in
    let here = c.index-entries-place.result in
    found-on c.args.entries.now c.args.name.now here c.requires (c.in-Ok.place, c.in-Ok.ensures.bound, sym c.index-entries-place.is)
    (subst (λ e. stands c.args.name.now e ≡ Equal) (sym c.index-entries-place.is) (tie here))

pub returns-in-Err : goal.returns-in-Err
returns-in-Err c =
    none-on c.args.entries.now c.args.name.now c.in-Err.field-0 c.requires
    (c.in-Err.ensures.position (stands c.args.name.now) (always_returns_same _ _ _ (λ a r f k. search (rules, of_calls))))
