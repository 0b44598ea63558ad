use Rattle.std.proofs.Common.{◌≡◌, ◌∙◌, ℕ, List, get_or, [], ap, sym, subst}
use Rattle.std.specs.Prelude.{OnOk}
use Rattle.states.specs.State.{entry_on}
use Rattle.states.specs.Tied.LockForLines.{IsGrown, needs_of}
use Rattle.states.proofs.PartFacts.{item-within}
use Rattle.states.proofs.state.reach.follow.Goals as goal

pub returns-in-Some : goal.returns-in-Some
returns-in-Some c =
    let here : get_or c.args.names.now c.args.place [] ≡ c.index-as_slice-place.result = item-within c.args.names.now c.args.place [] c.index-as_slice-place.result c.requires.place ∙ sym (rw c.as_slice.ensures at c.index-as_slice-place.is) in
    let needs = ap needs_of (ap (entry_on c.args.entries.now) here ∙ sym c.in-Some.ensures) ∙ sym c.dependencies.ensures in
    subst (λ (asked : List (List ℕ)). OnOk c.add_all.result (IsGrown c.args.names.now c.add_all.new.names asked)) (sym needs) c.add_all.ensures
