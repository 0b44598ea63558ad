-- The splices that lead back.
use Rattle.std.proofs.Common.{◌≡◌, ◌+◌, ◌-◌, ◌≤◌, ℕ, List, [], ◌∷◌, length, refl, sym, subst, arith}
use Rattle.std.specs.List.{AllByRecursion}
use Rattle.changes.specs.Changes.{AreSplices, IsExchange, PlacesFit, RiseFrom, Splices, back}
use Rattle.changes.specs.declared.change.parts.Splice.{Splice}

-- where splices lead from old lines to new ones, those back lead from the new lines to the old ones
pub Splices-back : (from added taken : ℕ) (splices : List Splice) (old new : List (List ℕ)) → taken ≤ from → Splices from splices old new
    → Splices (from + added - taken) (back added taken splices) new old
Splices-back from added taken [] old new least same = sym same
Splices-back from added taken (splice ∷ rest) old new least at =
    let behind = Splices-back (splice.place + length splice.old) (added + length splice.new) (taken + length splice.old) rest at.old_rest at.new_rest (let place = at.place in omega arith) at.rest in
    let place : splice.place ≡ from + length at.kept = at.place in
    let next : splice.place + length splice.old + (added + length splice.new) - (taken + length splice.old) ≡ splice.place + added - taken + length splice.new = omega arith in
    record {
      kept = at.kept;
      old_rest = at.new_rest;
      new_rest = at.old_rest;
      place = omega arith;
      stood = at.stands;
      stands = at.stood;
      rest = subst (λ (p : ℕ). Splices p (back (added + length splice.new) (taken + length splice.old) rest) at.new_rest at.old_rest) next behind;
    }

-- back and back again are the splices
pub back-back : (from added taken : ℕ) (splices : List Splice) → taken ≤ from → RiseFrom from splices → back taken added (back added taken splices) ≡ splices
back-back from added taken [] least rise = refl
back-back from added taken (splice ∷ rest) least rise =
    let place : splice.place + added - taken + taken - added ≡ splice.place = let above : from ≤ splice.place = rise.0 in omega arith in
    let more = back-back (splice.place + length splice.old + 1) (added + length splice.new) (taken + length splice.old) rest (let above : from ≤ splice.place = rise.0 in omega arith) rise.1 in
    λ i. record { place = place i; old = splice.old; new = splice.new } ∷ more i

RiseFrom-back : (from added taken : ℕ) (splices : List Splice) → taken ≤ from → RiseFrom from splices → RiseFrom (from + added - taken) (back added taken splices)
RiseFrom-back from added taken [] least rise = tt
RiseFrom-back from added taken (splice ∷ rest) least rise =
    let above : from ≤ splice.place = rise.0 in
    let more = RiseFrom-back (splice.place + length splice.old + 1) (added + length splice.new) (taken + length splice.old) rest (omega arith) rise.1 in
    let next : splice.place + length splice.old + 1 + (added + length splice.new) - (taken + length splice.old) ≡ splice.place + added - taken + length splice.new + 1 = omega arith in
    (omega arith, subst (λ (p : ℕ). RiseFrom p (back (added + length splice.new) (taken + length splice.old) rest)) next more)

exchanges-back : (added taken : ℕ) (splices : List Splice) → AllByRecursion IsExchange splices → AllByRecursion IsExchange (back added taken splices)
exchanges-back added taken [] all = tt
exchanges-back added taken (splice ∷ rest) all =
    (record { first = λ e. all.0.first (sym e); last = λ e. all.0.last (sym e) }, exchanges-back (added + length splice.new) (taken + length splice.old) rest all.1)

pub AreSplices-back : (splices : List Splice) → AreSplices splices → AreSplices (back 0 0 splices)
AreSplices-back splices are = record {
  exchanges = exchanges-back 0 0 splices are.exchanges;
  apart = RiseFrom-back 0 0 0 splices (omega arith) are.apart;
  places = are.places_back;
  places_back = subst PlacesFit (sym (back-back 0 0 0 splices (omega arith) are.apart)) are.places;
}
