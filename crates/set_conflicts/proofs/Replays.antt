-- What stands of a walk that is taken anew, when a name is walked and in the end.
use Rattle.std.proofs.Common.{ℕ, List, [], ◌∷◌, ◌++◌, ◌≡◌, Option, true, false, get_or, refl, sym, ◌∙◌, ap, subst}
use Rattle.std.specs.List.{list_any}
use Rattle.std.specs.Ordering.{nat_cmp}
use Rattle.search.proofs.Clashes.{required-fits, fits-complete}
use Rattle.search.proofs.Fronts.{same-push}
use Rattle.search.proofs.Least.{least-next}
use Rattle.search.proofs.Stack.{IsSearch-push, pins_of-push, search-best}
use Rattle.search.proofs.WhatIsLeft.{table-lawful}
use Rattle.search.specs.declared.front.Front.{Front}
use Rattle.search.specs.declared.parts.Frame.{Frame}
use Rattle.search.specs.Solutions.{IsBest, IsNext, version_pinned}
use Rattle.search.specs.Table.{TableParts, candidates_of, in_range, name_of, rules_of}
use Rattle.search.specs.Tied.Front.{IsFront, IsFrontOf}
use Rattle.search.specs.Tied.Search.{AreRequired, AreNeeded, IsLeastFree, IsSearch, NoneFree, clash_in, pin_at, pins_of, taken_at}
use Rattle.search.specs.Tied.Taken.{TakesFirst}
use Rattle.set_conflicts.specs.declared.domains.Domains.{Domains}
use Rattle.set_conflicts.specs.declared.replay.Replay.{Replay}
use Rattle.set_conflicts.specs.Tied.Domains.{Keeps}
use Rattle.set_conflicts.specs.Tied.Replay.{IsReplay, IsTurn}
use Rattle.set_conflicts.proofs.Kept.{frame-first, keeps-more}

map-same : (t : TableParts) (fs : List Frame) (front : Front) → IsFrontOf t fs front → taken_at front.taken.items ≡ version_pinned nat_cmp (pins_of fs)
map-same t fs front h = λ i n. h.same n i

needed : (t : TableParts) (fs : List Frame) (front : Front) → IsFrontOf t fs front → AreNeeded (rules_of t) (version_pinned nat_cmp (pins_of fs)) front.needed.members
needed t fs front h = subst (λ (s : ℕ → Option ℕ). AreNeeded (rules_of t) s front.needed.members) (map-same t fs front h) h.stands.needed

-- the least free name of a front is the next one
pub front-next : (t : TableParts) (fs : List Frame) (front : Front) (n : ℕ) → IsFrontOf t fs front → IsLeastFree (rules_of t) (taken_at front.taken.items) front.needed.members n → IsNext (rules_of t) (pins_of fs) n
front-next t fs front n h least = least-next (rules_of t) refl (pins_of fs) front.needed.members n (needed t fs front h)
    (subst (λ (s : ℕ → Option ℕ). IsLeastFree (rules_of t) s front.needed.members n) (map-same t fs front h) least)

-- where nothing clashes and no name is free, what is walked is the best solution
pub front-best : (t : TableParts) → in_range t ≡ true → (fs : List Frame) (front : Front) → IsSearch (rules_of t) [] fs → IsFrontOf t fs front → front.clashes ≡ false
    → NoneFree (rules_of t) (taken_at front.taken.items) front.needed.members → IsBest (rules_of t) (version_pinned nat_cmp (pins_of fs))
front-best t known fs front search h fits none =
    let map : ℕ → Option ℕ = version_pinned nat_cmp (pins_of fs) in
    let required : AreRequired (rules_of t) map front.required.members = subst (λ (s : ℕ → Option ℕ). AreRequired (rules_of t) s front.required.members) (map-same t fs front h) h.stands.required in
    let clash : list_any (clash_in (rules_of t) map) front.required.members ≡ false = subst (λ (s : ℕ → Option ℕ). list_any (clash_in (rules_of t) s) front.required.members ≡ false) (map-same t fs front h) (sym h.stands.clashes ∙ fits) in
    search-best (rules_of t) (table-lawful t known) fs search
    (fits-complete (rules_of t) (table-lawful t known) map front.needed.members (needed t fs front h) (required-fits (rules_of t) map front.required.members required clash)
    (subst (λ (s : ℕ → Option ℕ). NoneFree (rules_of t) s front.needed.members) (map-same t fs front h) none))

-- a name more is walked
pub replay-push : (t : TableParts) → in_range t ≡ true → (old new : Replay) (node : ℕ) (f : Frame) → IsReplay t old → IsTurn t old.domains node f.turn → f.name ≡ name_of t node
    → IsNext (rules_of t) (pins_of old.frames.items) f.name → get_or (candidates_of t f.name) f.turn f.place ≡ f.place
    → new.frames.items ≡ old.frames.items ++ f ∷ [] → new.domains ≡ old.domains → IsFront t new.front → TakesFirst old.front.taken.items new.front.taken.items f → IsReplay t new
replay-push t known old new node f replay turn named next place pushed domains front takes = record {
  search = subst (λ (fs : List Frame). IsSearch (rules_of t) [] fs) (sym pushed)
      (IsSearch-push (rules_of t) (table-lawful t known) [] old.frames.items f replay.search (frame-first t (pins_of old.frames.items) old.domains node f replay.keeps turn named next place));
  front = record {
    stands = front;
    same = λ n. same-push old.front.taken.items new.front.taken.items old.frames.items f takes replay.front.same n ∙ ap (λ (fs : List Frame). version_pinned nat_cmp (pins_of fs) n) (sym pushed);
  };
  keeps = subst (λ (l : Domains). Keeps (rules_of t) (pins_of new.frames.items) l) (sym domains)
      (subst (λ ps. Keeps (rules_of t) ps old.domains) (sym (ap pins_of pushed ∙ pins_of-push old.frames.items f)) (keeps-more (rules_of t) (pins_of old.frames.items) (pin_at f ∷ []) old.domains replay.keeps));
}
