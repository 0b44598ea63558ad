-- Splices that are gone over with the places behind them.
use Rattle.std.proofs.Common.{◌≡◌, ◌+◌, ◌-◌, ◌^◌, ◌≤◌, ◌<◌, ◌++◌, append_assoc, append-nil, ℕ, List, [], ◌∷◌, Some, None, length, drop, get_or, sym, ap, ◌∙◌, subst, arith}
use Rattle.std.proofs.lemmas.List.{at_drop_all, drop_more}
use Rattle.std.specs.Prelude.{slice_get}
use Rattle.changes.specs.Changes.{PlacesFit, RiseFrom, back}
use Rattle.changes.specs.Tied.Ends.{DoRise, ends_of, place_behind}
use Rattle.changes.specs.declared.change.ends.Ends.{Ends}
use Rattle.changes.specs.declared.change.parts.Splice.{Splice}
use Rattle.changes.proofs.PlacesHeld.{IsHeldAt, IsHeldAt-min, held-whole, may_go, may_not}

-- the splices that are left rise behind this place of the old lines, and their places fit
pub record GoesOn (end added taken : ℕ) (rest : List Splice) : Type 0 where
  pub apart : RiseFrom (end + 1) rest
  pub places : PlacesFit rest
  pub places_back : PlacesFit (back added taken rest)

-- what is left of the splices, given the places behind those that were gone over
pub record IsLeft (all rest : List Splice) (ends : Ends) : Type 0 where
  pub end : ℕ
  pub added : ℕ
  pub taken : ℕ
  pub least : taken ≤ end
  pub old : IsHeldAt ends.old end
  pub new : IsHeldAt ends.new (end + added - taken)
  pub onward : GoesOn end added taken rest → DoRise all
  pub back : DoRise all → GoesOn end added taken rest

-- behind the first splice
IsLeft-first : (first : Splice) (rest : List Splice) → first.place < 2 ^ 64 → IsLeft (first ∷ rest) rest (ends_of first first.place)
IsLeft-first first rest fits =
    let same : first.place + length first.new ≡ first.place + length first.old + (0 + length first.new) - (0 + length first.old) = omega arith in
    record {
      end = first.place + length first.old;
      added = 0 + length first.new;
      taken = 0 + length first.old;
      least = omega arith;
      old = IsHeldAt-min (first.place + length first.old);
      new = subst (IsHeldAt (ends_of first first.place).new) same (IsHeldAt-min (first.place + length first.new));
      onward = λ g. record {
        apart = (omega arith, g.apart);
        places = (fits, g.places);
        places_back = ((let k : first.place + 0 - 0 < 2 ^ 64 = omega arith in k), g.places_back);
      };
      back = λ d. record { apart = d.apart.1; places = d.places.1; places_back = d.places_back.1 };
    }

-- the place of a splice behind others is that of the splice that leads back
pub IsLeft-place : (all : List Splice) (splice : Splice) (rest : List Splice) (ends : Ends) (place : ℕ) → splice.place < 2 ^ 64 → place_behind ends splice ≡ Some place
    → (left : IsLeft all (splice ∷ rest) ends) → place ≡ splice.place + left.added - left.taken
IsLeft-place all splice rest ends place fits goes left =
    let k = may_go ends.old splice.place (ends.new + (splice.place - ends.old)) (2 ^ 64) place goes in
    let above : ends.old < splice.place = k.0 in
    let room : ends.new + (splice.place - ends.old) < 2 ^ 64 = k.1 in
    let is : ends.new + (splice.place - ends.old) ≡ place = k.2 in
    let whole : ends.old ≡ left.end = held-whole ends.old left.end left.old (omega arith) in
    let whole_new : ends.new ≡ left.end + left.added - left.taken = held-whole ends.new (left.end + left.added - left.taken) left.new (omega arith) in
    let least = left.least in
    omega arith

-- behind one more splice
pub IsLeft-next : (all : List Splice) (splice : Splice) (rest : List Splice) (ends : Ends) (place : ℕ) → splice.place < 2 ^ 64 → place_behind ends splice ≡ Some place
    → IsLeft all (splice ∷ rest) ends → IsLeft all rest (ends_of splice place)
IsLeft-next all splice rest ends place fits goes left =
    let k = may_go ends.old splice.place (ends.new + (splice.place - ends.old)) (2 ^ 64) place goes in
    let above : ends.old < splice.place = k.0 in
    let room : ends.new + (splice.place - ends.old) < 2 ^ 64 = k.1 in
    let is : ends.new + (splice.place - ends.old) ≡ place = k.2 in
    let moved : place ≡ splice.place + left.added - left.taken = IsLeft-place all splice rest ends place fits goes left in
    let whole : ends.old ≡ left.end = held-whole ends.old left.end left.old (omega arith) in
    let least = left.least in
    let same : place + length splice.new ≡ splice.place + length splice.old + (left.added + length splice.new) - (left.taken + length splice.old) = omega arith in
    record {
      end = splice.place + length splice.old;
      added = left.added + length splice.new;
      taken = left.taken + length splice.old;
      least = omega arith;
      old = IsHeldAt-min (splice.place + length splice.old);
      new = subst (IsHeldAt (ends_of splice place).new) same (IsHeldAt-min (place + length splice.new));
      onward = λ g. left.onward (record {
        apart = (omega arith, g.apart);
        places = (fits, g.places);
        places_back = ((let h : splice.place + left.added - left.taken < 2 ^ 64 = omega arith in h), g.places_back);
      });
      back = λ d. let g = left.back d in record { apart = g.apart.1; places = g.places.1; places_back = g.places_back.1 };
    }

-- a splice behind which none may go on
pub IsLeft-stops : (all : List Splice) (splice : Splice) (rest : List Splice) (ends : Ends) → place_behind ends splice ≡ None → IsLeft all (splice ∷ rest) ends → DoRise all → ⊥
IsLeft-stops all splice rest ends stops left rise =
    let g = left.back rise in
    let above : left.end + 1 ≤ splice.place = g.apart.0 in
    let fits : splice.place < 2 ^ 64 = g.places.0 in
    let room : splice.place + left.added - left.taken < 2 ^ 64 = g.places_back.0 in
    let least = left.least in
    let whole : ends.old ≡ left.end = left.old.whole (omega arith) in
    let whole_new : ends.new ≡ left.end + left.added - left.taken = left.new.whole (omega arith) in
    may_not ends.old splice.place (ends.new + (splice.place - ends.old)) (2 ^ 64) stops (omega arith) (omega arith)

-- none is left
IsLeft-done : (all : List Splice) (ends : Ends) → IsLeft all [] ends → DoRise all
IsLeft-done all ends left = left.onward (record { apart = tt; places = tt; places_back = tt })

-- the first of some splices
pub IsLeft-start : (all : List Splice) (first : Splice) → Some first ≡ slice_get all 0 → first.place < 2 ^ 64 → IsLeft all (drop 1 all) (ends_of first first.place)
IsLeft-start [] first is fits = absurd (cc is)
IsLeft-start (s ∷ rest) first is fits =
    let same : first ≡ s = cc is in
    subst (λ (all : Splice). IsLeft (all ∷ rest) rest (ends_of first first.place)) same (IsLeft-first first rest fits)

-- the splice at a place
pub IsLeft-at : (all : List Splice) (place : ℕ) (splice : Splice) (ends : Ends) → place < length all → splice ≡ get_or all place splice → IsLeft all (drop place all) ends
    → IsLeft all (splice ∷ drop (place + 1) all) ends
IsLeft-at all place splice ends within is left = subst (λ (l : List Splice). IsLeft all l ends) (drop_more all place splice within ∙ ap (λ (t : Splice). t ∷ drop (place + 1) all) (sym is)) left

-- the end of the splices
pub IsLeft-end : (all : List Splice) (place : ℕ) (ends : Ends) → length all ≤ place → IsLeft all (drop place all) ends → DoRise all
IsLeft-end all place ends past left = IsLeft-done all ends (subst (λ (l : List Splice). IsLeft all l ends) (at_drop_all (λ (l : List Splice). l) all place past) left)

-- the splices back as far as they are made, with those that are left
pub record IsBackTo (all rest : List Splice) (ends : Ends) (made : List Splice) : Type 0 where
  pub left : IsLeft all rest ends
  pub whole : made ++ back left.added left.taken rest ≡ back 0 0 all

pub IsBackTo-start : (all : List Splice) (first : Splice) → Some first ≡ slice_get all 0 → first.place < 2 ^ 64
    → IsBackTo all (drop 1 all) (ends_of first first.place) (record { place = first.place; old = first.new; new = first.old } ∷ [])
unfolding IsLeft-first
IsBackTo-start [] first is fits = absurd (cc is)
IsBackTo-start (s ∷ rest) first is fits =
    let same : first ≡ s = cc is in
    let place : first.place ≡ first.place + 0 - 0 = omega arith in
    subst (λ (t : Splice). IsBackTo (t ∷ rest) rest (ends_of first first.place) (record { place = first.place; old = first.new; new = first.old } ∷ [])) same (record {
      left = IsLeft-first first rest fits;
      whole = λ i. record { place = place i; old = first.new; new = first.old } ∷ back (0 + length first.new) (0 + length first.old) rest;
    })

-- one more splice
pub IsBackTo-next : (all : List Splice) (at : ℕ) (splice : Splice) (ends : Ends) (place : ℕ) (made : List Splice) → at < length all → splice ≡ get_or all at splice
    → splice.place < 2 ^ 64 → place_behind ends splice ≡ Some place → IsBackTo all (drop at all) ends made
    → IsBackTo all (drop (at + 1) all) (ends_of splice place) (made ++ record { place = place; old = splice.new; new = splice.old } ∷ [])
unfolding IsLeft-next
IsBackTo-next all at splice ends place made within is fits goes to =
    let here = subst (λ (l : List Splice). IsBackTo all l ends made) (drop_more all at splice within ∙ ap (λ (t : Splice). t ∷ drop (at + 1) all) (sym is)) to in
    let moved = IsLeft-place all splice (drop (at + 1) all) ends place fits goes here.left in
    record {
      left = IsLeft-next all splice (drop (at + 1) all) ends place fits goes here.left;
      whole =
          append_assoc made (record { place = place; old = splice.new; new = splice.old } ∷ []) (back (here.left.added + length splice.new) (here.left.taken + length splice.old) (drop (at + 1) all))
          ∙ (λ i. made ++ (record { place = moved i; old = splice.new; new = splice.old } ∷ back (here.left.added + length splice.new) (here.left.taken + length splice.old) (drop (at + 1) all)))
          ∙ here.whole;
    }

-- there is always a place
pub IsBackTo-stops : (all : List Splice) (at : ℕ) (splice : Splice) (ends : Ends) (made : List Splice) → at < length all → splice ≡ get_or all at splice
    → place_behind ends splice ≡ None → IsBackTo all (drop at all) ends made → DoRise all → ⊥
IsBackTo-stops all at splice ends made within is stops to rise =
    IsLeft-stops all splice (drop (at + 1) all) ends stops (IsLeft-at all at splice ends within is to.left) rise

-- all splices back
pub IsBackTo-end : (all : List Splice) (at : ℕ) (ends : Ends) (made : List Splice) → length all ≤ at → IsBackTo all (drop at all) ends made → made ≡ back 0 0 all
IsBackTo-end all at ends made past to =
    let done = subst (λ (l : List Splice). IsBackTo all l ends made) (at_drop_all (λ (l : List Splice). l) all at past) to in
    sym (append-nil made) ∙ done.whole
