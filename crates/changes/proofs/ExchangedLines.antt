-- Lines that splices exchange in place, from the last splice on.
use Rattle.std.proofs.Common.{◌≡◌, ◌+◌, ◌-◌, ◌≤◌, ◌<◌, ℕ, List, [], ◌∷◌, ◌++◌, length, take, drop, get_or, refl, sym, ap, ◌∙◌, subst, arith, append_assoc, append-nil, drop_of_length-le, take-add}
use Rattle.std.proofs.lemmas.List.{drop-append-le, drop-drop, drop-take, drop_more, length-append, length-drop, length-take-le, take-append-drop, take-append-le, take_more}
use Rattle.std.proofs.lemmas.List.Concat.{flat_map-append}
use Rattle.std.proofs.Math.Seq.{drop_at, take-append_seam, take_at}
use Rattle.lists.proofs.Members.{take-whole}
use Rattle.changes.specs.Changes.{RiseFrom, Splices}
use Rattle.changes.specs.Tied.SplicedLines.{IsExchangedFrom, LeadOn, put_by}
use Rattle.changes.specs.declared.change.parts.Splice.{Splice}
use Rattle.changes.proofs.SplicedFacts.{length-front, parts_of}

-- ---- one of the splices

-- the old lines of a splice stand in its place, behind this one
pub record IsThere (from : ℕ) (splice : Splice) (old : List (List ℕ)) : Type 0 where
  pub behind : from ≤ splice.place
  pub within : splice.place - from + length splice.old ≤ length old
  pub stands : take (length splice.old) (drop (splice.place - from) old) ≡ splice.old

there-first : (from : ℕ) (splice : Splice) (rest : List Splice) (old new : List (List ℕ)) → Splices from (splice ∷ rest) old new → IsThere from splice old
there-first from splice rest old new at =
    let place = at.place in
    let n = splice.place - from in
    let size : n ≡ length at.kept = omega arith in
    let parts = parts_of n old at.kept splice.old at.old_rest size at.stood in
    let total : length old ≡ length at.kept + length splice.old + length at.old_rest = ap length at.stood ∙ length-append (at.kept ++ splice.old) at.old_rest ∙ ap (λ (k : ℕ). k + length at.old_rest) (length-append at.kept splice.old) in
    record {
      behind = omega arith;
      within = omega arith;
      stands = ap (λ (l : List (List ℕ)). take (length splice.old) l) parts.1 ∙ take-append_seam splice.old at.old_rest;
    }

-- it stands there whatever splices are in front
pub there-each : (from : ℕ) (front : List Splice) (splice : Splice) (behind : List Splice) (old new : List (List ℕ)) → Splices from (front ++ splice ∷ behind) old new → IsThere from splice old
there-each from [] splice behind old new at = there-first from splice behind old new at
there-each from (t ∷ front) splice behind old new at =
    let place = at.place in
    let k = t.place - from + length t.old in
    let end = t.place + length t.old in
    let size : t.place - from ≡ length at.kept = omega arith in
    let parts = parts_of (t.place - from) old at.kept t.old at.old_rest size at.stood in
    let more = there-each end front splice behind at.old_rest at.new_rest at.rest in
    let later = more.behind in
    let fits = more.within in
    let rest : drop k old ≡ at.old_rest = parts.2 in
    let far : k + (splice.place - end) ≡ splice.place - from = omega arith in
    let here : drop (splice.place - end) at.old_rest ≡ drop (splice.place - from) old =
    ap (λ (l : List (List ℕ)). drop (splice.place - end) l) (sym rest) ∙ drop-drop (splice.place - end) k old ∙ ap (λ (n : ℕ). drop n old) far in
    let left : length at.old_rest ≡ length old - k = ap length (sym rest) ∙ length-drop k old in
    let total : length old ≡ length at.kept + length t.old + length at.old_rest = ap length at.stood ∙ length-append (at.kept ++ t.old) at.old_rest ∙ ap (λ (m : ℕ). m + length at.old_rest) (length-append at.kept t.old) in
    record {
      behind = omega arith;
      within = omega arith;
      stands = ap (λ (l : List (List ℕ)). take (length splice.old) l) (sym here) ∙ more.stands;
    }

pub rise-behind : (from : ℕ) (front : List Splice) (splice : Splice) (behind : List Splice) → RiseFrom from (front ++ splice ∷ behind) → RiseFrom (splice.place + length splice.old + 1) behind
rise-behind from [] splice behind rise = rise.1
rise-behind from (t ∷ front) splice behind rise = rise-behind (t.place + length t.old + 1) front splice behind rise.1

-- ---- lines in front of all splices

-- lines in front of splices stay
front-same : (n from : ℕ) (splices : List Splice) (old new : List (List ℕ)) → n ≤ from → RiseFrom from splices → Splices 0 splices old new → take n old ≡ take n new
front-same n from [] old new near rise at = ap (λ (l : List (List ℕ)). take n l) at
front-same n from (t ∷ rest) old new near rise at =
    let place = at.place in
    let above = rise.0 in
    let room : n ≤ length at.kept = omega arith in
    let kept = λ (put behind : List (List ℕ)). ap (λ (l : List (List ℕ)). take n l) (append_assoc at.kept put behind) ∙ take-append-le n at.kept (put ++ behind) room in
    ap (λ (l : List (List ℕ)). take n l) at.stood ∙ kept t.old at.old_rest ∙ sym (ap (λ (l : List (List ℕ)). take n l) at.stands ∙ kept t.new at.new_rest)

-- and those behind a place in front of splices are led by them
behind-led : (n from : ℕ) (splices : List Splice) (old new : List (List ℕ)) → n ≤ from → RiseFrom from splices → Splices 0 splices old new → Splices n splices (drop n old) (drop n new)
behind-led n from [] old new near rise at = ap (λ (l : List (List ℕ)). drop n l) at
behind-led n from (t ∷ rest) old new near rise at =
    let place = at.place in
    let above = rise.0 in
    let room : n ≤ length at.kept = omega arith in
    let cut = λ (put behind : List (List ℕ)). ap (λ (l : List (List ℕ)). drop n l) (append_assoc at.kept put behind) ∙ drop-append-le n at.kept (put ++ behind) room ∙ sym (append_assoc (drop n at.kept) put behind) in
    let size = length-drop n at.kept in
    record {
      kept = drop n at.kept;
      old_rest = at.old_rest;
      new_rest = at.new_rest;
      place = omega arith;
      stood = ap (λ (l : List (List ℕ)). drop n l) at.stood ∙ cut t.old at.old_rest;
      stands = ap (λ (l : List (List ℕ)). drop n l) at.stands ∙ cut t.new at.new_rest;
      rest = at.rest;
    }

-- ---- one splice more, in front of those that are done

module _ (splice : Splice) (behind : List Splice) (lines now : List (List ℕ)) (there : IsThere 0 splice lines) (rise : RiseFrom (splice.place + length splice.old + 1) behind) (led : Splices 0 behind lines now) where
  same : take (splice.place + length splice.old) lines ≡ take (splice.place + length splice.old) now
  same = front-same (splice.place + length splice.old) (splice.place + length splice.old + 1) behind lines now (omega arith) rise led

  -- its old lines are within what stands now
  pub fits-now : splice.place + length splice.old ≤ length now
  fits-now =
      let within = there.within in
      let end = splice.place + length splice.old in
      let front = length-take-le end lines (let fits : end ≤ length lines = omega arith in fits) in
      let most = length-front end now in
      let sizes : length (take end lines) ≡ length (take end now) = ap length same in
      omega arith

  -- and stand there
  front-now : take (splice.place + length splice.old) now ≡ take splice.place now ++ splice.old
  front-now =
      let n = splice.place in
      let m = length splice.old in
      let zero_off : n - 0 ≡ n = omega arith in
      let stood : take m (drop n lines) ≡ splice.old = ap (λ (k : ℕ). take m (drop k lines)) (sym zero_off) ∙ there.stands in
      let here : take m (drop n now) ≡ splice.old = sym (drop-take n m now) ∙ ap (λ (l : List (List ℕ)). drop n l) (sym same) ∙ drop-take n m lines ∙ stood in
      take-add n m now ∙ ap (λ (l : List (List ℕ)). take n now ++ l) here

  pub one-splice : Splices 0 (splice ∷ behind) lines (take splice.place now ++ splice.new ++ drop (splice.place + length splice.old) now)
  one-splice =
      let end = splice.place + length splice.old in
      let fits = fits-now in
      let size = length-take-le splice.place now (let k : splice.place ≤ length now = omega arith in k) in
      record {
        kept = take splice.place now;
        old_rest = drop end lines;
        new_rest = drop end now;
        place = omega arith;
        stood = sym (take-append-drop end lines) ∙ ap (λ (l : List (List ℕ)). l ++ drop end lines) (same ∙ front-now);
        stands = refl;
        rest = behind-led end (splice.place + length splice.old + 1) behind lines now (omega arith) rise led;
      }

-- ---- as the loop has it

-- the splice at a place cuts the list of them
split-there : (all : List Splice) (place : ℕ) (splice : Splice) → place < length all → splice ≡ get_or all place splice → all ≡ take place all ++ splice ∷ drop (place + 1) all
split-there all place splice within is =
    sym (take-append-drop place all) ∙ ap (λ (l : List Splice). take place all ++ l) (drop_more all place splice within ∙ ap (λ (s : Splice). s ∷ drop (place + 1) all) (sym is))

-- what splices put in up to a place, and what the next one does
pub put-more : (all : List Splice) (place : ℕ) (splice : Splice) → place < length all → splice ≡ get_or all place splice → put_by (take (place + 1) all) ≡ put_by (take place all) ++ splice.new
put-more all place splice within is =
    let f = λ (s : Splice). s.new in
    ap put_by (take_more all place splice within ∙ ap (λ (s : Splice). take place all ++ s ∷ []) (sym is))
    ∙ flat_map-append f (take place all) (splice ∷ []) ∙ ap (λ (l : List (List ℕ)). put_by (take place all) ++ l) (append-nil splice.new)

pub IsExchangedFrom-start : (all : List Splice) (lines : List (List ℕ)) (left : ℕ) → left ≡ length all → IsExchangedFrom all lines left lines (put_by all)
IsExchangedFrom-start all lines left is =
    let most : length all ≤ left = omega arith in
    record {
      led = subst (λ (l : List Splice). Splices 0 l lines lines) (sym (drop_of_length-le all most)) refl;
      put_is = ap put_by (sym (take-whole all left most));
    }

module _ (all : List Splice) (lines : List (List ℕ)) (done place : ℕ) (splice : Splice) (after put : List (List ℕ)) (rise : RiseFrom 0 all) (leads : LeadOn all lines)
    (within : done < length all) (place_is : place ≡ length all - 1 - done) (is : splice ≡ get_or all place splice) (so_far : IsExchangedFrom all lines (length all - done) after put) where
  whole : all ≡ take place all ++ splice ∷ drop (place + 1) all
  whole = split-there all place splice (omega arith) is

  there : IsThere 0 splice lines
  there = there-each 0 (take place all) splice (drop (place + 1) all) lines leads.0 (subst (λ (l : List Splice). Splices 0 l lines leads.0) whole leads.1)

  rise-later : RiseFrom (splice.place + length splice.old + 1) (drop (place + 1) all)
  rise-later = rise-behind 0 (take place all) splice (drop (place + 1) all) (subst (RiseFrom 0) whole rise)

  led : Splices 0 (drop (place + 1) all) lines after
  led = let n : length all - done ≡ place + 1 = omega arith in subst (λ (k : ℕ). Splices 0 (drop k all) lines after) n so_far.led

  -- its old lines are within those that stand now
  pub room : splice.place + length splice.old ≤ length after
  room = fits-now splice (drop (place + 1) all) lines after there rise-later led

  put-cut : put ≡ put_by (take place all) ++ splice.new
  put-cut = let n : length all - done ≡ place + 1 = omega arith in so_far.put_is ∙ ap (λ (k : ℕ). put_by (take k all)) n ∙ put-more all place splice (omega arith) is

  put-length : length put ≡ length (put_by (take place all)) + length splice.new
  put-length = ap length put-cut ∙ length-append (put_by (take place all)) splice.new

  pub put-room : length splice.new ≤ length put
  put-room = let n = put-length in omega arith

  -- the last of the lines that are left to be put in are its own
  pub put-last : drop (length put - length splice.new) put ≡ splice.new
  put-last =
      let n : length (put_by (take place all)) ≡ length put - length splice.new = let m = put-length in omega arith in
      ap (λ (l : List (List ℕ)). drop (length put - length splice.new) l) put-cut ∙ drop_at (put_by (take place all)) splice.new (length put - length splice.new) n

  pub IsExchangedFrom-next : IsExchangedFrom all lines (length all - (done + 1)) (take splice.place after ++ splice.new ++ drop (splice.place + length splice.old) after) (take (length put - length splice.new) put)
  IsExchangedFrom-next =
      let n : length (put_by (take place all)) ≡ length put - length splice.new = let m = put-length in omega arith in
      let left : place ≡ length all - (done + 1) = omega arith in
      let below : place < length all = omega arith in
      let next : splice ∷ drop (place + 1) all ≡ drop place all = ap (λ (s : Splice). s ∷ drop (place + 1) all) is ∙ sym (drop_more all place splice below) in
      let front : take (length put - length splice.new) put ≡ put_by (take place all) =
      ap (λ (l : List (List ℕ)). take (length put - length splice.new) l) put-cut ∙ take_at (put_by (take place all)) splice.new (length put - length splice.new) n in
      let exchanged = take splice.place after ++ splice.new ++ drop (splice.place + length splice.old) after in
      record {
        led = subst (λ (k : ℕ). Splices 0 (drop k all) lines exchanged) left (subst (λ (l : List Splice). Splices 0 l lines exchanged) next
            (one-splice splice (drop (place + 1) all) lines after there rise-later led));
        put_is = front ∙ ap (λ (k : ℕ). put_by (take k all)) left;
      }

pub IsExchangedFrom-done : (all : List Splice) (lines : List (List ℕ)) (done : ℕ) (after put : List (List ℕ)) → length all ≤ done → IsExchangedFrom all lines (length all - done) after put → Splices 0 all lines after
IsExchangedFrom-done all lines done after put past so_far =
    let none : length all - done ≡ 0 = omega arith in subst (λ (k : ℕ). Splices 0 (drop k all) lines after) none so_far.led
