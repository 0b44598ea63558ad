-- Lines that splices lead to, as they are put together.
use Rattle.std.proofs.Common.{◌≡◌, ◌+◌, ◌-◌, ◌≤◌, ◌<◌, ℕ, List, [], ◌∷◌, ◌++◌, length, take, drop, get_or, refl, sym, ap, ◌∙◌, subst, arith, append_assoc, append-nil}
use Rattle.std.proofs.lemmas.List.{at_drop_all, drop-drop, drop_more, length-append, length-drop, length-take, length-take-le, take-append-drop, take_more}
use Rattle.std.proofs.lemmas.List.Concat.{flat_map-append}
use Rattle.std.proofs.Math.Seq.{drop-append_seam, take-append_seam, take-length}
use Rattle.std.proofs.Math.Nat.{min-le_right}
use Rattle.lists.proofs.Members.{take-whole}
use Rattle.changes.specs.Changes.{AtSplice, Splices}
use Rattle.changes.specs.Tied.SplicedLines.{LeadOn, LeadToNone, StandsAt, gone_by}
use Rattle.changes.specs.declared.change.parts.Splice.{Splice}

-- lines as far as they are put together: the new lines so far, and the place from which the old ones go on
pub record IsSplicedTo (all rest : List Splice) (lines : List (List ℕ)) (from : ℕ) (after : List (List ℕ)) : Type 0 where
  pub within : from ≤ length lines
  pub onward : (tail : List (List ℕ)) → Splices from rest (drop from lines) tail → Splices 0 all lines (after ++ tail)
  pub back : (new : List (List ℕ)) → Splices 0 all lines new → (tail : List (List ℕ)) × (new ≡ after ++ tail) × Splices from rest (drop from lines) tail

pub IsSplicedTo-start : (all : List Splice) (lines : List (List ℕ)) → IsSplicedTo all all lines 0 []
IsSplicedTo-start all lines = record { within = omega arith; onward = λ tail s. s; back = λ new s. (new, refl, s) }

-- ---- parts of lists

-- the parts of a list that is put together of three
pub parts_of : {X : Type 0} (n : ℕ) (xs kept old rest : List X) → n ≡ length kept → xs ≡ kept ++ old ++ rest → (take n xs ≡ kept) × (drop n xs ≡ old ++ rest) × (drop (n + length old) xs ≡ rest)
parts_of n xs kept old rest h e =
    let whole : xs ≡ kept ++ (old ++ rest) = e ∙ append_assoc kept old rest in
    let size : n + length old ≡ length (kept ++ old) = ap (λ (k : ℕ). k + length old) h ∙ sym (length-append kept old) in (
      (λ i. take (h i) (whole i)) ∙ take-append_seam kept (old ++ rest),
      (λ i. drop (h i) (whole i)) ∙ drop-append_seam kept (old ++ rest),
      (λ i. drop (size i) (e i)) ∙ drop-append_seam (kept ++ old) rest,
    )

-- where old lines stand in their place, the lines are those before it, the old ones and those behind
stood-at : (lines : List (List ℕ)) (from : ℕ) (splice : Splice) → StandsAt lines from splice
    → drop from lines ≡ take (splice.place - from) (drop from lines) ++ splice.old ++ drop (splice.place + length splice.old) lines
stood-at lines from splice stands =
    let n = splice.place - from in
    let behind = stands.behind in
    let place : from + n ≡ splice.place = omega arith in
    let rest : drop n (drop from lines) ≡ drop splice.place lines = drop-drop n from lines ∙ ap (λ (k : ℕ). drop k lines) place in
    let cut : drop splice.place lines ≡ splice.old ++ drop (splice.place + length splice.old) lines =
    sym (take-append-drop (length splice.old) (drop splice.place lines)) ∙ (λ i. stands.old i ++ drop-drop (length splice.old) splice.place lines i) in
    sym (take-append-drop n (drop from lines)) ∙ ap (λ (l : List (List ℕ)). take n (drop from lines) ++ l) (rest ∙ cut) ∙ sym (append_assoc (take n (drop from lines)) splice.old (drop (splice.place + length splice.old) lines))

kept-length : (lines : List (List ℕ)) (from : ℕ) (splice : Splice) → StandsAt lines from splice → length (take (splice.place - from) (drop from lines)) ≡ splice.place - from
kept-length lines from splice stands =
    let behind = stands.behind in
    let within = stands.within in
    let room : splice.place - from ≤ length (drop from lines) = omega (arith, length-drop from lines) in
    length-take-le (splice.place - from) (drop from lines) room

pub length-front : {X : Type 0} (n : ℕ) (xs : List X) → length (take n xs) ≤ length xs
length-front n xs = let e = length-take n xs in let h = min-le_right n (length xs) in omega arith

old-fits : (lines : List (List ℕ)) (from : ℕ) (splice : Splice) → StandsAt lines from splice → splice.place + length splice.old ≤ length lines
old-fits lines from splice stands =
    let within = stands.within in
    let size : length (take (length splice.old) (drop splice.place lines)) ≡ length splice.old = ap length stands.old in
    let most : length (take (length splice.old) (drop splice.place lines)) ≤ length (drop splice.place lines) = length-front (length splice.old) (drop splice.place lines) in
    omega (arith, length-drop splice.place lines)

-- old lines that a splice leads from stand in their place
stands-from : (lines : List (List ℕ)) (from : ℕ) (splice : Splice) (rest : List Splice) (tail : List (List ℕ)) → from ≤ length lines → Splices from (splice ∷ rest) (drop from lines) tail → StandsAt lines from splice
stands-from lines from splice rest tail least at =
    let n = splice.place - from in
    let place = at.place in
    let size : n ≡ length at.kept = omega arith in
    let parts = parts_of n (drop from lines) at.kept splice.old at.old_rest size at.stood in
    let behind : from + n ≡ splice.place = omega arith in
    let here : drop splice.place lines ≡ splice.old ++ at.old_rest = ap (λ (k : ℕ). drop k lines) (sym behind) ∙ sym (drop-drop n from lines) ∙ parts.1 in
    let total : length (drop from lines) ≡ length at.kept + length splice.old + length at.old_rest = ap length at.stood ∙ length-append (at.kept ++ splice.old) at.old_rest ∙ ap (λ (k : ℕ). k + length at.old_rest) (length-append at.kept splice.old) in
    record {
      behind = omega arith;
      within = omega (arith, length-drop from lines);
      old = ap (λ (l : List (List ℕ)). take (length splice.old) l) here ∙ take-append_seam splice.old at.old_rest;
    }

-- what comes back is one more splice too
one-back : (all : List Splice) (splice : Splice) (rest : List Splice) (lines : List (List ℕ)) (from : ℕ) (after : List (List ℕ)) → StandsAt lines from splice → (new : List (List ℕ))
    → (tail : List (List ℕ)) × (new ≡ after ++ tail) × Splices from (splice ∷ rest) (drop from lines) tail
    → ((tail : List (List ℕ)) → after ++ (take (splice.place - from) (drop from lines) ++ splice.new ++ tail) ≡ after ++ take (splice.place - from) (drop from lines) ++ splice.new ++ tail)
    → (tail : List (List ℕ)) × (new ≡ after ++ take (splice.place - from) (drop from lines) ++ splice.new ++ tail) × Splices (splice.place + length splice.old) rest (drop (splice.place + length splice.old) lines) tail
one-back all splice rest lines from after stands new b joined =
    let at : AtSplice from splice (λ place. Splices place rest) (drop from lines) b.0 = b.2 in
    let n = splice.place - from in
    let place = at.place in
    let behind = stands.behind in
    let size : n ≡ length at.kept = omega arith in
    let parts = parts_of n (drop from lines) at.kept splice.old at.old_rest size at.stood in
    let end : from + (n + length splice.old) ≡ splice.place + length splice.old = omega arith in
    let next : drop (splice.place + length splice.old) lines ≡ at.old_rest = ap (λ (k : ℕ). drop k lines) (sym end) ∙ sym (drop-drop (n + length splice.old) from lines) ∙ parts.2 in
    let whole : b.0 ≡ take n (drop from lines) ++ splice.new ++ at.new_rest = at.stands ∙ ap (λ (l : List (List ℕ)). l ++ splice.new ++ at.new_rest) (sym parts.0) in (
      at.new_rest,
      b.1 ∙ ap (λ (l : List (List ℕ)). after ++ l) whole ∙ joined at.new_rest,
      subst (λ (l : List (List ℕ)). Splices (splice.place + length splice.old) rest l at.new_rest) (sym next) at.rest,
    )

-- one more splice
pub IsSplicedTo-next : (all : List Splice) (splice : Splice) (rest : List Splice) (lines : List (List ℕ)) (from : ℕ) (after : List (List ℕ)) → StandsAt lines from splice
    → IsSplicedTo all (splice ∷ rest) lines from after
    → IsSplicedTo all rest lines (splice.place + length splice.old) (after ++ take (splice.place - from) (drop from lines) ++ splice.new)
IsSplicedTo-next all splice rest lines from after stands left =
    let n = splice.place - from in
    let kept = take n (drop from lines) in
    let behind = stands.behind in
    let size = kept-length lines from splice stands in
    let joined : (tail : List (List ℕ)) → after ++ (kept ++ splice.new ++ tail) ≡ after ++ kept ++ splice.new ++ tail = λ tail.
    ap (λ (l : List (List ℕ)). after ++ l) (append_assoc kept splice.new tail) ∙ sym (append_assoc after kept (splice.new ++ tail)) ∙ sym (append_assoc (after ++ kept) splice.new tail) in
    record {
      within = old-fits lines from splice stands;
      onward = λ tail s. subst (λ (new : List (List ℕ)). Splices 0 all lines new) (joined tail) (left.onward (kept ++ splice.new ++ tail) (record {
        kept = kept;
        old_rest = drop (splice.place + length splice.old) lines;
        new_rest = tail;
        place = omega arith;
        stood = stood-at lines from splice stands;
        stands = refl;
        rest = s;
      }));
      back = λ new s. one-back all splice rest lines from after stands new (left.back new s) joined;
    }

-- what stands behind a place is all that is left there
pub all_behind : {X : Type 0} (n : ℕ) (xs : List X) → take (length xs - n) (drop n xs) ≡ drop n xs
all_behind n xs = ap (λ (k : ℕ). take k (drop n xs)) (sym (length-drop n xs)) ∙ take-length (drop n xs)

-- a splice whose old lines don't stand in their place
pub IsSplicedTo-stops : (all : List Splice) (splice : Splice) (rest : List Splice) (lines : List (List ℕ)) (from : ℕ) (after : List (List ℕ)) → (StandsAt lines from splice → ⊥)
    → IsSplicedTo all (splice ∷ rest) lines from after → LeadToNone all lines
IsSplicedTo-stops all splice rest lines from after stops left = λ new s.
    let b = left.back new s in
    stops (stands-from lines from splice rest b.0 left.within b.2)

-- no splice is left
pub IsSplicedTo-done : (all : List Splice) (lines : List (List ℕ)) (from : ℕ) (after : List (List ℕ)) → IsSplicedTo all [] lines from after → LeadOn all lines
IsSplicedTo-done all lines from after left = (after ++ drop from lines, left.onward (drop from lines) refl)

-- the splice at a place
pub IsSplicedTo-at : (all : List Splice) (place : ℕ) (splice : Splice) (lines : List (List ℕ)) (from : ℕ) (after : List (List ℕ)) → place < length all → splice ≡ get_or all place splice
    → IsSplicedTo all (drop place all) lines from after → IsSplicedTo all (splice ∷ drop (place + 1) all) lines from after
IsSplicedTo-at all place splice lines from after within is left =
    subst (λ (l : List Splice). IsSplicedTo all l lines from after) (drop_more all place splice within ∙ ap (λ (t : Splice). t ∷ drop (place + 1) all) (sym is)) left

-- the end of the splices
pub IsSplicedTo-end : (all : List Splice) (place : ℕ) (lines : List (List ℕ)) (from : ℕ) (after : List (List ℕ)) → length all ≤ place → IsSplicedTo all (drop place all) lines from after
    → IsSplicedTo all [] lines from after
IsSplicedTo-end all place lines from after past left = subst (λ (l : List Splice). IsSplicedTo all l lines from after) (at_drop_all (λ (l : List Splice). l) all place past) left

-- ---- the lines that give way

-- splices so far lead on, and these lines give way to them
pub record AreGoneTo (all : List Splice) (place : ℕ) (lines : List (List ℕ)) (from : ℕ) (gone : List (List ℕ)) : Type 0 where
  pub after : List (List ℕ)
  pub so_far : IsSplicedTo all (drop place all) lines from after
  pub gone_is : gone ≡ gone_by (take place all)

pub AreGoneTo-start : (all : List Splice) (lines : List (List ℕ)) → AreGoneTo all 0 lines 0 []
AreGoneTo-start all lines = record { after = []; so_far = IsSplicedTo-start all lines; gone_is = refl }

module _ (all : List Splice) (place : ℕ) (splice : Splice) (lines : List (List ℕ)) (from : ℕ) (gone : List (List ℕ)) (within : place < length all) (is : splice ≡ get_or all place splice) (are : AreGoneTo all place lines from gone) where
  pub AreGoneTo-stops : (StandsAt lines from splice → ⊥) → LeadToNone all lines
  AreGoneTo-stops stops = IsSplicedTo-stops all splice (drop (place + 1) all) lines from are.after stops (IsSplicedTo-at all place splice lines from are.after within is are.so_far)

  -- the old lines of the splice, as they stand there
  pub AreGoneTo-next : (more : List (List ℕ)) → more ≡ take (splice.place + length splice.old - splice.place) (drop splice.place lines) → StandsAt lines from splice
      → AreGoneTo all (place + 1) lines (splice.place + length splice.old) (gone ++ more)
  AreGoneTo-next more more_is stands =
      let count : splice.place + length splice.old - splice.place ≡ length splice.old = omega arith in
      let old : more ≡ splice.old = more_is ∙ ap (λ (k : ℕ). take k (drop splice.place lines)) count ∙ stands.old in
      let f = λ (s : Splice). s.old in
      let one : gone_by (take (place + 1) all) ≡ gone_by (take place all) ++ splice.old =
      ap gone_by (take_more all place splice within ∙ ap (λ (s : Splice). take place all ++ s ∷ []) (sym is))
      ∙ flat_map-append f (take place all) (splice ∷ []) ∙ ap (λ (l : List (List ℕ)). gone_by (take place all) ++ l) (append-nil splice.old) in
      record {
        after = are.after ++ take (splice.place - from) (drop from lines) ++ splice.new;
        so_far = IsSplicedTo-next all splice (drop (place + 1) all) lines from are.after stands (IsSplicedTo-at all place splice lines from are.after within is are.so_far);
        gone_is = (λ i. are.gone_is i ++ old i) ∙ sym one;
      }

  -- they are within the lines
  pub gone-within : StandsAt lines from splice → splice.place + length splice.old ≤ length lines
  gone-within stands = old-fits lines from splice stands

pub AreGoneTo-done : (all : List Splice) (place : ℕ) (lines : List (List ℕ)) (from : ℕ) (gone : List (List ℕ)) → length all ≤ place → AreGoneTo all place lines from gone → (gone ≡ gone_by all) × LeadOn all lines
AreGoneTo-done all place lines from gone past are = (
  are.gone_is ∙ ap gone_by (take-whole all place past),
  IsSplicedTo-done all lines from are.after (IsSplicedTo-end all place lines from are.after past are.so_far),
)
