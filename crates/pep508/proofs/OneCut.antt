-- A line has one cut: its slices.
use Rattle.std.proofs.Common.{◌≡◌, ℕ, suc, ◌+◌, ◌-◌, ◌<◌, ◌∙◌, ◌==◌, not, Bool, true, false, cond, eqb, List, [], ◌∷◌, ◌++◌, length, get_or, take, drop, refl, ap, sym, inl, inr, arith}
use Rattle.std.proofs.lemmas.Bool.{cases_Bool, eqb-true}
use Rattle.std.proofs.lemmas.Bool.Decides.{nat_tests}
use Rattle.std.proofs.lemmas.List.{append-nil, append_assoc, append_cancel_left, append_cancel_right, drop_at, get_or-append-add, length-append, take-append-drop, take_all, take_at}
use Rattle.std.proofs.lemmas.List.Folds.{list_all-append}
use Rattle.std.specs.Cmp.{first_so, second_so}
use Rattle.std.specs.List.{list_all, prefix_len, take_while}
use Rattle.markers.specs.Names.{is_name_byte}
use Rattle.pep508.specs.Parts.{begins_with, before_comment, comment_of, comment_place, content_of, ending_of, is_space_or_tab, lead_of, place_of, tail_of, trim_end, trim_start}
use Rattle.pep508.specs.Slices.{IsCut, IsExtrasSlice, IsMarkerSlice, IsVersionSlice, Slices, asking, behind, behind_extras, extras_gap, extras_part, has_extras, joined, marker_field, slices_of, slices_with, version_field}
use Rattle.pep508.proofs.Runs.{Stops, before_end, behind_front, end_is, front_cut, front_is, front_passes, run_front}

-- ---- places

-- a byte that doesn't stand in front, and begins what follows
pub place_behind : (byte : ℕ) (xs ys : List ℕ) → list_all (λ b. not (b == byte)) xs ≡ true → begins_with byte ys ≡ true → place_of byte (xs ++ ys) ≡ length xs
place_behind byte xs [] all begins = run_front (λ b. not (b == byte)) xs [] all tt
place_behind byte xs (y ∷ ys) all begins = run_front (λ b. not (b == byte)) xs (y ∷ ys) all (rw begins refl)

-- a byte that stands nowhere
pub place_nowhere : (byte : ℕ) (xs : List ℕ) → list_all (λ b. not (b == byte)) xs ≡ true → place_of byte xs ≡ length xs
place_nowhere byte xs all = rw (append-nil xs) at (run_front (λ b. not (b == byte)) xs [] all tt)

-- a byte that stands in front
pub place_before : (byte : ℕ) (xs ys : List ℕ) → place_of byte xs < length xs → place_of byte (xs ++ ys) ≡ place_of byte xs
place_before byte [] ys within = absurd (omega arith)
place_before byte (x ∷ xs) ys within = elim (cases_Bool (eqb x byte)) [
  | inl here ↦ rw here refl
  | inr other ↦
      let shorter : place_of byte xs < length xs = let w = rw other at within in omega (arith, w) in
      rw other (ap (λ n. 1 + n) (place_before byte xs ys shorter))
]

-- the last byte of what follows is the last of all
pub last_behind : (xs ys : List ℕ) → 0 < length ys → get_or (xs ++ ys) (length (xs ++ ys) - 1) 0 ≡ get_or ys (length ys - 1) 0
last_behind xs ys some =
    let n : length (xs ++ ys) - 1 ≡ length xs + (length ys - 1) = omega (arith, length-append xs ys) in
    rw n (get_or-append-add xs ys (length ys - 1) 0)

-- ---- the version's field

-- a gap, a version part and the space behind it
pub record IsField (gap version tail : List ℕ) : Type 0 where
  pub before : trim_end (gap ++ (version ++ tail)) ≡ gap ++ version
  pub tail_is : tail_of (gap ++ (version ++ tail)) ≡ tail
  pub gap_is : lead_of (gap ++ version) ≡ gap
  pub version_is : trim_start (gap ++ version) ≡ version

field_last : (gap version : List ℕ) → (version ≡ [] → gap ≡ []) → is_space_or_tab (get_or version (length version - 1) 0) ≡ false
    → is_space_or_tab (get_or (gap ++ version) (length (gap ++ version) - 1) 0) ≡ false
field_last gap [] none last = rw (none refl) refl
field_last gap (v ∷ version) none last = rw (last_behind gap (v ∷ version) (omega arith)) last

field_first : (version : List ℕ) → is_space_or_tab (get_or version 0 0) ≡ false → Stops is_space_or_tab version
field_first [] first = tt
field_first (v ∷ version) first = first

pub field_is : (gap version tail : List ℕ) → list_all is_space_or_tab gap ≡ true → list_all is_space_or_tab tail ≡ true → (version ≡ [] → gap ≡ [])
    → is_space_or_tab (get_or version 0 0) ≡ false → is_space_or_tab (get_or version (length version - 1) 0) ≡ false → IsField gap version tail
field_is gap version tail gap_space tail_space none first last =
    let stops = field_last gap version none last in
    record {
      before = rw (← append_assoc gap version tail) (before_end is_space_or_tab (gap ++ version) tail tail_space stops);
      tail_is = rw (← append_assoc gap version tail) (end_is is_space_or_tab (gap ++ version) tail tail_space stops);
      gap_is = front_is is_space_or_tab gap version gap_space (field_first version first);
      version_is = behind_front is_space_or_tab gap version gap_space (field_first version first);
    }

-- ---- what stands behind name and extras

-- spaces and tabs are not another byte
pub spaces_not : (byte : ℕ) (xs : List ℕ) → is_space_or_tab byte ≡ false → list_all is_space_or_tab xs ≡ true → list_all (λ b. not (b == byte)) xs ≡ true
spaces_not byte [] other all = refl
spaces_not byte (x ∷ xs) other all = elim (cases_Bool (eqb x byte)) [
  | inl same ↦ absurd (let first = first_so (is_space_or_tab x) (list_all is_space_or_tab xs) all in let here = rw (eqb-true x byte same) at first in cc)
  | inr differs ↦ rw differs (spaces_not byte xs other (second_so (is_space_or_tab x) (list_all is_space_or_tab xs) all))
]

-- the parts from the version's gap on
pub record IsRest (gap2 version gap3 marker gap4 text : List ℕ) : Type 0 where
  pub version_gap : lead_of (trim_end (version_field text)) ≡ gap2
  pub version_is : trim_start (trim_end (version_field text)) ≡ version
  pub marker_gap : cond (eqb (length (marker_field text)) 0) [] (tail_of (version_field text)) ≡ gap3
  pub marker_is : trim_end (marker_field text) ≡ marker
  pub tail : cond (eqb (length (marker_field text)) 0) (tail_of (version_field text)) (tail_of (marker_field text)) ≡ gap4

rest_bare : (gap2 version gap4 : List ℕ) → list_all is_space_or_tab gap2 ≡ true → list_all is_space_or_tab gap4 ≡ true → (version ≡ [] → gap2 ≡ [])
    → list_all (λ b. not (b == 59)) version ≡ true → is_space_or_tab (get_or version 0 0) ≡ false → is_space_or_tab (get_or version (length version - 1) 0) ≡ false
    → IsRest gap2 version [] [] gap4 (gap2 ++ (version ++ gap4))
rest_bare gap2 version gap4 space2 space4 none ends first last =
    let whole = gap2 ++ (version ++ gap4) in
    let all : list_all (λ b. not (b == 59)) whole ≡ true =
    rw (list_all-append (λ b. not (b == 59)) gap2 (version ++ gap4), list_all-append (λ b. not (b == 59)) version gap4, spaces_not 59 gap2 refl space2, ends, spaces_not 59 gap4 refl space4) refl in
    let place = place_nowhere 59 whole all in
    let field : version_field whole ≡ whole = rw place (take_all (length whole) whole (omega arith)) in
    let marked : marker_field whole ≡ [] = append_cancel_left (version_field whole) (marker_field whole) [] (take-append-drop (place_of 59 whole) whole ∙ sym field ∙ sym (append-nil (version_field whole))) in
    let f = field_is gap2 version gap4 space2 space4 none first last in
    record {
      version_gap = ap (λ (x : List ℕ). lead_of (trim_end x)) field ∙ ap lead_of f.before ∙ f.gap_is;
      version_is = ap (λ (x : List ℕ). trim_start (trim_end x)) field ∙ ap trim_start f.before ∙ f.version_is;
      marker_gap = ap (λ (x : List ℕ). cond (eqb (length x) 0) [] (tail_of (version_field whole))) marked;
      marker_is = ap trim_end marked;
      tail = ap (λ (x : List ℕ). cond (eqb (length x) 0) (tail_of (version_field whole)) (tail_of x)) marked ∙ ap tail_of field ∙ f.tail_is;
    }

marked_some : (m : ℕ) (marker gap4 : List ℕ) → eqb (length ((m ∷ marker) ++ gap4)) 0 ≡ false
marked_some m marker gap4 = grind (arith, nat_tests)

rest_marked : (gap2 version gap3 : List ℕ) (m : ℕ) (marker gap4 : List ℕ) → list_all is_space_or_tab gap2 ≡ true → list_all is_space_or_tab gap3 ≡ true → list_all is_space_or_tab gap4 ≡ true
    → (version ≡ [] → gap2 ≡ []) → list_all (λ b. not (b == 59)) version ≡ true → is_space_or_tab (get_or version 0 0) ≡ false → is_space_or_tab (get_or version (length version - 1) 0) ≡ false
    → m ≡ 59 → is_space_or_tab (get_or (m ∷ marker) (length (m ∷ marker) - 1) 0) ≡ false
    → IsRest gap2 version gap3 (m ∷ marker) gap4 (gap2 ++ (version ++ (gap3 ++ ((m ∷ marker) ++ gap4))))
rest_marked gap2 version gap3 m marker gap4 space2 space3 space4 none ends first last begins closes =
    let front = gap2 ++ (version ++ gap3) in
    let back = (m ∷ marker) ++ gap4 in
    let whole = gap2 ++ (version ++ (gap3 ++ back)) in
    let split : front ++ back ≡ whole = simp append_assoc in
    let all : list_all (λ b. not (b == 59)) front ≡ true =
    rw (list_all-append (λ b. not (b == 59)) gap2 (version ++ gap3), list_all-append (λ b. not (b == 59)) version gap3, spaces_not 59 gap2 refl space2, ends, spaces_not 59 gap3 refl space3) refl in
    let starts : begins_with 59 back ≡ true = rw begins refl in
    let place : place_of 59 whole ≡ length front = rw (← split) (place_behind 59 front back all starts) in
    let field : version_field whole ≡ front = ap (λ (x : List ℕ). take (place_of 59 whole) x) (sym split) ∙ take_at front back (place_of 59 whole) (sym place) in
    let marked : marker_field whole ≡ back = ap (λ (x : List ℕ). drop (place_of 59 whole) x) (sym split) ∙ drop_at front back (place_of 59 whole) (sym place) in
    let f = field_is gap2 version gap3 space2 space3 none first last in
    record {
      version_gap = ap (λ (x : List ℕ). lead_of (trim_end x)) field ∙ ap lead_of f.before ∙ f.gap_is;
      version_is = ap (λ (x : List ℕ). trim_start (trim_end x)) field ∙ ap trim_start f.before ∙ f.version_is;
      marker_gap = ap (λ (x : List ℕ). cond (eqb (length x) 0) [] (tail_of (version_field whole))) marked
          ∙ ap (λ t. cond t [] (tail_of (version_field whole))) (marked_some m marker gap4) ∙ ap tail_of field ∙ f.tail_is;
      marker_is = ap trim_end marked ∙ before_end is_space_or_tab (m ∷ marker) gap4 space4 closes;
      tail = ap (λ (x : List ℕ). cond (eqb (length x) 0) (tail_of (version_field whole)) (tail_of x)) marked
          ∙ ap (λ t. cond t (tail_of (version_field whole)) (tail_of back)) (marked_some m marker gap4) ∙ end_is is_space_or_tab (m ∷ marker) gap4 space4 closes;
    }

pub rest_is : (gap2 version gap3 marker gap4 extras : List ℕ) → list_all is_space_or_tab gap2 ≡ true → list_all is_space_or_tab gap3 ≡ true → list_all is_space_or_tab gap4 ≡ true
    → (version ≡ [] → gap2 ≡ []) → IsVersionSlice extras version → IsMarkerSlice marker → (marker ≡ [] → gap3 ≡ [])
    → IsRest gap2 version gap3 marker gap4 (gap2 ++ (version ++ (gap3 ++ (marker ++ gap4))))
rest_is gap2 version gap3 [] gap4 extras space2 space3 space4 none v m no_marker =
    rw (no_marker refl) (rest_bare gap2 version gap4 space2 space4 none v.ends v.first v.last)
rest_is gap2 version gap3 (b ∷ marker) gap4 extras space2 space3 space4 none v (inl empty) no_marker = absurd cc
rest_is gap2 version gap3 (b ∷ marker) gap4 extras space2 space3 space4 none v (inr m) no_marker =
    rest_marked gap2 version gap3 b marker gap4 space2 space3 space4 none v.ends v.first v.last (eqb-true b 59 m.0) m.1

-- ---- extras

-- a byte of a name is no space
name_byte_no_space : (b : ℕ) → is_name_byte b ≡ true → is_space_or_tab b ≡ false
name_byte_no_space b name = grind (arith, nat_tests)

-- the space before extras, the extras, and what follows
pub record IsExtended (gap extras rest text : List ℕ) : Type 0 where
  pub gap_is : extras_gap text ≡ gap
  pub extras_is : extras_part text ≡ extras
  pub rest_is : behind_extras text ≡ rest

bracket_no_space : (xs : List ℕ) → begins_with 91 xs ≡ true → Stops is_space_or_tab xs
bracket_no_space [] begins = tt
bracket_no_space (x ∷ xs) begins = rw (eqb-true x 91 begins) refl

begins_left : (byte : ℕ) (xs ys : List ℕ) → 0 < length xs → begins_with byte xs ≡ true → begins_with byte (xs ++ ys) ≡ true
begins_left byte [] ys some begins = absurd (omega arith)
begins_left byte (x ∷ xs) ys some begins = begins

stops_left : (p : ℕ → Bool) (xs ys : List ℕ) → 0 < length xs → Stops p xs → Stops p (xs ++ ys)
stops_left p [] ys some stops = absurd (omega arith)
stops_left p (x ∷ xs) ys some stops = stops

extended_some : (gap extras rest : List ℕ) → list_all is_space_or_tab gap ≡ true → begins_with 91 extras ≡ true → suc (place_of 93 extras) ≡ length extras
    → IsExtended gap extras rest (gap ++ (extras ++ rest))
extended_some gap extras rest space begins ends =
    let some : 0 < length extras = omega arith in
    let stops = stops_left is_space_or_tab extras rest some (bracket_no_space extras begins) in
    let lead = front_is is_space_or_tab gap (extras ++ rest) space stops in
    let from = behind_front is_space_or_tab gap (extras ++ rest) space stops in
    let has : has_extras (gap ++ (extras ++ rest)) ≡ true = ap (begins_with 91) from ∙ begins_left 91 extras rest some begins in
    let place : length extras ≡ suc (place_of 93 (extras ++ rest)) = omega (arith, place_before 93 extras rest (omega arith)) in
    record {
      gap_is = rw has lead;
      extras_is = rw has (ap (λ (x : List ℕ). take (suc (place_of 93 x)) x) from ∙ take_at extras rest _ place);
      rest_is = rw has (ap (λ (x : List ℕ). drop (suc (place_of 93 x)) x) from ∙ drop_at extras rest _ place);
    }

extended_none : (rest : List ℕ) → has_extras rest ≡ false → IsExtended [] [] rest rest
extended_none rest none = record { gap_is = rw none refl; extras_is = rw none refl; rest_is = rw none refl }

space_no_bracket : (xs : List ℕ) → list_all is_space_or_tab xs ≡ true → has_extras xs ≡ false
space_no_bracket xs all = ap (begins_with 91) (rw (append-nil xs) at (behind_front is_space_or_tab xs [] all tt))

-- a text in which no `[` follows the space
no_extras_marker : (gap3 marker gap4 : List ℕ) → list_all is_space_or_tab gap3 ≡ true → list_all is_space_or_tab gap4 ≡ true → IsMarkerSlice marker → (marker ≡ [] → gap3 ≡ [])
    → has_extras (gap3 ++ (marker ++ gap4)) ≡ false
no_extras_marker gap3 [] gap4 space3 space4 m none = rw (none refl) (space_no_bracket gap4 space4)
no_extras_marker gap3 (b ∷ marker) gap4 space3 space4 (inl empty) none = absurd cc
no_extras_marker gap3 (b ∷ marker) gap4 space3 space4 (inr m) none =
    let semicolon = eqb-true b 59 m.0 in
    let stops : is_space_or_tab b ≡ false = rw semicolon refl in
    ap (begins_with 91) (behind_front is_space_or_tab gap3 ((b ∷ marker) ++ gap4) space3 stops) ∙ rw semicolon refl

no_extras_version : (gap2 version gap3 marker gap4 : List ℕ) → list_all is_space_or_tab gap2 ≡ true → list_all is_space_or_tab gap3 ≡ true → list_all is_space_or_tab gap4 ≡ true
    → (version ≡ [] → gap2 ≡ []) → IsVersionSlice [] version → IsMarkerSlice marker → (marker ≡ [] → gap3 ≡ [])
    → has_extras (gap2 ++ (version ++ (gap3 ++ (marker ++ gap4)))) ≡ false
no_extras_version gap2 [] gap3 marker gap4 space2 space3 space4 none v m no_marker =
    rw (none refl) (no_extras_marker gap3 marker gap4 space3 space4 m no_marker)
no_extras_version gap2 (b ∷ version) gap3 marker gap4 space2 space3 space4 none v m no_marker =
    ap (begins_with 91) (behind_front is_space_or_tab gap2 ((b ∷ version) ++ (gap3 ++ (marker ++ gap4))) space2 v.first) ∙ v.no_extras refl

-- ---- the whole line

-- what the gaps being space says of each of them
pub record AreSpace (s : Slices) : Type 0 where
  pub lead : list_all is_space_or_tab s.lead ≡ true
  pub gap1 : list_all is_space_or_tab s.gap1 ≡ true
  pub gap2 : list_all is_space_or_tab s.gap2 ≡ true
  pub gap3 : list_all is_space_or_tab s.gap3 ≡ true
  pub gap4 : list_all is_space_or_tab s.gap4 ≡ true

pub both : (xs ys : List ℕ) → list_all is_space_or_tab (xs ++ ys) ≡ true → (list_all is_space_or_tab xs ≡ true) × (list_all is_space_or_tab ys ≡ true)
both xs ys all =
    let h = rw (list_all-append is_space_or_tab xs ys) at all in
    (first_so (list_all is_space_or_tab xs) (list_all is_space_or_tab ys) h, second_so (list_all is_space_or_tab xs) (list_all is_space_or_tab ys) h)

pub are_space : (s : Slices) → list_all is_space_or_tab (s.lead ++ (s.gap1 ++ (s.gap2 ++ (s.gap3 ++ s.gap4)))) ≡ true → AreSpace s
are_space s all =
    let a = both s.lead (s.gap1 ++ (s.gap2 ++ (s.gap3 ++ s.gap4))) all in
    let b = both s.gap1 (s.gap2 ++ (s.gap3 ++ s.gap4)) a.1 in
    let c = both s.gap2 (s.gap3 ++ s.gap4) b.1 in
    let d = both s.gap3 s.gap4 c.1 in
    record { lead = a.0; gap1 = b.0; gap2 = c.0; gap3 = d.0; gap4 = d.1 }

-- what stands behind the name
extended : (s : Slices) → AreSpace s → IsExtrasSlice s.extras → IsVersionSlice s.extras s.version → IsMarkerSlice s.marker → (s.extras ≡ [] → s.gap1 ≡ []) → (s.version ≡ [] → s.gap2 ≡ []) → (s.marker ≡ [] → s.gap3 ≡ [])
    → IsExtended s.gap1 s.extras (s.gap2 ++ (s.version ++ (s.gap3 ++ (s.marker ++ s.gap4)))) (behind s)
extended s spaces (inr bracket) version marker no_extras no_version no_marker =
    extended_some s.gap1 s.extras (s.gap2 ++ (s.version ++ (s.gap3 ++ (s.marker ++ s.gap4)))) spaces.gap1 bracket.0 bracket.1
extended s spaces (inl none) version marker no_extras no_version no_marker =
    let bare : IsVersionSlice [] s.version = rw none at version in
    rw (none, no_extras none)
    (extended_none (s.gap2 ++ (s.version ++ (s.gap3 ++ (s.marker ++ s.gap4))))
    (no_extras_version s.gap2 s.version s.gap3 s.marker s.gap4 spaces.gap2 spaces.gap3 spaces.gap4 no_version bare marker no_marker))

-- the content of a line, and what stands before its comment
pub content_is : (content ending line : List ℕ) → content ++ ending ≡ line → ending ≡ ending_of line → content_of line ≡ content
content_is content ending line whole ends =
    let n : length content ≡ length line - length (ending_of line) = omega (arith, ap length whole, ap length ends, length-append content ending) in
    ap (λ (x : List ℕ). take (length line - length (ending_of line)) x) (sym whole) ∙ take_at content ending _ n

pub head_is : (head comment content : List ℕ) → head ++ comment ≡ content → comment ≡ comment_of content → before_comment content ≡ head
head_is head comment content whole is =
    sym (append_cancel_right head (before_comment content) comment
    (whole ∙ sym (take-append-drop (comment_place true content) content) ∙ ap (λ (x : List ℕ). before_comment content ++ x) (sym is)))

-- the lead stops where the name begins
pub name_space : (name rest : List ℕ) → list_all is_name_byte name ≡ true → (name ≡ [] → rest ≡ []) → Stops is_space_or_tab (name ++ rest)
name_space [] rest all none = rw (none refl) tt
name_space (b ∷ name) rest all none = name_byte_no_space b (first_so (is_name_byte b) (list_all is_name_byte name) all)

-- the slices of a text, from their parts
text_is : (s : Slices) → s.name ≡ take_while is_name_byte (s.name ++ behind s) → AreSpace s → IsExtrasSlice s.extras → IsVersionSlice s.extras s.version → IsMarkerSlice s.marker
    → (s.extras ≡ [] → s.gap1 ≡ []) → (s.version ≡ [] → s.gap2 ≡ []) → (s.marker ≡ [] → s.gap3 ≡ []) → slices_with s.lead (s.name ++ behind s) s.comment s.end ≡ s
unfolding slices_with
text_is s name spaces extras version marker no_extras no_version no_marker =
    let rest = s.gap2 ++ (s.version ++ (s.gap3 ++ (s.marker ++ s.gap4))) in
    let text = s.name ++ behind s in
    let from : drop (prefix_len is_name_byte text) text ≡ behind s =
    append_cancel_left s.name (drop (prefix_len is_name_byte text) text) (behind s) (ap (λ (x : List ℕ). x ++ drop (prefix_len is_name_byte text) text) name ∙ front_cut is_name_byte text) in
    let e : IsExtended s.gap1 s.extras rest (behind s) = extended s spaces extras version marker no_extras no_version no_marker in
    let r = rest_is s.gap2 s.version s.gap3 s.marker s.gap4 s.extras spaces.gap2 spaces.gap3 spaces.gap4 no_version version marker no_marker in
    let tail : behind_extras (drop (prefix_len is_name_byte text) text) ≡ rest = ap behind_extras from ∙ e.rest_is in
    λ i. record {
      lead = s.lead;
      name = sym name i;
      gap1 = (ap extras_gap from ∙ e.gap_is) i;
      extras = (ap extras_part from ∙ e.extras_is) i;
      gap2 = (ap (λ (x : List ℕ). lead_of (trim_end (version_field x))) tail ∙ r.version_gap) i;
      version = (ap (λ (x : List ℕ). trim_start (trim_end (version_field x))) tail ∙ r.version_is) i;
      gap3 = (ap (λ (x : List ℕ). cond (eqb (length (marker_field x)) 0) [] (tail_of (version_field x))) tail ∙ r.marker_gap) i;
      marker = (ap (λ (x : List ℕ). trim_end (marker_field x)) tail ∙ r.marker_is) i;
      gap4 = (ap (λ (x : List ℕ). cond (eqb (length (marker_field x)) 0) (tail_of (version_field x)) (tail_of (marker_field x))) tail ∙ r.tail) i;
      comment = s.comment;
      end = s.end;
    }

-- the slices join in front of the comment
pub joined_parts : (s : Slices) → joined s ≡ ((s.lead ++ (s.name ++ behind s)) ++ s.comment) ++ s.end
joined_parts s = simp append_assoc

-- a line's cut is its slices
pub one_cut : (line : List ℕ) (s : Slices) → IsCut line s → slices_of line ≡ s
unfolding slices_of
one_cut line s c =
    let spaces = are_space s c.gaps in
    let text = s.name ++ behind s in
    let content : content_of line ≡ (s.lead ++ text) ++ s.comment = content_is ((s.lead ++ text) ++ s.comment) s.end line (sym (joined_parts s) ∙ c.joins) c.end in
    let head : before_comment (content_of line) ≡ s.lead ++ text = head_is (s.lead ++ text) s.comment (content_of line) (sym content) c.comment in
    let named : list_all is_name_byte s.name ≡ true = rw (← c.name) at (front_passes is_name_byte text) in
    let stops = name_space s.name (behind s) named c.no_name in
    let lead : lead_of (before_comment (content_of line)) ≡ s.lead = ap lead_of head ∙ front_is is_space_or_tab s.lead text spaces.lead stops in
    let asks : asking (content_of line) ≡ text = ap trim_start head ∙ behind_front is_space_or_tab s.lead text spaces.lead stops in
    let parts : slices_of line ≡ slices_with s.lead text s.comment s.end = λ i. slices_with (lead i) (asks i) (sym c.comment i) (sym c.end i) in
    parts ∙ text_is s c.name spaces c.extras c.version c.marker c.no_extras c.no_version c.no_marker
