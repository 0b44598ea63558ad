-- The slices of a line that reads are its cut.
use Rattle.std.proofs.Common.{◌≡◌, ℕ, suc, ◌+◌, ◌-◌, ◌<◌, ◌∙◌, ◌==◌, ◌⊎◌, ◌&&◌, not, Bool, true, false, cond, eqb, List, [], ◌∷◌, ◌++◌, length, get_or, nat_le, take, drop, zero, Option, Ok, refl, ap, sym, inl, inr, arith}
use Rattle.std.proofs.lemmas.Bool.{cases_Bool, cases_lt, eqb-true}
use Rattle.std.proofs.lemmas.Bool.Decides.{nat_tests}
use Rattle.std.proofs.lemmas.List.{append-nil, append_assoc, length-take-le, nil_from_length, take-append-drop, take_all, take_more}
use Rattle.std.proofs.lemmas.List.Folds.{list_all-append}
use Rattle.std.proofs.lemmas.List.Sums.{fails_before_first}
use Rattle.std.specs.Cmp.{first_so, second_so}
use Rattle.std.specs.List.{list_all, prefix_len, suffix_len, take_while}
use Rattle.markers.specs.Names.{is_name_byte}
use Rattle.pep508.specs.Parts.{begins_with, before_comment, comment_of, comment_place, content_of, ending_of, ends_with, is_space_or_tab, lead_of, place_of, tail_of, trim_end, trim_start}
use Rattle.pep508.specs.Requirement.{RequirementParts, asked_in, extras_of, requirement_of}
use Rattle.pep508.specs.Slices.{IsCut, IsExtrasSlice, IsMarkerSlice, Slices, asking, behind, behind_extras, extras_gap, extras_part, has_extras, marker_field, slices_of, slices_with, version_field}
use Rattle.pep508.proofs.OneCut.{joined_parts, last_behind}
use Rattle.pep508.proofs.Runs.{Stops, behind_front, end_cut, front_cut, front_passes, front_stops, stops_first}
use Rattle.pep508.proofs.Slicewise.{are_read, asks, no_name_reads}

-- ---- how a line ends

last_of : (xs : List ℕ) → 0 < length xs → take (length xs - 1) xs ++ (get_or xs (length xs - 1) 0 ∷ []) ≡ xs
last_of xs some =
    let n : length xs - 1 + 1 ≡ length xs = omega arith in
    sym (take_more xs (length xs - 1) 0 (omega arith)) ∙ rw n (take_all (length xs) xs (omega arith))

second_of : (xs : List ℕ) → 1 < length xs → take (length xs - 2) xs ++ (get_or xs (length xs - 2) 0 ∷ []) ≡ take (length xs - 1) xs
second_of xs some =
    let n : length xs - 2 + 1 ≡ length xs - 1 = omega arith in
    sym (take_more xs (length xs - 2) 0 (omega arith)) ∙ rw n refl

has_byte : (xs : List ℕ) (i b : ℕ) → get_or xs i 0 ≡ b → 0 < b → 0 < length xs
has_byte [] i b is some = absurd (omega arith)
has_byte (x ∷ xs) i b is some = omega arith

two_bytes : (xs : List ℕ) → get_or xs (length xs - 1) 0 ≡ 10 → get_or xs (length xs - 2) 0 ≡ 13 → 1 < length xs
two_bytes xs last second = elim (cases_lt 1 (length xs)) [
  | inl more ↦ more
  | inr short ↦ absurd (let same : length xs - 2 ≡ length xs - 1 = omega arith in let moved = rw same at second in omega arith)
]

-- a line is its content and its ending
pub line_parts : (line : List ℕ) → content_of line ++ ending_of line ≡ line
line_parts line = elim (cases_Bool (eqb (get_or line (length line - 1) 0) 10)) [
  | inl lf ↦
      let last = eqb-true (get_or line (length line - 1) 0) 10 lf in
      elim (cases_Bool (eqb (get_or line (length line - 2) 0) 13)) [
        | inl cr ↦
            let second = eqb-true (get_or line (length line - 2) 0) 13 cr in
            rw (lf, cr)
            (sym (append_assoc (take (length line - 2) line) (13 ∷ []) (10 ∷ []))
            ∙ ap (λ (x : List ℕ). x ++ 10 ∷ []) (rw second at (second_of line (two_bytes line last second)))
            ∙ rw last at (last_of line (has_byte line (length line - 1) 10 last (omega arith))))
        | inr other ↦ rw (lf, other) (rw last at (last_of line (has_byte line (length line - 1) 10 last (omega arith))))
      ]
  | inr other ↦ rw other (ap (λ (x : List ℕ). x ++ []) (take_all (length line - 0) line (omega arith)) ∙ append-nil line)
]

-- ---- the fields

not_empty : (xs : List ℕ) → eqb (suc (length xs)) 0 ≡ false
not_empty xs = grind (arith, nat_tests)

trimmed_join : (text : List ℕ) → (lead_of (trim_end text) ++ trim_start (trim_end text)) ++ tail_of text ≡ text
trimmed_join text =
    ap (λ (x : List ℕ). x ++ tail_of text) (front_cut is_space_or_tab (trim_end text)) ∙ take-append-drop (length text - suffix_len is_space_or_tab text) text

regroup : (a b c d : List ℕ) → a ++ (b ++ (c ++ d)) ≡ ((a ++ b) ++ c) ++ d
regroup a b c d = simp append_assoc

-- the slices of the fields join to them
fields_join : (version marker : List ℕ)
    → lead_of (trim_end version) ++ (trim_start (trim_end version) ++ (cond (eqb (length marker) 0) [] (tail_of version) ++ (trim_end marker ++ cond (eqb (length marker) 0) (tail_of version) (tail_of marker))))
    ≡ version ++ marker
fields_join version [] =
    sym (append_assoc (lead_of (trim_end version)) (trim_start (trim_end version)) (tail_of version)) ∙ trimmed_join version ∙ sym (append-nil version)
fields_join version (m ∷ marker) =
    let some : eqb (suc (length marker)) 0 ≡ false = not_empty marker in
    rw some
    (regroup (lead_of (trim_end version)) (trim_start (trim_end version)) (tail_of version) (trim_end (m ∷ marker) ++ tail_of (m ∷ marker))
    ∙ ap (λ (x : List ℕ). x ++ (trim_end (m ∷ marker) ++ tail_of (m ∷ marker))) (trimmed_join version)
    ∙ ap (λ (x : List ℕ). version ++ x) (take-append-drop (length (m ∷ marker) - suffix_len is_space_or_tab (m ∷ marker)) (m ∷ marker)))

extended_join : (text : List ℕ) → extras_gap text ++ (extras_part text ++ behind_extras text) ≡ text
extended_join text = elim (cases_Bool (has_extras text)) [
  | inl some ↦ rw some (ap (λ (x : List ℕ). lead_of text ++ x) (take-append-drop (suc (place_of 93 (trim_start text))) (trim_start text)) ∙ front_cut is_space_or_tab text)
  | inr none ↦ rw none refl
]

-- ---- what each slice is

-- gaps are space
tail_space : (text : List ℕ) → list_all is_space_or_tab (tail_of text) ≡ true
tail_space text = let e = end_cut is_space_or_tab text refl in rw e.run_is e.passes

either_space : (test : Bool) (xs ys : List ℕ) → list_all is_space_or_tab xs ≡ true → list_all is_space_or_tab ys ≡ true → list_all is_space_or_tab (cond test xs ys) ≡ true
either_space true xs ys one other = one
either_space false xs ys one other = other

-- the last of a text without space at its end is none, also behind its lead
trimmed_last : (text : List ℕ) → is_space_or_tab (get_or (trim_end text) (length (trim_end text) - 1) 0) ≡ false
trimmed_last text = let e = end_cut is_space_or_tab text refl in rw e.before_is e.stops

behind_lead_last : (lead rest : List ℕ) → is_space_or_tab (get_or (lead ++ rest) (length (lead ++ rest) - 1) 0) ≡ false → is_space_or_tab (get_or rest (length rest - 1) 0) ≡ false
behind_lead_last lead [] last = refl
behind_lead_last lead (b ∷ rest) last = rw (last_behind lead (b ∷ rest) (omega arith)) at last

-- a text freed of space neither begins nor ends with it
pub trim_last : (text : List ℕ) → is_space_or_tab (get_or (trim_start (trim_end text)) (length (trim_start (trim_end text)) - 1) 0) ≡ false
trim_last text =
    behind_lead_last (lead_of (trim_end text)) (trim_start (trim_end text)) (rw (front_cut is_space_or_tab (trim_end text)) (trimmed_last text))

pub trim_first : (text : List ℕ) → is_space_or_tab (get_or (trim_start (trim_end text)) 0 0) ≡ false
trim_first text = stops_first is_space_or_tab (trim_start (trim_end text)) refl (front_stops is_space_or_tab (trim_end text))

-- all of a text is all of its parts
part_all : (p : ℕ → Bool) (xs ys : List ℕ) → list_all p (xs ++ ys) ≡ true → (list_all p xs ≡ true) × (list_all p ys ≡ true)
part_all p xs ys all =
    let h = rw (list_all-append p xs ys) at all in
    (first_so (list_all p xs) (list_all p ys) h, second_so (list_all p xs) (list_all p ys) h)

version_ends : (text : List ℕ) → list_all (λ b. not (b == 59)) (trim_start (trim_end (version_field text))) ≡ true
version_ends text =
    let p : ℕ → Bool = λ b. not (b == 59) in
    let field = version_field text in
    let whole : list_all p ((lead_of (trim_end field) ++ trim_start (trim_end field)) ++ tail_of field) ≡ true = rw (trimmed_join field) (front_passes p text) in
    (part_all p (lead_of (trim_end field)) (trim_start (trim_end field)) (part_all p (lead_of (trim_end field) ++ trim_start (trim_end field)) (tail_of field) whole).0).1

-- each byte of a run passes
pub all_at : (p : ℕ → Bool) (xs : List ℕ) (k : ℕ) → k < length xs → list_all p xs ≡ true → p (get_or xs k 0) ≡ true
all_at p [] k within all = absurd (omega arith)
all_at p (x ∷ xs) zero within all = first_so (p x) (list_all p xs) all
all_at p (x ∷ xs) (suc k) within all = all_at p xs k (omega arith) (second_so (p x) (list_all p xs) all)

-- where no part is left, there was no space before it
no_lead : (text : List ℕ) → is_space_or_tab (get_or text (length text - 1) 0) ≡ false → trim_start text ≡ [] → lead_of text ≡ []
no_lead [] last none = refl
no_lead (b ∷ rest) last none =
    let text = b ∷ rest in
    let whole : lead_of text ≡ text = sym (append-nil (lead_of text)) ∙ ap (λ (x : List ℕ). lead_of text ++ x) (sym none) ∙ front_cut is_space_or_tab text in
    let space : is_space_or_tab (get_or text (length text - 1) 0) ≡ true = all_at is_space_or_tab text (length text - 1) (omega arith) (rw whole at (front_passes is_space_or_tab text)) in
    absurd (let no = sym last ∙ space in cc)

-- a marker's field begins with `;` also without the space at its end
begins_before : (before run text : List ℕ) → before ++ run ≡ text → list_all is_space_or_tab run ≡ true → begins_with 59 text ≡ true → begins_with 59 before ≡ true
begins_before [] [] text whole space begins = absurd (let b = rw (← whole) at begins in cc)
begins_before [] (r ∷ run) text whole space begins =
    let semicolon : eqb r 59 ≡ true = rw (← whole) at begins in
    let first = first_so (is_space_or_tab r) (list_all is_space_or_tab run) space in
    absurd (let no = rw (eqb-true r 59 semicolon) at first in cc)
begins_before (b ∷ before) run text whole space begins = rw (← whole) at begins

marked : (text : List ℕ) → begins_with 59 text ≡ true → begins_with 59 (trim_end text) ≡ true
marked text begins = let e = end_cut is_space_or_tab text refl in rw e.before_is (begins_before e.before e.run text e.whole e.passes begins)

field_begins : (text : List ℕ) → (text ≡ []) ⊎ (begins_with 59 text ≡ true) → IsMarkerSlice (trim_end text)
field_begins [] either = inl refl
field_begins (b ∷ rest) (inl empty) = absurd cc
field_begins (b ∷ rest) (inr begins) = inr (marked (b ∷ rest) begins, trimmed_last (b ∷ rest))

no_marker_gap : (gap text : List ℕ) → (text ≡ []) ⊎ (begins_with 59 text ≡ true) → trim_end text ≡ [] → cond (eqb (length text) 0) [] gap ≡ []
no_marker_gap gap [] either none = refl
no_marker_gap gap (b ∷ rest) (inl empty) none = absurd cc
no_marker_gap gap (b ∷ rest) (inr begins) none = absurd (let no = rw none at (marked (b ∷ rest) begins) in cc)

stops_marker : (text : List ℕ) → Stops (λ b. not (b == 59)) text → (text ≡ []) ⊎ (begins_with 59 text ≡ true)
stops_marker [] stops = inl refl
stops_marker (b ∷ rest) stops = elim (cases_Bool (eqb b 59)) [
  | inl semicolon ↦ inr semicolon
  | inr other ↦ absurd (let no = rw other at stops in cc)
]

-- ---- extras

place_take : (byte : ℕ) (xs : List ℕ) (n : ℕ) → place_of byte xs < n → place_of byte (take n xs) ≡ place_of byte xs
place_take byte [] zero within = refl
place_take byte [] (suc n) within = refl
place_take byte (x ∷ xs) zero within = absurd (omega arith)
place_take byte (x ∷ xs) (suc n) within = elim (cases_Bool (eqb x byte)) [
  | inl here ↦ rw here refl
  | inr other ↦
      let shorter : place_of byte xs < n = let w = rw other at within in omega (arith, w) in
      rw other (ap (λ k. 1 + k) (place_take byte xs n shorter))
]

take_some : (byte n : ℕ) (xs : List ℕ) → begins_with byte xs ≡ true → 0 < byte → (begins_with byte (take (suc n) xs) ≡ true) × (0 < length (take (suc n) xs))
take_some byte n [] begins some = absurd (omega (arith, eqb-true 0 byte begins))
take_some byte n (x ∷ xs) begins some = (begins, omega arith)

bracketed : (text : List ℕ) → begins_with 91 text ≡ true → ends_with 93 (take (suc (place_of 93 text)) text) ≡ true → IsExtrasSlice (take (suc (place_of 93 text)) text)
bracketed text begins ends = elim (cases_lt (place_of 93 text) (length text)) [
  | inl within ↦
      let place = place_take 93 text (suc (place_of 93 text)) (omega arith) in
      inr ((take_some 91 (place_of 93 text) text begins (omega arith)).0, rw place (sym (length-take-le (suc (place_of 93 text)) text (omega arith))))
  | inr beyond ↦
      let whole = take_all (suc (place_of 93 text)) text (omega arith) in
      let some : 0 < length text = has_byte text 0 91 (eqb-true (get_or text 0 0) 91 begins) (omega arith) in
      let other = fails_before_first (λ b. b == 93) text (length text - 1) 0 (omega arith) in
      let same : eqb (get_or text (length text - 1) 0) 93 ≡ true = rw whole at ends in
      absurd (let no = sym other ∙ same in cc)
]

extras_end : (extras : List ℕ) (names : List (List ℕ)) → extras_of extras ≡ Ok names → (extras ≡ []) ⊎ (ends_with 93 extras ≡ true)
extras_end extras names reads = elim (cases_Bool (eqb (length extras) 0)) [
  | inl none ↦ inl (nil_from_length extras (eqb-true _ _ none))
  | inr some ↦ elim (cases_Bool (nat_le 2 (length extras) && (begins_with 91 extras && ends_with 93 extras))) [
    | inl within ↦ inr (second_so (begins_with 91 extras) (ends_with 93 extras) (second_so (nat_le 2 (length extras)) (begins_with 91 extras && ends_with 93 extras) within))
    | inr open_end ↦ cc (rw (some, open_end) at reads)
  ]
]

extras_shape : (text : List ℕ) → (extras_part text ≡ []) ⊎ (ends_with 93 (extras_part text) ≡ true) → IsExtrasSlice (extras_part text)
extras_shape text (inl none) = inl none
extras_shape text (inr ends) = elim (cases_Bool (has_extras text)) [
  | inl some ↦ rw some (bracketed (trim_start text) some (rw some at ends))
  | inr none ↦ rw none (inl refl)
]

no_extras_has : (text : List ℕ) → extras_part text ≡ [] → has_extras text ≡ false
no_extras_has text none = elim (cases_Bool (has_extras text)) [
  | inl some ↦
      let bytes = (take_some 91 (place_of 93 (trim_start text)) (trim_start text) some (omega arith)).1 in
      let empty : take (suc (place_of 93 (trim_start text))) (trim_start text) ≡ [] = rw some at none in
      absurd (omega (arith, ap length empty))
  | inr bare ↦ bare
]

no_bracket : (lead version rest text : List ℕ) → lead ++ (version ++ rest) ≡ text → list_all is_space_or_tab lead ≡ true → Stops is_space_or_tab version → has_extras text ≡ false → begins_with 91 version ≡ false
no_bracket lead [] rest text whole space stops none = refl
no_bracket lead (v ∷ version) rest text whole space stops none =
    let from : trim_start text ≡ (v ∷ version) ++ rest = ap trim_start (sym whole) ∙ behind_front is_space_or_tab lead ((v ∷ version) ++ rest) space stops in
    rw from at none

version_no_bracket : (text : List ℕ) → extras_part text ≡ [] → begins_with 91 (trim_start (trim_end (version_field (behind_extras text)))) ≡ false
version_no_bracket text none =
    let has = no_extras_has text none in
    let rest : behind_extras text ≡ text = rw has refl in
    let field = version_field text in
    let whole : lead_of (trim_end field) ++ (trim_start (trim_end field) ++ (tail_of field ++ marker_field text)) ≡ text =
    regroup (lead_of (trim_end field)) (trim_start (trim_end field)) (tail_of field) (marker_field text)
    ∙ ap (λ (x : List ℕ). x ++ marker_field text) (trimmed_join field) ∙ take-append-drop (place_of 59 text) text in
    ap (λ (x : List ℕ). begins_with 91 (trim_start (trim_end (version_field x)))) rest
    ∙ no_bracket (lead_of (trim_end field)) (trim_start (trim_end field)) (tail_of field ++ marker_field text) text whole (front_passes is_space_or_tab (trim_end field)) (front_stops is_space_or_tab (trim_end field)) has

-- ---- the whole line

pub all_gaps : (a b c d e : List ℕ) → list_all is_space_or_tab a ≡ true → list_all is_space_or_tab b ≡ true → list_all is_space_or_tab c ≡ true → list_all is_space_or_tab d ≡ true → list_all is_space_or_tab e ≡ true
    → list_all is_space_or_tab (a ++ (b ++ (c ++ (d ++ e)))) ≡ true
all_gaps a b c d e one two three four five =
    rw (list_all-append is_space_or_tab a (b ++ (c ++ (d ++ e))), list_all-append is_space_or_tab b (c ++ (d ++ e)), list_all-append is_space_or_tab c (d ++ e), list_all-append is_space_or_tab d e, one, two, three, four, five) refl

-- what the reading of a line says of its text: it is empty, or it has a name, and its extras end with `]`
record IsAsked (text : List ℕ) : Type 0 where
  name : take_while is_name_byte text ≡ [] → text ≡ []
  extras : (extras_part (drop (prefix_len is_name_byte text) text) ≡ []) ⊎ (ends_with 93 (extras_part (drop (prefix_len is_name_byte text) text)) ≡ true)

asked_text : (text : List ℕ) (found : RequirementParts) → asked_in text ≡ Ok found → IsAsked text
unfolding asked_in slices_with
asked_text text found reads =
    let read = are_read (slices_with [] text [] []) found reads in
    record {
      name = λ none. absurd (no_name_reads found.name (rw none at read.name));
      extras = extras_end (extras_part (drop (prefix_len is_name_byte text) text)) found.extras read.extras;
    }

is_asked : (line : List ℕ) (wanted : Option RequirementParts) → requirement_of line ≡ Ok wanted → IsAsked (asking (content_of line))
is_asked line wanted reads = elim (asks line wanted reads) [
  | inl blank ↦ record { name = λ _. blank.0; extras = inl (ap (λ (x : List ℕ). extras_part (drop (prefix_len is_name_byte x) x)) blank.0) }
  | inr some ↦ asked_text (asking (content_of line)) some.0 some.2
]

-- the slices of a text, with what stands around it
pub record IsTextCut (text : List ℕ) (s : Slices) : Type 0 where
  pub behind_is : behind s ≡ drop (prefix_len is_name_byte text) text
  pub name_is : s.name ≡ take_while is_name_byte text

text_cut : (lead text comment ending : List ℕ) → IsTextCut text (slices_with lead text comment ending)
unfolding slices_with
text_cut lead text comment ending =
    let from = drop (prefix_len is_name_byte text) text in
    let rest = behind_extras from in
    record {
      behind_is = ap (λ (x : List ℕ). extras_gap from ++ (extras_part from ++ x)) (fields_join (version_field rest) (marker_field rest) ∙ take-append-drop (place_of 59 rest) rest) ∙ extended_join from;
      name_is = refl;
    }

-- a line that reads is cut into its slices
pub line_cut : (line : List ℕ) (wanted : Option RequirementParts) → requirement_of line ≡ Ok wanted → IsCut line (slices_of line)
unfolding slices_of slices_with
line_cut line wanted reads =
    let content = content_of line in
    let head = before_comment content in
    let text = asking content in
    let asked = is_asked line wanted reads in
    let s = slices_with (lead_of head) text (comment_of content) (ending_of line) in
    let t = text_cut (lead_of head) text (comment_of content) (ending_of line) in
    let from = drop (prefix_len is_name_byte text) text in
    let rest = behind_extras from in
    let field = version_field rest in
    let marker = stops_marker (marker_field rest) (front_stops (λ b. not (b == 59)) rest) in
    let named : s.name ++ behind s ≡ text = ap (λ (x : List ℕ). s.name ++ x) t.behind_is ∙ front_cut is_name_byte text in
    record {
      joins = joined_parts s ∙ ap (λ (x : List ℕ). ((s.lead ++ x) ++ s.comment) ++ s.end) named ∙ ap (λ (x : List ℕ). (x ++ s.comment) ++ s.end) (front_cut is_space_or_tab head)
          ∙ ap (λ (x : List ℕ). x ++ s.end) (take-append-drop (comment_place true content) content) ∙ line_parts line;
      end = refl;
      comment = refl;
      gaps = all_gaps s.lead s.gap1 s.gap2 s.gap3 s.gap4 (front_passes is_space_or_tab head) (either_space (has_extras from) (lead_of from) [] (front_passes is_space_or_tab from) refl) (front_passes is_space_or_tab (trim_end field))
          (either_space (eqb (length (marker_field rest)) 0) [] (tail_of field) refl (tail_space field)) (either_space (eqb (length (marker_field rest)) 0) (tail_of field) (tail_of (marker_field rest)) (tail_space field) (tail_space (marker_field rest)));
      name = ap (take_while is_name_byte) (sym named);
      extras = extras_shape from asked.extras;
      version = record { ends = version_ends rest; first = trim_first field; last = trim_last field; no_extras = version_no_bracket from };
      marker = field_begins (marker_field rest) marker;
      no_name = λ none. t.behind_is ∙ ap (λ (x : List ℕ). drop (prefix_len is_name_byte x) x) (asked.name none);
      no_extras = λ none. rw (no_extras_has from none) refl;
      no_version = no_lead (trim_end field) (trimmed_last field);
      no_marker = no_marker_gap (tail_of field) (marker_field rest) marker;
    }
