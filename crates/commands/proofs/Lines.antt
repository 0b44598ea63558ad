-- Lemmas on how an input is cut into lines.
use Rattle.std.proofs.Common.{◌≡◌, ◌∙◌, ℕ, zero, suc, ◌+◌, ◌-◌, ◌<◌, ◌≤◌, Bool, true, false, List, [], ◌∷◌, ◌++◌, length, take, refl, sym, ap, arith, slice_index, ◌==◌, inl, inr, append_assoc, length-append, Option, Some, None, nat_lt}
use Rattle.std.specs.Prelude.{IfNone, IfSome}
use Rattle.memchr.specs.Find.{IsFirstByte, is_byte}
use Rattle.std.proofs.Math.Seq.{take-append-add}
use Rattle.std.proofs.lemmas.List.{take_all, length-take}
use Rattle.std.proofs.lemmas.Bool.{lt-ltb, ltb-true, ltb-false, cases_Bool}
use Rattle.std.specs.List.{filter_map, cons_option}
use Rattle.std.specs.Option.{option_to_list}
use Rattle.commands.specs.declared.batch_line.Item.{Item}
use Rattle.commands.specs.declared.batch_line.Item.TheVariants.{BadCommand}
use Rattle.commands.specs.BatchLine.{Line, with_first, input_lines_of, longest_line, item_of, ended_item_of, IsUnbroken, commands_of, ended_commands_of}

-- what fits behind a line of at most n bytes
pub take_room : (n : ℕ) (xs ys : List ℕ) → length xs ≤ n → take n (xs ++ ys) ≡ xs ++ take (n - length xs) ys
take_room n xs ys fits =
    let split : n ≡ length xs + (n - length xs) = omega arith in
    ap (λ m. take m (xs ++ ys)) split ∙ take-append-add xs ys (n - length xs)

pub unbroken_append : (xs ys : List ℕ) → IsUnbroken xs → IsUnbroken ys → IsUnbroken (xs ++ ys)
unbroken_append [] ys first second = second
unbroken_append (x ∷ xs) ys first second = (first.0, unbroken_append xs ys first.1 second)

pub unbroken_take : (n : ℕ) (xs : List ℕ) → IsUnbroken xs → IsUnbroken (take n xs)
unbroken_take zero xs line = tt
unbroken_take (suc n) [] line = tt
unbroken_take (suc n) (x ∷ xs) line = (line.0, unbroken_take n xs line.1)

-- what is held of a line that goes on has no LF
pub unbroken_kept : (n : ℕ) (xs ys : List ℕ) → IsUnbroken xs → IsUnbroken ys → IsUnbroken (take n (xs ++ ys))
unbroken_kept n xs ys first second = unbroken_take n (xs ++ ys) (unbroken_append xs ys first second)

-- the lines whose first one begins with these bytes
abbrev pub with_front : List ℕ → List Line → List Line
with_front [] lines = lines
with_front (b ∷ bs) lines = with_first b (with_front bs lines)

pub lines_behind : (line rest : List ℕ) → IsUnbroken line → input_lines_of (line ++ rest) ≡ with_front line (input_lines_of rest)
lines_behind [] rest unbroken = refl
lines_behind (b ∷ bs) rest unbroken = rw unbroken.0 (ap (with_first b) (lines_behind bs rest unbroken.1))

pub with_front_cons : (front : List ℕ) (line : Line) (lines : List Line) → with_front front (line ∷ lines) ≡ record { bytes = front ++ line.bytes; is_ended = line.is_ended } ∷ lines
with_front_cons [] line lines = refl
with_front_cons (b ∷ bs) line lines = ap (with_first b) (with_front_cons bs line lines)

pub with_front_nil : (b : ℕ) (bs : List ℕ) → with_front (b ∷ bs) [] ≡ record { bytes = b ∷ bs; is_ended = false } ∷ []
with_front_nil b [] = refl
with_front_nil b (c ∷ bs) = ap (with_first b) (with_front_nil c bs)

-- the one item, or none
cons_is_append : (item : Option Item) (items : List Item) → cons_option item items ≡ option_to_list item ++ items
cons_is_append None items = refl
cons_is_append (Some x) items = refl

one_item : (item : Option Item) → option_to_list item ++ [] ≡ option_to_list item
one_item None = refl
one_item (Some x) = refl

append_nil : (xs : List ℕ) → xs ++ [] ≡ xs
append_nil [] = refl
append_nil (x ∷ xs) = ap (λ ys. x ∷ ys) (append_nil xs)

-- a line with its LF, and the rest, by whatever a line asks for
items_ended : (h : Line → Option Item) (line rest : List ℕ) → IsUnbroken line → filter_map h (input_lines_of ((line ++ 10 ∷ []) ++ rest)) ≡ option_to_list (h (record { bytes = line; is_ended = true })) ++ filter_map h (input_lines_of rest)
items_ended h line rest unbroken =
    let whole : input_lines_of ((line ++ 10 ∷ []) ++ rest) ≡ record { bytes = line; is_ended = true } ∷ input_lines_of rest =
    ap input_lines_of (append_assoc line (10 ∷ []) rest) ∙ lines_behind line (10 ∷ rest) unbroken ∙ with_front_cons line (record { bytes = []; is_ended = true }) (input_lines_of rest)
    ∙ ap (λ bytes. record { bytes = bytes; is_ended = true } ∷ input_lines_of rest) (append_nil line) in
    ap (filter_map h) whole ∙ cons_is_append (h (record { bytes = line; is_ended = true })) (filter_map h (input_lines_of rest))

-- a text without LF is one line
one_line : (b : ℕ) (bs : List ℕ) → IsUnbroken (b ∷ bs) → input_lines_of (b ∷ bs) ≡ record { bytes = b ∷ bs; is_ended = false } ∷ []
one_line b bs unbroken = ap input_lines_of (sym (append_nil (b ∷ bs))) ∙ lines_behind (b ∷ bs) [] unbroken ∙ with_front_nil b bs

-- a last line without LF
pub commands_last : (line : List ℕ) → IsUnbroken line → 0 < length line → commands_of line ≡ option_to_list (item_of (record { bytes = line; is_ended = false }))
commands_last [] unbroken long = absurd (omega arith)
commands_last (b ∷ bs) unbroken long =
    ap (filter_map item_of) (one_line b bs unbroken) ∙ cons_is_append (item_of (record { bytes = b ∷ bs; is_ended = false })) [] ∙ one_item (item_of (record { bytes = b ∷ bs; is_ended = false }))

-- a line that is too long, however it goes on
too_long : (line : Line) → longest_line < length line.bytes → item_of line ≡ Some BadCommand
too_long line long = rw (lt-ltb longest_line (length line.bytes) long) refl

-- lines that are too long ask for the same, whatever they hold
pub record AsksAlike (h : Line → Option Item) : Type 0 where
  pub alike : (xs ys : List ℕ) (is_ended : Bool) → longest_line < length xs → longest_line < length ys → h (record { bytes = xs; is_ended = is_ended }) ≡ h (record { bytes = ys; is_ended = is_ended })

pub items_alike : AsksAlike item_of
items_alike = record {
  alike = λ xs ys is_ended first second.
      too_long (record { bytes = xs; is_ended = is_ended }) first ∙ sym (too_long (record { bytes = ys; is_ended = is_ended }) second);
}

ended_alike : (xs ys : List ℕ) (is_ended : Bool) → longest_line < length xs → longest_line < length ys → ended_item_of (record { bytes = xs; is_ended = is_ended }) ≡ ended_item_of (record { bytes = ys; is_ended = is_ended })
ended_alike xs ys true first second = items_alike.alike xs ys true first second
ended_alike xs ys false first second = refl

pub ended_items_alike : AsksAlike ended_item_of
ended_items_alike = record { alike = ended_alike }

long_items : (h : Line → Option Item) (front other : List ℕ) (lines : List Line) → AsksAlike h → longest_line < length front → longest_line < length other → filter_map h (with_front front lines) ≡ filter_map h (with_front other lines)
long_items h [] other lines same first second = absurd (omega arith)
long_items h (b ∷ bs) [] lines same first second = absurd (omega arith)
long_items h (b ∷ bs) (c ∷ cs) [] same first second =
    ap (filter_map h) (with_front_nil b bs) ∙ ap (λ item. cons_option item []) (same.alike (b ∷ bs) (c ∷ cs) false first second) ∙ sym (ap (filter_map h) (with_front_nil c cs))
long_items h (b ∷ bs) (c ∷ cs) (line ∷ lines) same first second =
    let longer : longest_line < length ((b ∷ bs) ++ line.bytes) = rw length-append (omega arith) in
    let other : longest_line < length ((c ∷ cs) ++ line.bytes) = rw length-append (omega arith) in
    ap (filter_map h) (with_front_cons (b ∷ bs) line lines)
    ∙ ap (λ item. cons_option item (filter_map h lines)) (same.alike ((b ∷ bs) ++ line.bytes) ((c ∷ cs) ++ line.bytes) line.is_ended longer other)
    ∙ sym (ap (filter_map h) (with_front_cons (c ∷ cs) line lines))

-- of a line that is too long the bytes past the limit don't matter
pub items_kept : (h : Line → Option Item) (line rest : List ℕ) → AsksAlike h → IsUnbroken line → filter_map h (input_lines_of (take 65537 line ++ rest)) ≡ filter_map h (input_lines_of (line ++ rest))
items_kept h line rest same unbroken =
    elim (cases_Bool (nat_lt 65537 (length line))) [
      | inl is ↦
          let above : 65537 < length line = ltb-true _ _ is in
          let held : longest_line < length (take 65537 line) = rw length-take (omega arith) in
          ap (filter_map h) (lines_behind (take 65537 line) rest (unbroken_take 65537 line unbroken))
          ∙ long_items h (take 65537 line) line (input_lines_of rest) same held (omega arith)
          ∙ sym (ap (filter_map h) (lines_behind line rest unbroken))
      | inr is ↦ ap (λ front. filter_map h (input_lines_of (front ++ rest))) (take_all 65537 line (ltb-false _ _ is))
    ]

-- a pending line that its LF ends is one line more, of which no more than the limit is held
pub items_of_line : (h : Line → Option Item) (pending line behind rest : List ℕ) → AsksAlike h → IsUnbroken pending → IsUnbroken line
    → filter_map h (input_lines_of ((pending ++ (line ++ (10 ∷ behind))) ++ rest)) ≡ option_to_list (h (record { bytes = take 65537 (pending ++ line); is_ended = true })) ++ filter_map h (input_lines_of (behind ++ rest))
items_of_line h pending line behind rest same first second =
    let whole = unbroken_append pending line first second in
    let held = take 65537 (pending ++ line) in
    let regrouped : (pending ++ (line ++ (10 ∷ behind))) ++ rest ≡ (pending ++ line) ++ (10 ∷ (behind ++ rest)) = simp append_assoc in
    let ended : held ++ (10 ∷ (behind ++ rest)) ≡ (held ++ 10 ∷ []) ++ (behind ++ rest) = simp append_assoc in
    ap (λ bytes. filter_map h (input_lines_of bytes)) regrouped
    ∙ sym (items_kept h (pending ++ line) (10 ∷ (behind ++ rest)) same whole)
    ∙ ap (λ bytes. filter_map h (input_lines_of bytes)) ended
    ∙ items_ended h held (behind ++ rest) (unbroken_take 65537 (pending ++ line) whole)

-- a line that no LF has ended asks for nothing yet
pub none_ended : (line : List ℕ) → IsUnbroken line → ended_commands_of line ≡ []
none_ended [] unbroken = refl
none_ended (b ∷ bs) unbroken = ap (filter_map ended_item_of) (one_line b bs unbroken)

not_true : (b : Bool) → (b ≡ true → ⊥) → b ≡ false
not_true true not = absurd (not refl)
not_true false not = refl

-- a front without an LF
pub unbroken_before : (n : ℕ) (xs : List ℕ) → ((k : ℕ) → k < n → k < length xs → (slice_index xs k == 10) ≡ true → ⊥) → IsUnbroken (take n xs)
unbroken_before zero xs none = tt
unbroken_before (suc n) [] none = tt
unbroken_before (suc n) (x ∷ xs) none = (not_true (x == 10) (none 0 (omega arith) (omega arith)), unbroken_before n xs (λ k below within. none (suc k) (omega arith) (omega arith)))

-- no LF at all
pub unbroken_all : (xs : List ℕ) → ((k : ℕ) → k < length xs → (slice_index xs k == 10) ≡ true → ⊥) → IsUnbroken xs
unbroken_all [] none = tt
unbroken_all (x ∷ xs) none = (not_true (x == 10) (none 0 (omega arith)), unbroken_all xs (λ k within. none (suc k) (omega arith)))

-- where no LF was found
pub line_end_none : (bytes : List ℕ) (found : Option ℕ) → IsFirstByte (is_byte 10) bytes found → IfNone found (IsUnbroken bytes)
line_end_none bytes None first = unbroken_all bytes (λ k within is. first k (omega arith) within is)
line_end_none bytes (Some at) first = tt

-- where the first LF was found
pub line_end_line : (bytes : List ℕ) (found : Option ℕ) → IsFirstByte (is_byte 10) bytes found → IfSome found (λ at. IsUnbroken (take at bytes))
line_end_line bytes None first = tt
line_end_line bytes (Some at) first = unbroken_before at bytes (λ k below within is. first.0.before k (omega arith) below is)
