-- A JSON value is read back from its compact text, where it has no float, its numbers fit, its keys rise and it nests only so deep.
use Rattle.std.proofs.Common.{◌≡◌, ◌&&◌, ℕ, zero, suc, ◌^◌, ◌<◌, ◌≤◌, Bool, true, List, [], ◌∷◌, map, Option, Some, option_map, option_and_then, Ordering, Less, Equal, Greater, refl, sym, ap, ◌∙◌, arith, append-nil}
use Rattle.std.specs.Prelude.{⊤}
use Rattle.std.specs.Cmp.Lexicographic.{slice_cmp}
use Rattle.std.specs.List.{AllByRecursion}
use Rattle.std.specs.Ordering.{is_gt, match_ordering, nat_cmp}
use Rattle.std.proofs.lemmas.Bool.{and_parts}
use Rattle.json.specs.Json as json
use Rattle.json.specs.Lex.{tokens}
use Rattle.json.specs.Token.{Token}
use Rattle.json.specs.Tree as tree
use Rattle.json.proofs.Printed.Decimals.{IsNumber-decimal}
use Rattle.json.proofs.Printed.Tokens.{tokens-print}
use Rattle.json.proofs.Printed.Trees.{ArePrintable-json_tokens, value-json_tokens}
use Rattle.serde_json.specs.Data.{Data, null, boolean, number, string, array, object, unsigned, negative, float, Items, no_items, item, Members, no_members, member, put}
use Rattle.serde_json.specs.Read.{of_json, of_items, of_members, max_depth, read}
use Rattle.serde_json.specs.View.{items_of}
use Rattle.serde_json.specs.Written.{outline, items_outline, members_outline, compact_text}
use Rattle.serde_json.proofs.Numbers.{number_of-decimal}
use Rattle.serde_json.proofs.Texts.{print-outline}

-- whether each key of the members is above this one
abbrev pub keys_above : List ℕ → Members → Bool
keys_above k no_members = true
keys_above k (member l d ms) = is_gt (slice_cmp nat_cmp l k) && keys_above k ms

-- whether the keys rise
abbrev pub keys_rise : Members → Bool
keys_rise no_members = true
keys_rise (member k d ms) = keys_above k ms && keys_rise ms

-- a value without floats, whose numbers fit 64 bits and whose keys rise, and which nests no deeper than this
abbrev mutual
  pub IsPlain : Data → ℕ → Type 0
  IsPlain null n = ⊤
  IsPlain (boolean b) n = ⊤
  IsPlain (number (unsigned m)) n = m < 2 ^ 64
  IsPlain (number (negative z)) n = ⊥
  IsPlain (number (float x)) n = ⊥
  IsPlain (string s) n = ⊤
  IsPlain (array ds) zero = ⊥
  IsPlain (array ds) (suc n) = ArePlain ds n
  IsPlain (object ms) zero = ⊥
  IsPlain (object ms) (suc n) = ArePlainMembers ms n × (keys_rise ms ≡ true)

  pub ArePlain : Items → ℕ → Type 0
  ArePlain no_items n = ⊤
  ArePlain (item d ds) n = IsPlain d n × ArePlain ds n

  pub ArePlainMembers : Members → ℕ → Type 0
  ArePlainMembers no_members n = ⊤
  ArePlainMembers (member k d ms) n = IsPlain d n × ArePlainMembers ms n

-- the values of a list are, where each is
pub items-plain : {X : Type 0} (form : X → Data) (n : ℕ) (xs : List X) → AllByRecursion (λ x. IsPlain (form x) n) xs → ArePlain (items_of (map form xs)) n
items-plain form n [] h = tt
items-plain form n (x ∷ xs) h = (h.0, items-plain form n xs h.1)

-- ---- members that go in one after another

-- whether each key of the members is below this one
abbrev keys_below : List ℕ → Members → Bool
keys_below k no_members = true
keys_below k (member l d ms) = is_gt (slice_cmp nat_cmp k l) && keys_below k ms

-- whether each key of the members behind is above each of those in front
abbrev all_above : Members → Members → Bool
all_above front no_members = true
all_above front (member k d ms) = keys_below k front && all_above front ms

abbrev behind : Members → Members → Members
behind no_members ms = ms
behind (member k d front) ms = member k d (behind front ms)

behind-nil : (front : Members) → behind front no_members ≡ front
behind-nil no_members = refl
behind-nil (member k d front) = ap (member k d) (behind-nil front)

behind-one : (front : Members) (k : List ℕ) (d : Data) (ms : Members) → behind (behind front (member k d no_members)) ms ≡ behind front (member k d ms)
behind-one no_members k d ms = refl
behind-one (member l e front) k d ms = ap (member l e) (behind-one front k d ms)

greater : (o : Ordering) → is_gt o ≡ true → o ≡ Greater
greater Less h = absurd cc
greater Equal h = absurd cc
greater Greater h = refl

put-last : (k : List ℕ) (d : Data) (front : Members) → keys_below k front ≡ true → put k d front ≡ behind front (member k d no_members)
put-last k d no_members h = refl
put-last k d (member l e front) h =
    let p = and_parts (is_gt (slice_cmp nat_cmp k l)) (keys_below k front) h in
    ap (λ (o : Ordering). match_ordering o (member k d (member l e front)) (member l d front) (member l e (put k d front))) (greater (slice_cmp nat_cmp k l) p.0)
    ∙ ap (member l e) (put-last k d front p.1)

below-last : (k l : List ℕ) (d : Data) (front : Members) → keys_below l front ≡ true → is_gt (slice_cmp nat_cmp l k) ≡ true → keys_below l (behind front (member k d no_members)) ≡ true
below-last k l d no_members h above = rw above refl
below-last k l d (member m e front) h above =
    let p = and_parts (is_gt (slice_cmp nat_cmp l m)) (keys_below l front) h in
    rw p.0 (below-last k l d front p.1 above)

above-last : (front : Members) (k : List ℕ) (d : Data) (ms : Members) → all_above front ms ≡ true → keys_above k ms ≡ true → all_above (behind front (member k d no_members)) ms ≡ true
above-last front k d no_members h above = refl
above-last front k d (member l e ms) h above =
    let p = and_parts (keys_below l front) (all_above front ms) h in
    let q = and_parts (is_gt (slice_cmp nat_cmp l k)) (keys_above k ms) above in
    rw (below-last k l d front p.0 q.0) (above-last front k d ms p.1 q.1)

above-none : (ms : Members) → all_above no_members ms ≡ true
above-none no_members = refl
above-none (member k d ms) = above-none ms

-- ---- what is read of the tokens

mutual
  back : (d : Data) (n : ℕ) → IsPlain d n → of_json (outline d) ≡ Some d
  back null n h = refl
  back (boolean b) n h = refl
  back (number (unsigned m)) n h = ap (option_map number) (number_of-decimal m h)
  back (number (negative z)) n h = absurd h
  back (number (float x)) n h = absurd h
  back (string s) n h = refl
  back (array ds) zero h = absurd h
  back (array ds) (suc n) h = ap (option_map array) (items-back ds n h)
  back (object ms) zero h = absurd h
  back (object ms) (suc n) h = ap (option_map object) (members-back ms n no_members h.0 h.1 (above-none ms))

  items-back : (ds : Items) (n : ℕ) → ArePlain ds n → of_items (items_outline ds) ≡ Some ds
  items-back no_items n h = refl
  items-back (item d ds) n h =
      ap (option_and_then (λ (x : Data). option_map (item x) (of_items (items_outline ds)))) (back d n h.0) ∙ ap (option_map (item d)) (items-back ds n h.1)

  members-back : (ms : Members) (n : ℕ) (front : Members) → ArePlainMembers ms n → keys_rise ms ≡ true → all_above front ms ≡ true → of_members (members_outline ms) front ≡ Some (behind front ms)
  members-back no_members n front h rise above = ap Some (sym (behind-nil front))
  members-back (member k d ms) n front h rise above =
      let p = and_parts (keys_below k front) (all_above front ms) above in
      let q = and_parts (keys_above k ms) (keys_rise ms) rise in
      ap (option_and_then (λ (x : Data). of_members (members_outline ms) (put k x front))) (back d n h.0)
      ∙ ap (of_members (members_outline ms)) (put-last k d front p.0)
      ∙ members-back ms n (behind front (member k d no_members)) h.1 q.1 (above-last front k d ms p.1 q.0)
      ∙ ap Some (behind-one front k d ms)

mutual
  has-numbers : (d : Data) (n : ℕ) → IsPlain d n → tree.HasNumbers (outline d)
  has-numbers null n h = tt
  has-numbers (boolean b) n h = tt
  has-numbers (number (unsigned m)) n h = IsNumber-decimal m h
  has-numbers (number (negative z)) n h = absurd h
  has-numbers (number (float x)) n h = absurd h
  has-numbers (string s) n h = tt
  has-numbers (array ds) zero h = absurd h
  has-numbers (array ds) (suc n) h = items-have-numbers ds n h
  has-numbers (object ms) zero h = absurd h
  has-numbers (object ms) (suc n) h = members-have-numbers ms n h.0

  items-have-numbers : (ds : Items) (n : ℕ) → ArePlain ds n → tree.ItemsHaveNumbers (items_outline ds)
  items-have-numbers no_items n h = tt
  items-have-numbers (item d ds) n h = (has-numbers d n h.0, items-have-numbers ds n h.1)

  members-have-numbers : (ms : Members) (n : ℕ) → ArePlainMembers ms n → tree.MembersHaveNumbers (members_outline ms)
  members-have-numbers no_members n h = tt
  members-have-numbers (member k d ms) n h = (has-numbers d n h.0, members-have-numbers ms n h.1)

mutual
  shallow : (d : Data) (n : ℕ) → IsPlain d n → tree.depth (outline d) ≤ n
  shallow null n h = omega arith
  shallow (boolean b) n h = omega arith
  shallow (number (unsigned m)) n h = omega arith
  shallow (number (negative z)) n h = absurd h
  shallow (number (float x)) n h = absurd h
  shallow (string s) n h = omega arith
  shallow (array ds) zero h = absurd h
  shallow (array ds) (suc n) h = omega (arith, items-shallow ds n h)
  shallow (object ms) zero h = absurd h
  shallow (object ms) (suc n) h = omega (arith, members-shallow ms n h.0)

  items-shallow : (ds : Items) (n : ℕ) → ArePlain ds n → tree.items_depth (items_outline ds) ≤ n
  items-shallow no_items n h = omega arith
  items-shallow (item d ds) n h = omega (arith, shallow d n h.0, items-shallow ds n h.1)

  members-shallow : (ms : Members) (n : ℕ) → ArePlainMembers ms n → tree.members_depth (members_outline ms) ≤ n
  members-shallow no_members n h = omega arith
  members-shallow (member k d ms) n h = omega (arith, shallow d n h.0, members-shallow ms n h.1)

abbrev whole : Option (json.Json × List Token) → Option Data
whole o = option_and_then of_json (option_and_then (λ p. json.if_last p.0 p.1) o)

-- a plain value is read back from its compact text
pub read-plain : (d : Data) (n : ℕ) → n ≤ max_depth → IsPlain d n → read (compact_text d) ≡ Some d
read-plain d n within h =
    let j = outline d in
    let printed : tokens (compact_text d) ≡ tree.json_tokens j = ap tokens (sym (print-outline d)) ∙ tokens-print (tree.json_tokens j) (ArePrintable-json_tokens j (has-numbers d n h)) in
    let deep : tree.depth j ≤ max_depth = omega (arith, shallow d n h, within) in
    ap whole (ap (json.value max_depth) (printed ∙ sym (append-nil (tree.json_tokens j))) ∙ value-json_tokens j max_depth [] deep) ∙ back d n h
