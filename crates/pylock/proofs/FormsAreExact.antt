-- Data that are read as a value of one form are the data of that value.
use Rattle.std.proofs.Common.{◌≡◌, ℕ, List, [], ◌∷◌, map, Option, Some, None, option_and_then, Result, Ok, Err, pos, negsuc, refl, sym, ap, ◌∙◌}
use Rattle.std.specs.Option.{option_map}
use Rattle.toml.specs.Data.{Data, string, integer, float, boolean, datetime, array, table, Items, no_items, item, Members, as_array, as_integer, as_str, as_table, get_member}
use Rattle.toml.specs.View.{items_of}
use Rattle.pylock.specs.declared.flaw.Flaw.{Flaw}
use Rattle.pylock.specs.Flaws.{◌>>=◌, found}
use Rattle.pylock.specs.Forms.{all_known, each, natural, not_empty, optionally, size_at, some_each, table_with, text_at, unknown_in}
use Rattle.pylock.specs.Tables.{some_array}

-- ---- results

pub record Both {A E B : Type 0} (r : Result A E) (f : A → Result B E) (y : B) : Type 0 where
  pub value : A
  pub first : r ≡ Ok value
  pub next : f value ≡ Ok y

pub both : {A E B : Type 0} (r : Result A E) (f : A → Result B E) (y : B) → (r >>= f) ≡ Ok y → Both r f y
both (Ok x) f y h = record { value = x; first = refl; next = h }
both (Err e) f y h = absurd cc

pub found-is : {A : Type 0} (o : Option A) (x : A) → found o ≡ Ok x → o ≡ Some x
found-is None x h = absurd cc
found-is (Some y) x h = let e : y ≡ x = cc in ap Some e

-- ---- values of one form

pub str-is : (o : Option Data) (t : List ℕ) → option_and_then as_str o ≡ Some t → o ≡ Some (string t)
str-is None t h = absurd cc
str-is (Some (string s)) t h = let e : s ≡ t = cc in ap (λ u. Some (string u)) e
str-is (Some (integer z)) t h = absurd cc
str-is (Some (float x)) t h = absurd cc
str-is (Some (boolean b)) t h = absurd cc
str-is (Some (datetime dt)) t h = absurd cc
str-is (Some (array ds)) t h = absurd cc
str-is (Some (table ms)) t h = absurd cc

pub array-is : (o : Option Data) (ds : Items) → option_and_then as_array o ≡ Some ds → o ≡ Some (array ds)
array-is None t h = absurd cc
array-is (Some (string s)) t h = absurd cc
array-is (Some (integer z)) t h = absurd cc
array-is (Some (float x)) t h = absurd cc
array-is (Some (boolean b)) t h = absurd cc
array-is (Some (datetime dt)) t h = absurd cc
array-is (Some (array ds)) t h = let e : ds ≡ t = cc in ap (λ u. Some (array u)) e
array-is (Some (table ms)) t h = absurd cc

size-cases : (d : Data) (n : ℕ) → option_and_then natural (as_integer d) ≡ Some n → d ≡ integer (pos n)
size-cases (string s) n h = absurd cc
size-cases (integer (pos m)) n h = let e : m ≡ n = cc in ap (λ u. integer (pos u)) e
size-cases (integer (negsuc m)) n h = absurd cc
size-cases (float x) n h = absurd cc
size-cases (boolean b) n h = absurd cc
size-cases (datetime dt) n h = absurd cc
size-cases (array ds) n h = absurd cc
size-cases (table ms) n h = absurd cc

size-is : (o : Option Data) (n : ℕ) → option_and_then natural (option_and_then as_integer o) ≡ Some n → o ≡ Some (integer (pos n))
size-is None n h = absurd cc
size-is (Some d) n h = ap Some (size-cases d n h)

known-cases : (known : List (List ℕ)) (ms ns : Members) (b : Option (List ℕ)) → unknown_in known ms ≡ b → all_known known ms ≡ Some ns → (ms ≡ ns) × (unknown_in known ms ≡ None)
known-cases known ms ns None is h = let g = (rw is at h) in let e : ms ≡ ns = cc in (e, is)
known-cases known ms ns (Some k) is h = absurd (let g = (rw is at h) in cc)

table-cases : (known : List (List ℕ)) (d : Data) (ms : Members) → option_and_then (all_known known) (as_table d) ≡ Some ms → (d ≡ table ms) × (unknown_in known ms ≡ None)
table-cases known (string s) n h = absurd cc
table-cases known (integer z) n h = absurd cc
table-cases known (float x) n h = absurd cc
table-cases known (boolean b) n h = absurd cc
table-cases known (datetime dt) n h = absurd cc
table-cases known (array ds) n h = absurd cc
table-cases known (table ms) n h = let p = known-cases known ms n (unknown_in known ms) refl h in (ap table p.0, rw (← p.0) p.1)

pub table-is : (known : List (List ℕ)) (d : Data) (ms : Members) → table_with known d ≡ Ok ms → (d ≡ table ms) × (unknown_in known ms ≡ None)
table-is known d ms h = table-cases known d ms (found-is (option_and_then (all_known known) (as_table d)) ms h)

pub text-is : (key : List ℕ) (ms : Members) (t : List ℕ) → text_at key ms ≡ Ok t → get_member key ms ≡ Some (string t)
text-is key ms t h = str-is (get_member key ms) t (found-is (option_and_then as_str (get_member key ms)) t h)

pub number-is : (key : List ℕ) (ms : Members) (n : ℕ) → size_at key ms ≡ Ok n → get_member key ms ≡ Some (integer (pos n))
number-is key ms n h = size-is (get_member key ms) n (found-is (option_and_then natural (option_and_then as_integer (get_member key ms))) n h)

module _ {X : Type 0} (form : X → Data) (reading : Data → Result X Flaw) (exact : (d : Data) (x : X) → reading d ≡ Ok x → d ≡ form x) where
  one-more : (d : Data) (ds : Items) (x : X) (xs : List X) → d ≡ form x → ds ≡ items_of (map form xs) → item d ds ≡ items_of (map form (x ∷ xs))
  one-more d ds x xs h g = rw (h, g) refl

  pub each-is : (ds : Items) (xs : List X) → each reading ds ≡ Ok xs → ds ≡ items_of (map form xs)
  unfolding each
  each-is no_items xs h = let e : [] ≡ xs = cc in ap (λ ys. items_of (map form ys)) e
  each-is (item d ds) xs h =
      let b = both (reading d) (λ x. each reading ds >>= λ ys. Ok (x ∷ ys)) xs h in
      let c = both (each reading ds) (λ ys. Ok (b.value ∷ ys)) xs b.next in
      let e : b.value ∷ c.value ≡ xs = let t = c.next in cc in
      one-more d ds b.value c.value (exact d b.value b.first) (each-is ds c.value c.first) ∙ ap (λ ys. items_of (map form ys)) e

  pub optional-is : (o : Option Data) (x : Option X) → optionally reading o ≡ Ok x → o ≡ option_map form x
  optional-is None x h = let e : None ≡ x = cc in ap (option_map form) e
  optional-is (Some d) x h =
      let b = both (reading d) (λ y. Ok (Some y)) x h in
      let e : Some b.value ≡ x = let t = b.next in cc in
      ap Some (exact d b.value b.first) ∙ ap (option_map form) e

  some-items : (d : Data) (ds : Items) → option_and_then not_empty (as_array d) ≡ Some ds → (d ≡ array ds) × (not_empty ds ≡ Some ds)
  some-items (string s) n h = absurd cc
  some-items (integer z) n h = absurd cc
  some-items (float x) n h = absurd cc
  some-items (boolean b) n h = absurd cc
  some-items (datetime dt) n h = absurd cc
  some-items (array no_items) n h = absurd cc
  some-items (array (item d ds)) n h = let e : item d ds ≡ n = cc in (ap array e, sym (ap not_empty e) ∙ ap Some e)
  some-items (table ms) n h = absurd cc

  some-list : (xs : List X) → not_empty (items_of (map form xs)) ≡ Some (items_of (map form xs)) → Some (array (items_of (map form xs))) ≡ some_array form xs
  some-list [] h = absurd cc
  some-list (x ∷ xs) h = refl

  pub some-is : (o : Option Data) (xs : List X) → some_each reading o ≡ Ok xs → o ≡ some_array form xs
  some-is None xs h = let e : [] ≡ xs = cc in ap (some_array form) e
  some-is (Some d) xs h =
      let b = both (found (option_and_then not_empty (as_array d))) (each reading) xs h in
      let p = some-items d b.value (found-is (option_and_then not_empty (as_array d)) b.value b.first) in
      let e = each-is b.value xs b.next in
      ap Some p.0 ∙ ap (λ ds. Some (array ds)) e ∙ some-list xs (rw e at p.1)
