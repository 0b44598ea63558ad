-- What stands at the keys of an object that borrows its text, and in its arrays.
use Rattle.std.proofs.Common.{◌≡◌, ℕ, suc, ◌+◌, ◌<◌, Bool, true, false, cond, List, [], ◌∷◌, ◌++◌, length, take, get_or, Option, Some, None, Result, Ok, option_map, refl, sym, ap, ◌∙◌, bytes_eq, true≢false, subst, Bor, IfSome, IsTrue, ◌≤◌, ◌^◌, is_some, take_all, lt-ltb}
use Rattle.std.specs.Prelude.{◌==◌, MatchOption, SomeIff, option_and_then, slice_index}
use Rattle.fast_float.specs.Text.{IsInteger, Parts, digits_of, scan}
use Rattle.std.specs.List.{AllByRecursion}
use Rattle.std.specs.declared.alloc.Global.{Global}
use Rattle.std.proofs.lemmas.List.{take_more}
use Rattle.std.proofs.lemmas.Slice.Eq.{bytes_eq-Decides}
use Rattle.json.specs.Json as json
use Rattle.json.specs.Find as find
use Rattle.json.specs.Value.{value_view, items_view, members_view}
use Rattle.json.specs.declared.value.Value.{Value}
use Rattle.serde_json.specs.Data.{Data, null, boolean, number, string, array, object, Num, unsigned, Items, no_items, item, Members, no_members, put}
use Rattle.serde_json.specs.Find.{as_array, as_bool, as_str, get, get_member}
use Rattle.serde_json.specs.Read.{number_of, of_json, of_items, of_members}
use Rattle.serde_json.proofs.Views.{get_member-put, get_member-put_other}
use Rattle.snapshot.specs.declared.fault.Fault.{Fault}
use Rattle.snapshot.specs.Shape.{each_from, field, object_of, optional, or_absent, required}
use Rattle.snapshot.specs.Tied.Meaning.{IsData, AreData, Means, Has, HasItems, EachMeans}

-- ---- members

-- what is found at a key: the last value, or what was there before
abbrev pub Found : Option json.Json → Option Data → Option Data → Type 0
Found o now earlier = MatchOption o (now ≡ earlier) (λ j. (d : Data) × (of_json j ≡ Some d) × (now ≡ Some d))

found_by : (o : Option json.Json) (b : Bool) (j : json.Json) (d : Data) (now middle earlier : Option Data) → of_json j ≡ Some d → Found o now middle
    → (b ≡ true → middle ≡ Some d) → (b ≡ false → middle ≡ earlier) → Found (find.later_or o (cond b (Some j) None)) now earlier
found_by (Some k) b j d now middle earlier is rest here other = rest
found_by None true j d now middle earlier is rest here other = (d, is, rest ∙ here refl)
found_by None false j d now middle earlier is rest here other = rest ∙ other refl

same_key : (k l : List ℕ) → bytes_eq l k ≡ true → l ≡ k
same_key k l e = (bytes_eq-Decides l k).0 e

other_key : (k l : List ℕ) → bytes_eq l k ≡ false → k ≡ l → ⊥
other_key k l e same = true≢false (sym ((bytes_eq-Decides l k).1 (sym same)) ∙ e)

-- what is found in the members behind one
Behind : List ℕ → json.Members → Members → Type 0
Behind k ms all = (before : Members) → of_members ms before ≡ Some all → Found (find.get_member k ms) (get_member k all) (get_member k before)

found_with : (k l : List ℕ) (j : json.Json) (ms : json.Members) (before all : Members) (o : Option Data) → Behind k ms all → of_json j ≡ o → option_and_then (λ d. of_members ms (put l d before)) o ≡ Some all
    → Found (find.get_member k (json.member l j ms)) (get_member k all) (get_member k before)
unfolding Behind
found_with k l j ms before all None behind is e = absurd cc
found_with k l j ms before all (Some d) behind is e =
    found_by (find.get_member k ms) (bytes_eq l k) j d (get_member k all) (get_member k (put l d before)) (get_member k before) is (behind (put l d before) e)
    (λ same. ap (λ m. get_member k (put m d before)) (same_key k l same) ∙ get_member-put k d before)
    (λ other. get_member-put_other k l d before (other_key k l other))

found_in : (k : List ℕ) (ms : json.Members) (all : Members) → Behind k ms all
unfolding Behind
found_in k json.no_members all before e =
    let same : before ≡ all = cc in
    rw (← same) refl
found_in k (json.member l j ms) all before e = found_with k l j ms before all (of_json j) (found_in k ms all) refl e

found_at : (k : List ℕ) (j : json.Json) (d : Data) → of_json j ≡ Some d → Found (find.get k j) (get k d) None
unfolding Behind
found_at k json.null d e =
    let same : null ≡ d = cc in
    rw (← same) refl
found_at k (json.boolean b) d e =
    let same : boolean b ≡ d = cc in
    rw (← same) refl
found_at k (json.string s) d e =
    let same : string s ≡ d = cc in
    rw (← same) refl
found_at k (json.number s) d e = of_number (number_of s) e
  where
    of_number : (o : Option Num) → option_map number o ≡ Some d → get k d ≡ None
    of_number None e = absurd cc
    of_number (Some n) e =
        let same : number n ≡ d = cc in
        rw (← same) refl
found_at k (json.array js) d e = of_array (of_items js) e
  where
    of_array : (o : Option Items) → option_map array o ≡ Some d → get k d ≡ None
    of_array None e = absurd cc
    of_array (Some ds) e =
        let same : array ds ≡ d = cc in
        rw (← same) refl
found_at k (json.object ms) d e = of_object (of_members ms no_members) refl e
  where
    of_object : (o : Option Members) → of_members ms no_members ≡ o → option_map object o ≡ Some d → Found (find.get_member k ms) (get k d) None
    of_object None is e = absurd cc
    of_object (Some all) is e =
        let same : object all ≡ d = cc in
        rw (← same) (found_in k ms all no_members is)

-- what has something at a key is an object
pub is_object : (k : List ℕ) (d e : Data) → get k d ≡ Some e → object_of d ≡ Ok tt
is_object k null e h = absurd cc
is_object k (boolean b) e h = absurd cc
is_object k (number n) e h = absurd cc
is_object k (string s) e h = absurd cc
is_object k (array ds) e h = absurd cc
is_object k (object ms) e h = refl

-- ---- what is found

module _ (k : List ℕ) (j : json.Json) where
  -- a value that is found is one that is read
  pub found_value : (e : json.Json) → find.get k j ≡ Some e → (d : Data) → of_json j ≡ Some d → (f : Data) × (of_json e ≡ Some f) × (get k d ≡ Some f)
  found_value e at d is = subst (λ o. Found o (get k d) None) at (found_at k j d is)

  pub found_nothing : find.get k j ≡ None → (d : Data) → of_json j ≡ Some d → get k d ≡ None
  found_nothing at d is = subst (λ o. Found o (get k d) None) at (found_at k j d is)

  -- of the value at the key, what is read of it
  pub has : (e : json.Json) (f : Data) → find.get k j ≡ Some e → of_json e ≡ Some f → Has k j f
  has e f at is d read =
      let there = found_value e at d read in
      there.2 ∙ sym there.1 ∙ is

pub text_is : (e : json.Json) (s : List ℕ) → find.as_str e ≡ Some s → of_json e ≡ Some (string s)
text_is json.null s e = absurd cc
text_is (json.boolean b) s e = absurd cc
text_is (json.number n) s e = absurd cc
text_is (json.string t) s e =
    let same : t ≡ s = cc in
    rw same refl
text_is (json.array js) s e = absurd cc
text_is (json.object ms) s e = absurd cc

pub flag_is : (e : json.Json) (b : Bool) → find.as_bool e ≡ Some b → of_json e ≡ Some (boolean b)
flag_is json.null b e = absurd cc
flag_is (json.boolean c) b e =
    let same : c ≡ b = cc in
    rw same refl
flag_is (json.number n) b e = absurd cc
flag_is (json.string t) b e = absurd cc
flag_is (json.array js) b e = absurd cc
flag_is (json.object ms) b e = absurd cc

pub number_is : (e : json.Json) (s : List ℕ) (n : Num) → find.as_number e ≡ Some s → number_of s ≡ Some n → of_json e ≡ Some (number n)
number_is json.null s n e h = absurd cc
number_is (json.boolean b) s n e h = absurd cc
number_is (json.number t) s n e h =
    let same : t ≡ s = cc in
    rw (same, h) refl
number_is (json.string t) s n e h = absurd cc
number_is (json.array js) s n e h = absurd cc
number_is (json.object ms) s n e h = absurd cc

-- ---- what the code finds

module _ (k : List ℕ) (j e : json.Json) (at : find.get k j ≡ Some e) where
  pub text_found : (r : Option (Bor (List ℕ))) → option_map (λ s. s.now) r ≡ find.as_str e → IfSome r (λ s. Has k j (string s.now))
  text_found None is = tt
  text_found (Some s) is = has k j e (string s.now) at (text_is e s.now (sym is))

  pub null_found : e ≡ json.null → Means (field (optional [] as_str) k) j []
  null_found is = λ d read. rw (has k j e null at (ap of_json is) d read) refl

  pub optional_text_found : (r : Option (Bor (List ℕ))) → option_map (λ s. s.now) r ≡ find.as_str e → IfSome r (λ s. Means (field (optional [] as_str) k) j s.now)
  optional_text_found None is = tt
  optional_text_found (Some s) is = λ d read. rw (has k j e (string s.now) at (text_is e s.now (sym is)) d read) refl

  pub flag_found : (r : Option Bool) → r ≡ find.as_bool e → IfSome r (λ b. Means (field (or_absent false as_bool) k) j b)
  flag_found None is = tt
  flag_found (Some b) is = λ d read. rw (has k j e (boolean b) at (flag_is e b (sym is)) d read) refl

  pub whole_found : (s : List ℕ) (r : Option ℕ) → find.as_number e ≡ Some s → IfSome r (λ n. number_of s ≡ Some (unsigned n)) → IfSome r (λ n. Has k j (number (unsigned n)))
  whole_found s None text is = tt
  whole_found s (Some n) text is = has k j e (number (unsigned n)) at (number_is e s (unsigned n) text is)

pub no_text : (k : List ℕ) (j : json.Json) → find.get k j ≡ None → Means (field (optional [] as_str) k) j []
no_text k j at d read = rw (found_nothing k j at d read) refl

pub no_flag : (k : List ℕ) (j : json.Json) → find.get k j ≡ None → Means (field (or_absent false as_bool) k) j false
no_flag k j at d read = rw (found_nothing k j at d read) refl

-- ---- items

items_by : (o : Option Items) (d : Data) → option_map array o ≡ Some d → (ds : Items) × (o ≡ Some ds) × (d ≡ array ds)
items_by None d e = absurd cc
items_by (Some ds) d e =
    let same : array ds ≡ d = cc in
    (ds, refl, sym same)

pub items_are : (js : json.Items) (d : Data) → of_json (json.array js) ≡ Some d → (ds : Items) × (of_items js ≡ Some ds) × (d ≡ array ds)
items_are js d e = items_by (of_items js) d e

pub items_found : (k : List ℕ) (j e : json.Json) (vs : List (Value Global)) → find.get k j ≡ Some e → e ≡ json.array (items_view vs) → HasItems (required as_array) k j vs
items_found k j e vs at is d read =
    let there = found_value k j e at d read in
    let all = items_are (items_view vs) there.0 (sym (ap of_json is) ∙ there.1) in
    let found : get k d ≡ Some (array all.0) = there.2 ∙ ap Some all.2 in
    (all.0, all.1, rw found refl)

-- what is read of an item and the others
pub record Item (j : json.Json) (js : json.Items) (all : Items) : Type 0 where
  pub first : Data
  pub others : Items
  pub is : of_json j ≡ Some first
  pub rest : of_items js ≡ Some others
  pub whole : all ≡ item first others

item_by : (j : json.Json) (js : json.Items) (all : Items) (o : Option Data) (more : Option Items) → of_json j ≡ o → of_items js ≡ more → option_and_then (λ d. option_map (item d) more) o ≡ Some all → Item j js all
item_by j js all None more is rest e = absurd cc
item_by j js all (Some d) None is rest e = absurd cc
item_by j js all (Some d) (Some ds) is rest e =
    let same : item d ds ≡ all = cc in
    record { first = d; others = ds; is = is; rest = rest; whole = sym same }

pub one_item : (j : json.Json) (js : json.Items) (all : Items) → of_items (json.item j js) ≡ Some all → Item j js all
one_item j js all e = item_by j js all (of_json j) (of_items js) refl refl e

module _ {A : Type 0} (form : Data → Result A Fault) where
  each_more : (i : ℕ) (d : Data) (ds : Items) (x : A) (xs : List A) → form d ≡ Ok x → each_from form (suc i) ds ≡ Ok xs → each_from form i (item d ds) ≡ Ok (x ∷ xs)
  unfolding each_from
  each_more i d ds x xs is rest = rw (is, rest) refl

  -- what a form makes of each value, it makes of the array
  pub each_means : (vs : List (Value Global)) (xs : List A) (ds : Items) (i : ℕ) → EachMeans form vs xs → of_items (items_view vs) ≡ Some ds → each_from form i ds ≡ Ok xs
  unfolding each_from
  each_means [] [] ds i all e =
      let same : no_items ≡ ds = cc in
      rw (← same) refl
  each_means [] (x ∷ xs) ds i all e = absurd all
  each_means (v ∷ vs) [] ds i all e = absurd all
  each_means (v ∷ vs) (x ∷ xs) ds i all e =
      let one = one_item (value_view v) (items_view vs) ds e in
      rw one.whole (each_more i one.first one.others x xs (all.0 one.first one.is) (each_means vs xs one.others (suc i) all.1 one.rest))

  push_means : (vs : List (Value Global)) (xs : List A) (v : Value Global) (x : A) → EachMeans form vs xs → Means form (value_view v) x → EachMeans form (vs ++ v ∷ []) (xs ++ x ∷ [])
  push_means [] [] v x all one = (one, tt)
  push_means [] (y ∷ xs) v x all one = absurd all
  push_means (w ∷ vs) [] v x all one = absurd all
  push_means (w ∷ vs) (y ∷ xs) v x all one = (all.0, push_means vs xs v x all.1 one)

  -- one value more
  pub more_means : (vs : List (Value Global)) (i : ℕ) (w : Value Global) (xs : List A) (x : A) → i < length vs → EachMeans form (take i vs) xs → Means form (value_view (get_or vs i w)) x
      → EachMeans form (take (i + 1) vs) (xs ++ x ∷ [])
  more_means vs i w xs x lt all one = rw (take_more vs i w lt) (push_means (take i vs) xs (get_or vs i w) x all one)

-- ---- values that `serde_json` reads

pub items_data : (vs : List (Value Global)) → AllByRecursion (λ v. IsData (value_view v)) vs → AreData vs
items_data [] all = (no_items, refl)
items_data (v ∷ vs) all =
    let rest = items_data vs all.1 in
    (item all.0.0 rest.0, rw (all.0.1, rest.1) refl)

pub number_data : (e : json.Json) (s : List ℕ) (r : Option ℕ) → e ≡ json.number s → IfSome r (λ n. number_of s ≡ Some (unsigned n)) → IsTrue (is_some r) → IsData e
number_data e s None is read h = absurd (true≢false (sym h))
number_data e s (Some n) is read h = (number (unsigned n), ap of_json is ∙ ap (option_map number) read)

pub items_value_data : (e : json.Json) (vs : List (Value Global)) → e ≡ json.array (items_view vs) → AreData vs → IsData e
items_value_data e vs is all = (array all.0, ap of_json is ∙ ap (option_map array) all.1)

pub members_value_data : (e : json.Json) (ms : List (Bor (List ℕ) × Value Global)) → e ≡ json.object (members_view ms) → ((before : Members) → (all : Members) × (of_members (members_view ms) before ≡ Some all)) → IsData e
members_value_data e ms is all = (object (all no_members).0, ap of_json is ∙ ap (option_map object) (all no_members).1)

pub members_data : (ms : List (Bor (List ℕ) × Value Global)) → AllByRecursion (λ m. IsData (value_view m.1)) ms → (before : Members) → (all : Members) × (of_members (members_view ms) before ≡ Some all)
members_data [] all before = (before, refl)
members_data (m ∷ ms) all before =
    let rest = members_data ms all.1 (put m.0.now all.0.0 before) in
    (rest.0, rw all.0.1 rest.1)

pub all_taken : {X : Type 0} (P : X → Type 0) (xs : List X) (n : ℕ) → length xs ≤ n → AllByRecursion P (take n xs) → AllByRecursion P xs
all_taken P xs n le all = rw (take_all n xs le) at all

pub each_taken : {A : Type 0} (form : Data → Result A Fault) (vs : List (Value Global)) (n : ℕ) (xs : List A) → length vs ≤ n → EachMeans form (take n vs) xs → EachMeans form vs xs
each_taken form vs n xs le all = rw (take_all n vs le) at all

-- ---- numbers

pub whole_number : (s : List ℕ) (p : Parts) (r : Option ℕ) → (slice_index s 0 == 45) ≡ false → p ≡ scan s → SomeIff r (IsInteger p × (digits_of p < 2 ^ 64)) (digits_of p) → IfSome r (λ n. number_of s ≡ Some (unsigned n))
unfolding number_of
whole_number s p None plus is read = tt
whole_number s p (Some n) plus is read =
    let parts = read.0.0 in
    rw (plus, ← is, lt-ltb _ _ parts.0, parts.1, parts.2, lt-ltb _ _ read.0.1) (ap (λ m. Some (unsigned m)) (sym read.1))
