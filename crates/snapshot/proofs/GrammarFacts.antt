-- The grammar of `json` a turn at a time, under what `serde_json` reads.
use Rattle.std.proofs.Common.{◌≡◌, ℕ, suc, ◌-◌, ◌<◌, ◌≤◌, List, [], ◌∷◌, ◌++◌, length, Option, Some, None, Result, Ok, option_map, refl, sym, ap, ◌∙◌, arith, fold}
use Rattle.std.specs.Prelude.{IfSome, IsUtf8, codes, option_and_then}
use Rattle.std.proofs.lemmas.Str.{is_utf8-from_IsUtf8}
use Rattle.json.specs.Token.{Token}
use Rattle.json.specs.Lex.{tokens}
use Rattle.json.specs.Json as json
use Rattle.json.specs.Json.{Parse, parse_map, after_end_array, read_key, items, members, value, if_last}
use Rattle.json.proofs.Grammar.{value_is, value-begin_array, value-begin_object, items_end, items_more, members_end, members_more}
use Rattle.serde_json.specs.Data.{Data, number, array, object, unsigned, Items, no_items, item, Members, no_members, put}
use Rattle.serde_json.specs.Read.{number_of, of_json, of_items, of_members, converted, read as read_json}
use Rattle.snapshot.specs.declared.fault.Fault.{Fault}
use Rattle.snapshot.specs.declared.package.ReadPackage.{ReadPackage}
use Rattle.snapshot.specs.declared.package.ReadPackages.{ReadPackages}
use Rattle.snapshot.specs.Packages.{json_of, package_of, packages_in, packages_of, together}
use Rattle.snapshot.specs.Shape.{each_from}
use Rattle.snapshot.specs.Tied.Meaning.{ArePackages, EachIs, IsData, IsFront, Means, packages_in_bytes}
use Rattle.snapshot.proofs.ItemsOneByOne.{fold-last}
use Rattle.snapshot.proofs.PackageFacts.{all-together, no_packages, with_package}

abbrev pick : {A : Type 0} → A → Option A → A
pick d None = d
pick d (Some a) = a

found_by : {A B : Type 0} (a : A) (r s : List Token) (x : Option B) (b : B) → option_map {U = B × List Token} (λ y. (y, r)) x ≡ Some (b, s) → (r ≡ s) × (x ≡ Some b)
found_by a r s None b e = absurd (cc)
found_by a r s (Some y) b e = let same = ap (pick (y, r)) e in (ap (λ p. p.1) same, ap (λ p. Some p.0) same)

-- what is read under a conversion is read
pub converted_some : {A B : Type 0} (f : A → Option B) (o : Option (A × List Token)) (b : B) (r : List Token) → converted f o ≡ Some (b, r) → (a : A) × (o ≡ Some (a, r)) × (f a ≡ Some b)
converted_some f None b r e = absurd (cc)
converted_some f (Some p) b r e = let both = found_by p.0 p.1 r (f p.0) b e in (p.0, ap (λ s. Some (p.0, s)) both.0, both.1)

twice : {A B : Type 0} (g : A → B) (r : List Token) (x : Option A) → option_map (λ b. (b, r)) (option_map g x) ≡ parse_map g (option_map (λ a. (a, r)) x)
twice g r None = refl
twice g r (Some a) = refl

converted-array : (o : Option (json.Items × List Token)) → converted of_json (parse_map json.array o) ≡ parse_map array (converted of_items o)
converted-array None = refl
converted-array (Some p) = twice array p.1 (of_items p.0)

converted-object : (o : Option (json.Members × List Token)) → converted of_json (parse_map json.object o) ≡ parse_map object (converted (λ ms. of_members ms no_members) o)
converted-object None = refl
converted-object (Some p) = twice object p.1 (of_members p.0 no_members)

with_item : (j : json.Json) (d : Data) → of_json j ≡ Some d → (o : Option (json.Items × List Token)) → converted of_items (parse_map (json.item j) o) ≡ parse_map (item d) (converted of_items o)
with_item j d e None = refl
with_item j d e (Some p) = rw e (twice (item d) p.1 (of_items p.0))

with_member : (k : List ℕ) (j : json.Json) (d : Data) (old : Members) → of_json j ≡ Some d → (o : Option (json.Members × List Token))
    → converted (λ ms. of_members ms old) (parse_map (json.member k j) o) ≡ converted (λ ms. of_members ms (put k d old)) o
with_member k j d old e None = refl
with_member k j d old e (Some p) = rw e

module _ (p : Parse json.Json) where
  item_read : (n : ℕ) (ts r : List Token) (d : Data) → 0 < n → after_end_array ts ≡ None → converted of_json (p ts) ≡ Some (d, r)
      → converted of_items (items p n ts) ≡ parse_map (item d) (converted of_items (items p (n - 1) r))
  item_read n ts r d some going e = let j = converted_some of_json (p ts) d r e in ap (converted of_items) (items_more p n ts r j.0 some going j.1) ∙ with_item j.0 d j.2 _

  items_over : (n : ℕ) (ts r : List Token) → length ts ≤ n → after_end_array ts ≡ Some r → converted of_items (items p n ts) ≡ Some (no_items, r)
  items_over n ts r enough e = ap (converted of_items) (items_end p n ts r enough e)

  member_read : (old : Members) (n : ℕ) (k : List ℕ) (ts s r : List Token) (d : Data) → 0 < n → read_key ts ≡ Some (Some k, s) → converted of_json (p s) ≡ Some (d, r)
      → converted (λ ms. of_members ms old) (members p n ts) ≡ converted (λ ms. of_members ms (put k d old)) (members p (n - 1) r)
  member_read old n k ts s r d some key e =
      let j = converted_some of_json (p s) d r e in
      ap (converted (λ ms. of_members ms old)) (members_more p n k ts s r j.0 some key j.1) ∙ with_member k j.0 d old j.2 _

  members_over : (old : Members) (n : ℕ) (ts r : List Token) → length ts ≤ n → read_key ts ≡ Some (None, r) → converted (λ ms. of_members ms old) (members p n ts) ≡ Some (old, r)
  members_over old n ts r enough e = ap (converted (λ ms. of_members ms old)) (members_end p n ts r enough e)

-- ---- items that are read one after the other

-- the items before others
abbrev pub before : List Data → Items → Items
before [] rest = rest
before (d ∷ ds) rest = item d (before ds rest)

push_before : (ds : List Data) (d : Data) (rest : Items) → before ds (item d rest) ≡ before (ds ++ d ∷ []) rest
push_before [] d rest = refl
push_before (e ∷ ds) d rest = ap (item e) (push_before ds d rest)

one_more : (ds : List Data) (d : Data) (r : Option (Items × List Token)) → parse_map (before ds) (parse_map (item d) r) ≡ parse_map (before (ds ++ d ∷ [])) r
one_more ds d None = refl
one_more ds d (Some p) = ap (λ all. Some (all, p.1)) (push_before ds d p.0)

none_before : (r : Option (Items × List Token)) → r ≡ parse_map (before []) r
none_before None = refl
none_before (Some p) = refl

push_is : {A : Type 0} (form : Data → Result A Fault) (ds : List Data) (xs : List A) (d : Data) (x : A) → EachIs form ds xs → form d ≡ Ok x → EachIs form (ds ++ d ∷ []) (xs ++ x ∷ [])
push_is form [] [] d x all one = (one, tt)
push_is form [] (y ∷ xs) d x all one = absurd all
push_is form (e ∷ ds) [] d x all one = absurd all
push_is form (e ∷ ds) (y ∷ xs) d x all one = (all.0, push_is form ds xs d x all.1 one)

each_is : {A : Type 0} (form : Data → Result A Fault) (i : ℕ) (ds : List Data) (xs : List A) → EachIs form ds xs → each_from form i (before ds no_items) ≡ Ok xs
unfolding each_from
each_is form i [] [] all = refl
each_is form i [] (x ∷ xs) all = absurd all
each_is form i (d ∷ ds) [] all = absurd all
each_is form i (d ∷ ds) (x ∷ xs) all = rw (all.0, each_is form (suc i) ds xs all.1) refl

-- how far the packages of a list are read: `ts` is left of `all`
pub record ReadSoFar (all ts : List Token) (so_far : ReadPackages) : Type 0 where
  pub turns : ℕ
  pub enough : length ts ≤ turns
  pub values : List Data
  pub read : List ReadPackage
  pub is : converted of_items (items (value 125) (length all) all) ≡ parse_map (before values) (converted of_items (items (value 125) turns ts))
  pub each : EachIs package_of values read
  pub gathered : so_far ≡ fold with_package no_packages read

pub none_read : (all : List Token) → ReadSoFar all all no_packages
none_read all = record { turns = length all; enough = omega arith; values = []; read = []; is = none_before _; each = tt; gathered = refl }

pub one_read : (all ts r : List Token) (so_far : ReadPackages) (x : ReadPackage) (d : Data) → ReadSoFar all ts so_far → after_end_array ts ≡ None → converted of_json (value 125 ts) ≡ Some (d, r) → package_of d ≡ Ok x
    → length r < length ts → ReadSoFar all r (with_package so_far x)
one_read all ts r so_far x d s going e is shorter =
    let some : 0 < s.turns = omega (arith, s.enough) in
    let less : length r ≤ s.turns - 1 = omega (arith, s.enough) in
    record {
      turns = s.turns - 1;
      enough = less;
      values = s.values ++ d ∷ [];
      read = s.read ++ x ∷ [];
      is = s.is ∙ ap (parse_map (before s.values)) (item_read (value 125) s.turns ts r d some going e) ∙ one_more s.values d _;
      each = push_is package_of s.values s.read d x s.each is;
      gathered = ap (λ so_far. with_package so_far x) s.gathered ∙ sym (fold-last with_package no_packages s.read x);
    }

listed : (ds : Items) (read : List ReadPackage) → each_from package_of 0 ds ≡ Ok read → packages_in ds ≡ Ok (together read)
unfolding packages_in
listed ds read e = rw e refl

pub all_read : (all ts r : List Token) (so_far : ReadPackages) → ReadSoFar all ts so_far → after_end_array ts ≡ Some r → ArePackages all r so_far
all_read all ts r so_far s e =
    let packages = listed (before s.values no_items) s.read (each_is package_of 0 s.values s.read s.each) in (
      before s.values no_items,
      s.is ∙ ap (parse_map (before s.values)) (items_over (value 125) s.turns ts r s.enough e),
      packages ∙ ap (λ (read : ReadPackages). let whole : Result ReadPackages Fault = Ok read in whole) (sym (s.gathered ∙ all-together s.read)),
    )

-- the next package of a list
pub next_read : (old new : List Token) (j : json.Json) (r : Option ReadPackage) → value 125 old ≡ Some (j, new) → IsData j → IfSome r (λ p. Means package_of j p)
    → IfSome r (λ p. (d : Data) × (converted of_json (value 125 old) ≡ Some (d, new)) × (package_of d ≡ Ok p))
next_read old new j None is there means = tt
next_read old new j (Some p) is there means = (there.0, rw (is, there.1) refl, means there.0 there.1)

-- ---- the whole text

whole : Option (json.Json × List Token) → Option Data
whole o = option_and_then of_json (option_and_then (λ p. if_last p.0 p.1) o)

whole_read : (o : Option (json.Json × List Token)) (d : Data) → converted of_json o ≡ Some (d, []) → whole o ≡ Some d
unfolding whole
whole_read o d e = let j = converted_some of_json o d [] e in ap whole j.1 ∙ j.2

-- what an index is read as that has this list of packages
abbrev index_with : Items → Data
index_with ds = object (put (codes "packages") (array ds) (put (codes "snapshot") (number (unsigned 1)) no_members))

module _ (format : List ℕ) (one : number_of format ≡ Some (unsigned 1)) (ts : List Token) (ds : Items) (list : converted of_items (items (value 125) (length ts) ts) ≡ Some (ds, Token.end_object ∷ [])) where
  behind_packages : List Token
  behind_packages = Token.begin_array ∷ ts

  behind_format : List Token
  behind_format = Token.key (codes "packages") ∷ Token.begin_array ∷ ts

  behind_brace : List Token
  behind_brace = Token.key (codes "snapshot") ∷ Token.number format ∷ Token.key (codes "packages") ∷ Token.begin_array ∷ ts

  the_format : converted of_json (value 126 (Token.number format ∷ behind_format)) ≡ Some (number (unsigned 1), behind_format)
  the_format = ap (converted of_json) (value_is 126 (Token.number format ∷ behind_format)) ∙ rw one refl

  the_packages : converted of_json (value 126 (Token.begin_array ∷ ts)) ≡ Some (array ds, Token.end_object ∷ [])
  the_packages =
      let deep : 0 < 126 = omega arith in
      ap (converted of_json) (value-begin_array 126 ts deep) ∙ converted-array (items (value 125) (length ts) ts) ∙ ap (parse_map array) list

  the_index : converted of_json (value 127 (Token.begin_object ∷ behind_brace)) ≡ Some (index_with ds, [])
  unfolding behind_brace behind_format behind_packages
  the_index =
      let deep : 0 < 127 = omega arith in
      let n = length behind_brace in
      let some : 0 < n = omega arith in
      let more : 0 < n - 1 = omega arith in
      let enough : 1 ≤ n - 1 - 1 = omega arith in
      ap (converted of_json) (value-begin_object 127 behind_brace deep) ∙ converted-object (members (value 126) n behind_brace)
      ∙ ap (parse_map object)
      (member_read (value 126) no_members n (codes "snapshot") behind_brace (Token.number format ∷ behind_format) behind_format (number (unsigned 1)) some refl the_format
      ∙ member_read (value 126) (put (codes "snapshot") (number (unsigned 1)) no_members) (n - 1) (codes "packages") behind_format behind_packages (Token.end_object ∷ []) (array ds) more refl the_packages
      ∙ members_over (value 126) (put (codes "packages") (array ds) (put (codes "snapshot") (number (unsigned 1)) no_members)) (n - 1 - 1) (Token.end_object ∷ []) [] enough refl)

packages_with : (ds : Items) (read : ReadPackages) → packages_in ds ≡ Ok read → packages_of (index_with ds) ≡ Ok read
unfolding packages_of
packages_with ds read e = rw e refl

-- a text of a front, the packages and an end is an index of these packages
pub index_read : (text : List ℕ) (ts : List Token) (read : ReadPackages) → IsFront (tokens text) ts → ArePackages ts (Token.end_object ∷ []) read
    → (d : Data) × (read_json text ≡ Some d) × (packages_of d ≡ Ok read)
unfolding whole behind_brace behind_format behind_packages
index_read text ts read front list =
    let index = whole_read (value 127 (Token.begin_object ∷ behind_brace front.0 front.1 ts list.0 list.1)) (index_with list.0) (the_index front.0 front.1 ts list.0 list.1) in
    (index_with list.0, ap (λ all. whole (value 127 all)) front.2 ∙ index, packages_with list.0 read list.2)

-- bytes that are a text of such an index
pub bytes_read : (text bytes : List ℕ) (r : Option ReadPackages) → (text ≡ bytes) × IsUtf8 bytes → IfSome r (λ read. (d : Data) × (read_json text ≡ Some d) × (packages_of d ≡ Ok read)) → IfSome r (λ read. packages_in_bytes bytes ≡ Ok read)
unfolding json_of
bytes_read text bytes None same is = tt
bytes_read text bytes (Some read) same is =
    let whole : read_json bytes ≡ Some is.0 = ap read_json (sym same.0) ∙ is.1 in
    rw (is_utf8-from_IsUtf8 bytes same.1, whole, is.2) refl
