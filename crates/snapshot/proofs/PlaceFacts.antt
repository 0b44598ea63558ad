-- Where packages stand, and what a look-up by the place finds.
use Rattle.std.proofs.Common.{◌≡◌, ℕ, suc, ◌+◌, ◌<◌, ◌||◌, Bool, true, false, cond, List, [], ◌∷◌, ◌++◌, length, get_or, take, drop, Option, Some, None, Ok, Err, find, refl, sym, ap, ◌∙◌, add-one, append_assoc, arith, bytes_eq, zero-add, String, Global, string_bytes, string_cmp, true≢false}
use Rattle.std.proofs.Math.Seq.{drop-cons, take-append_seam}
use Rattle.std.proofs.lemmas.List.{length-append, length-take-le, take_more}
use Rattle.std.proofs.lemmas.Map.Text.{btree_map_updates_text}
use Rattle.std.proofs.lemmas.Slice.Eq.{bytes_eq-Decides}
use Rattle.std.specs.BTreeMap.{BTreeMap, UpdatesBy, get_by_text}
use Rattle.std.specs.Map.{update}
use Rattle.std.specs.List.{cons_option, enumerate_from, filter_map, list_any, position_from}
use Rattle.std.specs.Prelude.{is_some}
use Rattle.snapshot.specs.declared.package.Package.{Package}
use Rattle.snapshot.specs.Packages.{is_named, releases_of, repeated_at, repeated_names, unless_repeated}
use Rattle.snapshot.specs.declared.fault.Fault.TheVariants.{DuplicatePackage}
use Rattle.snapshot.specs.Tied.Places.{ArePlaces, repeated_from}

-- an item that doesn't pass, put last, changes no place
position-push_other : {X : Type 0} (p : X → Bool) (k : ℕ) (xs : List X) (y : X) → p y ≡ false → position_from p k (xs ++ y ∷ []) ≡ position_from p k xs
position-push_other p k [] y fails = rw fails refl
position-push_other p k (x ∷ xs) y fails = ap (λ r. cond (p x) (Some k) r) (position-push_other p (k + 1) xs y fails)

either_false : (a b : Bool) → a || b ≡ false → (a ≡ false) × (b ≡ false)
either_false true b e = absurd (true≢false e)
either_false false b e = (refl, e)

-- an item that passes, put last where none does, is found there
position-push_new : {X : Type 0} (p : X → Bool) (k : ℕ) (xs : List X) (y : X) → list_any p xs ≡ false → p y ≡ true → position_from p k (xs ++ y ∷ []) ≡ Some (k + length xs)
position-push_new p k [] y none passes = rw passes (ap Some (omega arith))
position-push_new p k (x ∷ xs) y none passes =
    let parts = either_false (p x) (list_any p xs) none in
    rw parts.0 (position-push_new p (k + 1) xs y parts.1 passes ∙ ap Some (omega arith))

-- a place is found where some item passes
pub position-any : {X : Type 0} (p : X → Bool) (k : ℕ) (xs : List X) → is_some (position_from p k xs) ≡ list_any p xs
position-any p k [] = refl
position-any p k (x ∷ xs) = elim (p x) as (λ b. is_some (cond b (Some k) (position_from p (k + 1) xs)) ≡ b || list_any p xs) [ true ↦ refl | false ↦ position-any p (k + 1) xs ]

none_by : {X : Type 0} (b : Bool) (k : ℕ) (x : X) (later : Option ℕ) (found : Option X) → (later ≡ None → found ≡ None) → cond b (Some k) later ≡ None → cond b (Some x) found ≡ None
none_by true k x later found f e = absurd cc
none_by false k x later found f e = f e

-- no place, no item
position-none : {X : Type 0} (p : X → Bool) (k : ℕ) (xs : List X) → position_from p k xs ≡ None → find p xs ≡ None
position-none p k [] e = refl
position-none p k (x ∷ xs) e = none_by (p x) k x (position_from p (k + 1) xs) (find p xs) (position-none p (k + 1) xs) e

-- the item at the place is the first that passes
record Found {X : Type 0} (p : X → Bool) (k i : ℕ) (xs : List X) : Type 0 where
  pub at : ℕ
  pub place : i ≡ k + at
  pub within : at < length xs
  pub item : (d : X) → find p xs ≡ Some (get_or xs at d)

some_by : {X : Type 0} (p : X → Bool) (b : Bool) (k i : ℕ) (x : X) (xs : List X) → p x ≡ b → (position_from p (k + 1) xs ≡ Some i → Found p (k + 1) i xs) → cond b (Some k) (position_from p (k + 1) xs) ≡ Some i → Found p k i (x ∷ xs)
some_by p true k i x xs is f e = record { at = 0; place = let same : k ≡ i = cc in omega arith; within = omega arith; item = λ d. rw is refl }
some_by p false k i x xs is f e =
    let later = f e in
    record { at = suc later.at; place = omega (arith, later.place); within = omega (arith, later.within); item = λ d. rw is (later.item d) }

position-some : {X : Type 0} (p : X → Bool) (k i : ℕ) (xs : List X) → position_from p k xs ≡ Some i → Found p k i xs
position-some p k i [] e = absurd cc
position-some p k i (x ∷ xs) e = some_by p (p x) k i x xs refl (position-some p (k + 1) i xs) e

releases_at : (name : List ℕ) (ps : List Package) (i : ℕ) (d : Package) → Found (is_named name) 0 i ps → releases_of name ps ≡ (get_or ps i d).releases
releases_at name ps i d f =
    let same : f.at ≡ i = omega (arith, f.place) in
    rw (f.item d) (ap (λ (j : ℕ). (get_or ps j d).releases) same)

-- what a look-up by the place finds
pub found_within : (name : List ℕ) (ps : List Package) (i : ℕ) → position_from (is_named name) 0 ps ≡ Some i → i < length ps
found_within name ps i e = let f = position-some (is_named name) 0 i ps e in omega (arith, f.place, f.within)

pub found_releases : (name : List ℕ) (ps : List Package) (i : ℕ) (d : Package) → position_from (is_named name) 0 ps ≡ Some i → releases_of name ps ≡ (get_or ps i d).releases
found_releases name ps i d e = releases_at name ps i d (position-some (is_named name) 0 i ps e)

pub no_releases : (name : List ℕ) (ps : List Package) → position_from (is_named name) 0 ps ≡ None → releases_of name ps ≡ []
no_releases name ps e = rw (position-none (is_named name) 0 ps e) refl

-- ---- one package more

at_by : (b : Bool) (name : List ℕ) (p : Package) (ps : List Package) (old new : Option ℕ) → bytes_eq p.name name ≡ b → list_any (is_named p.name) ps ≡ false → old ≡ position_from (is_named name) 0 ps
    → new ≡ cond b (Some (length ps)) old → new ≡ position_from (is_named name) 0 (ps ++ p ∷ [])
at_by true name p ps old new is none before after =
    let same : p.name ≡ name = (bytes_eq-Decides p.name name).0 is in
    let fresh : list_any (is_named name) ps ≡ false = rw (← same) none in
    after ∙ ap Some (sym (zero-add (length ps))) ∙ sym (position-push_new (is_named name) 0 ps p fresh is)
at_by false name p ps old new is none before after = after ∙ before ∙ sym (position-push_other (is_named name) 0 ps p is)

pub ArePlaces-push : (old new : BTreeMap (String Global) ℕ) (ps : List Package) (p : Package) → ArePlaces old ps → list_any (is_named p.name) ps ≡ false
    → ((name : List ℕ) → get_by_text new name ≡ update bytes_eq (get_by_text old) p.name (Some (length ps)) name) → ArePlaces new (ps ++ p ∷ [])
ArePlaces-push old new ps p before none after name = at_by (bytes_eq p.name name) name p ps (get_by_text old name) (get_by_text new name) refl none (before name) (after name)

-- whether the map has a name is whether one of the packages has it
pub ArePlaces-any : (places : BTreeMap (String Global) ℕ) (ps : List Package) (name : List ℕ) → ArePlaces places ps → is_some (get_by_text places name) ≡ list_any (is_named name) ps
ArePlaces-any places ps name are = ap is_some (are name) ∙ position-any (is_named name) 0 ps

-- ---- names that stand twice

-- the package at the place has a name of its own: the others are left
pub repeated-more : (ps : List Package) (i : ℕ) (p : Package) → i < length ps → p ≡ get_or ps i p → list_any (is_named p.name) (take i ps) ≡ false
    → repeated_from (take (i + 1) ps) (drop (i + 1) ps) ≡ repeated_from (take i ps) (drop i ps)
repeated-more ps i p lt is none = rw (drop-cons ps i p lt, take_more ps i p lt, ← is, none, add-one) refl

-- the package at the place has an earlier name
pub repeated-here : (ps : List Package) (i : ℕ) (p : Package) → i < length ps → p ≡ get_or ps i p → list_any (is_named p.name) (take i ps) ≡ true → repeated_from (take i ps) (drop i ps) ≡ Some p.name
repeated-here ps i p lt is some = rw (drop-cons ps i p lt, ← is, some) refl

-- the first of the names, if there is one
abbrev first_name : List (List ℕ) → Option (List ℕ)
first_name [] = None
first_name (name ∷ more) = Some name

first_by : (b : Bool) (name : List ℕ) (names : List (List ℕ)) (later : Option (List ℕ)) → first_name names ≡ later → first_name (cons_option (cond b (Some name) None) names) ≡ cond b (Some name) later
first_by true name names later more = refl
first_by false name names later more = more

-- the rule, gone through from the front
first-repeated : (before rest : List Package) → first_name (filter_map (repeated_at (before ++ rest)) (enumerate_from (length before) rest)) ≡ repeated_from before rest
first-repeated before [] = refl
first-repeated before (p ∷ rest) =
    let all = append_assoc before (p ∷ []) rest in
    let next : length (before ++ p ∷ []) ≡ length before + 1 = length-append before (p ∷ []) in
    let more : first_name (filter_map (repeated_at (before ++ p ∷ rest)) (enumerate_from (length before + 1) rest)) ≡ repeated_from (before ++ p ∷ []) rest =
    (λ i. first_name (filter_map (repeated_at (sym all i)) (enumerate_from (sym next i) rest))) ∙ first-repeated (before ++ p ∷ []) rest in
    ap (λ (front : List Package). first_name (cons_option (cond (list_any (is_named p.name) front) (Some p.name) None) (filter_map (repeated_at (before ++ p ∷ rest)) (enumerate_from (length before + 1) rest)))) (take-append_seam before (p ∷ rest))
    ∙ first_by (list_any (is_named p.name) before) p.name (filter_map (repeated_at (before ++ p ∷ rest)) (enumerate_from (length before + 1) rest)) (repeated_from (before ++ p ∷ []) rest) more

none_repeated : (names : List (List ℕ)) → first_name names ≡ None → unless_repeated names ≡ Ok tt
none_repeated [] e = refl
none_repeated (name ∷ more) e = absurd cc

some_repeated : (names : List (List ℕ)) (name : List ℕ) → first_name names ≡ Some name → unless_repeated names ≡ Err (DuplicatePackage name)
some_repeated [] name e = absurd cc
some_repeated (other ∷ more) name e = let same : other ≡ name = cc in ap (λ (n : List ℕ). Err (DuplicatePackage n)) same

pub names-distinct : (ps : List Package) → repeated_from [] ps ≡ None → unless_repeated (repeated_names ps) ≡ Ok tt
names-distinct ps e = none_repeated (repeated_names ps) (first-repeated [] ps ∙ e)

pub name-repeated : (ps : List Package) (name : List ℕ) → repeated_from [] ps ≡ Some name → unless_repeated (repeated_names ps) ≡ Err (DuplicatePackage name)
name-repeated ps name e = some_repeated (repeated_names ps) name (first-repeated [] ps ∙ e)

-- ---- in the words of the map's calls

-- whether the map has the package's name is whether an earlier one has it
pub names-before : (places : BTreeMap (String Global) ℕ) (ps : List Package) (p : Package) (key : List ℕ) (has b : Bool) → ArePlaces places ps → key ≡ p.name → has ≡ is_some (get_by_text places key) → has ≡ b → list_any (is_named p.name) ps ≡ b
names-before places ps p key has b are same found is = sym (ArePlaces-any places ps p.name are) ∙ ap (λ (k : List ℕ). is_some (get_by_text places k)) (sym same) ∙ sym found ∙ is

-- the place of the package was put into the map
pub ArePlaces-inserted : (old new : BTreeMap (String Global) ℕ) (ps : List Package) (i : ℕ) (p : Package) (key : String Global) → i < length ps → p ≡ get_or ps i p → string_bytes key ≡ p.name → ArePlaces old (take i ps)
    → list_any (is_named p.name) (take i ps) ≡ false → UpdatesBy string_cmp (string_cmp key) old new (Some i) → ArePlaces new (take (i + 1) ps)
ArePlaces-inserted old new ps i p key lt is same before none updates =
    let len = length-take-le i ps (omega arith) in
    let after = λ (name : List ℕ). btree_map_updates_text (string_bytes key) old new (Some i) updates name in
    let moved : (name : List ℕ) → get_by_text new name ≡ update bytes_eq (get_by_text old) p.name (Some (length (take i ps))) name = λ name. rw (len, ← same) (after name) in
    rw (take_more ps i p lt, ← is) (ArePlaces-push old new (take i ps) p before none moved)

-- what a look-up of the name answers
pub place-found : (places : BTreeMap (String Global) ℕ) (ps : List Package) (name key : List ℕ) (found : Option ℕ) → ArePlaces places ps → key ≡ name → found ≡ get_by_text places key → position_from (is_named name) 0 ps ≡ found
place-found places ps name key found are same is = sym (are name) ∙ ap (get_by_text places) (sym same) ∙ sym is
