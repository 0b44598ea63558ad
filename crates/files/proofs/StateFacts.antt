-- Items of a list up to a place.
use Rattle.std.proofs.Common.{◌≡◌, ◌∙◌, ℕ, ◌+◌, ◌<◌, ◌||◌, Bool, List, [], ◌∷◌, ◌++◌, get_or, length, take, Option, Some, None, ap, refl, rules, sym}
use Rattle.std.specs.List.{list_any}
use Rattle.std.specs.Prelude.{slice_get, false, true, IsSomeAnd}
use Rattle.std.proofs.lemmas.List.{take_more}
use Rattle.std.proofs.lemmas.List.Folds.{list_any-append}
use Rattle.std.proofs.lemmas.Option.{get_or_from_slice_get, slice_get_within}

or_none : (a b : Bool) → (a || (b || false)) ≡ (a || b)
or_none a b = search rules

pub or_true : (a : Bool) → (a || true) ≡ true
or_true a = search rules

pub or_false : (a : Bool) → (a || false) ≡ a
or_false a = search rules

-- whether one of the items up to a place passes
any-last : {A : Type 0} (test : A → Bool) (items : List A) (place : ℕ) (item : A) → slice_get items place ≡ Some item
    → list_any test (take (place + 1) items) ≡ (list_any test (take place items) || test item)
any-last test items place item at =
    let within : place < length items = slice_get_within items place item at in
    let is : get_or items place item ≡ item = get_or_from_slice_get items place item item at in
    ap (list_any test) (take_more items place item within ∙ ap (λ x. take place items ++ x ∷ []) is)
    ∙ list_any-append test (take place items) (item ∷ []) ∙ or_none (list_any test (take place items)) (test item)

item-of : {A : Type 0} (found : Option A) (P : A → Type 0) → IsSomeAnd found P → (item : A) × (found ≡ Some item) × P item
item-of None P h = absurd h
item-of (Some item) P h = (item, refl, h)

-- the same where the item there is told to pass or not
pub any-there : {A : Type 0} (test : A → Bool) (items : List A) (place : ℕ) (passes : Bool) → IsSomeAnd (slice_get items place) (λ item. passes ≡ test item)
    → list_any test (take (place + 1) items) ≡ (list_any test (take place items) || passes)
any-there test items place passes there =
    let found = item-of (slice_get items place) (λ item. passes ≡ test item) there in
    any-last test items place found.0 found.1 ∙ ap (λ b. list_any test (take place items) || b) (sym found.2)
