-- Reading the items of an array one after the other, as a loop does.
use Rattle.std.proofs.Common.{◌≡◌, ℕ, suc, ◌+◌, List, [], ◌∷◌, ◌++◌, Result, Ok, Err, fold, refl, sym, ap, ◌∙◌, append_assoc, add-one, inl, inr, ◌⊎◌}
use Rattle.std.proofs.lemmas.List.{append-nil, nil_from_length}
use Rattle.std.specs.Vec.Iter.{into_iter_items, into_iter_len}
use Rattle.std.specs.declared.alloc.Global.{Global}
use Rattle.std.specs.declared.vec.IntoIter.{IntoIter}
use Rattle.serde_json.specs.Data.{Data}
use Rattle.serde_json.specs.View.{items_view, view}
use Rattle.serde_json.specs.declared.value.Value.{Value}
use Rattle.snapshot.specs.declared.fault.Fault.{Fault}
use Rattle.snapshot.specs.declared.fault.Fault.TheVariants.{OutOfMemory}
use Rattle.snapshot.specs.Shape.{◌>>=◌, below, each_from, place_path}

-- what was gathered so far, and what is still to be read
abbrev pub gather : {A B : Type 0} → (B → A → B) → B → Result (List A) Fault → Result B Fault
gather step so_far read = read >>= λ xs. Ok (fold step so_far xs)

-- one item more at the end
abbrev pub push : {A : Type 0} → List A → A → List A
push xs x = xs ++ x ∷ []

-- a fold over one item more
pub fold-last : {A B : Type 0} (step : B → A → B) (first : B) (xs : List A) (x : A) → fold step first (xs ++ x ∷ []) ≡ step (fold step first xs) x
fold-last step first [] x = refl
fold-last step first (y ∷ ys) x = fold-last step (step first y) ys x

-- what pushes one item after another appends them
fold-push : {A : Type 0} (front xs : List A) → fold push front xs ≡ front ++ xs
fold-push front [] = sym (append-nil front)
fold-push front (x ∷ xs) = fold-push (front ++ x ∷ []) xs ∙ append_assoc front (x ∷ []) xs

-- pushing what is read onto nothing gives what is read
pub gather-push : {A : Type 0} (read : Result (List A) Fault) → gather push [] read ≡ read
gather-push (Ok xs) = ap Ok (fold-push [] xs)
gather-push (Err e) = refl

gather-first : {A B : Type 0} (step : B → A → B) (so_far : B) (x : A) (read : Result (List A) Fault) → gather step so_far (read >>= λ xs. Ok (x ∷ xs)) ≡ gather step (step so_far x) read
gather-first step so_far x (Ok xs) = refl
gather-first step so_far x (Err e) = refl

-- the items from a place on: the one there, and the others
each-first : {A : Type 0} (form : Data → Result A Fault) (i : ℕ) (v : Value) (vs rest : List Value) → vs ≡ v ∷ rest
    → each_from form i (items_view vs) ≡ (below (place_path i) (form (view v)) >>= λ x. each_from form (suc i) (items_view rest) >>= λ xs. Ok (x ∷ xs))
unfolding each_from
each-first form i v vs rest is = rw is refl

-- the first item is read: it is gathered, and the others are left
pub goes_on : {A B : Type 0} (step : B → A → B) (so_far : B) (form : Data → Result A Fault) (i : ℕ) (v : Value) (vs rest : List Value) (x : A) (total : Result B Fault) → vs ≡ v ∷ rest
    → below (place_path i) (form (view v)) ≡ Ok x → gather step so_far (each_from form i (items_view vs)) ≡ total
    → gather step (step so_far x) (each_from form (i + 1) (items_view rest)) ≡ total
goes_on step so_far form i v vs rest x total is h before =
    let first : gather step so_far (each_from form i (items_view vs)) ≡ gather step (step so_far x) (each_from form (suc i) (items_view rest)) =
    rw (each-first form i v vs rest is, h) (gather-first step so_far x (each_from form (suc i) (items_view rest))) in
    rw add-one (sym first ∙ before)

-- the first item has a fault: that is the fault of all
pub ends : {A B : Type 0} (step : B → A → B) (so_far : B) (form : Data → Result A Fault) (i : ℕ) (v : Value) (vs rest : List Value) (e : Fault) (total : Result B Fault) → vs ≡ v ∷ rest
    → (e ≡ OutOfMemory) ⊎ (below (place_path i) (form (view v)) ≡ Err e) → gather step so_far (each_from form i (items_view vs)) ≡ total
    → (e ≡ OutOfMemory) ⊎ (total ≡ Err e)
ends step so_far form i v vs rest e total is (inl memory) before = inl memory
ends step so_far form i v vs rest e total is (inr h) before =
    let first : gather step so_far (each_from form i (items_view vs)) ≡ Err e = rw (each-first form i v vs rest is, h) refl in
    inr (sym before ∙ first)

-- where no item is left all is gathered
pub is_done : {A B : Type 0} (step : B → A → B) (so_far : B) (form : Data → Result A Fault) (i : ℕ) (vs : List Value) (total : Result B Fault) → vs ≡ []
    → gather step so_far (each_from form i (items_view vs)) ≡ total → total ≡ Ok so_far
unfolding each_from
is_done step so_far form i vs total is before =
    let none : gather step so_far (each_from form i (items_view vs)) ≡ Ok so_far = rw is refl in
    sym before ∙ none

-- a list that is gone through has no items left where its length is zero
pub none_left : (it : IntoIter Value Global) → into_iter_len it ≡ 0 → into_iter_items it ≡ []
none_left it none = nil_from_length (into_iter_items it) (sym it.rest.ok.0 ∙ none)
