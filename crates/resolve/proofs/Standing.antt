-- Numbers that stand for what a list has at their places.
use Rattle.std.proofs.Common.{Contains, ◌≡◌, ◌<◌, ◌≤◌, ℕ, zero, suc, List, [], ◌∷◌, ◌++◌, ◌+◌, ◌∙◌, None, Some, length, get_or, take, map, refl, sym, ap, subst, arith}
use Rattle.std.specs.List.{AllZip, slice_get}
use Rattle.std.proofs.lemmas.List.{take_more}
use Rattle.std.proofs.lemmas.Slice.Zip.{all_zipped_more}
use Rattle.problems.specs.Tied.Standing.{AllStand, IsLonger, Stands}

append-none : {A : Type 0} (xs : List A) → xs ++ [] ≡ xs
append-none [] = refl
append-none (x ∷ xs) = ap (λ ys. x ∷ ys) (append-none xs)

append-twice : {A : Type 0} (xs ys zs : List A) → (xs ++ ys) ++ zs ≡ xs ++ (ys ++ zs)
append-twice [] ys zs = refl
append-twice (x ∷ xs) ys zs = ap (λ ws. x ∷ ws) (append-twice xs ys zs)

pub longer-same : {A : Type 0} (xs : List A) → IsLonger xs xs
longer-same xs = ([], sym (append-none xs))

pub longer-then : {A : Type 0} (xs ys zs : List A) → IsLonger xs ys → IsLonger ys zs → IsLonger xs zs
longer-then xs ys zs f g = (f.0 ++ g.0, g.1 ∙ ap (λ ws. ws ++ g.0) f.1 ∙ append-twice xs f.0 g.0)

pub longer-push_as : {A : Type 0} (xs ys : List A) (x : A) → ys ≡ xs ++ x ∷ [] → IsLonger xs ys
longer-push_as xs ys x e = (x ∷ [], e)

get-front : {A : Type 0} (xs more : List A) (i : ℕ) (x : A) → slice_get xs i ≡ Some x → slice_get (xs ++ more) i ≡ Some x
get-front [] more i x e = absurd (let k : None ≡ Some x = e in cc)
get-front (y ∷ ys) more zero x e = e
get-front (y ∷ ys) more (suc i) x e = get-front ys more i x e

pub Stands-longer : {A : Type 0} (old new : List A) (i : ℕ) (x : A) → IsLonger old new → Stands old i x → Stands new i x
Stands-longer old new i x longer stands = subst (λ ys. slice_get ys i ≡ Some x) (sym longer.1) (get-front old longer.0 i x stands)

pub AllStand-longer : {A : Type 0} (old new : List A) (numbers : List ℕ) (xs : List A) → IsLonger old new → AllStand old numbers xs → AllStand new numbers xs
AllStand-longer old new [] [] longer all = tt
AllStand-longer old new [] (x ∷ xs) longer all = absurd all
AllStand-longer old new (i ∷ is) [] longer all = absurd all
AllStand-longer old new (i ∷ is) (x ∷ xs) longer all = (Stands-longer old new i x longer all.0, AllStand-longer old new is xs longer all.1)

map-push : {A B : Type 0} (f : A → B) (xs : List A) (x : A) → map f (xs ++ x ∷ []) ≡ map f xs ++ f x ∷ []
map-push f [] x = refl
map-push f (y ∷ ys) x = ap (λ zs. f y ∷ zs) (map-push f ys x)

pub map-pushed : {A B : Type 0} (f : A → B) (xs ys : List A) (x : A) → ys ≡ xs ++ x ∷ [] → map f ys ≡ map f xs ++ f x ∷ []
map-pushed f xs ys x e = ap (map f) e ∙ map-push f xs x

-- one more of a list that is gone through
map-more : {A B : Type 0} (f : A → B) (xs : List A) (i : ℕ) (x : A) → i < length xs → x ≡ get_or xs i x → map f (take (i + 1) xs) ≡ map f (take i xs) ++ f x ∷ []
map-more f xs i x within is = ap (map f) (take_more xs i x within) ∙ map-push f (take i xs) (get_or xs i x) ∙ ap (λ y. map f (take i xs) ++ f y ∷ []) (sym is)

pub AllZip-more : {A B C : Type 0} (R : A → C → Type 0) (f : B → C) (xs zs : List A) (ys : List B) (i : ℕ) (x : A) (y : B) → i < length ys → y ≡ get_or ys i y → zs ≡ xs ++ x ∷ [] → AllZip R xs (map f (take i ys)) → R x (f y) → AllZip R zs (map f (take (i + 1) ys))
AllZip-more R f xs zs ys i x y within is pushed all one = subst (λ ws. AllZip R ws (map f (take (i + 1) ys))) (sym pushed)
    (subst (λ ws. AllZip R (xs ++ x ∷ []) ws) (sym (map-more f ys i y within is)) (all_zipped_more R xs (map f (take i ys)) x (f y) all one))

pub AllZip-weaker : {A B : Type 0} (R S : A → B → Type 0) (xs : List A) (ys : List B) → ((x : A) (y : B) → R x y → S x y) → AllZip R xs ys → AllZip S xs ys
AllZip-weaker R S [] [] f all = tt
AllZip-weaker R S [] (y ∷ ys) f all = absurd all
AllZip-weaker R S (x ∷ xs) [] f all = absurd all
AllZip-weaker R S (x ∷ xs) (y ∷ ys) f all = (f x y all.0, AllZip-weaker R S xs ys f all.1)

get-last : {A : Type 0} (xs : List A) (x : A) → slice_get (xs ++ x ∷ []) (length xs) ≡ Some x
get-last [] x = refl
get-last (y ∷ ys) x = get-last ys x

-- what is put behind a list stands at the length that it had
pub Stands-last : {A : Type 0} (old new : List A) (x : A) → new ≡ old ++ x ∷ [] → Stands new (length old) x
Stands-last old new x e = subst (λ ys. slice_get ys (length old) ≡ Some x) (sym e) (get-last old x)

pub length-map : {A B : Type 0} (f : A → B) (xs : List A) → length (map f xs) ≡ length xs
length-map f [] = refl
length-map f (x ∷ xs) = ap suc (length-map f xs)

pub Stands-last_map : {A B : Type 0} (f : A → B) (old new : List A) (x : A) → new ≡ old ++ x ∷ [] → Stands (map f new) (length old) (f x)
Stands-last_map f old new x e = subst (λ n. Stands (map f new) n (f x)) (length-map f old) (Stands-last (map f old) (map f new) (f x) (map-pushed f old new x e))

take-more_as : {A : Type 0} (xs : List A) (i : ℕ) (x : A) → i < length xs → x ≡ get_or xs i x → take (i + 1) xs ≡ take i xs ++ x ∷ []
take-more_as xs i x within is = take_more xs i x within ∙ ap (λ y. take i xs ++ y ∷ []) (sym is)

pub AllZip-more_same : {A B : Type 0} (R : A → B → Type 0) (xs zs : List A) (ys : List B) (i : ℕ) (x : A) (y : B) → i < length ys → y ≡ get_or ys i y → zs ≡ xs ++ x ∷ [] → AllZip R xs (take i ys) → R x y → AllZip R zs (take (i + 1) ys)
AllZip-more_same R xs zs ys i x y within is pushed all one = subst (λ ws. AllZip R ws (take (i + 1) ys)) (sym pushed)
    (subst (λ ws. AllZip R (xs ++ x ∷ []) ws) (sym (take-more_as ys i y within is)) (all_zipped_more R xs (take i ys) x y all one))

pub get_or-append : {A : Type 0} (xs more : List A) (i : ℕ) (d : A) → i < length xs → get_or (xs ++ more) i d ≡ get_or xs i d
get_or-append [] more i d within = absurd (omega arith)
get_or-append (x ∷ xs) more zero d within = refl
get_or-append (x ∷ xs) more (suc i) d within = get_or-append xs more i d (omega arith)

take-append : {A : Type 0} (xs more : List A) (n : ℕ) → n ≤ length xs → take n (xs ++ more) ≡ take n xs
take-append [] [] zero within = refl
take-append [] (y ∷ ys) zero within = refl
take-append [] more (suc n) within = absurd (omega arith)
take-append (x ∷ xs) more zero within = refl
take-append (x ∷ xs) more (suc n) within = ap (λ ys. x ∷ ys) (take-append xs more n (omega arith))

pub take-longer : {A : Type 0} (old new : List A) (n : ℕ) → n ≤ length old → IsLonger old new → take n new ≡ take n old
take-longer old new n within longer = ap (take n) longer.1 ∙ take-append old longer.0 n within

length-append : {A : Type 0} (xs more : List A) → length xs ≤ length (xs ++ more)
length-append [] more = omega arith
length-append (x ∷ xs) more = let k : length xs ≤ length (xs ++ more) = length-append xs more in omega arith

pub length-longer : {A : Type 0} (old new : List A) → IsLonger old new → length old ≤ length new
length-longer old new longer = subst (λ ys. length old ≤ length ys) (sym longer.1) (length-append old longer.0)

get_or-map : {A B : Type 0} (f : A → B) (xs : List A) (i : ℕ) (d : A) → get_or (map f xs) i (f d) ≡ f (get_or xs i d)
get_or-map f [] i d = refl
get_or-map f (x ∷ xs) zero d = refl
get_or-map f (x ∷ xs) (suc i) d = get_or-map f xs i d

pub Contains-mapped : {A B : Type 0} (f : A → B) (xs : List A) (x : A) → Contains xs x → Contains (map f xs) (f x)
Contains-mapped f xs x h = (h.0, subst (λ n. h.0 < n) (sym (length-map f xs)) h.1, get_or-map f xs h.0 x ∙ ap f h.2)
