-- Names that rise are in order.
use Rattle.std.proofs.Common.{◌≡◌, ℕ, true, List, [], ◌∷◌, Less}
use Rattle.std.proofs.lemmas.Bool.{and_parts}
use Rattle.std.specs.Cmp.Lexicographic.{nat_list_cmp_total, slice_cmp}
use Rattle.std.specs.List.{AllByRecursion}
use Rattle.std.specs.List.Sorted.{IsStrictlySortedBy}
use Rattle.std.specs.Ordering.{is_lt, nat_cmp}
use Rattle.lists.specs.Rising.{rises}
use Rattle.states.proofs.EntryFacts.{less-of}
use Rattle.files.proofs.StandingFiles.{all_also}

-- those behind the first are above it
rest-above : (n : List ℕ) (names : List (List ℕ)) → rises (n ∷ names) ≡ true → AllByRecursion (λ y. slice_cmp nat_cmp n y ≡ Less) names
unfolding rises
rest-above n [] rise = tt
rest-above n (m ∷ names) rise =
    let parts = and_parts (is_lt (slice_cmp nat_cmp n m)) (rises (m ∷ names)) rise in
    let less = less-of n m parts.0 in
    (less, all_also (λ (y : List ℕ). slice_cmp nat_cmp m y ≡ Less) (λ (y : List ℕ). slice_cmp nat_cmp n y ≡ Less) names (λ y above. nat_list_cmp_total.trans n m y less above) (rest-above m names parts.1))

rest-rise : (n : List ℕ) (names : List (List ℕ)) → rises (n ∷ names) ≡ true → rises names ≡ true
unfolding rises
rest-rise n [] rise = rise
rest-rise n (m ∷ names) rise = (and_parts (is_lt (slice_cmp nat_cmp n m)) (rises (m ∷ names)) rise).1

pub rise-sorted : (names : List (List ℕ)) → rises names ≡ true → IsStrictlySortedBy (slice_cmp nat_cmp) names
unfolding IsStrictlySortedBy
rise-sorted [] rise = tt
rise-sorted (n ∷ names) rise = (rest-above n names rise, rise-sorted names (rest-rise n names rise))
