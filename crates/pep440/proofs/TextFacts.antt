-- Facts on texts without what surrounds them.
use Rattle.std.proofs.Common.{◌≡◌, ℕ, ◌+◌, ◌-◌, ◌<◌, ◌≤◌, Bool, true, false, ◌&&◌, List, [], ◌∷◌, ◌++◌, length, get_or, take, drop, refl, sym, ap, ◌∙◌, arith}
use Rattle.std.specs.List.{list_all}
use Rattle.std.proofs.lemmas.List.{at_drop_more, take_more}
use Rattle.pep440.specs.Text.{trim_end, trim_front}

and-false : (b : Bool) → (b && false) ≡ false
and-false true = refl
and-false false = refl

all-passed : (test : ℕ → Bool) (ns : List ℕ) (m : ℕ) → test m ≡ true → list_all test (ns ++ m ∷ []) ≡ list_all test ns
all-passed test [] m h = rw h refl
all-passed test (n ∷ ns) m h = ap (λ b. test n && b) (all-passed test ns m h)

all-other : (test : ℕ → Bool) (ns : List ℕ) (m : ℕ) → test m ≡ false → list_all test (ns ++ m ∷ []) ≡ false
all-other test [] m h = rw h refl
all-other test (n ∷ ns) m h = rw (all-other test ns m h) (and-false (test n))

-- a last member that passes is dropped
trim_end-passed : (test : ℕ → Bool) (ns : List ℕ) (m : ℕ) → test m ≡ true → trim_end test (ns ++ m ∷ []) ≡ trim_end test ns
trim_end-passed test [] m h = rw h refl
trim_end-passed test (n ∷ ns) m h = rw (all-passed test ns m h, trim_end-passed test ns m h) refl

-- any other last member keeps all before it
trim_end-other : (test : ℕ → Bool) (ns : List ℕ) (m : ℕ) → test m ≡ false → trim_end test (ns ++ m ∷ []) ≡ ns ++ m ∷ []
trim_end-other test [] m h = rw h refl
trim_end-other test (n ∷ ns) m h = rw (all-other test ns m h, and-false (test n), trim_end-other test ns m h) refl

-- one member less at the end
pub trim_end-back : (test : ℕ → Bool) (ns : List ℕ) (len : ℕ) → 0 < len → len ≤ length ns → test (get_or ns (len - 1) 0) ≡ true → trim_end test (take (len - 1) ns) ≡ trim_end test (take len ns)
trim_end-back test ns len some within last =
    let one : len ≡ (len - 1) + 1 = omega arith in
    let more = take_more ns (len - 1) 0 (omega arith) in
    sym (ap (λ k. trim_end test (take k ns)) one ∙ rw more (trim_end-passed test (take (len - 1) ns) (get_or ns (len - 1) 0) last))

-- the last member stays
pub trim_end-stop : (test : ℕ → Bool) (ns : List ℕ) (len : ℕ) → 0 < len → len ≤ length ns → test (get_or ns (len - 1) 0) ≡ false → trim_end test (take len ns) ≡ take len ns
trim_end-stop test ns len some within last =
    let one : len ≡ (len - 1) + 1 = omega arith in
    let more = take_more ns (len - 1) 0 (omega arith) in
    ap (λ k. trim_end test (take k ns)) one ∙ rw more (trim_end-other test (take (len - 1) ns) (get_or ns (len - 1) 0) last) ∙ sym (ap (λ k. take k ns) one ∙ more)

-- one member less at the front
pub trim_front-next : (test : ℕ → Bool) (ns : List ℕ) (i : ℕ) → i < length ns → test (get_or ns i 0) ≡ true → trim_front test (drop i ns) ≡ trim_front test (drop (i + 1) ns)
trim_front-next test ns i within first = at_drop_more (trim_front test) ns i 0 within ∙ rw first refl

-- the first member stays
pub trim_front-stop : (test : ℕ → Bool) (ns : List ℕ) (i : ℕ) → i < length ns → test (get_or ns i 0) ≡ false → trim_front test (drop i ns) ≡ drop i ns
trim_front-stop test ns i within first =
    at_drop_more (trim_front test) ns i 0 within ∙ rw first refl ∙ sym (at_drop_more (λ t. t) ns i 0 within)
