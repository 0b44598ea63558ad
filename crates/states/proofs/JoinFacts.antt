-- Targets with their locks, one after another.
use Rattle.std.proofs.Common.{◌≡◌, ◌++◌, ◌∙◌, ℕ, List, [], ◌∷◌, length, map, Option, Some, None, Result, Ok, Err, IfOk, MatchOption, refl, sym, ap, subst, append-nil, arith}
use Rattle.markers.specs.Environment.{Texts}
use Rattle.pylock.specs.Locks.{LockParts}
use Rattle.lists.proofs.Members.{map-append}
use Rattle.states.specs.State.{IsOfParts, IsState}
use Rattle.states.specs.StateParts.{StateParts}
use Rattle.states.specs.Tied.JoinedTargets.{HaveParts}
use Rattle.states.specs.declared.target.Target.{Target}

-- a target's name and environment
abbrev pub pair_of : Target → List ℕ × Texts
pair_of t = (t.name, t.environment)

-- what is made has the first pairs and locks, as many of each; the rest is left
pub record IsJoined (pairs : List (List ℕ × Texts)) (locks : List LockParts) (rest_pairs : List (List ℕ × Texts)) (rest_locks : List LockParts) (made : List Target) : Type 0 where
  pub pairs_are : map pair_of made ++ rest_pairs ≡ pairs
  pub locks_are : map (λ t. t.lock) made ++ rest_locks ≡ locks
  pub long : length rest_pairs ≡ length rest_locks

pub joined-start : (pairs : List (List ℕ × Texts)) (locks : List LockParts) → length pairs ≡ length locks → IsJoined pairs locks pairs locks []
joined-start pairs locks long = record { pairs_are = refl; locks_are = refl; long = long }

seam : {X : Type 0} (xs : List X) (x : X) (more : List X) → (xs ++ x ∷ []) ++ more ≡ xs ++ x ∷ more
seam [] x more = refl
seam (y ∷ xs) x more = ap (λ l. y ∷ l) (seam xs x more)

pub joined-next : (pairs : List (List ℕ × Texts)) (locks : List LockParts) (rest_pairs : List (List ℕ × Texts)) (rest_locks : List LockParts) (made : List Target) (t : Target)
    → IsJoined pairs locks (pair_of t ∷ rest_pairs) (t.lock ∷ rest_locks) made → IsJoined pairs locks rest_pairs rest_locks (made ++ t ∷ [])
joined-next pairs locks rest_pairs rest_locks made t so = record {
  pairs_are = ap (λ (l : List (List ℕ × Texts)). l ++ rest_pairs) (map-append pair_of made (t ∷ [])) ∙ seam (map pair_of made) (pair_of t) rest_pairs ∙ so.pairs_are;
  locks_are = ap (λ (l : List LockParts). l ++ rest_locks) (map-append (λ (u : Target). u.lock) made (t ∷ [])) ∙ seam (map (λ (u : Target). u.lock) made) t.lock rest_locks ∙ so.locks_are;
  long = let long = so.long in omega (arith, long);
}

pub joined-short : (pairs : List (List ℕ × Texts)) (locks : List LockParts) (p : List ℕ × Texts) (rest_pairs : List (List ℕ × Texts)) (rest_locks : List LockParts) (made : List Target)
    → IsJoined pairs locks (p ∷ rest_pairs) rest_locks made → length rest_locks ≡ 0 → ⊥
joined-short pairs locks p rest_pairs rest_locks made so none = let long = so.long in absurd (omega (arith, long, none))

no-more : {X : Type 0} (xs : List X) → length xs ≡ 0 → xs ≡ []
no-more [] none = refl
no-more (x ∷ xs) none = absurd (omega (arith, none))

pub joined-ends : (pairs : List (List ℕ × Texts)) (locks : List LockParts) (rest_pairs : List (List ℕ × Texts)) (rest_locks : List LockParts) (made : List Target)
    → IsJoined pairs locks rest_pairs rest_locks made → length rest_pairs ≡ 0 → HaveParts pairs locks made
joined-ends pairs locks rest_pairs rest_locks made so none = record {
  pairs_are = sym (append-nil (map pair_of made)) ∙ ap (λ (l : List (List ℕ × Texts)). map pair_of made ++ l) (sym (no-more rest_pairs none)) ∙ so.pairs_are;
  locks_are = sym (append-nil (map (λ (t : Target). t.lock) made)) ∙ ap (λ (l : List LockParts). map (λ (t : Target). t.lock) made ++ l) (sym (no-more rest_locks (sym so.long ∙ none))) ∙ so.locks_are;
}

long-map : {X Y : Type 0} (f : X → Y) (xs : List X) → length (map f xs) ≡ length xs
long-map f [] = refl
long-map f (x ∷ xs) = let more = long-map f xs in omega (arith, more)

-- targets have as many names as locks
pub as-many : (pairs : List (List ℕ × Texts)) (locks : List LockParts) (targets : List Target) → HaveParts pairs locks targets → length pairs ≡ length locks
as-many pairs locks targets have =
    sym (ap length have.pairs_are) ∙ long-map pair_of targets ∙ sym (long-map (λ (t : Target). t.lock) targets) ∙ ap length have.locks_are

-- names, environments and locks make one list of targets
one-list : (ts us : List Target) → map pair_of ts ≡ map pair_of us → map (λ t. t.lock) ts ≡ map (λ t. t.lock) us → ts ≡ us
one-list [] [] pairs locks = refl
one-list [] (u ∷ us) pairs locks = absurd cc
one-list (t ∷ ts) [] pairs locks = absurd cc
one-list (t ∷ ts) (u ∷ us) pairs locks =
    let pair : pair_of t ≡ pair_of u = cc in
    let lock : t.lock ≡ u.lock = cc in
    let more : map pair_of ts ≡ map pair_of us = cc in
    let more_locks : map (λ (t : Target). t.lock) ts ≡ map (λ (t : Target). t.lock) us = cc in
    let same : t ≡ u = λ i. record { name = (pair i).0; environment = (pair i).1; lock = lock i } in
    λ i. same i ∷ one-list ts us more more_locks i

-- a state of the parts is that of the targets that have them
pub IsOfParts-one : (lines : List (List ℕ)) (pairs : List (List ℕ × Texts)) (locks : List LockParts) (targets : List Target) (state : StateParts) → HaveParts pairs locks targets
    → IsOfParts lines pairs locks state → state ≡ record { lines = lines; targets = targets }
IsOfParts-one lines pairs locks targets state have is =
    let same : state.targets ≡ targets = one-list state.targets targets (is.targets_are ∙ sym have.pairs_are) (is.locks_are ∙ sym have.locks_are) in
    λ i. record { lines = is.lines_are i; targets = same i }

pub IsOfParts-of : (lines : List (List ℕ)) (pairs : List (List ℕ × Texts)) (locks : List LockParts) (targets : List Target) (state : StateParts) → HaveParts pairs locks targets
    → state ≡ record { lines = lines; targets = targets } → IsOfParts lines pairs locks state
IsOfParts-of lines pairs locks targets state have is = record {
  lines_are = ap (λ (s : StateParts). s.lines) is;
  targets_are = ap (λ (s : StateParts). map pair_of s.targets) is ∙ have.pairs_are;
  locks_are = ap (λ (s : StateParts). map (λ (t : Target). t.lock) s.targets) is ∙ have.locks_are;
}

-- what is made of the targets is what is made of the parts
pub made-of-parts : {E : Type 0} (lines : List (List ℕ)) (pairs : List (List ℕ × Texts)) (locks : List LockParts) (targets : List Target) (answer : Result (Option StateParts) E) → HaveParts pairs locks targets
    → IfOk answer (λ made. MatchOption made (IsState (record { lines = lines; targets = targets }) → ⊥) (λ (state : StateParts). state ≡ record { lines = lines; targets = targets }))
    → IfOk answer (λ made. MatchOption made ((state : StateParts) → IsOfParts lines pairs locks state → IsState state → ⊥) (IsOfParts lines pairs locks))
made-of-parts lines pairs locks targets (Err e) have is = tt
made-of-parts lines pairs locks targets (Ok None) have is = λ state of lawful. is (subst IsState (IsOfParts-one lines pairs locks targets state have of) lawful)
made-of-parts lines pairs locks targets (Ok (Some state)) have is = IsOfParts-of lines pairs locks targets state have is
