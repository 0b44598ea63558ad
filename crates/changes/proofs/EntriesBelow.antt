-- Entries below a name, which stand in front of the others.
use Rattle.std.proofs.Common.{◌≡◌, ◌≤◌, ℕ, zero, suc, Bool, true, false, ltb, List, [], ◌∷◌, Ordering, Less, Equal, Greater, length, refl, ap, subst, arith}
use Rattle.std.proofs.lemmas.List.Sorted.{IsPartitionedBy-ltb}
use Rattle.std.specs.Cmp.Lexicographic.{slice_cmp}
use Rattle.std.specs.List.Sorted.{IsPartitionPoint, IsPartitionedBy}
use Rattle.std.specs.Ordering.{is_lt, nat_cmp, ordering_index}
use Rattle.pylock.specs.Locks.{are_entries}
use Rattle.pylock.specs.Packages.{EntryParts}
use Rattle.states.proofs.EntrySearch.{searchable, stands}
use Rattle.changes.specs.Tied.ExchangedEntries.{count_below}

index-below : (o : Ordering) → ltb (ordering_index o) 1 ≡ is_lt o
index-below Less = refl
index-below Equal = refl
index-below Greater = refl

-- those below a name stand in front of the others
pub parted : (entries : List EntryParts) (name : List ℕ) → are_entries entries ≡ true → IsPartitionedBy (λ e. is_lt (stands name e)) entries
parted entries name rise = subst (λ (p : EntryParts → Bool). IsPartitionedBy p entries) (λ i e. index-below (stands name e) i)
    (IsPartitionedBy-ltb (λ (e : EntryParts). ordering_index (stands name e)) entries 1 (searchable entries name rise))

-- and are as many as stand in front
pub count-at : (name : List ℕ) (entries : List EntryParts) (place : ℕ) → place ≤ length entries
    → IsPartitionPoint (λ e. is_lt (stands name e) ≡ true) (λ e. is_lt (stands name e) ≡ false) entries place → place ≡ count_below name entries
count-at name [] place within parts = omega (arith, within)
count-at name (e ∷ rest) zero within parts =
    let here : is_lt (slice_cmp nat_cmp e.name name) ≡ false = parts.1 0 e (omega arith) (omega arith) in
    rw here refl
count-at name (e ∷ rest) (suc place) within parts =
    let here : is_lt (slice_cmp nat_cmp e.name name) ≡ true = parts.0 0 e (omega arith) (omega arith) in
    rw here (ap suc (count-at name rest place (omega arith) (λ k d low high. parts.0 (suc k) d (omega arith) (omega arith), λ k d low high. parts.1 (suc k) d (omega arith) (omega arith))))
