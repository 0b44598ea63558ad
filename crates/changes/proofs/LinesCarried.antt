-- Lines that stay, go and come where splices lead from some to others.
use Rattle.std.proofs.Common.{◌≡◌, ◌⊎◌, ◌+◌, ◌<◌, ◌≤◌, ℕ, List, [], ◌∷◌, ◌++◌, Contains, length, take, drop, get_or, sym, ap, subst, inl, inr, arith}
use Rattle.std.proofs.lemmas.List.{take-take}
use Rattle.std.proofs.lemmas.List.Elements.{Contains-append_cases, Contains-append_left, Contains-append_right}
use Rattle.std.specs.List.{AllByRecursion}
use Rattle.changes.specs.Changes.{Splices}
use Rattle.changes.specs.Tied.SplicedLines.{Reads, gone_by, put_by}
use Rattle.changes.specs.declared.change.parts.Splice.{Splice}
use Rattle.states.proofs.PartFacts.{All-member, All-of}
use Rattle.lists.proofs.Members.{Contains-flat_map_of, Contains-nil}

-- an old line is a new one, or gave way
pub kept-or-gone : (from : ℕ) (splices : List Splice) (old new : List (List ℕ)) → Splices from splices old new → (line : List ℕ) → Contains old line → Contains new line ⊎ Contains (gone_by splices) line
kept-or-gone from [] old new at line there = inl (subst (λ (l : List (List ℕ)). Contains l line) at there)
kept-or-gone from (s ∷ rest) old new at line there = elim (Contains-append_cases (at.kept ++ s.old) at.old_rest line (subst (λ (l : List (List ℕ)). Contains l line) at.stood there)) [
  | inl front ↦ elim (Contains-append_cases at.kept s.old line front) [
    | inl kept ↦ inl (subst (λ (l : List (List ℕ)). Contains l line) (sym at.stands) (Contains-append_left (at.kept ++ s.new) at.new_rest line (Contains-append_left at.kept s.new line kept)))
    | inr gone ↦ inr (Contains-append_left s.old (gone_by rest) line gone)
  ]
  | inr behind ↦ elim (kept-or-gone (s.place + length s.old) rest at.old_rest at.new_rest at.rest line behind) [
    | inl kept ↦ inl (subst (λ (l : List (List ℕ)). Contains l line) (sym at.stands) (Contains-append_right (at.kept ++ s.new) at.new_rest line kept))
    | inr gone ↦ inr (Contains-append_right s.old (gone_by rest) line gone)
  ]
]

-- a new line is an old one, or was put in
pub old-or-put : (from : ℕ) (splices : List Splice) (old new : List (List ℕ)) → Splices from splices old new → (line : List ℕ) → Contains new line → Contains old line ⊎ Contains (put_by splices) line
old-or-put from [] old new at line there = inl (subst (λ (l : List (List ℕ)). Contains l line) (sym at) there)
old-or-put from (s ∷ rest) old new at line there = elim (Contains-append_cases (at.kept ++ s.new) at.new_rest line (subst (λ (l : List (List ℕ)). Contains l line) at.stands there)) [
  | inl front ↦ elim (Contains-append_cases at.kept s.new line front) [
    | inl kept ↦ inl (subst (λ (l : List (List ℕ)). Contains l line) (sym at.stood) (Contains-append_left (at.kept ++ s.old) at.old_rest line (Contains-append_left at.kept s.old line kept)))
    | inr put ↦ inr (Contains-append_left s.new (put_by rest) line put)
  ]
  | inr behind ↦ elim (old-or-put (s.place + length s.old) rest at.old_rest at.new_rest at.rest line behind) [
    | inl kept ↦ inl (subst (λ (l : List (List ℕ)). Contains l line) (sym at.stood) (Contains-append_right (at.kept ++ s.old) at.old_rest line kept))
    | inr put ↦ inr (Contains-append_right s.new (put_by rest) line put)
  ]
]

-- a line that was put in is a new one
pub put-there : (from : ℕ) (splices : List Splice) (old new : List (List ℕ)) → Splices from splices old new → (line : List ℕ) → Contains (put_by splices) line → Contains new line
put-there from [] old new at line there = absurd (Contains-nil line there)
put-there from (s ∷ rest) old new at line there = subst (λ (l : List (List ℕ)). Contains l line) (sym at.stands) (elim (Contains-append_cases s.new (put_by rest) line there) [
  | inl here ↦ Contains-append_left (at.kept ++ s.new) at.new_rest line (Contains-append_right at.kept s.new line here)
  | inr more ↦ Contains-append_right (at.kept ++ s.new) at.new_rest line (put-there (s.place + length s.old) rest at.old_rest at.new_rest at.rest line more)
])

-- where the new lines of one splice don't read, those of all don't
pub all-put-read : (splices : List Splice) (place : ℕ) (splice : Splice) → place < length splices → splice ≡ get_or splices place splice → (AllByRecursion Reads splice.new → ⊥) → AllByRecursion Reads (put_by splices) → ⊥
all-put-read splices place splice within is refused all =
    refused (All-of Reads splice.new (λ line there. All-member Reads (put_by splices) line all
    (Contains-flat_map_of (λ (s : Splice). s.new) splices splice line (place, within, sym is) there)))

-- a part of a list in the place of another
pub put-between : (lines : List (List ℕ)) (place count : ℕ) (new : List (List ℕ))
    → take place (take (place + count) lines) ++ new ++ drop (place + count) lines ≡ take place lines ++ new ++ drop (place + count) lines
put-between lines place count new =
    let within : place ≤ place + count = omega arith in
    ap (λ (l : List (List ℕ)). l ++ new ++ drop (place + count) lines) (take-take place (place + count) lines within)
