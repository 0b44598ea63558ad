-- Entries cut at a name.
use Rattle.std.proofs.Common.{◌≡◌, ◌≢◌, ◌≤◌, ℕ, true, false, List, [], ◌∷◌, Some, None, Less, Equal, Greater, Ordering, length, take, drop, map, refl, sym, ap, ◌∙◌, subst, inl, inr, arith}
use Rattle.std.proofs.lemmas.Bool.{cases_Bool}
use Rattle.std.proofs.lemmas.Map.Lookups.{exact_bytes}
use Rattle.std.proofs.lemmas.Slice.Eq.{bytes_eq-Decides}
use Rattle.std.specs.Cmp.Lexicographic.{nat_list_cmp_total, slice_cmp}
use Rattle.std.specs.Option.{option_to_list}
use Rattle.std.specs.Ordering.{is_lt, nat_cmp, ordering_reverse}
use Rattle.std.specs.Str.{bytes_eq}
use Rattle.pylock.specs.Locks.{are_entries}
use Rattle.pylock.specs.Packages.{EntryParts}
use Rattle.states.specs.State.{entry_on}
use Rattle.changes.specs.Tied.ExchangedEntries.{AreAbove, IsCutAt, count_below, entries_on}
use Rattle.states.proofs.PartFacts.{All-of}
use Rattle.states.proofs.EntryFacts.{less-of, not-below, rises-above, rises-rest}
use Rattle.states.proofs.LawfulNames.{apart}
use Rattle.lists.proofs.Members.{Contains-map_of}

-- ---- names

-- a name below another one isn't it
pub below-other : (a b : List ℕ) → slice_cmp nat_cmp a b ≡ Less → a ≢ b
below-other a b less same = not-below b (subst (λ (n : List ℕ). slice_cmp nat_cmp n b ≡ Less) same less)

pub other-bytes : (a b : List ℕ) → a ≢ b → bytes_eq a b ≡ false
other-bytes a b other = elim (cases_Bool (bytes_eq a b)) [
  | inl same ↦ absurd (other ((bytes_eq-Decides a b).0 same))
  | inr differs ↦ differs
]

same-bytes : (a b : List ℕ) → a ≡ b → bytes_eq a b ≡ true
same-bytes a b same = (bytes_eq-Decides a b).1 same

from-order : (a b : List ℕ) (o : Ordering) → slice_cmp nat_cmp a b ≡ o → is_lt o ≡ false → a ≢ b → slice_cmp nat_cmp b a ≡ Less
from-order a b Less is not_less other = cc not_less
from-order a b Equal is not_less other = absurd (other (exact_bytes a b is))
from-order a b Greater is not_less other = nat_list_cmp_total.antisymm b a ∙ ap ordering_reverse is

-- a name that isn't below another one and isn't it is above
is-above : (a b : List ℕ) → is_lt (slice_cmp nat_cmp a b) ≡ false → a ≢ b → slice_cmp nat_cmp b a ≡ Less
is-above a b not_less other = from-order a b (slice_cmp nat_cmp a b) refl not_less other

-- ---- entries

-- an entry on another name is passed
pub past-first : (e : EntryParts) (rest : List EntryParts) (name : List ℕ) → e.name ≢ name → entry_on (e ∷ rest) name ≡ entry_on rest name
past-first e rest name other = rw (other-bytes name e.name (λ same. other (sym same))) refl

pub on-first : (e : EntryParts) (rest : List EntryParts) (name : List ℕ) → e.name ≡ name → entry_on (e ∷ rest) name ≡ Some e
on-first e rest name same = rw (same-bytes name e.name (sym same)) refl

-- entries that rise are above the first one
pub above-first : (e : EntryParts) (rest : List EntryParts) → are_entries (e ∷ rest) ≡ true → AreAbove e.name rest
above-first e rest rise = All-of (λ (x : EntryParts). slice_cmp nat_cmp e.name x.name ≡ Less) rest
    (λ x there. rises-above e.name (map (λ p. p.name) rest) x.name rise (Contains-map_of (λ (p : EntryParts). p.name) rest x there))

above-all : (a b : List ℕ) (entries : List EntryParts) → slice_cmp nat_cmp a b ≡ Less → AreAbove b entries → AreAbove a entries
above-all a b [] less above = tt
above-all a b (e ∷ rest) less above = (nat_list_cmp_total.trans a b e.name less above.0, above-all a b rest less above.1)

pub none-above : (name : List ℕ) (entries : List EntryParts) → AreAbove name entries → entry_on entries name ≡ None
none-above name [] above = refl
none-above name (e ∷ rest) above = past-first e rest name (λ same. below-other name e.name above.0 (sym same)) ∙ none-above name rest above.1

-- ---- the cut

cut-first : (name : List ℕ) (e : EntryParts) (rest : List EntryParts) → are_entries (e ∷ rest) ≡ true → is_lt (slice_cmp nat_cmp e.name name) ≡ false
    → IsCutAt name (e ∷ rest) [] (take (entries_on name (e ∷ rest)) (e ∷ rest)) (drop (entries_on name (e ∷ rest)) (e ∷ rest))
cut-first name e rest rise not_less = elim (cases_Bool (bytes_eq name e.name)) [
  | inl same ↦
      let named : name ≡ e.name = (bytes_eq-Decides name e.name).0 same in
      rw same (record {
        whole = refl;
        below = tt;
        there = ap option_to_list (sym (on-first e rest name (sym named)));
        above = subst (λ (n : List ℕ). AreAbove n rest) (sym named) (above-first e rest rise);
      })
  | inr other ↦
      let first = is-above e.name name not_less (apart name e.name other) in
      let above : AreAbove name (e ∷ rest) = (first, above-all name e.name rest first (above-first e rest rise)) in
      rw other (record {
        whole = refl;
        below = tt;
        there = ap option_to_list (sym (none-above name (e ∷ rest) above));
        above = above;
      })
]

pub count_below-within : (name : List ℕ) (entries : List EntryParts) → count_below name entries ≤ length entries
count_below-within name [] = omega arith
count_below-within name (e ∷ rest) = elim (cases_Bool (is_lt (slice_cmp nat_cmp e.name name))) [
  | inl less ↦ rw less (let more = count_below-within name rest in omega arith)
  | inr not_less ↦ rw not_less (omega arith)
]

-- entries that rise are cut so
pub cut : (name : List ℕ) (entries : List EntryParts) → are_entries entries ≡ true
    → IsCutAt name entries (take (count_below name entries) entries)
    (take (entries_on name (drop (count_below name entries) entries)) (drop (count_below name entries) entries))
    (drop (entries_on name (drop (count_below name entries) entries)) (drop (count_below name entries) entries))
cut name [] rise = record { whole = refl; below = tt; there = refl; above = tt }
cut name (e ∷ rest) rise = elim (cases_Bool (is_lt (slice_cmp nat_cmp e.name name))) [
  | inl less ↦
      let more = cut name rest (rises-rest e.name (map (λ p. p.name) rest) rise) in
      let below = less-of e.name name less in
      rw less (record {
        whole = ap (λ (l : List EntryParts). e ∷ l) more.whole;
        below = (below, more.below);
        there = more.there ∙ ap option_to_list (sym (past-first e rest name (below-other e.name name below)));
        above = more.above;
      })
  | inr not_less ↦ rw not_less (cut-first name e rest rise not_less)
]
