-- One entry in place of another.
use Rattle.std.proofs.Common.{◌≡◌, ◌≢◌, ◌++◌, ℕ, true, List, [], ◌∷◌, Option, Some, None, Less, map, refl, sym, ap, ◌∙◌, subst, inl, inr}
use Rattle.std.proofs.lemmas.Bool.{and_from, and_parts, cases_Bool}
use Rattle.std.proofs.lemmas.Slice.Eq.{bytes_eq-Decides}
use Rattle.std.specs.Cmp.Lexicographic.{nat_list_cmp_total, slice_cmp}
use Rattle.std.specs.Option.{option_to_list}
use Rattle.std.specs.Ordering.{is_lt, nat_cmp}
use Rattle.std.specs.Str.{bytes_eq}
use Rattle.pylock.specs.Locks.{are_entries}
use Rattle.pylock.specs.Order.{rises}
use Rattle.pylock.specs.Packages.{EntryParts}
use Rattle.changes.specs.Changes.{IsOn}
use Rattle.states.specs.State.{entry_on}
use Rattle.changes.specs.Tied.ExchangedEntries.{AreAbove, AreBelow}
use Rattle.changes.proofs.CutFacts.{below-other, none-above, on-first, past-first}
use Rattle.states.proofs.EntryFacts.{rises-rest}
use Rattle.states.proofs.LawfulNames.{apart}

-- ---- one entry in place of another

-- entries below a name have none on it
pub past-below : (front rest : List EntryParts) (name : List ℕ) → AreBelow front name → entry_on (front ++ rest) name ≡ entry_on rest name
past-below [] rest name below = refl
past-below (e ∷ front) rest name below = past-first e (front ++ rest) name (below-other e.name name below.0) ∙ past-below front rest name below.1

-- the entry on the name is the one put there
put-own : (x : Option EntryParts) (rest : List EntryParts) (name : List ℕ) → IsOn name x → AreAbove name rest → entry_on (option_to_list x ++ rest) name ≡ x
put-own None rest name on above = none-above name rest above
put-own (Some e) rest name on above = on-first e rest name on

pub own : (front : List EntryParts) (x : Option EntryParts) (rest : List EntryParts) (name : List ℕ) → IsOn name x → AreBelow front name → AreAbove name rest
    → entry_on (front ++ option_to_list x ++ rest) name ≡ x
own [] x rest name on below above = put-own x rest name on above
own (e ∷ front) x rest name on below above = past-first e (front ++ option_to_list x ++ rest) name (below-other e.name name below.0) ∙ own front x rest name on below.1 above

-- the entries on other names stay
put-other : (x : Option EntryParts) (rest : List EntryParts) (name other : List ℕ) → IsOn name x → name ≢ other → entry_on (option_to_list x ++ rest) other ≡ entry_on rest other
put-other None rest name other on distinct = refl
put-other (Some e) rest name other on distinct = past-first e rest other (λ same. distinct (sym on ∙ same))

pub others-stay : (front : List EntryParts) (x y : Option EntryParts) (rest : List EntryParts) (name other : List ℕ) → IsOn name x → IsOn name y → name ≢ other
    → entry_on (front ++ option_to_list y ++ rest) other ≡ entry_on (front ++ option_to_list x ++ rest) other
others-stay [] x y rest name other on_x on_y distinct = put-other y rest name other on_y distinct ∙ sym (put-other x rest name other on_x distinct)
others-stay (e ∷ front) x y rest name other on_x on_y distinct = elim (cases_Bool (bytes_eq other e.name)) [
  | inl same ↦
      let named : e.name ≡ other = sym ((bytes_eq-Decides other e.name).0 same) in
      on-first e (front ++ option_to_list y ++ rest) other named ∙ sym (on-first e (front ++ option_to_list x ++ rest) other named)
  | inr differs ↦
      let passed = apart other e.name differs in
      past-first e (front ++ option_to_list y ++ rest) other passed ∙ others-stay front x y rest name other on_x on_y distinct
      ∙ sym (past-first e (front ++ option_to_list x ++ rest) other passed)
]

-- entries rise still
put-rises : (x y : Option EntryParts) (rest : List EntryParts) (name : List ℕ) → IsOn name y → AreAbove name rest → are_entries (option_to_list x ++ rest) ≡ true
    → are_entries (option_to_list y ++ rest) ≡ true
unfolding rises
put-rises None None rest name on above rise = rise
put-rises (Some e) None rest name on above rise = rises-rest e.name (map (λ p. p.name) rest) rise
put-rises x (Some f) [] name on above rise = refl
put-rises None (Some f) (r ∷ rest) name on above rise =
    and_from (is_lt (slice_cmp nat_cmp f.name r.name)) (are_entries (r ∷ rest)) (ap is_lt (subst (λ (n : List ℕ). slice_cmp nat_cmp n r.name ≡ Less) (sym on) above.0)) rise
put-rises (Some e) (Some f) (r ∷ rest) name on above rise =
    and_from (is_lt (slice_cmp nat_cmp f.name r.name)) (are_entries (r ∷ rest)) (ap is_lt (subst (λ (n : List ℕ). slice_cmp nat_cmp n r.name ≡ Less) (sym on) above.0))
    (rises-rest e.name (map (λ p. p.name) (r ∷ rest)) rise)

first-rises : (f : EntryParts) (y : Option EntryParts) (rest : List EntryParts) (name : List ℕ) → slice_cmp nat_cmp f.name name ≡ Less → IsOn name y → AreAbove name rest
    → are_entries (option_to_list y ++ rest) ≡ true → are_entries (f ∷ (option_to_list y ++ rest)) ≡ true
unfolding rises
first-rises f None [] name less on above rise = refl
first-rises f None (r ∷ rest) name less on above rise =
    and_from (is_lt (slice_cmp nat_cmp f.name r.name)) (are_entries (r ∷ rest)) (ap is_lt (nat_list_cmp_total.trans f.name name r.name less above.0)) rise
first-rises f (Some e) rest name less on above rise =
    and_from (is_lt (slice_cmp nat_cmp f.name e.name)) (are_entries (e ∷ rest)) (ap is_lt (subst (λ (n : List ℕ). slice_cmp nat_cmp f.name n ≡ Less) (sym on) less)) rise

pub still-rise : (front : List EntryParts) (x y : Option EntryParts) (rest : List EntryParts) (name : List ℕ) → IsOn name y → AreBelow front name → AreAbove name rest
    → are_entries (front ++ option_to_list x ++ rest) ≡ true → are_entries (front ++ option_to_list y ++ rest) ≡ true
unfolding rises
still-rise [] x y rest name on below above rise = put-rises x y rest name on above rise
still-rise (f ∷ []) x y rest name on below above rise =
    first-rises f y rest name below.0 on above (put-rises x y rest name on above (rises-rest f.name (map (λ p. p.name) (option_to_list x ++ rest)) rise))
still-rise (f ∷ g ∷ front) x y rest name on below above rise =
    let parts = and_parts (is_lt (slice_cmp nat_cmp f.name g.name)) (are_entries (g ∷ front ++ option_to_list x ++ rest)) rise in
    and_from (is_lt (slice_cmp nat_cmp f.name g.name)) (are_entries (g ∷ front ++ option_to_list y ++ rest)) parts.0 (still-rise (g ∷ front) x y rest name on below.1 above parts.1)
