-- Changes of entries that rise by their targets.
use Rattle.std.proofs.Common.{◌≡◌, ◌≢◌, ◌++◌, ◌&&◌, ◌+◌, ◌-◌, ◌<◌, ◌≤◌, arith, ℕ, Bool, true, false, drop, get_or, length, List, [], ◌∷◌, Contains, Ordering, Less, Equal, Greater, map, filter, refl, sym, ap, ◌∙◌, subst, inl, inr}
use Rattle.std.proofs.lemmas.Bool.{and_from, and_parts, cases_Bool}
use Rattle.std.proofs.lemmas.Bool.Decides.{nat_tests}
use Rattle.std.proofs.lemmas.List.{at_drop_more, drop_all, drop_more}
use Rattle.std.proofs.lemmas.Slice.Eq.{bytes_eq-Decides}
use Rattle.std.specs.Cmp.{IsTotalOrder, on_total, then_total, tied_itself}
use Rattle.std.specs.Cmp.Lexicographic.{nat_list_cmp_total, slice_cmp}
use Rattle.std.specs.List.{AllByRecursion}
use Rattle.std.specs.Ordering.{is_lt, nat_cmp, ordering_then}
use Rattle.std.specs.Prelude.{nat_lt}
use Rattle.std.specs.Str.{bytes_eq}
use Rattle.lists.proofs.Members.{Contains-cons_cases, Contains-filter, Contains-here, Contains-nil, Contains-there}
use Rattle.pylock.specs.Order.{rises}
use Rattle.changes.specs.Changes.{AreEntryChanges, AreMinimalChanges, IsEntryChange, changes_on, entry_back, entry_change_cmp, rise_by_target}
use Rattle.changes.specs.Tied.Between.{AreOf}
use Rattle.changes.specs.declared.change.parts.EntryChange.{EntryChange}
use Rattle.changes.proofs.BetweenEntries.{names-rise}

-- ---- the order

pub order : IsTotalOrder entry_change_cmp
order = then_total (on_total (λ (c : EntryChange). c.target) nat_list_cmp_total) (on_total (λ (c : EntryChange). c.name) nat_list_cmp_total)

is-less : (o : Ordering) → is_lt o ≡ true → o ≡ Less
is-less Less is = refl
is-less Equal is = cc is
is-less Greater is = cc is

-- on one target it is that of names
same-target : (c d : EntryChange) → c.target ≡ d.target → entry_change_cmp c d ≡ slice_cmp nat_cmp c.name d.name
same-target c d same =
    ap (λ (o : Ordering). ordering_then o (slice_cmp nat_cmp c.name d.name)) (ap (λ (n : List ℕ). slice_cmp nat_cmp c.target n) (sym same) ∙ tied_itself nat_list_cmp_total c.target)

-- and on two that of targets
other-target : (c d : EntryChange) → slice_cmp nat_cmp c.target d.target ≡ Less → entry_change_cmp c d ≡ Less
other-target c d less = ap (λ (o : Ordering). ordering_then o (slice_cmp nat_cmp c.name d.name)) less

pub rest-rise : (c : EntryChange) (rest : List EntryChange) → rise_by_target (c ∷ rest) ≡ true → rise_by_target rest ≡ true
unfolding rise_by_target
rest-rise c [] rise = refl
rest-rise c (d ∷ rest) rise = (and_parts (is_lt (entry_change_cmp c d)) (rise_by_target (d ∷ rest)) rise).1

-- changes that rise are above the first
pub above : (c : EntryChange) (rest : List EntryChange) (d : EntryChange) → rise_by_target (c ∷ rest) ≡ true → Contains rest d → entry_change_cmp c d ≡ Less
unfolding rise_by_target
above c [] d rise there = absurd (Contains-nil d there)
above c (e ∷ rest) d rise there =
    let parts = and_parts (is_lt (entry_change_cmp c e)) (rise_by_target (e ∷ rest)) rise in
    let first = is-less (entry_change_cmp c e) parts.0 in
    elim (Contains-cons_cases e rest d there) [
      | inl same ↦ subst (λ (x : EntryChange). entry_change_cmp c x ≡ Less) same first
      | inr more ↦ order.trans c e d first (above e rest d parts.1 more)
    ]

-- ---- the changes of one target

names-on : (target : List ℕ) (changes : List EntryChange) → rise_by_target changes ≡ true → rises (map (λ change. change.name) (changes_on target changes)) ≡ true
unfolding rises
names-on target [] rise = refl
names-on target (c ∷ rest) rise = elim (cases_Bool (bytes_eq target c.target)) [
  | inl same ↦ rw same (names-rise c.name (changes_on target rest)
      (λ d there.
      let k = Contains-filter (λ (e : EntryChange). bytes_eq target e.target) rest d there in
      let named : c.target ≡ d.target = sym ((bytes_eq-Decides target c.target).0 same) ∙ (bytes_eq-Decides target d.target).0 k.1 in
      sym (same-target c d named) ∙ above c rest d rise k.0)
      (names-on target rest (rest-rise c rest rise)))
  | inr other ↦ rw other (names-on target rest (rest-rise c rest rise))
]

each-filter : {X : Type 0} (P : X → Type 0) (p : X → Bool) (xs : List X) → AllByRecursion P xs → AllByRecursion P (filter p xs)
each-filter P p [] all = tt
each-filter P p (x ∷ xs) all = elim (cases_Bool (p x)) [
  | inl passes ↦ rw passes (all.0, each-filter P p xs all.1)
  | inr fails ↦ rw fails (each-filter P p xs all.1)
]

-- those of one target are minimal by themselves
pub AreEntryChanges-on : (target : List ℕ) (changes : List EntryChange) → AreMinimalChanges changes → AreEntryChanges (changes_on target changes)
AreEntryChanges-on target changes are = record {
  names = names-on target changes are.rising;
  each = each-filter IsEntryChange (λ (c : EntryChange). bytes_eq target c.target) changes are.each;
}

-- ---- back

pub rise-back : (changes : List EntryChange) → rise_by_target (map entry_back changes) ≡ rise_by_target changes
unfolding rise_by_target
rise-back [] = refl
rise-back (c ∷ []) = refl
rise-back (c ∷ d ∷ rest) = ap (λ (more : Bool). is_lt (entry_change_cmp c d) && more) (rise-back (d ∷ rest))

pub on-back : (target : List ℕ) (changes : List EntryChange) → changes_on target (map entry_back changes) ≡ map entry_back (changes_on target changes)
on-back target [] = refl
on-back target (c ∷ rest) = elim (cases_Bool (bytes_eq target c.target)) [
  | inl same ↦ rw same (ap (λ (more : List EntryChange). entry_back c ∷ more) (on-back target rest))
  | inr other ↦ rw other (on-back target rest)
]

-- ---- changes of one target behind those of targets before it

pub rise-of : (target : List ℕ) (changes : List EntryChange) → AreOf target changes → rises (map (λ change. change.name) changes) ≡ true → rise_by_target changes ≡ true
unfolding rises rise_by_target
rise-of target [] all rise = refl
rise-of target (c ∷ []) all rise = refl
rise-of target (c ∷ d ∷ rest) all rise =
    let parts = and_parts (is_lt (slice_cmp nat_cmp c.name d.name)) (rises (map (λ e. e.name) (d ∷ rest))) rise in
    and_from (is_lt (entry_change_cmp c d)) (rise_by_target (d ∷ rest)) (ap is_lt (same-target c d (all.0 ∙ sym all.1.0)) ∙ parts.0) (rise-of target (d ∷ rest) all.1 parts.1)

rise-append : (xs ys : List EntryChange) → rise_by_target xs ≡ true → rise_by_target ys ≡ true
    → ((c d : EntryChange) → Contains xs c → Contains ys d → entry_change_cmp c d ≡ Less) → rise_by_target (xs ++ ys) ≡ true
unfolding rise_by_target
rise-append [] ys rise rise_too below = rise_too
rise-append (c ∷ []) [] rise rise_too below = refl
rise-append (c ∷ []) (d ∷ ys) rise rise_too below =
    and_from (is_lt (entry_change_cmp c d)) (rise_by_target (d ∷ ys)) (ap is_lt (below c d (Contains-here c []) (Contains-here d ys))) rise_too
rise-append (c ∷ e ∷ xs) ys rise rise_too below =
    let parts = and_parts (is_lt (entry_change_cmp c e)) (rise_by_target (e ∷ xs)) rise in
    and_from (is_lt (entry_change_cmp c e)) (rise_by_target (e ∷ xs ++ ys)) parts.0
    (rise-append (e ∷ xs) ys parts.1 rise_too (λ x d there over. below x d (Contains-there c (e ∷ xs) x there) over))

of-member : (target : List ℕ) (changes : List EntryChange) (c : EntryChange) → AreOf target changes → Contains changes c → c.target ≡ target
of-member target [] c all there = absurd (Contains-nil c there)
of-member target (d ∷ rest) c all there = elim (Contains-cons_cases d rest c there) [
  | inl same ↦ subst (λ (x : EntryChange). x.target ≡ target) same all.0
  | inr more ↦ of-member target rest c all.1 more
]

-- changes of a target behind those of targets before it rise
pub rise-behind : (target : List ℕ) (before own : List EntryChange) → rise_by_target before ≡ true → ((c : EntryChange) → Contains before c → slice_cmp nat_cmp c.target target ≡ Less)
    → AreOf target own → rises (map (λ change. change.name) own) ≡ true → rise_by_target (before ++ own) ≡ true
rise-behind target before own rise below all names =
    rise-append before own rise (rise-of target own all names)
    (λ c d there over. other-target c d (subst (λ (n : List ℕ). slice_cmp nat_cmp c.target n ≡ Less) (sym (of-member target own d all over)) (below c there)))

pub on-own : (target : List ℕ) (own : List EntryChange) → AreOf target own → changes_on target own ≡ own
on-own target [] all = refl
on-own target (c ∷ rest) all =
    let same : bytes_eq target c.target ≡ true = (bytes_eq-Decides target c.target).1 (sym all.0) in
    rw same (ap (λ (more : List EntryChange). c ∷ more) (on-own target rest all.1))

pub on-none : (target : List ℕ) (changes : List EntryChange) → ((c : EntryChange) → Contains changes c → c.target ≢ target) → changes_on target changes ≡ []
on-none target [] other = refl
on-none target (c ∷ rest) other = elim (cases_Bool (bytes_eq target c.target)) [
  | inl same ↦ absurd (other c (Contains-here c rest) (sym ((bytes_eq-Decides target c.target).0 same)))
  | inr differs ↦ rw differs (on-none target rest (λ d there. other d (Contains-there c rest d there)))
]

pub on-other : (target other : List ℕ) (own : List EntryChange) → AreOf other own → other ≢ target → changes_on target own ≡ []
on-other target other own all distinct = on-none target own (λ c there same. distinct (sym (of-member other own c all there) ∙ same))

-- ---- as the loop has it

-- the changes at a place and behind it, by the one before it
rise-step : (changes : List EntryChange) (i : ℕ) (c d : EntryChange) → 1 ≤ i → i < length changes → c ≡ get_or changes (i - 1) c → d ≡ get_or changes i d
    → rise_by_target (drop (i - 1) changes) ≡ (is_lt (entry_change_cmp c d) && rise_by_target (drop i changes))
unfolding rise_by_target
rise-step changes i c d one within before here =
    let next : i - 1 + 1 ≡ i = omega arith in
    let rest : drop i changes ≡ d ∷ drop (i + 1) changes = drop_more changes i d within ∙ ap (λ (e : EntryChange). e ∷ drop (i + 1) changes) (sym here) in
    at_drop_more rise_by_target changes (i - 1) c (omega arith) ∙ ap (λ (e : EntryChange). rise_by_target (e ∷ drop (i - 1 + 1) changes)) (sym before) ∙ rw (next, rest) refl

rise-last : (changes : List EntryChange) (i : ℕ) (d : EntryChange) → 1 ≤ i → length changes ≤ i → rise_by_target (drop (i - 1) changes) ≡ true
unfolding rise_by_target
rise-last changes i d one past = elim (cases_Bool (nat_lt (i - 1) (length changes))) [
  | inl within ↦
      let next : i - 1 + 1 ≡ i = omega arith in
      at_drop_more rise_by_target changes (i - 1) d (grind (arith, nat_tests)) ∙ rw (next, drop_all i changes past) refl
  | inr beyond ↦ rw (drop_all (i - 1) changes (grind (arith, nat_tests))) refl
]

-- a change comes before the next one
pub rise-on : (changes : List EntryChange) (i : ℕ) (c d : EntryChange) → 1 ≤ i → i < length changes → c ≡ get_or changes (i - 1) c → d ≡ get_or changes i d
    → is_lt (entry_change_cmp c d) ≡ true → rise_by_target (drop (i - 1) changes) ≡ rise_by_target changes → rise_by_target (drop (i + 1 - 1) changes) ≡ rise_by_target changes
rise-on changes i c d one within before here less total =
    let same : i + 1 - 1 ≡ i = omega arith in
    let first : rise_by_target (drop (i - 1) changes) ≡ rise_by_target (drop i changes) = rise-step changes i c d one within before here ∙ rw less refl in
    rw same (sym first ∙ total)

-- a change doesn't come before the next one
pub rise-stops : (changes : List EntryChange) (i : ℕ) (c d : EntryChange) → 1 ≤ i → i < length changes → c ≡ get_or changes (i - 1) c → d ≡ get_or changes i d
    → is_lt (entry_change_cmp c d) ≡ false → rise_by_target (drop (i - 1) changes) ≡ rise_by_target changes → false ≡ rise_by_target changes
rise-stops changes i c d one within before here less total =
    let first : rise_by_target (drop (i - 1) changes) ≡ false = rise-step changes i c d one within before here ∙ rw less refl in
    sym first ∙ total

rise-none : rise_by_target [] ≡ true
unfolding rise_by_target
rise-none = refl

-- past the last one
pub rise-done : (changes : List EntryChange) (i : ℕ) → 1 ≤ i → length changes ≤ i → rise_by_target (drop (i - 1) changes) ≡ rise_by_target changes → true ≡ rise_by_target changes
rise-done [] i one past total = sym (rise-none)
rise-done (c ∷ rest) i one past total = sym (rise-last (c ∷ rest) i c one past) ∙ total
