-- The changes between entries whose names rise, name by name.
use Rattle.std.proofs.Common.{◌≡◌, ◌≢◌, ◌<◌, ◌≤◌, ◌+◌, ◌-◌, ◌++◌, ℕ, true, false, List, [], ◌∷◌, Contains, Option, Some, None, IsSome, Less, Equal, Greater, Ordering, length, take, drop, get_or, map, refl, sym, ap, ◌∙◌, subst, inl, inr, arith, append_assoc, append-nil}
use Rattle.std.proofs.Math.Seq.{take-length}
use Rattle.std.proofs.lemmas.Bool.{cases_Bool}
use Rattle.std.proofs.lemmas.Map.Text.{is_eq-slice_cmp}
use Rattle.std.proofs.lemmas.Slice.Eq.{bytes_eq-Decides}
use Rattle.std.specs.Cmp.Lexicographic.{nat_list_cmp_total, slice_cmp}
use Rattle.std.specs.Prelude.{slice_get}
use Rattle.std.specs.Ordering.{is_eq, is_lt, nat_cmp, ordering_reverse}
use Rattle.std.specs.Str.{bytes_eq}
use Rattle.pylock.specs.Locks.{are_entries}
use Rattle.pylock.specs.Order.{rises}
use Rattle.pylock.specs.Packages.{EntryParts}
use Rattle.changes.specs.Changes.{AreEntryChanges, ChangesEntries, Exchanges, IsEntryChange, IsOn}
use Rattle.states.specs.State.{entry_on}
use Rattle.changes.specs.Tied.Between.{AreOf, IsFloor, IsLeast, IsPut, behind, first_on}
use Rattle.changes.specs.declared.change.parts.EntryChange.{EntryChange}
use Rattle.states.proofs.PartFacts.{All-member}
use Rattle.states.proofs.EntryFacts.{entry-from, less-of, not-below, rises-above, rises-rest}
use Rattle.lists.proofs.Members.{Contains-cons_cases, Contains-here, Contains-map_of, Contains-nil, Contains-there}

-- ---- names

-- all entries are above the name
abbrev Above : List ℕ → List EntryParts → Type 0
Above name entries = (e : EntryParts) → Contains entries e → slice_cmp nat_cmp name e.name ≡ Less

-- a name that is above another is another
not-same : (name m : List ℕ) → slice_cmp nat_cmp name m ≡ Less → m ≢ name
not-same name m less same = not-below name (subst (λ (n : List ℕ). slice_cmp nat_cmp name n ≡ Less) same less)

is-greater : (o : Ordering) → is_lt o ≡ false → is_eq o ≡ false → o ≡ Greater
is-greater Less lt eq = absurd (cc lt)
is-greater Equal lt eq = absurd (cc eq)
is-greater Greater lt eq = refl

bytes_eq-false : (a b : List ℕ) → bytes_eq a b ≡ false → a ≢ b
bytes_eq-false a b other same = let is = (bytes_eq-Decides a b).1 same in cc

bytes_eq-back : (a b : List ℕ) → bytes_eq a b ≡ false → bytes_eq b a ≡ false
bytes_eq-back a b other = elim (cases_Bool (bytes_eq b a)) [
  | inl same ↦ absurd (bytes_eq-false a b other (sym ((bytes_eq-Decides b a).0 same)))
  | inr is ↦ is
]

-- a name that isn't above another, and is another, is below it
floor-below : (name m : List ℕ) → is_lt (slice_cmp nat_cmp m name) ≡ false → bytes_eq name m ≡ false → slice_cmp nat_cmp name m ≡ Less
floor-below name m floor other =
    let above : slice_cmp nat_cmp m name ≡ Greater = is-greater (slice_cmp nat_cmp m name) floor (is_eq-slice_cmp m name ∙ bytes_eq-back name m other) in
    nat_list_cmp_total.antisymm name m ∙ ap ordering_reverse above

above-rest : (e : EntryParts) (rest : List EntryParts) → are_entries (e ∷ rest) ≡ true → Above e.name rest
above-rest e rest rise x there = rises-above e.name (map (λ p. p.name) rest) x.name rise (Contains-map_of (λ (p : EntryParts). p.name) rest x there)

-- ---- what stands on a name, and what is behind it

-- no entry is found below all of them
none-below : (name : List ℕ) (entries : List EntryParts) → Above name entries → entry_on entries name ≡ None
none-below name [] above = refl
none-below name (e ∷ rest) above = elim (cases_Bool (bytes_eq name e.name)) [
  | inl same ↦ absurd (not-same name e.name (above e (Contains-here e rest)) (sym ((bytes_eq-Decides name e.name).0 same)))
  | inr other ↦ rw other (none-below name rest (λ x there. above x (Contains-there e rest x there)))
]

above-all : (name : List ℕ) (e : EntryParts) (rest : List EntryParts) → are_entries (e ∷ rest) ≡ true → slice_cmp nat_cmp name e.name ≡ Less → Above name (e ∷ rest)
above-all name e rest rise below x there = elim (Contains-cons_cases e rest x there) [
  | inl same ↦ subst (λ (y : EntryParts). slice_cmp nat_cmp name y.name ≡ Less) same below
  | inr more ↦ nat_list_cmp_total.trans name e.name x.name below (above-rest e rest rise x more)
]

-- the entry on a name that is the least is the first one or none
first-found : (name : List ℕ) (entries : List EntryParts) → are_entries entries ≡ true → IsFloor name entries → entry_on entries name ≡ first_on name entries
first-found name [] rise floor = refl
first-found name (e ∷ rest) rise floor = elim (cases_Bool (bytes_eq name e.name)) [
  | inl same ↦ rw same refl
  | inr other ↦ rw other (none-below name rest (λ x there. above-all name e rest rise (floor-below name e.name floor other) x (Contains-there e rest x there)))
]

-- on other names the entries behind are all
behind-found : (name m : List ℕ) (entries : List EntryParts) → m ≢ name → entry_on (behind name entries) m ≡ entry_on entries m
behind-found name m [] another = refl
behind-found name m (e ∷ rest) another = elim (cases_Bool (bytes_eq name e.name)) [
  | inl same ↦ elim (cases_Bool (bytes_eq m e.name)) [
    | inl twice ↦ absurd (another ((bytes_eq-Decides m e.name).0 twice ∙ sym ((bytes_eq-Decides name e.name).0 same)))
    | inr other ↦ rw (same, other) refl
  ]
  | inr other ↦ rw other refl
]

first-is : (name : List ℕ) (entries : List EntryParts) → IsOn name (first_on name entries)
first-is name [] = tt
first-is name (e ∷ rest) = elim (cases_Bool (bytes_eq name e.name)) [
  | inl same ↦ rw same (sym ((bytes_eq-Decides name e.name).0 same))
  | inr other ↦ rw other tt
]

behind-rises : (name : List ℕ) (entries : List EntryParts) → are_entries entries ≡ true → are_entries (behind name entries) ≡ true
behind-rises name [] rise = rise
behind-rises name (e ∷ rest) rise = elim (cases_Bool (bytes_eq name e.name)) [
  | inl same ↦ rw same (rises-rest e.name (map (λ p. p.name) rest) rise)
  | inr other ↦ rw other rise
]

behind-above : (name : List ℕ) (entries : List EntryParts) → are_entries entries ≡ true → IsFloor name entries → Above name (behind name entries)
behind-above name [] rise floor = λ e there. absurd (Contains-nil e there)
behind-above name (e ∷ rest) rise floor = elim (cases_Bool (bytes_eq name e.name)) [
  | inl same ↦ rw same (subst (λ (n : List ℕ). Above n rest) (sym ((bytes_eq-Decides name e.name).0 same)) (above-rest e rest rise))
  | inr other ↦ rw other (above-all name e rest rise (floor-below name e.name floor other))
]

behind-least : (name : List ℕ) (entries : List EntryParts) → length (behind name entries) ≤ length entries
behind-least name [] = omega arith
behind-least name (e ∷ rest) = elim (cases_Bool (bytes_eq name e.name)) [
  | inl same ↦ rw same (omega arith)
  | inr other ↦ rw other (omega arith)
]

behind-less : (name : List ℕ) (entries : List EntryParts) → IsSome (first_on name entries) → length (behind name entries) < length entries
behind-less name [] some = absurd cc
behind-less name (e ∷ rest) some = elim (cases_Bool (bytes_eq name e.name)) [
  | inl same ↦ rw same (omega arith)
  | inr other ↦ absurd (let h = (rw other at some) in cc)
]

-- the entries behind the first one, as they are cut
pub cut-here : (name : List ℕ) (entries : List EntryParts) (first : EntryParts) → 1 ≤ length entries → first ≡ get_or entries 0 first → name ≡ first.name
    → take (length entries - 1) (drop 1 entries) ≡ behind name entries
cut-here name [] first some is same = absurd (omega arith)
cut-here name (e ∷ rest) first some is same =
    let on : bytes_eq name e.name ≡ true = (bytes_eq-Decides name e.name).1 (same ∙ ap (λ (x : EntryParts). x.name) is) in
    let size : length (e ∷ rest) - 1 ≡ length rest = omega arith in
    rw on (ap (λ (k : ℕ). take k rest) size ∙ take-length rest)

-- ---- the least name

-- a name that isn't above the first entry's is a floor
floor-of : (name : List ℕ) (entries : List EntryParts) (e : EntryParts) → Some e ≡ slice_get entries 0 → is_lt (slice_cmp nat_cmp e.name name) ≡ false → IsFloor name entries
floor-of name [] e first floor = absurd (cc first)
floor-of name (x ∷ rest) e first floor =
    let same : e ≡ x = cc first in
    subst (λ (y : EntryParts). is_lt (slice_cmp nat_cmp y.name name) ≡ false) same floor

floor-none : (name : List ℕ) (entries : List EntryParts) → None ≡ slice_get entries 0 → IsFloor name entries
floor-none name [] first = tt
floor-none name (x ∷ rest) first = absurd (cc first)

floor-self : (n : List ℕ) → is_lt (slice_cmp nat_cmp n n) ≡ false
floor-self n = elim (cases_Bool (is_lt (slice_cmp nat_cmp n n))) [
  | inl less ↦ absurd (not-below n (less-of n n less))
  | inr is ↦ is
]

floor-back : (a b : List ℕ) → is_lt (slice_cmp nat_cmp a b) ≡ true → is_lt (slice_cmp nat_cmp b a) ≡ false
floor-back a b less = ap is_lt (nat_list_cmp_total.antisymm b a ∙ ap ordering_reverse (less-of a b less))

first-there : (entries : List EntryParts) (e : EntryParts) → Some e ≡ slice_get entries 0 → IsSome (first_on e.name entries)
first-there [] e first = absurd (cc first)
first-there (x ∷ rest) e first =
    let same : bytes_eq e.name x.name ≡ true = (bytes_eq-Decides e.name x.name).1 (let is : e ≡ x = cc first in ap (λ (y : EntryParts). y.name) is) in
    rw same refl

-- the first entry's name is the least where the other list's isn't below it
pub least-old : (old new : List EntryParts) (gone come : EntryParts) → Some gone ≡ slice_get old 0 → Some come ≡ slice_get new 0 → is_lt (slice_cmp nat_cmp come.name gone.name) ≡ false
    → IsLeast gone.name old new
least-old old new gone come first second order = record {
  old_floor = floor-of gone.name old gone first (floor-self gone.name);
  new_floor = floor-of gone.name new come second order;
  there = inl (first-there old gone first);
}

pub least-new : (old new : List EntryParts) (gone come : EntryParts) → Some gone ≡ slice_get old 0 → Some come ≡ slice_get new 0 → is_lt (slice_cmp nat_cmp come.name gone.name) ≡ true
    → IsLeast come.name old new
least-new old new gone come first second order = record {
  old_floor = floor-of come.name old gone first (floor-back come.name gone.name order);
  new_floor = floor-of come.name new come second (floor-self come.name);
  there = inr (first-there new come second);
}

-- and where the other list is empty
pub least-of-old : (old new : List EntryParts) (gone : EntryParts) → Some gone ≡ slice_get old 0 → None ≡ slice_get new 0 → IsLeast gone.name old new
least-of-old old new gone first second = record {
  old_floor = floor-of gone.name old gone first (floor-self gone.name);
  new_floor = floor-none gone.name new second;
  there = inl (first-there old gone first);
}

pub least-of-new : (old new : List EntryParts) (come : EntryParts) → None ≡ slice_get old 0 → Some come ≡ slice_get new 0 → IsLeast come.name old new
least-of-new old new come first second = record {
  old_floor = floor-none come.name old first;
  new_floor = floor-of come.name new come second (floor-self come.name);
  there = inr (first-there new come second);
}

-- ---- changes

-- changes of a target lead from old entries to new ones, and none could be left out
pub record IsBetween (target : List ℕ) (changes : List EntryChange) (old new : List EntryParts) : Type 0 where
  pub leads : ChangesEntries changes old new
  pub minimal : AreEntryChanges changes
  pub own : AreOf target changes

-- what changes is on a name of the entries
change-above : (name : List ℕ) (old new : List EntryParts) (change : EntryChange) (a b : Option EntryParts) → Above name old → Above name new
    → entry_on old change.name ≡ a → entry_on new change.name ≡ b → a ≢ b → slice_cmp nat_cmp name change.name ≡ Less
change-above name old new change (Some e) b above_old above_new is_old is_new other =
    let k = entry-from old change.name e is_old in
    subst (λ (n : List ℕ). slice_cmp nat_cmp name n ≡ Less) k.1 (above_old e k.0)
change-above name old new change None (Some e) above_old above_new is_old is_new other =
    let k = entry-from new change.name e is_new in
    subst (λ (n : List ℕ). slice_cmp nat_cmp name n ≡ Less) k.1 (above_new e k.0)
change-above name old new change None None above_old above_new is_old is_new other = absurd (other refl)

changes-above : (target name : List ℕ) (old new : List EntryParts) (changes : List EntryChange) → Above name old → Above name new → IsBetween target changes old new
    → (change : EntryChange) → Contains changes change → slice_cmp nat_cmp name change.name ≡ Less
changes-above target name old new changes above_old above_new is change there =
    let k = is.leads.changed change there in
    change-above name old new change change.old change.new above_old above_new k.0 k.1 (All-member IsEntryChange changes change is.minimal.each there).other

pub names-rise : (name : List ℕ) (changes : List EntryChange) → ((change : EntryChange) → Contains changes change → slice_cmp nat_cmp name change.name ≡ Less)
    → rises (map (λ change. change.name) changes) ≡ true → rises (name ∷ map (λ change. change.name) changes) ≡ true
unfolding rises
names-rise name [] above rise = refl
names-rise name (c ∷ rest) above rise = rw (above c (Contains-here c rest)) rise

-- the entries of a name and those behind it
record IsAt (name : List ℕ) (old new : List EntryParts) : Type 0 where
  pub old_rises : are_entries old ≡ true
  pub new_rises : are_entries new ≡ true
  pub old_floor : IsFloor name old
  pub new_floor : IsFloor name new

-- the changes behind a name hold before it
changed-behind : (target name : List ℕ) (old new : List EntryParts) (changes : List EntryChange) → IsAt name old new → IsBetween target changes (behind name old) (behind name new)
    → (change : EntryChange) → Contains changes change → Exchanges old new change
changed-behind target name old new changes at is change there =
    let above = changes-above target name (behind name old) (behind name new) changes (behind-above name old at.old_rises at.old_floor) (behind-above name new at.new_rises at.new_floor) is change there in
    let another = not-same name change.name above in
    let k = is.leads.changed change there in
    (sym (behind-found name change.name old another) ∙ k.0, sym (behind-found name change.name new another) ∙ k.1)

-- the entry of the name becomes another
change-more : (target name : List ℕ) (old new : List EntryParts) (changes : List EntryChange) → IsAt name old new → first_on name old ≢ first_on name new
    → IsBetween target changes (behind name old) (behind name new) → IsBetween target (record { target = target; name = name; old = first_on name old; new = first_on name new } ∷ changes) old new
change-more target name old new changes at other is =
    let this : EntryChange = record { target = target; name = name; old = first_on name old; new = first_on name new } in
    record {
      leads = record {
        changed = λ change there. elim (Contains-cons_cases this changes change there) [
          | inl same ↦ subst (λ (c : EntryChange). Exchanges old new c) same (first-found name old at.old_rises at.old_floor, first-found name new at.new_rises at.new_floor)
          | inr more ↦ changed-behind target name old new changes at is change more
        ];
        others = λ m none.
            let another : m ≢ name = λ same. none this (Contains-here this changes) (sym same) in
            sym (behind-found name m new another) ∙ is.leads.others m (λ change there. none change (Contains-there this changes change there)) ∙ behind-found name m old another;
        old_rises = at.old_rises;
        new_rises = at.new_rises;
      };
      minimal = record {
        names = names-rise name changes
            (changes-above target name (behind name old) (behind name new) changes (behind-above name old at.old_rises at.old_floor) (behind-above name new at.new_rises at.new_floor) is)
            is.minimal.names;
        each = (record { old_name = first-is name old; new_name = first-is name new; other = other }, is.minimal.each);
      };
      own = (refl, is.own);
    }

-- the entry of the name is the same
change-none : (target name : List ℕ) (old new : List EntryParts) (changes : List EntryChange) → IsAt name old new → first_on name old ≡ first_on name new
    → IsBetween target changes (behind name old) (behind name new) → IsBetween target changes old new
change-none target name old new changes at same is = record {
  leads = record {
    changed = changed-behind target name old new changes at is;
    others = λ m none. elim (cases_Bool (bytes_eq m name)) [
      | inl here ↦
          let found : entry_on new name ≡ entry_on old name = first-found name new at.new_rises at.new_floor ∙ sym same ∙ sym (first-found name old at.old_rises at.old_floor) in
          subst (λ (n : List ℕ). entry_on new n ≡ entry_on old n) (sym ((bytes_eq-Decides m name).0 here)) found
      | inr other ↦
          let another = bytes_eq-false m name other in
          sym (behind-found name m new another) ∙ is.leads.others m none ∙ behind-found name m old another
    ];
    old_rises = at.old_rises;
    new_rises = at.new_rises;
  };
  minimal = is.minimal;
  own = is.own;
}

-- ---- changes as far as they are put together

-- the changes so far, with the entries that are left: what is between these goes on behind those
pub record IsMadeTo (target : List ℕ) (old new old_left new_left : List EntryParts) (made : List EntryChange) : Type 0 where
  pub old_rises : are_entries old_left ≡ true
  pub new_rises : are_entries new_left ≡ true
  pub onward : (changes : List EntryChange) → IsBetween target changes old_left new_left → IsBetween target (made ++ changes) old new

pub IsMadeTo-start : (target : List ℕ) (old new : List EntryParts) → are_entries old ≡ true → are_entries new ≡ true → IsMadeTo target old new old new []
IsMadeTo-start target old new old_rises new_rises = record { old_rises = old_rises; new_rises = new_rises; onward = λ changes is. is }

-- one more name
pub IsMadeTo-next : (target : List ℕ) (old new old_left new_left : List EntryParts) (made after : List EntryChange) (name : List ℕ) → IsLeast name old_left new_left
    → IsPut target name (first_on name old_left) (first_on name new_left) made after → IsMadeTo target old new old_left new_left made
    → IsMadeTo target old new (behind name old_left) (behind name new_left) after
IsMadeTo-next target old new old_left new_left made after name least put to =
    let at : IsAt name old_left new_left = record { old_rises = to.old_rises; new_rises = to.new_rises; old_floor = least.old_floor; new_floor = least.new_floor } in
    record {
      old_rises = behind-rises name old_left to.old_rises;
      new_rises = behind-rises name new_left to.new_rises;
      onward = λ changes is. elim put [
        | inl same ↦ subst (λ (l : List EntryChange). IsBetween target (l ++ changes) old new) (sym same.1) (to.onward changes (change-none target name old_left new_left changes at same.0 is))
        | inr other ↦
            let this : EntryChange = record { target = target; name = name; old = first_on name old_left; new = first_on name new_left } in
            let more = to.onward (this ∷ changes) (change-more target name old_left new_left changes at other.0 is) in
            subst (λ (l : List EntryChange). IsBetween target l old new) (sym (append_assoc made (this ∷ []) changes) ∙ ap (λ (l : List EntryChange). l ++ changes) (sym other.1)) more
      ];
    }

none-minimal : AreEntryChanges []
unfolding rises
none-minimal = record { names = refl; each = tt }

-- no name is left
pub IsMadeTo-end : (target : List ℕ) (old new old_left new_left : List EntryParts) (made : List EntryChange) → old_left ≡ [] → new_left ≡ [] → IsMadeTo target old new old_left new_left made → IsBetween target made old new
IsMadeTo-end target old new old_left new_left made no_old no_new to =
    let none : IsBetween target [] old_left new_left = record {
      leads = record {
        changed = λ change there. absurd (Contains-nil change there);
        others = λ m h. ap (λ (l : List EntryParts). entry_on l m) (no_new ∙ sym no_old);
        old_rises = to.old_rises;
        new_rises = to.new_rises;
      };
      minimal = none-minimal;
      own = tt;
    } in
    subst (λ (l : List EntryChange). IsBetween target l old new) (append-nil made) (to.onward [] none)

-- the entries that are left are fewer behind a name of theirs
pub least-fewer : (name : List ℕ) (old new : List EntryParts) → IsLeast name old new → length (behind name old) + length (behind name new) < length old + length new
least-fewer name old new least =
    let old_most = behind-least name old in
    let new_most = behind-least name new in
    elim least.there [
      | inl some ↦ let less = behind-less name old some in omega arith
      | inr some ↦ let less = behind-less name new some in omega arith
    ]
