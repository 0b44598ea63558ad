-- The changes between targets, name by name.
use Rattle.std.proofs.Common.{◌≡◌, ◌≢◌, ◌++◌, ◌+◌, ◌<◌, ◌≤◌, ℕ, true, false, List, [], ◌∷◌, Contains, Less, Option, Some, None, find, length, take, drop, get_or, map, refl, sym, ap, ◌∙◌, subst, inl, inr, append-nil, if◌then◌else◌}
use Rattle.std.proofs.lemmas.Bool.{cases_Bool}
use Rattle.std.proofs.lemmas.List.{take-append-drop, take_more, drop_more}
use Rattle.std.proofs.lemmas.List.Elements.{Contains-append_left, Contains-append_right, filter-append}
use Rattle.std.proofs.lemmas.Slice.Eq.{bytes_eq-Decides, slice_eq-Decides}
use Rattle.std.specs.Cmp.Lexicographic.{slice_cmp}
use Rattle.std.specs.List.{AllByRecursion, list_any}
use Rattle.std.specs.Ordering.{nat_cmp}
use Rattle.std.specs.Str.{bytes_eq}
use Rattle.lists.proofs.Members.{Contains-cons_cases, Contains-here, Contains-map_of, Contains-nil, take-whole}
use Rattle.markers.specs.Environment.{Texts}
use Rattle.pylock.specs.Order.{rises}
use Rattle.changes.specs.Changes.{AreEntryChanges, AreTargetChanges, ChangesEntries, ChangesEnvironment, IsEntryChange, changes_on, entries_in, environment_in, rise_by_target, target_on}
use Rattle.changes.specs.Tied.Between.{AreBetween, AreEntriesBetween, AreOf, is_same_environment, names_of, target_change, target_change_on}
use Rattle.changes.specs.Tied.Retargeted.{on_names}
use Rattle.changes.specs.declared.change.parts.EntryChange.{EntryChange}
use Rattle.changes.specs.declared.change.parts.TargetChange.{TargetChange}
use Rattle.states.specs.declared.target.Target.{Target}
use Rattle.changes.proofs.ByName.{on-none, on_names-found, on_names-from, on_names-rise}
use Rattle.changes.proofs.CutFacts.{below-other}
use Rattle.states.proofs.Among.{among-of, among-from}
use Rattle.states.proofs.LawfulNames.{rises-from}
use Rattle.states.proofs.NamesInOrder.{put-names, sorted-names}
use Rattle.states.proofs.PartFacts.{All-member, All-of}
use Rattle.states.proofs.EntryFacts.{rises-above, rises-rest}
use Rattle.changes.proofs.TargetChanges.{on-none as on-no_target, on-other, on-own, rise-behind}
use Rattle.changes.proofs.TargetsByName.{none-changes}

-- ---- names that rise

-- a name before another one is below it
front-below : (front : List (List ℕ)) (name : List ℕ) (rest : List (List ℕ)) (m : List ℕ) → rises (front ++ name ∷ rest) ≡ true → Contains front m → slice_cmp nat_cmp m name ≡ Less
front-below [] name rest m rise there = absurd (Contains-nil m there)
front-below (n ∷ front) name rest m rise there = elim (Contains-cons_cases n front m there) [
  | inl same ↦ subst (λ (x : List ℕ). slice_cmp nat_cmp x name ≡ Less) same
      (rises-above n (front ++ name ∷ rest) name rise (Contains-append_right front (name ∷ rest) name (Contains-here name rest)))
  | inr more ↦ front-below front name rest m (rises-rest n (front ++ name ∷ rest) rise) more
]

All-append : {X : Type 0} (P : X → Type 0) (xs ys : List X) → AllByRecursion P xs → AllByRecursion P ys → AllByRecursion P (xs ++ ys)
All-append P [] ys all more = more
All-append P (x ∷ xs) ys all more = (all.0, All-append P xs ys all.1 more)

-- ---- the entries of one name more

-- changes lead from the entries of the lock on a name to those of the other's
abbrev LeadsOn : List Target → List Target → List EntryChange → List ℕ → Type 0
LeadsOn old new changes name = ChangesEntries (changes_on name changes) (entries_in (target_on old name)) (entries_in (target_on new name))

-- the changes of a target before another one stay those that were there
on-before : (target other : List ℕ) (made own : List EntryChange) → AreOf other own → other ≢ target → changes_on target (made ++ own) ≡ changes_on target made
on-before target other made own all distinct =
    filter-append (λ (c : EntryChange). bytes_eq target c.target) made own
    ∙ ap (λ (l : List EntryChange). changes_on target made ++ l) (on-other target other own all distinct) ∙ append-nil (changes_on target made)

-- those of a target that comes first now are the new ones
on-last : (target : List ℕ) (made own : List EntryChange) → AreOf target own → ((c : EntryChange) → Contains made c → slice_cmp nat_cmp c.target target ≡ Less) → changes_on target (made ++ own) ≡ own
on-last target made own all below =
    let none : changes_on target made ≡ [] = on-no_target target made (λ c there. below-other c.target target (below c there)) in
    filter-append (λ (c : EntryChange). bytes_eq target c.target) made own ∙ (λ i. none i ++ on-own target own all i)

-- the changes of a name behind those of the names before it
between-more : (old new : List Target) (front : List (List ℕ)) (name : List ℕ) (made own : List EntryChange) → ((m : List ℕ) → Contains front m → slice_cmp nat_cmp m name ≡ Less)
    → ChangesEntries own (entries_in (target_on old name)) (entries_in (target_on new name)) → AreEntryChanges own → AreOf name own → AreEntriesBetween old new front made
    → AreEntriesBetween old new (front ++ name ∷ []) (made ++ own)
between-more old new front name made own below leads minimal all are =
    let before : (c : EntryChange) → Contains made c → slice_cmp nat_cmp c.target name ≡ Less =
    λ c there. below c.target (All-member (λ (x : EntryChange). Contains front x.target) made c are.known there) in
    record {
      minimal = record {
        rising = rise-behind name made own are.minimal.rising before all minimal.names;
        each = All-append IsEntryChange made own are.minimal.each minimal.each;
      };
      leads = All-append (LeadsOn old new (made ++ own)) front (name ∷ [])
          (All-of (LeadsOn old new (made ++ own)) front (λ m there.
          let distinct : name ≢ m = λ same. below-other m name (below m there) (sym same) in
          subst (λ (l : List EntryChange). ChangesEntries l (entries_in (target_on old m)) (entries_in (target_on new m))) (sym (on-before m name made own all distinct))
          (All-member (LeadsOn old new made) front m are.leads there)))
          (subst (λ (l : List EntryChange). ChangesEntries l (entries_in (target_on old name)) (entries_in (target_on new name))) (sym (on-last name made own all before)) leads, tt);
      known = All-append (λ (c : EntryChange). Contains (front ++ name ∷ []) c.target) made own
          (All-of (λ (c : EntryChange). Contains (front ++ name ∷ []) c.target) made
          (λ c there. Contains-append_left front (name ∷ []) c.target (All-member (λ (x : EntryChange). Contains front x.target) made c are.known there)))
          (All-of (λ (c : EntryChange). Contains (front ++ name ∷ []) c.target) own
          (λ c there. subst (λ (n : List ℕ). Contains (front ++ name ∷ []) n) (sym (All-member (λ (x : EntryChange). x.target ≡ name) own c all there))
          (Contains-append_right front (name ∷ []) name (Contains-here name []))));
    }

-- ---- as the loop has it

between-none : (old new : List Target) → AreEntriesBetween old new [] []
unfolding rise_by_target
between-none old new = record { minimal = record { rising = refl; each = tt }; leads = tt; known = tt }

pub between-start : (old new : List Target) (names : List (List ℕ)) → AreEntriesBetween old new (take 0 names) []
between-start old new [] = between-none old new
between-start old new (n ∷ names) = between-none old new

pub between-next : (old new : List Target) (names : List (List ℕ)) (place : ℕ) (name : List ℕ) (made own : List EntryChange) → rises names ≡ true → place < length names → name ≡ get_or names place name
    → ChangesEntries own (entries_in (target_on old name)) (entries_in (target_on new name)) → AreEntryChanges own → AreOf name own
    → AreEntriesBetween old new (take place names) made → AreEntriesBetween old new (take (place + 1) names) (made ++ own)
between-next old new names place name made own rise within is leads minimal all are =
    let front = take place names in
    let here : drop place names ≡ name ∷ drop (place + 1) names = drop_more names place name within ∙ ap (λ (n : List ℕ). n ∷ drop (place + 1) names) (sym is) in
    let cut : names ≡ front ++ name ∷ drop (place + 1) names = sym (take-append-drop place names) ∙ ap (λ (l : List (List ℕ)). front ++ l) here in
    let below : (m : List ℕ) → Contains front m → slice_cmp nat_cmp m name ≡ Less =
    λ m there. front-below front name (drop (place + 1) names) m (subst (λ (l : List (List ℕ)). rises l ≡ true) cut rise) there in
    let one : take (place + 1) names ≡ front ++ name ∷ [] = take_more names place name within ∙ ap (λ (n : List ℕ). front ++ n ∷ []) (sym is) in
    subst (λ (l : List (List ℕ)). AreEntriesBetween old new l (made ++ own)) (sym one) (between-more old new front name made own below leads minimal all are)

pub between-done : (old new : List Target) (names : List (List ℕ)) (place : ℕ) (made : List EntryChange) → length names ≤ place → AreEntriesBetween old new (take place names) made
    → AreEntriesBetween old new names made
between-done old new names place made past are = subst (λ (l : List (List ℕ)). AreEntriesBetween old new l made) (take-whole names place past) are

-- ---- environments

same-environment : (one other : Option Texts) → is_same_environment one other ≡ true → one ≡ other
same-environment None None is = refl
same-environment None (Some t) is = absurd (cc is)
same-environment (Some s) None is = absurd (cc is)
same-environment (Some s) (Some t) is = ap Some ((slice_eq-Decides bytes_eq-Decides s t _ refl).0 is)

pub is-same : (one other : Option Texts) → one ≡ other → is_same_environment one other ≡ true
is-same None None same = refl
is-same None (Some t) same = absurd (cc same)
is-same (Some s) None same = absurd (cc same)
is-same (Some s) (Some t) same = let texts : s ≡ t = cc same in (slice_eq-Decides bytes_eq-Decides s t _ refl).1 texts

environment-changes : (name : List ℕ) (old new : Option Target) → ChangesEnvironment (target_change name old new) (environment_in old) (environment_in new)
environment-changes name old new = elim (cases_Bool (is_same_environment (environment_in old) (environment_in new))) [
  | inl same ↦ rw same (sym (same-environment (environment_in old) (environment_in new) same))
  | inr other ↦ rw other (refl, refl)
]

record IsChangeOn (name : List ℕ) (change : TargetChange) : Type 0 where
  named : change.name ≡ name
  other : change.old ≢ change.new

change-on : (name : List ℕ) (old new : Option Target) (c : TargetChange) → target_change name old new ≡ Some c → IsChangeOn name c
change-on name old new c is = elim (cases_Bool (is_same_environment (environment_in old) (environment_in new))) [
  | inl same ↦ absurd (cc (rw same at is))
  | inr other ↦
      let made : record { name = name; old = environment_in old; new = environment_in new } ≡ c = cc (rw other at is) in
      record {
        named = sym (ap (λ (d : TargetChange). d.name) made);
        other = λ same.
            let alike : environment_in old ≡ environment_in new = ap (λ (d : TargetChange). d.old) made ∙ same ∙ sym (ap (λ (d : TargetChange). d.new) made) in
            let no : true ≡ false = sym (is-same (environment_in old) (environment_in new) alike) ∙ other in cc;
      }
]

-- ---- all names

names-rise : (old new : List Target) → rises (names_of old new) ≡ true
names-rise old new =
    let names = map (λ (t : Target). t.name) old ++ map (λ (t : Target). t.name) new in
    rises-from (names_of old new) (sorted-names names)

-- a name that isn't met has no target in either list
unmet : (old new : List Target) (name : List ℕ) → list_any (bytes_eq name) (names_of old new) ≡ false
    → Contains (map (λ (t : Target). t.name) old ++ map (λ (t : Target). t.name) new) name → ⊥
unmet old new name none there =
    let names = map (λ (t : Target). t.name) old ++ map (λ (t : Target). t.name) new in
    let among : list_any (bytes_eq name) (names_of old new) ≡ true = among-of (names_of old new) name (put-names [] names name there) in
    let no : true ≡ false = sym among ∙ none in cc

no-old : (old new : List Target) (name : List ℕ) → list_any (bytes_eq name) (names_of old new) ≡ false → target_on old name ≡ None
no-old old new name none =
    let olds = map (λ (t : Target). t.name) old in
    on-none (λ (t : Target). t.name) old name (λ t there same. unmet old new name none
    (Contains-append_left olds (map (λ (u : Target). u.name) new) name (subst (Contains olds) same (Contains-map_of (λ (u : Target). u.name) old t there))))

no-new : (old new : List Target) (name : List ℕ) → list_any (bytes_eq name) (names_of old new) ≡ false → target_on new name ≡ None
no-new old new name none =
    let news = map (λ (t : Target). t.name) new in
    on-none (λ (t : Target). t.name) new name (λ t there same. unmet old new name none
    (Contains-append_right (map (λ (u : Target). u.name) old) news name (subst (Contains news) same (Contains-map_of (λ (u : Target). u.name) new t there))))

leads-all : (old new : List Target) (entries : List EntryChange) → AreEntriesBetween old new (names_of old new) entries → (name : List ℕ) → LeadsOn old new entries name
leads-all old new entries are name = elim (cases_Bool (list_any (bytes_eq name) (names_of old new))) [
  | inl among ↦ All-member (LeadsOn old new entries) (names_of old new) name are.leads (among-from (names_of old new) name among)
  | inr none ↦
      let still : changes_on name entries ≡ [] = on-no_target name entries (λ c there same.
      let among = among-of (names_of old new) name (subst (Contains (names_of old new)) same (All-member (λ (x : EntryChange). Contains (names_of old new) x.target) entries c are.known there)) in
      let no : true ≡ false = sym among ∙ none in cc) in
      subst (λ (o : Option Target). ChangesEntries (changes_on name entries) (entries_in o) (entries_in (target_on new name))) (sym (no-old old new name none))
      (subst (λ (o : Option Target). ChangesEntries (changes_on name entries) [] (entries_in o)) (sym (no-new old new name none)) (none-changes (changes_on name entries) still))
]

environments-all : (old new : List Target) (name : List ℕ)
    → ChangesEnvironment (if list_any (bytes_eq name) (names_of old new) then target_change_on old new name else None) (environment_in (target_on old name)) (environment_in (target_on new name))
environments-all old new name = elim (cases_Bool (list_any (bytes_eq name) (names_of old new))) [
  | inl among ↦ rw among (environment-changes name (target_on old name) (target_on new name))
  | inr none ↦ rw none (ap environment_in (no-new old new name none) ∙ sym (ap environment_in (no-old old new name none)))
]

-- what was made name by name leads from all targets to all others
pub between-all : (old new : List Target) (targets : List TargetChange) (entries : List EntryChange) → targets ≡ on_names (target_change_on old new) (names_of old new)
    → AreEntriesBetween old new (names_of old new) entries → AreBetween old new targets entries
between-all old new targets entries made are =
    let f = target_change_on old new in
    let names = names_of old new in
    let on = λ (name : List ℕ) (c : TargetChange) (is : f name ≡ Some c). (change-on name (target_on old name) (target_on new name) c is).named in
    record {
      targets_minimal = subst AreTargetChanges (sym made) (record {
        rising = on_names-rise (λ (c : TargetChange). c.name) f on names (names-rise old new);
        each = All-of (λ (c : TargetChange). c.old ≢ c.new) (on_names f names)
            (λ c there. let from = on_names-from f names c there in (change-on from.0 (target_on old from.0) (target_on new from.0) c from.2).other);
      });
      entries_minimal = are.minimal;
      environments = λ name.
          let found : find (λ (c : TargetChange). bytes_eq name c.name) targets ≡ (if list_any (bytes_eq name) names then f name else None) =
          ap (λ (l : List TargetChange). find (λ (c : TargetChange). bytes_eq name c.name) l) made ∙ on_names-found (λ (c : TargetChange). c.name) f on names name in
          subst (λ (c : Option TargetChange). ChangesEnvironment c (environment_in (target_on old name)) (environment_in (target_on new name))) (sym found) (environments-all old new name);
      leads = leads-all old new entries are;
      known = are.known;
    }

-- ---- one change, as it is made

other-environment : (one other : Option Texts) → (one ≡ other → ⊥) → is_same_environment one other ≡ false
other-environment one other differ = elim (cases_Bool (is_same_environment one other)) [
  | inl same ↦ absurd (differ (same-environment one other same))
  | inr differs ↦ differs
]

pub change-made : (name : List ℕ) (old new : Option Target) (one other : Option Texts) → one ≡ environment_in old → other ≡ environment_in new → (one ≡ other → ⊥)
    → Some (record { name = name; old = one; new = other }) ≡ target_change name old new
change-made name old new one other is is_new differ =
    let test : is_same_environment (environment_in old) (environment_in new) ≡ false =
    other-environment (environment_in old) (environment_in new) (λ same. differ (is ∙ same ∙ sym is_new)) in
    rw test (λ i. Some (record { name = name; old = is i; new = is_new i }))

pub change-none : (name : List ℕ) (old new : Option Target) (one other : Option Texts) → one ≡ environment_in old → other ≡ environment_in new → one ≡ other → None ≡ target_change name old new
change-none name old new one other is is_new same =
    let test : is_same_environment (environment_in old) (environment_in new) ≡ true = is-same (environment_in old) (environment_in new) (sym is ∙ same ∙ is_new) in
    rw test refl
