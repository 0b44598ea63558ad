-- What becomes of a name is one thing, and a function of the change and the targets that were there.
use Rattle.std.proofs.Common.{◌≡◌, ◌≢◌, ◌∙◌, ◌++◌, ℕ, Bool, true, false, List, [], ◌∷◌, Contains, Option, Some, None, IfSome, find, map, refl, sym, ap, subst, if◌then◌else◌}
use Rattle.std.specs.BTreeSet.{insert_key}
use Rattle.std.specs.Cmp.Lexicographic.{slice_cmp}
use Rattle.std.specs.List.{list_any}
use Rattle.std.specs.Ordering.{nat_cmp}
use Rattle.std.specs.Str.{bytes_eq}
use Rattle.markers.specs.Environment.{Texts, marker_text}
use Rattle.pylock.specs.Order.{rises}
use Rattle.pylock.specs.Packages.{EntryParts}
use Rattle.states.specs.Names.{with_names}
use Rattle.states.specs.StateParts.{digest_of}
use Rattle.states.specs.declared.target.Target.{Target}
use Rattle.changes.specs.Changes.{AreMinimalChanges, ChangeParts, ChangesEnvironment, ChangesNames, changes_on, entries_in, environment_in, target_on}
use Rattle.changes.specs.Tied.ExchangedEntries.{carried_entries}
use Rattle.changes.specs.Tied.Retargeted.{Becomes, IsBound, IsOfParts, carried_environment, carried_on, names_met, on_names, target_of}
use Rattle.changes.specs.declared.change.parts.EntryChange.{EntryChange}
use Rattle.changes.specs.declared.change.parts.TargetChange.{TargetChange}
use Rattle.states.proofs.Among.{among-of}
use Rattle.states.proofs.LawfulNames.{rises-from}
use Rattle.states.proofs.NamesInOrder.{put-names, sorted-names}
use Rattle.changes.proofs.ByName.{on-none, on-one, on_names-found, on_names-rise}
use Rattle.changes.proofs.EntriesCarried.{entries-carried}
use Rattle.changes.proofs.ExchangesHaveOneOutcome.{ChangesEntries-one}
use Rattle.changes.proofs.TargetChanges.{AreEntryChanges-on}
use Rattle.changes.proofs.TargetsByName.{becomes-on}
use Rattle.std.proofs.lemmas.List.Elements.{Contains-append_left, Contains-append_right}
use Rattle.lists.proofs.Members.{Contains-map_of}

-- ---- one target of some parts

pub parts-one : (name digest : List ℕ) (environment : Option Texts) (entries : List EntryParts) (one other : Option Target) → IsOfParts name environment digest entries one → IsOfParts name environment digest entries other
    → one ≡ other
parts-one name digest environment entries None None is also = refl
parts-one name digest environment entries None (Some u) is also = absurd (cc (is.environment_is ∙ sym also.environment_is))
parts-one name digest environment entries (Some t) None is also = absurd (cc (is.environment_is ∙ sym also.environment_is))
parts-one name digest environment entries (Some t) (Some u) is also =
    let named : t.name ≡ u.name = is.bound.name_is ∙ sym also.bound.name_is in
    let own : t.environment ≡ u.environment = cc (is.environment_is ∙ sym also.environment_is) in
    let text : t.lock.environment ≡ u.lock.environment = is.bound.named ∙ ap marker_text own ∙ sym also.bound.named in
    let snapshot : t.lock.snapshot ≡ u.lock.snapshot = is.bound.digest_is ∙ sym also.bound.digest_is in
    let locked : t.lock.entries ≡ u.lock.entries = is.entries_are ∙ sym also.entries_are in
    λ i. Some (record { name = named i; environment = own i; lock = record { environment = text i; snapshot = snapshot i; entries = locked i } })

environment-one : (change : Option TargetChange) (old one other : Option Texts) → ChangesEnvironment change old one → ChangesEnvironment change old other → one ≡ other
environment-one None old one other is also = is ∙ sym also
environment-one (Some c) old one other is also = is.1 ∙ sym also.1

-- what becomes of a name is one thing
pub becomes-one : (change : ChangeParts) (digest : List ℕ) (olds : List Target) (name : List ℕ) (one other : Option Target) → Becomes change digest olds name one → Becomes change digest olds name other → one ≡ other
becomes-one change digest olds name one other is also =
    let old = target_on olds name in
    let environment : environment_in one ≡ environment_in other =
    environment-one (find (λ t. bytes_eq name t.name) change.targets) (environment_in old) (environment_in one) (environment_in other) is.parts.environment also.parts.environment in
    let entries : entries_in one ≡ entries_in other = ChangesEntries-one (changes_on name change.entries) (entries_in old) (entries_in one) (entries_in other) is.parts.entries also.parts.entries in
    parts-one name digest (environment_in other) (entries_in other) one other
    (record { environment_is = environment; entries_are = entries; bound = is.bound }) (record { environment_is = refl; entries_are = refl; bound = also.bound })

-- targets that a change leads to name by name are the same
pub names-one : (change : ChangeParts) (olds ones others : List Target) → digest_of ones ≡ digest_of others → ChangesNames change olds ones → ChangesNames change olds others → ones ≡ others
names-one change olds ones others digest is also =
    on-one (λ (t : Target). t.name) ones others is.new_are.rising also.new_are.rising
    (λ name. becomes-one change (digest_of others) olds name (target_on ones name) (target_on others name)
    (subst (λ (d : List ℕ). Becomes change d olds name (target_on ones name)) digest (becomes-on change olds ones name is)) (becomes-on change olds others name also))

-- ---- as a function

environment-carried : (change : Option TargetChange) (old new : Option Texts) → ChangesEnvironment change old new → new ≡ carried_environment change old
environment-carried None old new is = is
environment-carried (Some c) old new is = is.1

of-parts : (name digest : List ℕ) (new : Option Target) → IfSome new (IsBound digest name) → new ≡ target_of name digest (entries_in new) (environment_in new)
of-parts name digest None bound = refl
of-parts name digest (Some t) bound =
    let named : t.name ≡ name = bound.name_is in
    let text : t.lock.environment ≡ marker_text t.environment = bound.named in
    let snapshot : t.lock.snapshot ≡ digest = bound.digest_is in
    λ i. Some (record { name = named i; environment = t.environment; lock = record { environment = text i; snapshot = snapshot i; entries = t.lock.entries } })

-- what becomes of a name is what the function has
pub becomes-carried : (change : ChangeParts) (digest : List ℕ) (olds : List Target) (name : List ℕ) (new : Option Target) → AreMinimalChanges change.entries → Becomes change digest olds name new
    → new ≡ carried_on change digest olds name
becomes-carried change digest olds name new minimal is =
    let old = target_on olds name in
    let environment = environment-carried (find (λ t. bytes_eq name t.name) change.targets) (environment_in old) (environment_in new) is.parts.environment in
    let entries = entries-carried (changes_on name change.entries) (entries_in old) (entries_in new) (AreEntryChanges-on name change.entries minimal) is.parts.entries in
    of-parts name digest new is.bound ∙ (λ i. target_of name digest (entries i) (environment i))

named-by : (name digest : List ℕ) (entries : List EntryParts) (environment : Option Texts) (t : Target) → target_of name digest entries environment ≡ Some t → t.name ≡ name
named-by name digest entries None t is = absurd (cc is)
named-by name digest entries (Some e) t is = let made : record { name = name; environment = e; lock = record { environment = marker_text e; snapshot = digest; entries = entries } } ≡ t = cc is in sym (ap (λ (u : Target). u.name) made)

-- it has the name
pub carried-named : (change : ChangeParts) (digest : List ℕ) (olds : List Target) (name : List ℕ) (t : Target) → carried_on change digest olds name ≡ Some t → t.name ≡ name
carried-named change digest olds name t is =
    named-by name digest (carried_entries (changes_on name change.entries) (entries_in (target_on olds name)))
    (carried_environment (find (λ u. bytes_eq name u.name) change.targets) (environment_in (target_on olds name))) t is

-- ---- the names that are met

-- names with two lists of others
with-both : (names xs ys : List (List ℕ)) → with_names names (xs ++ ys) ≡ with_names (with_names names xs) ys
with-both names [] ys = refl
with-both names (x ∷ xs) ys = with-both (insert_key (slice_cmp nat_cmp) names x) xs ys

-- the names that stand in two lists rise, and each is there
pub both-rise : (xs ys : List (List ℕ)) → rises (with_names (with_names [] xs) ys) ≡ true
both-rise xs ys = subst (λ (l : List (List ℕ)). rises l ≡ true) (with-both [] xs ys) (rises-from (with_names [] (xs ++ ys)) (sorted-names (xs ++ ys)))

pub both-have : (xs ys : List (List ℕ)) (name : List ℕ) → Contains (xs ++ ys) name → Contains (with_names (with_names [] xs) ys) name
both-have xs ys name there = subst (λ (l : List (List ℕ)). Contains l name) (with-both [] xs ys) (put-names [] (xs ++ ys) name there)

-- a name that isn't met has no target, and no change of one
module _ (change : ChangeParts) (olds : List Target) (name : List ℕ) (unmet : list_any (bytes_eq name) (names_met change olds) ≡ false) where
  none-met : Contains ((map (λ (t : Target). t.name) olds ++ map (λ (t : TargetChange). t.name) change.targets) ++ map (λ (c : EntryChange). c.target) change.entries) name → ⊥
  none-met there =
      let xs = map (λ (t : Target). t.name) olds ++ map (λ (t : TargetChange). t.name) change.targets in
      let ys = map (λ (c : EntryChange). c.target) change.entries in
      let among : list_any (bytes_eq name) (names_met change olds) ≡ true = among-of (names_met change olds) name (both-have xs ys name there) in
      let no : true ≡ false = sym among ∙ unmet in cc

  pub no-target : target_on olds name ≡ None
  no-target = on-none (λ (t : Target). t.name) olds name (λ t there same.
      let xs = map (λ (u : Target). u.name) olds in
      let ts = map (λ (u : TargetChange). u.name) change.targets in
      let ys = map (λ (c : EntryChange). c.target) change.entries in
      none-met (Contains-append_left (xs ++ ts) ys name (Contains-append_left xs ts name (subst (Contains xs) same (Contains-map_of (λ (u : Target). u.name) olds t there)))))

  pub no-target_change : find (λ t. bytes_eq name t.name) change.targets ≡ None
  no-target_change = on-none (λ (t : TargetChange). t.name) change.targets name (λ t there same.
      let xs = map (λ (u : Target). u.name) olds in
      let ts = map (λ (u : TargetChange). u.name) change.targets in
      let ys = map (λ (c : EntryChange). c.target) change.entries in
      none-met (Contains-append_left (xs ++ ts) ys name (Contains-append_right xs ts name (subst (Contains ts) same (Contains-map_of (λ (u : TargetChange). u.name) change.targets t there)))))

  pub no-entry_change : (c : EntryChange) → Contains change.entries c → c.target ≢ name
  no-entry_change c there same =
      let xs = map (λ (u : Target). u.name) olds ++ map (λ (u : TargetChange). u.name) change.targets in
      let ys = map (λ (d : EntryChange). d.target) change.entries in
      none-met (Contains-append_right xs ys name (subst (Contains ys) same (Contains-map_of (λ (d : EntryChange). d.target) change.entries c there)))

no-environment : (new : Option Target) → environment_in new ≡ None → new ≡ None
no-environment None is = refl
no-environment (Some t) is = absurd (cc is)

-- nothing becomes of it
pub unmet-none : (change : ChangeParts) (digest : List ℕ) (olds : List Target) (name : List ℕ) (new : Option Target) → list_any (bytes_eq name) (names_met change olds) ≡ false → Becomes change digest olds name new → new ≡ None
unmet-none change digest olds name new unmet is =
    let stays : ChangesEnvironment None (environment_in (target_on olds name)) (environment_in new) =
    subst (λ (c : Option TargetChange). ChangesEnvironment c (environment_in (target_on olds name)) (environment_in new)) (no-target_change change olds name unmet) is.parts.environment in
    no-environment new (stays ∙ ap environment_in (no-target change olds name unmet))

if-either : {X : Type 0} (among : Bool) (new made : Option X) → new ≡ made → (among ≡ false → new ≡ None) → new ≡ (if among then made else None)
if-either true new made is none = is
if-either false new made is none = none refl

-- targets that a change leads to name by name are those that the function has
pub names-carried : (change : ChangeParts) (olds news : List Target) → AreMinimalChanges change.entries → ChangesNames change olds news
    → news ≡ on_names (carried_on change (digest_of news) olds) (names_met change olds)
names-carried change olds news minimal is =
    let made = carried_on change (digest_of news) olds in
    let met = names_met change olds in
    let xs = map (λ (u : Target). u.name) olds ++ map (λ (u : TargetChange). u.name) change.targets in
    let rise = on_names-rise (λ (t : Target). t.name) made (carried-named change (digest_of news) olds) met (both-rise xs (map (λ (c : EntryChange). c.target) change.entries)) in
    on-one (λ (t : Target). t.name) news (on_names made met) is.new_are.rising rise
    (λ name.
    let becomes = becomes-on change olds news name is in
    if-either (list_any (bytes_eq name) met) (target_on news name) (made name) (becomes-carried change (digest_of news) olds name (target_on news name) minimal becomes)
    (λ unmet. unmet-none change (digest_of news) olds name (target_on news name) unmet becomes)
    ∙ sym (on_names-found (λ (t : Target). t.name) made (carried-named change (digest_of news) olds) met name))
