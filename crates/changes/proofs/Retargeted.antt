-- What becomes of targets, as it is made name by name.
use Rattle.std.proofs.Common.{◌≡◌, ◌≢◌, ◌∙◌, ◌++◌, ◌≤◌, ◌==◌, ℕ, true, false, List, [], ◌∷◌, Contains, Option, Some, None, IfSome, find, length, drop, map, append-nil, refl, sym, ap, subst, inl, inr, if◌then◌else◌}
use Rattle.std.proofs.lemmas.Bool.{cases_Bool}
use Rattle.std.proofs.lemmas.Bool.Decides.{Decides-eqb}
use Rattle.std.proofs.lemmas.List.{drop_all, nil_from_length}
use Rattle.std.specs.List.{list_any}
use Rattle.std.specs.Prelude.{slice_get}
use Rattle.std.specs.Str.{bytes_eq}
use Rattle.lists.proofs.Members.{Contains-here}
use Rattle.markers.specs.Environment.{Texts, marker_text}
use Rattle.pylock.specs.Order.{rises}
use Rattle.pylock.specs.Packages.{EntryParts}
use Rattle.states.specs.StateParts.{digest_of}
use Rattle.states.specs.declared.target.Target.{Target}
use Rattle.changes.specs.Changes.{AreTargets, ChangeParts, ChangesDigest, ChangesEntries, ChangesEnvironment, ChangesNames, changes_on, entries_in, environment_in, target_on}
use Rattle.changes.specs.Tied.Only.{IsTheOnly}
use Rattle.changes.specs.Tied.Retargeted.{AreMade, Becomes, CannotBecome, IsBound, IsOfParts, NoneNamed, carried_on, names_met, on_names}
use Rattle.changes.specs.declared.change.parts.EntryChange.{EntryChange}
use Rattle.changes.specs.declared.change.parts.TargetChange.{TargetChange}
use Rattle.changes.proofs.ByName.{on-there, on_names-found, on_names-from, on_names-rise}
use Rattle.changes.proofs.OneTarget.{both-rise, carried-named, becomes-one, no-entry_change, no-target, no-target_change}
use Rattle.changes.proofs.TargetsByName.{becomes-on, none-changes}
use Rattle.changes.proofs.TargetChanges.{on-none as no-change-on}
use Rattle.states.proofs.Among.{among-from}
use Rattle.states.proofs.PartFacts.{All-member, All-of}

-- ---- one target

module _ (change : ChangeParts) (digest : List ℕ) (olds : List Target) (name : List ℕ) where
  -- nothing becomes of it where its environment can't change
  pub stuck-environment : IsTheOnly (ChangesEnvironment (find (λ t. bytes_eq name t.name) change.targets) (environment_in (target_on olds name))) None → IsTheOnly (Becomes change digest olds name) None
  stuck-environment none = λ new is. none (environment_in new) is.parts.environment

  -- nor where its entries can't
  pub stuck-entries : IsTheOnly (ChangesEntries (changes_on name change.entries) (entries_in (target_on olds name))) None → IsTheOnly (Becomes change digest olds name) None
  stuck-entries none = λ new is. none (entries_in new) is.parts.entries

  -- else it is what its parts make
  pub becomes-parts : (environment : Option Texts) (entries : List EntryParts)
      → IsTheOnly (ChangesEnvironment (find (λ t. bytes_eq name t.name) change.targets) (environment_in (target_on olds name))) (Some environment)
      → IsTheOnly (ChangesEntries (changes_on name change.entries) (entries_in (target_on olds name))) (Some entries)
      → (made : Option (Option Target)) → IsTheOnly (IsOfParts name environment digest entries) made → IsTheOnly (Becomes change digest olds name) made
  becomes-parts environment entries first second None none = λ new is.
      none new (record { environment_is = first.1 (environment_in new) is.parts.environment; entries_are = second.1 (entries_in new) is.parts.entries; bound = is.bound })
  becomes-parts environment entries first second (Some new) only = (
    record {
      parts = record {
        environment = subst (ChangesEnvironment (find (λ t. bytes_eq name t.name) change.targets) (environment_in (target_on olds name))) (sym only.0.environment_is) first.0;
        entries = subst (ChangesEntries (changes_on name change.entries) (entries_in (target_on olds name))) (sym only.0.entries_are) second.0;
      };
      bound = only.0.bound;
    },
    λ other is. only.1 other (record { environment_is = first.1 (environment_in other) is.parts.environment; entries_are = second.1 (entries_in other) is.parts.entries; bound = is.bound }),
  )

-- ---- all of them

pub made-all : (change : ChangeParts) (digest : List ℕ) (olds : List Target) (names : List (List ℕ)) (place : ℕ) (made : List Target) → length names ≤ place
    → made ++ on_names (carried_on change digest olds) (drop place names) ≡ on_names (carried_on change digest olds) names → made ≡ on_names (carried_on change digest olds) names
made-all change digest olds names place made past is =
    sym (append-nil made) ∙ ap (λ (l : List (List ℕ)). made ++ on_names (carried_on change digest olds) l) (sym (drop_all place names past)) ∙ is

-- each of what was made has the digest, and names its own environment
module _ (change : ChangeParts) (digest : List ℕ) (olds made : List Target) (are : AreMade change digest olds (names_met change olds) made) where
  bound-of : (name : List ℕ) (new : Option Target) (t : Target) → new ≡ Some t → IfSome new (IsBound digest name) → IsBound digest name t
  bound-of name None t is bound = absurd (cc is)
  bound-of name (Some u) t is bound = let same : u ≡ t = cc is in subst (IsBound digest name) same bound

  each-bound : (t : Target) → Contains made t → (name : List ℕ) × IsBound digest name t
  each-bound t there =
      let f = carried_on change digest olds in
      let from = on_names-from f (names_met change olds) t (subst (λ (l : List Target). Contains l t) are.made_are there) in
      (from.0, bound-of from.0 (f from.0) t from.2 (All-member (λ (name : List ℕ). Becomes change digest olds name (f name)) (names_met change olds) from.0 are.each from.1).bound)

  made-digest : (targets : List Target) → targets ≢ [] → ((t : Target) → Contains targets t → t.lock.snapshot ≡ digest) → digest_of targets ≡ digest
  made-digest [] some all = absurd (some refl)
  made-digest (t ∷ rest) some all = all t (Contains-here t rest)

  pub digest-made : made ≢ [] → digest_of made ≡ digest
  digest-made some = made-digest made some (λ t there. (each-bound t there).1.digest_is)

  pub targets-made : made ≢ [] → AreTargets made
  targets-made some = record {
    rising = subst (λ (l : List Target). rises (map (λ t. t.name) l) ≡ true) (sym are.made_are)
        (on_names-rise (λ (t : Target). t.name) (carried_on change digest olds) (carried-named change digest olds) (names_met change olds)
        (both-rise (map (λ (u : Target). u.name) olds ++ map (λ (u : TargetChange). u.name) change.targets) (map (λ (c : EntryChange). c.target) change.entries)));
    digest = All-of (λ (t : Target). t.lock.snapshot ≡ digest_of made) made (λ t there. (each-bound t there).1.digest_is ∙ sym (digest-made some));
    named = All-of (λ (t : Target). t.lock.environment ≡ marker_text t.environment) made (λ t there. (each-bound t there).1.named);
  }

  -- on each name stands what became of it
  found-made : (name : List ℕ) → target_on made name ≡ (if list_any (bytes_eq name) (names_met change olds) then carried_on change digest olds name else None)
  found-made name =
      ap (λ (l : List Target). target_on l name) are.made_are ∙ on_names-found (λ (t : Target). t.name) (carried_on change digest olds) (carried-named change digest olds) (names_met change olds) name

  pub made-on : (name : List ℕ) → Becomes change digest olds name (target_on made name)
  made-on name = elim (cases_Bool (list_any (bytes_eq name) (names_met change olds))) [
    | inl among ↦
        let there : Becomes change digest olds name (carried_on change digest olds name) =
        All-member (λ (n : List ℕ). Becomes change digest olds n (carried_on change digest olds n)) (names_met change olds) name are.each (among-from (names_met change olds) name among) in
        let here : target_on made name ≡ carried_on change digest olds name = rw among at (found-made name) in
        subst (Becomes change digest olds name) (sym here) there
    | inr unmet ↦
        let here : target_on made name ≡ None = rw unmet at (found-made name) in
        let none : target_on olds name ≡ None = no-target change olds name unmet in
        let still : find (λ t. bytes_eq name t.name) change.targets ≡ None = no-target_change change olds name unmet in
        let own : changes_on name change.entries ≡ [] = no-change-on name change.entries (no-entry_change change olds name unmet) in
        subst (Becomes change digest olds name) (sym here) (record {
          parts = record {
            environment = subst (λ (c : Option TargetChange). ChangesEnvironment c (environment_in (target_on olds name)) None) (sym still) (sym (ap environment_in none));
            entries = subst (λ (o : Option Target). ChangesEntries (changes_on name change.entries) (entries_in o) []) (sym none) (none-changes (changes_on name change.entries) own);
          };
          bound = tt;
        })
  ]

-- where something was made, the change leads to it name by name
pub names-made : (change : ChangeParts) (digest : List ℕ) (olds made : List Target) → AreTargets olds → ChangesDigest change.digests (digest_of olds) digest → AreMade change digest olds (names_met change olds) made → made ≢ []
    → ChangesNames change olds made
names-made change digest olds made old_are led are some = record {
  each = λ name. (made-on change digest olds made are name).parts;
  digest = subst (ChangesDigest change.digests (digest_of olds)) (sym (digest-made change digest olds made are some)) led;
  old_are = old_are;
  new_are = targets-made change digest olds made are some;
}

-- ---- where there is nothing to be made

-- what becomes of names when locks get the digest that the change leads to
becomes-at : (change : ChangeParts) (digest : List ℕ) (olds news : List Target) → IsTheOnly (ChangesDigest change.digests (digest_of olds)) (Some digest) → ChangesNames change olds news
    → (name : List ℕ) → Becomes change digest olds name (target_on news name)
becomes-at change digest olds news only is name =
    subst (λ (d : List ℕ). Becomes change d olds name (target_on news name)) (only.1 (digest_of news) is.digest) (becomes-on change olds news name is)

pub none-by-digest : (change : ChangeParts) (olds : List Target) → IsTheOnly (ChangesDigest change.digests (digest_of olds)) None → NoneNamed change olds
none-by-digest change olds none = λ news some is. none (digest_of news) is.digest

pub none-by-name : (change : ChangeParts) (digest : List ℕ) (olds : List Target) → IsTheOnly (ChangesDigest change.digests (digest_of olds)) (Some digest) → CannotBecome change digest olds → NoneNamed change olds
none-by-name change digest olds only none = λ news some is. none.1 (target_on news none.0) (becomes-at change digest olds news only is none.0)

first-there : (news : List Target) → news ≢ [] → (t : Target) × Contains news t
first-there [] some = absurd (some refl)
first-there (t ∷ rest) some = (t, Contains-here t rest)

-- no target is left, so that there is none
pub none-left : (change : ChangeParts) (digest : List ℕ) (olds made : List Target) → IsTheOnly (ChangesDigest change.digests (digest_of olds)) (Some digest) → AreMade change digest olds (names_met change olds) made → made ≡ []
    → NoneNamed change olds
none-left change digest olds made only are none = λ news some is.
    let first = first-there news some in
    let t = first.0 in
    let there : target_on news t.name ≡ Some t = on-there (λ (u : Target). u.name) news t is.new_are.rising first.1 in
    let gone : target_on made t.name ≡ None = ap (λ (l : List Target). target_on l t.name) none in
    let same = becomes-one change digest olds t.name (target_on news t.name) (target_on made t.name) (becomes-at change digest olds news only is t.name) (made-on change digest olds made are t.name) in
    let no : Some t ≡ None = sym there ∙ same ∙ gone in cc

-- the digest of targets is that of the first
pub digest-first : (targets : List Target) (first : Target) → Some first ≡ slice_get targets 0 → digest_of targets ≡ first.lock.snapshot
digest-first [] first is = absurd (cc is)
digest-first (t ∷ rest) first is = let same : t ≡ first = cc is in ap (λ (u : Target). u.lock.snapshot) same

-- a list is empty where it has no item
pub empty-from : {X : Type 0} (xs : List X) → true ≡ (length xs == 0) → xs ≡ []
empty-from xs is = nil_from_length xs ((Decides-eqb (length xs) 0).0 (sym is))

pub some-from : {X : Type 0} (xs : List X) → false ≡ (length xs == 0) → xs ≢ []
some-from xs is = λ none. let no : true ≡ false = sym ((Decides-eqb (length xs) 0).1 (ap length none)) ∙ sym is in cc
