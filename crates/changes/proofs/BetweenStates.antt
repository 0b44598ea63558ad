-- What leads from the targets of one state to those of another.
use Rattle.std.proofs.Common.{◌≡◌, ◌++◌, ◌∙◌, ℕ, true, List, [], ◌∷◌, Contains, Option, Some, None, IfSome, find, map, option_map, refl, sym, ap, subst, inl, inr}
use Rattle.std.proofs.lemmas.Bool.{cases_Bool}
use Rattle.std.proofs.lemmas.List.Elements.{Contains-append_cases}
use Rattle.std.specs.List.{AllByRecursion, AllZip}
use Rattle.std.specs.Str.{bytes_eq}
use Rattle.lists.proofs.Members.{Contains-here, Contains-nil, Contains-there}
use Rattle.markers.specs.Environment.{Texts, marker_text}
use Rattle.pylock.specs.Order.{rises}
use Rattle.changes.specs.Changes.{After, AreTargets, ChangeParts, ChangesDigest, ChangesEntries, ChangesEnvironment, ChangesTarget, ChangesTargets, IsSameTarget, Splices, changes_on, entries_in, environment_in, target_on}
use Rattle.states.specs.State.{IsLockFor, IsState}
use Rattle.states.specs.StateParts.{StateParts, digest_of}
use Rattle.changes.specs.Tied.Between.{AreBetween, names_of}
use Rattle.changes.specs.declared.change.parts.EntryChange.{EntryChange}
use Rattle.changes.specs.declared.change.parts.TargetChange.{TargetChange}
use Rattle.states.specs.declared.target.Target.{Target}
use Rattle.changes.proofs.ByName.{on, on-from, on-one, on-there}
use Rattle.states.proofs.NamesInOrder.{from-names}
use Rattle.states.proofs.PartFacts.{All-member, All-of}

-- ---- the same targets

-- a name and its environment
abbrev pair : Target → List ℕ × Texts
pair t = (t.name, t.environment)

pairs-on : (targets : List Target) (name : List ℕ) → on (λ (p : List ℕ × Texts). p.0) (map pair targets) name ≡ option_map pair (target_on targets name)
pairs-on [] name = refl
pairs-on (t ∷ rest) name = elim (cases_Bool (bytes_eq name t.name)) [
  | inl own ↦ rw own refl
  | inr other ↦ rw other (pairs-on rest name)
]

pair-names : (targets : List Target) → map (λ (p : List ℕ × Texts). p.0) (map pair targets) ≡ map (λ t. t.name) targets
pair-names [] = refl
pair-names (t ∷ rest) = ap (λ (names : List (List ℕ)). t.name ∷ names) (pair-names rest)

same-pair : (name : List ℕ) (old new : Option Target) → IfSome old (λ t. t.name ≡ name) → IfSome new (λ t. t.name ≡ name) → environment_in new ≡ environment_in old → option_map pair new ≡ option_map pair old
same-pair name None None own own_too same = refl
same-pair name None (Some u) own own_too same = absurd (cc same)
same-pair name (Some t) None own own_too same = absurd (cc same)
same-pair name (Some t) (Some u) own own_too same =
    let named : u.name ≡ t.name = own_too ∙ sym own in
    let environment : u.environment ≡ t.environment = cc same in
    λ i. Some (named i, environment i)

found-named : (targets : List Target) (name : List ℕ) (found : Option Target) → target_on targets name ≡ found → IfSome found (λ t. t.name ≡ name)
found-named targets name None is = tt
found-named targets name (Some t) is = (on-from (λ (u : Target). u.name) targets name t is).1

pairs-zip : (olds news : List Target) → map pair news ≡ map pair olds → AllZip IsSameTarget olds news
pairs-zip [] [] same = tt
pairs-zip [] (u ∷ news) same = absurd (cc same)
pairs-zip (t ∷ olds) [] same = absurd (cc same)
pairs-zip (t ∷ olds) (u ∷ news) same =
    let first : pair u ≡ pair t = cc same in
    let named : u.name ≡ t.name = ap (λ (p : List ℕ × Texts). p.0) first in
    let environment : u.environment ≡ t.environment = ap (λ (p : List ℕ × Texts). p.1) first in
    let rest : map pair news ≡ map pair olds = cc same in
    (record { name = named; environment = environment }, pairs-zip olds news rest)

-- targets of which none comes, goes or gets another environment are the same ones
same-targets : (olds news : List Target) → rises (map (λ t. t.name) olds) ≡ true → rises (map (λ t. t.name) news) ≡ true
    → ((name : List ℕ) → environment_in (target_on news name) ≡ environment_in (target_on olds name)) → AllZip IsSameTarget olds news
same-targets olds news rise rise_too same =
    pairs-zip olds news (on-one (λ (p : List ℕ × Texts). p.0) (map pair news) (map pair olds) (ap rises (pair-names news) ∙ rise_too) (ap rises (pair-names olds) ∙ rise)
    (λ name. pairs-on news name ∙ same-pair name (target_on olds name) (target_on news name) (found-named olds name (target_on olds name) refl) (found-named news name (target_on news name) refl) (same name)
    ∙ sym (pairs-on olds name)))

names-same : (olds news : List Target) → AllZip IsSameTarget olds news → map (λ t. t.name) news ≡ map (λ t. t.name) olds
names-same [] [] same = refl
names-same [] (u ∷ news) same = absurd same
names-same (t ∷ olds) [] same = absurd same
names-same (t ∷ olds) (u ∷ news) same = λ i. same.0.name i ∷ names-same olds news same.1 i

-- ---- target by target

-- changes lead from the entries of a target's lock to those of another's
abbrev LeadsOn : List EntryChange → Target → Target → Type 0
LeadsOn changes s t = ChangesEntries (changes_on s.name changes) s.lock.entries t.lock.entries

-- what leads from name to name leads from target to target
leads-each : (changes : List EntryChange) (all all_new olds news : List Target) → rises (map (λ t. t.name) all) ≡ true → rises (map (λ t. t.name) all_new) ≡ true
    → ((name : List ℕ) → ChangesEntries (changes_on name changes) (entries_in (target_on all name)) (entries_in (target_on all_new name)))
    → ((t : Target) → Contains olds t → Contains all t) → ((t : Target) → Contains news t → Contains all_new t) → AllZip IsSameTarget olds news → AllZip (LeadsOn changes) olds news
leads-each changes all all_new [] [] rise rise_too leads within within_new same = tt
leads-each changes all all_new [] (u ∷ news) rise rise_too leads within within_new same = absurd same
leads-each changes all all_new (t ∷ olds) [] rise rise_too leads within within_new same = absurd same
leads-each changes all all_new (t ∷ olds) (u ∷ news) rise rise_too leads within within_new same =
    let old : target_on all t.name ≡ Some t = on-there (λ (s : Target). s.name) all t rise (within t (Contains-here t olds)) in
    let new : target_on all_new t.name ≡ Some u = ap (target_on all_new) (sym same.0.name) ∙ on-there (λ (s : Target). s.name) all_new u rise_too (within_new u (Contains-here u news)) in (
      subst (λ (o : Option Target). ChangesEntries (changes_on t.name changes) t.lock.entries (entries_in o)) new
          (subst (λ (o : Option Target). ChangesEntries (changes_on t.name changes) (entries_in o) (entries_in (target_on all_new t.name))) old (leads t.name)),
      leads-each changes all all_new olds news rise rise_too leads (λ s there. within s (Contains-there t olds s there)) (λ s there. within_new s (Contains-there u news s there)) same.1,
    )

-- what leads from the entries of all locks, and from their digest, leads from target to target
targets-change : (change : ChangeParts) (lines more : List (List ℕ)) (before after : List ℕ) (olds news : List Target) → AllZip IsSameTarget olds news → AllZip (LeadsOn change.entries) olds news
    → ChangesDigest change.digests before after → AllByRecursion (λ t. t.lock.snapshot ≡ before) olds → AllByRecursion (λ t. t.lock.snapshot ≡ after) news
    → AllByRecursion (λ t. IsLockFor lines t.environment t.lock) olds → AllByRecursion (λ t. IsLockFor more t.environment t.lock) news → AllZip (ChangesTarget change) olds news
targets-change change lines more before after [] [] same leads digest olds_at news_at locks locks_too = tt
targets-change change lines more before after [] (t ∷ news) same leads digest olds_at news_at locks locks_too = absurd same
targets-change change lines more before after (s ∷ olds) [] same leads digest olds_at news_at locks locks_too = absurd same
targets-change change lines more before after (s ∷ olds) (t ∷ news) same leads digest olds_at news_at locks locks_too = (
  record {
    same = same.0;
    lock = record {
      entries = leads.0;
      digest = subst (λ (d : List ℕ). ChangesDigest change.digests d t.lock.snapshot) (sym olds_at.0) (subst (ChangesDigest change.digests before) (sym news_at.0) digest);
      environment = locks_too.0.named ∙ ap marker_text same.0.environment ∙ sym locks.0.named;
    };
  },
  targets-change change lines more before after olds news same.1 leads.1 digest olds_at.1 news_at.1 locks.1 locks_too.1,
)

-- ---- states

named-each : (lines : List (List ℕ)) (targets : List Target) → AllByRecursion (λ t. IsLockFor lines t.environment t.lock) targets → AllByRecursion (λ t. t.lock.environment ≡ marker_text t.environment) targets
named-each lines [] locks = tt
named-each lines (t ∷ rest) locks = (locks.0.named, named-each lines rest locks.1)

-- what is asked of targets where some come or go holds of every state
pub state-targets : (state : StateParts) → IsState state → AreTargets state.targets
state-targets state is = record { rising = is.rising; digest = is.digest; named = named-each state.lines state.targets is.locks }

known-old : (old new : List Target) (entries : List EntryChange) → map (λ t. t.name) new ≡ map (λ t. t.name) old → AllByRecursion (λ c. Contains (names_of old new) c.target) entries
    → AllByRecursion (λ c. Contains (map (λ t. t.name) old) c.target) entries
known-old old new entries same known =
    let olds = map (λ (t : Target). t.name) old in
    let news = map (λ (t : Target). t.name) new in
    All-of (λ (c : EntryChange). Contains olds c.target) entries (λ c there.
    elim (from-names [] (olds ++ news) c.target (All-member (λ (x : EntryChange). Contains (names_of old new) x.target) entries c known there)) [
      | inl none ↦ absurd (Contains-nil c.target none)
      | inr met ↦ elim (Contains-append_cases olds news c.target met) [
        | inl own ↦ own
        | inr other ↦ subst (λ (l : List (List ℕ)). Contains l c.target) same other
      ]
    ])

module _ (change : ChangeParts) (old new : StateParts) (is : IsState old) (is_new : IsState new) (digest : ChangesDigest change.digests (digest_of old.targets) (digest_of new.targets)) where
  targets-by : (targets : List TargetChange) → targets ≡ change.targets → AreBetween old.targets new.targets targets change.entries → ChangesTargets targets change old.targets new.targets
  targets-by [] own are =
      let same = same-targets old.targets new.targets is.rising is_new.rising are.environments in
      let leads = leads-each change.entries old.targets new.targets old.targets new.targets is.rising is_new.rising are.leads (λ t there. there) (λ t there. there) same in
      record {
        each = targets-change change old.lines new.lines (digest_of old.targets) (digest_of new.targets) old.targets new.targets same leads digest is.digest is_new.digest is.locks is_new.locks;
        known = known-old old.targets new.targets change.entries (names-same old.targets new.targets same) are.known;
      }
  targets-by (c ∷ targets) own are = record {
    each = λ name. record {
      environment = subst (λ (l : List TargetChange). ChangesEnvironment (find (λ t. bytes_eq name t.name) l) (environment_in (target_on old.targets name)) (environment_in (target_on new.targets name))) own (are.environments name);
      entries = are.leads name;
    };
    digest = digest;
    old_are = state-targets old is;
    new_are = state-targets new is_new;
  }

-- changes between lines, targets and digests lead from state to state
pub After-between : (old new : StateParts) (change : ChangeParts) → IsState old → IsState new → Splices 0 change.splices old.lines new.lines
    → AreBetween old.targets new.targets change.targets change.entries → ChangesDigest change.digests (digest_of old.targets) (digest_of new.targets) → After old change new
After-between old new change is is_new lines are digest = record { lines = lines; targets = targets-by change old new is is_new digest change.targets refl are }
