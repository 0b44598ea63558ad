-- What a change does to the target of a name, whether targets stay or not.
use Rattle.std.proofs.Common.{◌≡◌, ◌≢◌, ◌⊎◌, ◌∙◌, ℕ, true, false, List, [], ◌∷◌, Contains, Option, Some, None, IfSome, find, map, refl, sym, ap, subst, inl, inr}
use Rattle.std.proofs.lemmas.Bool.{cases_Bool}
use Rattle.std.proofs.lemmas.Slice.Eq.{bytes_eq-Decides}
use Rattle.std.specs.List.{AllByRecursion, AllZip, list_any}
use Rattle.std.specs.Str.{bytes_eq}
use Rattle.markers.specs.Environment.{marker_text}
use Rattle.pylock.specs.Order.{rises}
use Rattle.states.specs.StateParts.{digest_of}
use Rattle.states.specs.declared.target.Target.{Target}
use Rattle.changes.specs.Changes.{AreTargets, ChangeParts, ChangesDigest, ChangesEntries, ChangesEnvironment, ChangesLocks, ChangesNames, ChangesTarget, ChangesTargets, changes_on, entries_in, environment_in, target_on}
use Rattle.changes.specs.Tied.Retargeted.{Becomes, IsBound}
use Rattle.changes.specs.declared.change.parts.EntryChange.{EntryChange}
use Rattle.changes.specs.declared.change.parts.TargetChange.{TargetChange}
use Rattle.states.proofs.Among.{among-from, among-of}
use Rattle.states.proofs.PartFacts.{All-member}
use Rattle.changes.proofs.ByName.{on-from}
use Rattle.changes.proofs.TargetChanges.{on-none}
use Rattle.lists.proofs.Members.{Contains-cons_cases, Contains-nil}

-- ---- targets that stay, one by one

not-own : (name own : List ℕ) → bytes_eq name own ≡ false → own ≢ name
not-own name own other same = let is = (bytes_eq-Decides name own).1 (sym same) in cc

-- a name has the same environment in both
pub environment-stays : (change : ChangeParts) (olds news : List Target) (name : List ℕ) → AllZip (ChangesTarget change) olds news → environment_in (target_on news name) ≡ environment_in (target_on olds name)
environment-stays change [] [] name all = refl
environment-stays change [] (u ∷ news) name all = absurd all
environment-stays change (t ∷ olds) [] name all = absurd all
environment-stays change (t ∷ olds) (u ∷ news) name all = elim (cases_Bool (bytes_eq name t.name)) [
  | inl own ↦
      let own_too : bytes_eq name u.name ≡ true = ap (bytes_eq name) all.0.same.name ∙ own in
      rw (own, own_too) (ap Some all.0.same.environment)
  | inr other ↦
      let other_too : bytes_eq name u.name ≡ false = ap (bytes_eq name) all.0.same.name ∙ other in
      rw (other, other_too) (environment-stays change olds news name all.1)
]

nothing-changes : ChangesEntries [] [] []
unfolding rises
nothing-changes = record { changed = λ c there. absurd (Contains-nil c there); others = λ name none. refl; old_rises = refl; new_rises = refl }

-- no entry changes where no change is, and no entry
pub none-changes : (changes : List EntryChange) → changes ≡ [] → ChangesEntries changes [] []
none-changes changes none = subst (λ (l : List EntryChange). ChangesEntries l [] []) (sym none) nothing-changes

entries-stay : (change : ChangeParts) (olds news : List Target) (name : List ℕ) → AllZip (ChangesTarget change) olds news → Contains (map (λ t. t.name) olds) name ⊎ (changes_on name change.entries ≡ [])
    → ChangesEntries (changes_on name change.entries) (entries_in (target_on olds name)) (entries_in (target_on news name))
entries-stay change [] [] name all known = elim known [
  | inl there ↦ absurd (Contains-nil name there)
  | inr none ↦ none-changes (changes_on name change.entries) none
]
entries-stay change [] (u ∷ news) name all known = absurd all
entries-stay change (t ∷ olds) [] name all known = absurd all
entries-stay change (t ∷ olds) (u ∷ news) name all known = elim (cases_Bool (bytes_eq name t.name)) [
  | inl own ↦
      let own_too : bytes_eq name u.name ≡ true = ap (bytes_eq name) all.0.same.name ∙ own in
      let is : name ≡ t.name = (bytes_eq-Decides name t.name).0 own in
      rw (own, own_too) (subst (λ (n : List ℕ). ChangesEntries (changes_on n change.entries) t.lock.entries u.lock.entries) (sym is) all.0.lock.entries)
  | inr other ↦
      let other_too : bytes_eq name u.name ≡ false = ap (bytes_eq name) all.0.same.name ∙ other in
      let rest : Contains (map (λ (s : Target). s.name) olds) name ⊎ (changes_on name change.entries ≡ []) = elim known [
        | inl there ↦ elim (Contains-cons_cases t.name (map (λ (s : Target). s.name) olds) name there) [
          | inl here ↦ absurd (not-own name t.name other here)
          | inr more ↦ inl more
        ]
        | inr none ↦ inr none
      ] in
      rw (other, other_too) (entries-stay change olds news name all.1 rest)
]

-- a name is known, or no entry of it changes
known-or-none : (names : List (List ℕ)) (changes : List EntryChange) (name : List ℕ) → AllByRecursion (λ c. Contains names c.target) changes → Contains names name ⊎ (changes_on name changes ≡ [])
known-or-none names changes name known = elim (cases_Bool (list_any (bytes_eq name) names)) [
  | inl is ↦ inl (among-from names name is)
  | inr other ↦ inr (on-none name changes (λ c there same.
      let among : list_any (bytes_eq name) names ≡ true = among-of names name (subst (Contains names) same (All-member (λ (x : EntryChange). Contains names x.target) changes c known there)) in
      absurd (let no : true ≡ false = sym among ∙ other in cc)))
]

digest-stays : (change : ChangeParts) (olds news : List Target) → olds ≢ [] → AllZip (ChangesTarget change) olds news → ChangesDigest change.digests (digest_of olds) (digest_of news)
digest-stays change [] news some all = absurd (some refl)
digest-stays change (t ∷ olds) [] some all = absurd all
digest-stays change (t ∷ olds) (u ∷ news) some all = all.0.lock.digest

-- ---- which case it is

-- where no target comes or goes, all stay
pub stays-from : (targets : List TargetChange) (change : ChangeParts) (olds news : List Target) → targets ≡ [] → ChangesTargets targets change olds news → ChangesLocks change olds news
stays-from [] change olds news stays is = is
stays-from (c ∷ targets) change olds news stays is = absurd (cc stays)

pub stays-as : (targets : List TargetChange) (change : ChangeParts) (olds news : List Target) → targets ≡ [] → ChangesLocks change olds news → ChangesTargets targets change olds news
stays-as [] change olds news stays is = is
stays-as (c ∷ targets) change olds news stays is = absurd (cc stays)

-- else they are led on name by name
pub moves-from : (targets : List TargetChange) (change : ChangeParts) (olds news : List Target) → targets ≢ [] → ChangesTargets targets change olds news → ChangesNames change olds news
moves-from [] change olds news moves is = absurd (moves refl)
moves-from (c ∷ targets) change olds news moves is = is

pub moves-as : (targets : List TargetChange) (change : ChangeParts) (olds news : List Target) → targets ≢ [] → ChangesNames change olds news → ChangesTargets targets change olds news
moves-as [] change olds news moves is = absurd (moves refl)
moves-as (c ∷ targets) change olds news moves is = is

-- ---- what is so in either case

-- the entries of a name are exchanged
pub entries-on : (targets : List TargetChange) (change : ChangeParts) (olds news : List Target) (name : List ℕ) → ChangesTargets targets change olds news
    → ChangesEntries (changes_on name change.entries) (entries_in (target_on olds name)) (entries_in (target_on news name))
entries-on [] change olds news name is = entries-stay change olds news name is.each (known-or-none (map (λ (t : Target). t.name) olds) change.entries name is.known)
entries-on (c ∷ targets) change olds news name is = (is.each name).entries

-- and its environment
environment-by : (targets : List TargetChange) (change : ChangeParts) (olds news : List Target) (name : List ℕ) → targets ≡ change.targets → ChangesTargets targets change olds news
    → ChangesEnvironment (find (λ t. bytes_eq name t.name) targets) (environment_in (target_on olds name)) (environment_in (target_on news name))
environment-by [] change olds news name own is = environment-stays change olds news name is.each
environment-by (c ∷ targets) change olds news name own is =
    subst (λ (l : List TargetChange). ChangesEnvironment (find (λ t. bytes_eq name t.name) l) (environment_in (target_on olds name)) (environment_in (target_on news name))) (sym own) (is.each name).environment

pub environment-on : (change : ChangeParts) (olds news : List Target) (name : List ℕ) → ChangesTargets change.targets change olds news
    → ChangesEnvironment (find (λ t. bytes_eq name t.name) change.targets) (environment_in (target_on olds name)) (environment_in (target_on news name))
environment-on change olds news name is = environment-by change.targets change olds news name refl is

-- and the digest
pub digest-on : (targets : List TargetChange) (change : ChangeParts) (olds news : List Target) → olds ≢ [] → ChangesTargets targets change olds news → ChangesDigest change.digests (digest_of olds) (digest_of news)
digest-on [] change olds news some is = digest-stays change olds news some is.each
digest-on (c ∷ targets) change olds news some is = is.digest

-- ---- what becomes of a name

bound-by : (news : List Target) (name : List ℕ) (new : Option Target) → AreTargets news → target_on news name ≡ new → IfSome new (IsBound (digest_of news) name)
bound-by news name None are is = tt
bound-by news name (Some t) are is =
    let from = on-from (λ (u : Target). u.name) news name t is in
    record {
      name_is = from.1;
      digest_is = All-member (λ (u : Target). u.lock.snapshot ≡ digest_of news) news t are.digest from.0;
      named = All-member (λ (u : Target). u.lock.environment ≡ marker_text u.environment) news t are.named from.0;
    }

-- each name has become what stands on it
pub becomes-on : (change : ChangeParts) (olds news : List Target) (name : List ℕ) → ChangesNames change olds news → Becomes change (digest_of news) olds name (target_on news name)
becomes-on change olds news name is = record { parts = is.each name; bound = bound-by news name (target_on news name) is.new_are refl }
