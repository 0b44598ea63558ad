-- The change back, and the change back from it.
use Rattle.std.proofs.Common.{◌≡◌, ◌≢◌, ◌∙◌, ◌≤◌, ℕ, List, [], ◌∷◌, Contains, Option, Some, None, IfSome, find, map, option_map, refl, sym, ap, subst, inl, inr, arith}
use Rattle.std.proofs.lemmas.Bool.{cases_Bool}
use Rattle.std.specs.List.{AllByRecursion, AllZip}
use Rattle.std.specs.Str.{bytes_eq}
use Rattle.markers.specs.Environment.{Texts}
use Rattle.pylock.specs.Order.{rises}
use Rattle.pylock.specs.Packages.{EntryParts}
use Rattle.changes.specs.Changes.{After, AreTargetChanges, ChangeParts, ChangesDigest, ChangesEntries, ChangesEnvironment, ChangesNames, ChangesTarget, ChangesTargetOn, ChangesTargets, IsEntryChange, IsMinimal, changes_on, digest_back, entries_in, entry_back, environment_in, inverse, target_back, target_on}
use Rattle.states.specs.StateParts.{StateParts, digest_of}
use Rattle.changes.specs.declared.change.parts.DigestChange.{DigestChange}
use Rattle.changes.specs.declared.change.parts.EntryChange.{EntryChange}
use Rattle.changes.specs.declared.change.parts.TargetChange.{TargetChange}
use Rattle.states.specs.declared.target.Target.{Target}
use Rattle.changes.proofs.BackFacts.{AreSplices-back, Splices-back, back-back}
use Rattle.changes.proofs.TargetChanges.{on-back, rise-back}
use Rattle.lists.proofs.Members.{Contains-map, Contains-map_of}

-- ---- entries

each-back : (changes : List EntryChange) → AllByRecursion IsEntryChange changes → AllByRecursion IsEntryChange (map entry_back changes)
each-back [] all = tt
each-back (c ∷ rest) all = (record { old_name = all.0.new_name; new_name = all.0.old_name; other = λ same. all.0.other (sym same) }, each-back rest all.1)

twice-back : (changes : List EntryChange) → map entry_back (map entry_back changes) ≡ changes
twice-back [] = refl
twice-back (c ∷ rest) = ap (λ (more : List EntryChange). c ∷ more) (twice-back rest)

ChangesEntries-back : (changes : List EntryChange) (old new : List EntryParts) → ChangesEntries changes old new → ChangesEntries (map entry_back changes) new old
ChangesEntries-back changes old new is = record {
  changed = λ change there.
      let k = Contains-map entry_back changes change there in
      let here = is.changed k.0 k.1 in
      rw (← k.2) (here.1, here.0);
  others = λ name none. sym (is.others name (λ change there. none (entry_back change) (Contains-map_of entry_back changes change there)));
  old_rises = is.new_rises;
  new_rises = is.old_rises;
}

-- ---- the digest

ChangesDigest-back : (digests : Option DigestChange) (old new : List ℕ) → ChangesDigest digests old new → ChangesDigest (option_map digest_back digests) new old
ChangesDigest-back None old new is = sym is
ChangesDigest-back (Some d) old new is = (is.1, is.0)

digests-minimal : (digests : Option DigestChange) → IfSome digests (λ d. d.old ≢ d.new) → IfSome (option_map digest_back digests) (λ d. d.old ≢ d.new)
digests-minimal None is = tt
digests-minimal (Some d) is = λ same. is (sym same)

digests-twice : (digests : Option DigestChange) → option_map digest_back (option_map digest_back digests) ≡ digests
digests-twice None = refl
digests-twice (Some d) = refl

-- ---- targets

known-back : (names : List (List ℕ)) (changes : List EntryChange) → AllByRecursion (λ c. Contains names c.target) changes → AllByRecursion (λ c. Contains names c.target) (map entry_back changes)
known-back names [] all = tt
known-back names (c ∷ rest) all = (all.0, known-back names rest all.1)

ChangesTarget-back : (change : ChangeParts) (old new : Target) → ChangesTarget change old new → ChangesTarget (inverse change) new old
ChangesTarget-back change old new is =
    let own = changes_on old.name change.entries in
    let back : map entry_back own ≡ changes_on new.name (map entry_back change.entries) =
    sym (on-back old.name change.entries) ∙ ap (λ (n : List ℕ). changes_on n (map entry_back change.entries)) (sym is.same.name) in
    record {
      same = record { name = sym is.same.name; environment = sym is.same.environment };
      lock = record {
        entries = subst (λ (l : List EntryChange). ChangesEntries l new.lock.entries old.lock.entries) back (ChangesEntries-back own old.lock.entries new.lock.entries is.lock.entries);
        digest = ChangesDigest-back change.digests old.lock.snapshot new.lock.snapshot is.lock.digest;
        environment = sym is.lock.environment;
      };
    }

targets-back : (change : ChangeParts) (olds news : List Target) → AllZip (ChangesTarget change) olds news → AllZip (ChangesTarget (inverse change)) news olds
targets-back change [] [] all = tt
targets-back change [] (t ∷ news) all = absurd all
targets-back change (s ∷ olds) [] all = absurd all
targets-back change (s ∷ olds) (t ∷ news) all = (ChangesTarget-back change s t all.0, targets-back change olds news all.1)

-- a change keeps the names of the targets
pub names-stay : (change : ChangeParts) (olds news : List Target) → AllZip (ChangesTarget change) olds news → map (λ t. t.name) news ≡ map (λ t. t.name) olds
names-stay change [] [] all = refl
names-stay change [] (t ∷ news) all = absurd all
names-stay change (s ∷ olds) [] all = absurd all
names-stay change (s ∷ olds) (t ∷ news) all = λ i. all.0.same.name i ∷ names-stay change olds news all.1 i

-- ---- targets that come and go

-- what a change does to a name, its inverse takes back
found-back : (name : List ℕ) (changes : List TargetChange) → find (λ t. bytes_eq name t.name) (map target_back changes) ≡ option_map target_back (find (λ t. bytes_eq name t.name) changes)
found-back name [] = refl
found-back name (c ∷ rest) = elim (cases_Bool (bytes_eq name c.name)) [
  | inl own ↦ rw own refl
  | inr other ↦ rw other (found-back name rest)
]

environment-back : (change : Option TargetChange) (old new : Option Texts) → ChangesEnvironment change old new → ChangesEnvironment (option_map target_back change) new old
environment-back None old new is = sym is
environment-back (Some c) old new is = (is.1, is.0)

on-name-back : (change : ChangeParts) (name : List ℕ) (old new : Option Target) → ChangesTargetOn change name old new → ChangesTargetOn (inverse change) name new old
on-name-back change name old new is = record {
  environment = subst (λ (c : Option TargetChange). ChangesEnvironment c (environment_in new) (environment_in old)) (sym (found-back name change.targets))
      (environment-back (find (λ t. bytes_eq name t.name) change.targets) (environment_in old) (environment_in new) is.environment);
  entries = subst (λ (l : List EntryChange). ChangesEntries l (entries_in new) (entries_in old)) (sym (on-back name change.entries))
      (ChangesEntries-back (changes_on name change.entries) (entries_in old) (entries_in new) is.entries);
}

names-back : (change : ChangeParts) (olds news : List Target) → ChangesNames change olds news → ChangesNames (inverse change) news olds
names-back change olds news is = record {
  each = λ name. on-name-back change name (target_on olds name) (target_on news name) (is.each name);
  digest = ChangesDigest-back change.digests (digest_of olds) (digest_of news) is.digest;
  old_are = is.new_are;
  new_are = is.old_are;
}

all-back : (targets : List TargetChange) (change : ChangeParts) (olds news : List Target) → ChangesTargets targets change olds news → ChangesTargets (map target_back targets) (inverse change) news olds
all-back [] change olds news is = record {
  each = targets-back change olds news is.each;
  known = subst (λ (names : List (List ℕ)). AllByRecursion (λ (c : EntryChange). Contains names c.target) (map entry_back change.entries))
      (sym (names-stay change olds news is.each)) (known-back (map (λ (t : Target). t.name) olds) change.entries is.known);
}
all-back (c ∷ targets) change olds news is = names-back change olds news is

names-kept : (changes : List TargetChange) → map (λ change. change.name) (map target_back changes) ≡ map (λ change. change.name) changes
names-kept [] = refl
names-kept (c ∷ rest) = ap (λ (names : List (List ℕ)). c.name ∷ names) (names-kept rest)

others-back : (changes : List TargetChange) → AllByRecursion (λ change. change.old ≢ change.new) changes → AllByRecursion (λ change. change.old ≢ change.new) (map target_back changes)
others-back [] all = tt
others-back (c ∷ rest) all = ((λ same. all.0 (sym same)), others-back rest all.1)

target_changes-back : (changes : List TargetChange) → AreTargetChanges changes → AreTargetChanges (map target_back changes)
target_changes-back changes are = record { rising = ap rises (names-kept changes) ∙ are.rising; each = others-back changes are.each }

target_changes-twice : (changes : List TargetChange) → map target_back (map target_back changes) ≡ changes
target_changes-twice [] = refl
target_changes-twice (c ∷ rest) = ap (λ (more : List TargetChange). c ∷ more) (target_changes-twice rest)

-- ---- the change

-- the change back is minimal
pub IsMinimal-inverse : (change : ChangeParts) → IsMinimal change → IsMinimal (inverse change)
IsMinimal-inverse change is = record {
  splices = AreSplices-back change.splices is.splices;
  targets = target_changes-back change.targets is.targets;
  entries = record {
    rising = rise-back change.entries ∙ is.entries.rising;
    each = each-back change.entries is.entries.each;
  };
  digests = digests-minimal change.digests is.digests;
}

-- it leads back
pub After-inverse : (change : ChangeParts) (old new : StateParts) → After old change new → After new (inverse change) old
After-inverse change old new after = record {
  lines = Splices-back 0 0 0 change.splices old.lines new.lines (omega arith) after.lines;
  targets = all-back change.targets change old.targets new.targets after.targets;
}

-- the change back from the change back is the change
pub inverse-inverse : (change : ChangeParts) → IsMinimal change → inverse (inverse change) ≡ change
inverse-inverse change is = λ i. record {
  splices = back-back 0 0 0 change.splices (let k : 0 ≤ 0 = omega arith in k) is.splices.apart i;
  targets = target_changes-twice change.targets i;
  entries = twice-back change.entries i;
  digests = digests-twice change.digests i;
}
