-- The change between two states is empty exactly where they are the same.
use Rattle.std.proofs.Common.{◌≡◌, ◌≢◌, ◌++◌, ◌+◌, ◌≤◌, ℕ, true, List, [], ◌∷◌, Contains, Option, Some, None, length, take, find, refl, sym, ap, ◌∙◌, subst, arith}
use Rattle.std.proofs.Math.Seq.{take-append_seam}
use Rattle.std.proofs.lemmas.List.{length-append}
use Rattle.std.proofs.lemmas.Slice.Eq.{bytes_eq-Decides}
use Rattle.std.specs.List.{AllByRecursion, AllZip}
use Rattle.std.specs.Prelude.{◌↔◌, IfSome, slice_get}
use Rattle.std.specs.Str.{bytes_eq}
use Rattle.lists.proofs.Members.{Contains-filter_of, Contains-here, Contains-nil}
use Rattle.states.specs.StateParts.{StateParts, digest_of}
use Rattle.states.specs.declared.target.Target.{Target}
use Rattle.changes.specs.Changes.{After, AreSplices, AreTargetChanges, ChangeParts, ChangesDigest, ChangesEnvironment, ChangesTarget, ChangesTargets, IsEmpty, IsEntryChange, IsMinimal, Splices, environment_in, target_on}
use Rattle.changes.specs.declared.change.parts.DigestChange.{DigestChange}
use Rattle.changes.specs.declared.change.parts.EntryChange.{EntryChange}
use Rattle.changes.specs.declared.change.parts.Splice.{Splice}
use Rattle.changes.specs.declared.change.parts.TargetChange.{TargetChange}
use Rattle.changes.proofs.ByName.{on-there}
use Rattle.changes.proofs.OneOutcome.{After-one}
use Rattle.changes.proofs.SplicedFacts.{parts_of}
use Rattle.changes.proofs.TargetsByName.{digest-on, entries-on, environment-on}

-- ---- an empty change leads nowhere else

abbrev nothing : ChangeParts
nothing = record { splices = []; targets = []; entries = []; digests = None }

is-nothing : (change : ChangeParts) → IsEmpty change → change ≡ nothing
is-nothing change empty = λ i. record { splices = empty.splices i; targets = empty.targets i; entries = empty.entries i; digests = empty.digests i }

-- it leads from a target to that target
stays : (s t : Target) → ChangesTarget nothing s t → ChangesTarget nothing s s
stays s t is = record {
  same = record { name = refl; environment = refl };
  lock = record {
    entries = record {
      changed = λ c there. absurd (Contains-nil c there);
      others = λ name none. refl;
      old_rises = is.lock.entries.old_rises;
      new_rises = is.lock.entries.old_rises;
    };
    digest = refl;
    environment = refl;
  };
}

all-stay : (old new : List Target) → AllZip (ChangesTarget nothing) old new → AllZip (ChangesTarget nothing) old old
all-stay [] new all = tt
all-stay (s ∷ old) [] all = absurd all
all-stay (s ∷ old) (t ∷ new) all = (stays s t all.0, all-stay old new all.1)

same-of : (old new : StateParts) → After old nothing new → old ≡ new
same-of old new after = After-one nothing old old new (record { lines = refl; targets = record { each = all-stay old.targets new.targets after.targets.each; known = tt } }) after

-- ---- a change that leads back to where it began is empty

-- lines that give way to others between the same lines are those
same-between : (lines kept old old_rest new new_rest : List (List ℕ)) → lines ≡ kept ++ old ++ old_rest → lines ≡ kept ++ new ++ new_rest → old_rest ≡ new_rest → old ≡ new
same-between lines kept old old_rest new new_rest stood stands rest =
    let parts = parts_of (length kept) lines kept old old_rest refl stood in
    let parts_too = parts_of (length kept) lines kept new new_rest refl stands in
    let behind : old ++ old_rest ≡ new ++ new_rest = sym parts.1 ∙ parts_too.1 in
    let total : length old + length old_rest ≡ length new + length new_rest = sym (length-append old old_rest) ∙ ap length behind ∙ length-append new new_rest in
    let rests : length old_rest ≡ length new_rest = ap length rest in
    let size : length old ≡ length new = omega arith in
    sym (take-append_seam old old_rest) ∙ (λ i. take (size i) (behind i)) ∙ take-append_seam new new_rest

no-splices : (splices : List Splice) (lines : List (List ℕ)) → AreSplices splices → length splices ≤ 1 → Splices 0 splices lines lines → splices ≡ []
no-splices [] lines are one leads = refl
no-splices (s ∷ []) lines are one leads =
    let same : s.old ≡ s.new = same-between lines leads.kept s.old leads.old_rest s.new leads.new_rest leads.stood leads.stands leads.rest in
    absurd (are.exchanges.0.first (ap (λ (l : List (List ℕ)). slice_get l 0) same))
no-splices (s ∷ t ∷ rest) lines are one leads = absurd (omega (arith, one))

no-entries : (change : ChangeParts) (olds : List Target) (entries : List EntryChange) → entries ≡ change.entries → AllByRecursion IsEntryChange entries → ChangesTargets change.targets change olds olds → entries ≡ []
no-entries change olds [] is each leads = refl
no-entries change olds (c ∷ rest) is each leads =
    let own : bytes_eq c.target c.target ≡ true = (bytes_eq-Decides c.target c.target).1 refl in
    let there : Contains change.entries c = subst (λ (l : List EntryChange). Contains l c) is (Contains-here c rest) in
    let exchanged = (entries-on change.targets change olds olds c.target leads).changed c (Contains-filter_of (λ (d : EntryChange). bytes_eq c.target d.target) change.entries c there own) in
    absurd (each.0.other (sym exchanged.0 ∙ exchanged.1))

no-targets : (change : ChangeParts) (olds : List Target) (targets : List TargetChange) → targets ≡ change.targets → AreTargetChanges targets → ChangesTargets change.targets change olds olds → targets ≡ []
no-targets change olds [] is are leads = refl
no-targets change olds (c ∷ rest) is are leads =
    let found : find (λ (t : TargetChange). bytes_eq c.name t.name) change.targets ≡ Some c =
    subst (λ (l : List TargetChange). find (λ (t : TargetChange). bytes_eq c.name t.name) l ≡ Some c) is (on-there (λ (t : TargetChange). t.name) (c ∷ rest) c are.rising (Contains-here c rest)) in
    let environment = environment_in (target_on olds c.name) in
    let both : ChangesEnvironment (Some c) environment environment =
    subst (λ (o : Option TargetChange). ChangesEnvironment o environment environment) found (environment-on change olds olds c.name leads) in
    absurd (are.each.0 (sym both.0 ∙ both.1))

no-digests : (digests : Option DigestChange) (digest : List ℕ) → IfSome digests (λ d. d.old ≢ d.new) → ChangesDigest digests digest digest → digests ≡ None
no-digests None digest other is = refl
no-digests (Some d) digest other is = absurd (other (sym is.0 ∙ is.1))

-- ---- both

pub empty-exactly : (change : ChangeParts) (old new : StateParts) → old.targets ≢ [] → IsMinimal change → length change.splices ≤ 1 → After old change new → IsEmpty change ↔ (old ≡ new)
empty-exactly change old new some minimal one after = (
  (λ empty. same-of old new (subst (λ (c : ChangeParts). After old c new) (is-nothing change empty) after)),
  (λ same.
      let here : After old change old = subst (λ (s : StateParts). After old change s) (sym same) after in
      record {
        splices = no-splices change.splices old.lines minimal.splices one here.lines;
        targets = no-targets change old.targets change.targets refl minimal.targets here.targets;
        entries = no-entries change old.targets change.entries refl minimal.entries.each here.targets;
        digests = no-digests change.digests (digest_of old.targets) minimal.digests (digest-on change.targets change old.targets old.targets some here.targets);
      }),
)
