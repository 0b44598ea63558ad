-- Two states have one difference.
use Rattle.std.proofs.Common.{◌≡◌, ◌≢◌, ℕ, true, List, [], ◌∷◌, Contains, Less, Equal, Option, Some, None, find, refl, sym, ap, ◌∙◌, subst, inl, inr}
use Rattle.std.proofs.lemmas.Slice.Eq.{bytes_eq-Decides}
use Rattle.std.specs.Cmp.{tied_itself}
use Rattle.std.specs.Prelude.{IfSome}
use Rattle.std.specs.Str.{bytes_eq}
use Rattle.lists.proofs.Members.{Contains-cons_cases, Contains-filter, Contains-filter_of, Contains-here, Contains-nil, Contains-there}
use Rattle.markers.specs.Environment.{Texts}
use Rattle.pylock.specs.Packages.{EntryParts}
use Rattle.changes.specs.Changes.{After, AreTargetChanges, ChangeParts, ChangesDigest, ChangesEntries, ChangesEnvironment, IsEntryChange, IsMinimal, changes_on, entries_in, entry_change_cmp, environment_in, rise_by_target, target_on}
use Rattle.changes.specs.Differences.{IsDifference}
use Rattle.states.specs.State.{IsState, entry_on}
use Rattle.states.specs.StateParts.{StateParts, digest_of}
use Rattle.changes.specs.declared.change.parts.DigestChange.{DigestChange}
use Rattle.changes.specs.declared.change.parts.EntryChange.{EntryChange}
use Rattle.changes.specs.declared.change.parts.TargetChange.{TargetChange}
use Rattle.states.proofs.PartFacts.{All-member}
use Rattle.changes.proofs.ByName.{on-from, on-one}
use Rattle.changes.proofs.ExchangesHaveOneOutcome.{change-on}
use Rattle.changes.proofs.OneLineDifference.{splices-of-same, splices-one}
use Rattle.changes.proofs.TargetChanges.{above, order, rest-rise}
use Rattle.changes.proofs.TargetsByName.{digest-on, entries-on, environment-on}

-- ---- changes that rise are told by their members

not-below-itself : (c : EntryChange) → entry_change_cmp c c ≡ Less → ⊥
not-below-itself c less = let tied : entry_change_cmp c c ≡ Equal = tied_itself order c in cc (sym less ∙ tied)

first-alike : (c d : EntryChange) (cs ds : List EntryChange) → rise_by_target (c ∷ cs) ≡ true → rise_by_target (d ∷ ds) ≡ true → Contains (d ∷ ds) c → Contains (c ∷ cs) d → c ≡ d
first-alike c d cs ds rise rise_too there back = elim (Contains-cons_cases d ds c there) [
  | inl same ↦ sym same
  | inr more ↦ elim (Contains-cons_cases c cs d back) [
    | inl same ↦ same
    | inr further ↦ absurd (not-below-itself c (order.trans c d c (above c cs d rise further) (above d ds c rise_too more)))
  ]
]

rest-alike : (c : EntryChange) (cs ds : List EntryChange) → rise_by_target (c ∷ cs) ≡ true → ((x : EntryChange) → Contains (c ∷ cs) x → Contains (c ∷ ds) x) → (x : EntryChange) → Contains cs x → Contains ds x
rest-alike c cs ds rise onto x there = elim (Contains-cons_cases c ds x (onto x (Contains-there c cs x there))) [
  | inl same ↦ absurd (not-below-itself c (above c cs c rise (subst (Contains cs) (sym same) there)))
  | inr more ↦ more
]

changes-one : (one other : List EntryChange) → rise_by_target one ≡ true → rise_by_target other ≡ true → ((c : EntryChange) → Contains one c → Contains other c) → ((c : EntryChange) → Contains other c → Contains one c)
    → one ≡ other
changes-one [] [] rise rise_too onto back = refl
changes-one [] (d ∷ ds) rise rise_too onto back = absurd (Contains-nil d (back d (Contains-here d ds)))
changes-one (c ∷ cs) [] rise rise_too onto back = absurd (Contains-nil c (onto c (Contains-here c cs)))
changes-one (c ∷ cs) (d ∷ ds) rise rise_too onto back =
    let same : c ≡ d = first-alike c d cs ds rise rise_too (onto c (Contains-here c cs)) (back d (Contains-here d ds)) in
    let rise_here : rise_by_target (c ∷ ds) ≡ true = subst (λ (x : EntryChange). rise_by_target (x ∷ ds) ≡ true) (sym same) rise_too in
    let onto_here : (x : EntryChange) → Contains (c ∷ cs) x → Contains (c ∷ ds) x = subst (λ (y : EntryChange). (x : EntryChange) → Contains (c ∷ cs) x → Contains (y ∷ ds) x) (sym same) onto in
    let back_here : (x : EntryChange) → Contains (c ∷ ds) x → Contains (c ∷ cs) x = subst (λ (y : EntryChange). (x : EntryChange) → Contains (y ∷ ds) x → Contains (c ∷ cs) x) (sym same) back in
    let rest = changes-one cs ds (rest-rise c cs rise) (rest-rise c ds rise_here) (rest-alike c cs ds rise onto_here) (rest-alike c ds cs rise_here back_here) in
    λ i. same i ∷ rest i

-- ---- what changes between two lists of targets

-- a change of an entry is told by both
told-too : (one other : List EntryChange) (c : EntryChange) (olds news : List EntryParts) → ChangesEntries (changes_on c.target one) olds news → ChangesEntries (changes_on c.target other) olds news → Contains one c
    → IsEntryChange c → Contains other c
told-too one other c olds news leads also there is =
    let on = λ (d : EntryChange). bytes_eq c.target d.target in
    let own : on c ≡ true = (bytes_eq-Decides c.target c.target).1 refl in
    let exchanged = leads.changed c (Contains-filter_of on one c there own) in
    elim (change-on (changes_on c.target other) c.name) [
      | inl found ↦
          let d = found.0 in
          let within = Contains-filter on other d found.1 in
          let target : d.target ≡ c.target = sym ((bytes_eq-Decides c.target d.target).0 within.1) in
          let name : d.name ≡ c.name = found.2 in
          let exchanged_too = also.changed d found.1 in
          let old : d.old ≡ c.old = sym exchanged_too.0 ∙ ap (entry_on olds) name ∙ exchanged.0 in
          let new : d.new ≡ c.new = sym exchanged_too.1 ∙ ap (entry_on news) name ∙ exchanged.1 in
          let same : d ≡ c = λ i. record { target = target i; name = name i; old = old i; new = new i } in
          subst (Contains other) same within.0
      | inr none ↦ absurd (is.other (sym exchanged.0 ∙ sym (also.others c.name none) ∙ exchanged.1))
    ]

all-told : (one other : ChangeParts) (old new : StateParts) → After old one new → After old other new → IsMinimal one → (c : EntryChange) → Contains one.entries c → Contains other.entries c
all-told one other old new leads also minimal c there =
    told-too one.entries other.entries c (entries_in (target_on old.targets c.target)) (entries_in (target_on new.targets c.target))
    (entries-on one.targets one old.targets new.targets c.target leads.targets) (entries-on other.targets other old.targets new.targets c.target also.targets) there
    (All-member IsEntryChange one.entries c minimal.entries.each there)

-- ---- targets

-- a change of a target is told by both
same-change : (name : List ℕ) (old new : Option Texts) (one other : Option TargetChange) → ChangesEnvironment one old new → ChangesEnvironment other old new
    → IfSome one (λ c. (c.name ≡ name) × (c.old ≢ c.new)) → IfSome other (λ c. (c.name ≡ name) × (c.old ≢ c.new)) → one ≡ other
same-change name old new None None is also own own_too = refl
same-change name old new None (Some d) is also own own_too = absurd (own_too.1 (sym also.0 ∙ sym is ∙ also.1))
same-change name old new (Some c) None is also own own_too = absurd (own.1 (sym is.0 ∙ sym also ∙ is.1))
same-change name old new (Some c) (Some d) is also own own_too =
    let named : c.name ≡ d.name = own.0 ∙ sym own_too.0 in
    let olds : c.old ≡ d.old = sym is.0 ∙ also.0 in
    let news : c.new ≡ d.new = sym is.1 ∙ also.1 in
    λ i. Some (record { name = named i; old = olds i; new = news i })

-- what is found on a name has it, and changes something
found-changes : (changes : List TargetChange) (name : List ℕ) (found : Option TargetChange) → AreTargetChanges changes → find (λ t. bytes_eq name t.name) changes ≡ found
    → IfSome found (λ c. (c.name ≡ name) × (c.old ≢ c.new))
found-changes changes name None are is = tt
found-changes changes name (Some c) are is =
    let from = on-from (λ (t : TargetChange). t.name) changes name c is in
    (from.1, All-member (λ (t : TargetChange). t.old ≢ t.new) changes c are.each from.0)

targets-told : (one other : ChangeParts) (old new : StateParts) → After old one new → After old other new → IsMinimal one → IsMinimal other → one.targets ≡ other.targets
targets-told one other old new leads also minimal minimal_too =
    on-one (λ (t : TargetChange). t.name) one.targets other.targets minimal.targets.rising minimal_too.targets.rising
    (λ name. same-change name (environment_in (target_on old.targets name)) (environment_in (target_on new.targets name))
    (find (λ t. bytes_eq name t.name) one.targets) (find (λ t. bytes_eq name t.name) other.targets)
    (environment-on one old.targets new.targets name leads.targets) (environment-on other old.targets new.targets name also.targets)
    (found-changes one.targets name (find (λ t. bytes_eq name t.name) one.targets) minimal.targets refl) (found-changes other.targets name (find (λ t. bytes_eq name t.name) other.targets) minimal_too.targets refl))

-- ---- digests

digests-one : (one other : Option DigestChange) (old new : List ℕ) → ChangesDigest one old new → ChangesDigest other old new → IfSome one (λ d. d.old ≢ d.new) → IfSome other (λ d. d.old ≢ d.new) → one ≡ other
digests-one None None old new leads also differ differ_too = refl
digests-one None (Some e) old new leads also differ differ_too = absurd (differ_too (sym also.0 ∙ sym leads ∙ also.1))
digests-one (Some d) None old new leads also differ differ_too = absurd (differ (sym leads.0 ∙ sym also ∙ leads.1))
digests-one (Some d) (Some e) old new leads also differ differ_too =
    let olds : d.old ≡ e.old = sym leads.0 ∙ also.0 in
    let news : d.new ≡ e.new = sym leads.1 ∙ also.1 in
    λ i. Some (record { old = olds i; new = news i })

-- ---- states

pub difference-one : (old new : StateParts) (one other : ChangeParts) → IsState old → IsDifference old one new → IsDifference old other new → one ≡ other
difference-one old new one other state is also =
    let splices = splices-one 0 one.splices other.splices old.lines new.lines is.leads.lines is.meets is.minimal.splices.exchanges also.leads.lines also.meets also.minimal.splices.exchanges in
    let entries = changes-one one.entries other.entries is.minimal.entries.rising also.minimal.entries.rising
    (all-told one other old new is.leads also.leads is.minimal) (all-told other one old new also.leads is.leads also.minimal) in
    let targets = targets-told one other old new is.leads also.leads is.minimal also.minimal in
    let digests = digests-one one.digests other.digests (digest_of old.targets) (digest_of new.targets)
    (digest-on one.targets one old.targets new.targets state.some is.leads.targets) (digest-on other.targets other old.targets new.targets state.some also.leads.targets)
    is.minimal.digests also.minimal.digests in
    λ i. record { splices = splices i; targets = targets i; entries = entries i; digests = digests i }

pub equal-lines-none : (change : ChangeParts) (old new : StateParts) → IsDifference old change new → old.lines ≡ new.lines → change.splices ≡ []
equal-lines-none change old new is same = splices-of-same 0 change.splices old.lines new.lines same is.leads.lines is.meets is.minimal.splices.exchanges
