-- What a change of a history has is read back: its entries are those of lawful locks.
use Rattle.std.proofs.Common.{◌≡◌, ◌≢◌, ℕ, suc, zero, true, Ok, List, [], ◌∷◌, map, Option, Some, None, refl, sym, subst, ◌∙◌}
use Rattle.std.specs.Prelude.{slice_get}
use Rattle.std.specs.List.{AllByRecursion, Contains}
use Rattle.std.specs.Str.{bytes_eq}
use Rattle.std.proofs.lemmas.Slice.Eq.{bytes_eq-Decides}
use Rattle.std.proofs.lemmas.List.Elements.{All-contains, All-from_recursion}
use Rattle.lists.proofs.Members.{Contains-filter_of, Contains-here, Contains-there}
use Rattle.markers.specs.Names.{is_normal}
use Rattle.pylock.specs.Locks.{IsLock, LockParts}
use Rattle.pylock.specs.Packages.{EntryParts, IsPackage}
use Rattle.pylock.proofs.PackageFacts.{parts}
use Rattle.changes.specs.Changes.{ChangeParts, ChangesDigest, ChangesTargets, IsEntryChange, IsMinimal, entries_in, target_on}
use Rattle.changes.specs.declared.change.parts.DigestChange.{DigestChange}
use Rattle.changes.specs.declared.change.parts.EntryChange.{EntryChange}
use Rattle.changes.proofs.ByName.{on-from}
use Rattle.changes.proofs.ChangeFacts.{names-stay}
use Rattle.changes.proofs.TargetsByName.{digest-on, entries-on, stays-from}
use Rattle.states.specs.State.{IsLockFor, IsState, entry_on}
use Rattle.states.specs.StateParts.{digest_of}
use Rattle.states.specs.TargetNames.{is_target_name}
use Rattle.states.proofs.EntryFacts.{entry-from}
use Rattle.states.proofs.PartFacts.{All-member}
use Rattle.journal.specs.Values.{State, Target}
use Rattle.journal.specs.Changes.{AreSteps, IsChange}
use Rattle.journal_format.specs.Lines.{has_target, may_name, step_in}
use Rattle.journal_format.specs.Tied.LawfulTargets.{IsLawfulStep}
use Rattle.journal_format.specs.Written.{step_data}
use Rattle.journal_format.specs.declared.header.Header.{Header}
use Rattle.journal_format.specs.declared.header.JournalVersion.{JournalVersion}
use Rattle.journal_format.specs.declared.header.JournalVersion.TheVariants.{One, Three, Two}
use Rattle.pylock.proofs.CanonicalBack.{ReadsVersions}
use Rattle.journal_format.proofs.StepsBack.{AreDigests, HasTargets, IsDigest, IsEntryOn, IsLawfulChange, step-back}

entry-on : (entries : List EntryParts) (name : List ℕ) (o : Option EntryParts) → AllByRecursion IsPackage entries → entry_on entries name ≡ o → IsEntryOn name o
entry-on entries name None all at = tt
entry-on entries name (Some e) all at =
    let found = entry-from entries name e at in
    (All-contains IsPackage entries e (All-from_recursion IsPackage entries all) found.0, found.1)

normal_by : (name : List ℕ) (old new : Option EntryParts) → IsEntryOn name old → IsEntryOn name new → old ≢ new → is_normal name ≡ true
normal_by name (Some p) new h g other = subst (λ n. is_normal n ≡ true) h.1 (parts p h.0.parts).name
normal_by name None (Some p) h g other = subst (λ n. is_normal n ≡ true) g.1 (parts p g.0.parts).name
normal_by name None None h g other = absurd (other refl)

-- ---- targets

-- the lock of a target is lawful
abbrev pub HasLawfulLock : Target → Type 0
HasLawfulLock target = IsLock target.lock

digest-of : (l : LockParts) → IsLock l → IsDigest l.snapshot
digest-of l h = record { size = h.length; bytes = h.bytes }

first-digest : (targets : List Target) → targets ≢ [] → AllByRecursion HasLawfulLock targets → IsDigest (digest_of targets)
first-digest [] some all = absurd (some refl)
first-digest (t ∷ rest) some all = digest-of t.lock all.0

digests-of : (digests : Option DigestChange) (old new : List ℕ) → IsDigest old → IsDigest new → ChangesDigest digests old new → AreDigests digests
digests-of None old new h g is = tt
digests-of (Some d) old new h g is = (subst IsDigest is.0 h, subst IsDigest is.1 g)

-- the entries on a name are lawful
found-lawful : (targets : List Target) (name : List ℕ) (found : Option Target) → AllByRecursion HasLawfulLock targets → target_on targets name ≡ found → AllByRecursion IsPackage (entries_in found)
found-lawful targets name None all is = tt
found-lawful targets name (Some t) all is = (All-member HasLawfulLock targets t all (on-from (λ (u : Target). u.name) targets name t is).0).entries

module _ (change : ChangeParts) where
  -- an entry's change is that of a lawful entry
  on-target : (c : EntryChange) (olds news : List Target) → ChangesTargets change.targets change olds news → AllByRecursion HasLawfulLock olds → AllByRecursion HasLawfulLock news → Contains change.entries c
      → IsEntryOn c.name c.old × IsEntryOn c.name c.new
  on-target c olds news leads old_all new_all there =
      let mine : bytes_eq c.target c.target ≡ true = (bytes_eq-Decides c.target c.target).1 refl in
      let at = (entries-on change.targets change olds news c.target leads).changed c (Contains-filter_of (λ (d : EntryChange). bytes_eq c.target d.target) change.entries c there mine) in (
        entry-on (entries_in (target_on olds c.target)) c.name c.old (found-lawful olds c.target (target_on olds c.target) old_all refl) at.0,
        entry-on (entries_in (target_on news c.target)) c.name c.new (found-lawful news c.target (target_on news c.target) new_all refl) at.1,
      )

  -- both digests of the change are those of lawful locks
  pub on-first : (olds news : List Target) → olds ≢ [] → news ≢ [] → ChangesTargets change.targets change olds news → AllByRecursion HasLawfulLock olds → AllByRecursion HasLawfulLock news → AreDigests change.digests
  on-first olds news some some_new leads old_all new_all =
      digests-of change.digests (digest_of olds) (digest_of news) (first-digest olds some old_all) (first-digest news some_new new_all) (digest-on change.targets change olds news some leads)

-- ---- states

-- the locks of a state are lawful
pub locks-lawful : (lines : List (List ℕ)) (targets : List Target) → AllByRecursion (λ t. IsLockFor lines t.environment t.lock) targets → AllByRecursion HasLawfulLock targets
locks-lawful lines [] all = tt
locks-lawful lines (t ∷ ts) all = (all.0.lawful, locks-lawful lines ts all.1)

-- the names of a state's targets
abbrev pub names_of : State → List (List ℕ)
names_of state = map (λ t. t.name) state.targets

-- each entry of a change may be of its target behind a header
abbrev pub MayName : Header → ChangeParts → Type 0
MayName header change = AllByRecursion (λ c. may_name header.version header c.target ≡ true) change.entries

-- a minimal change that is read back behind this header
pub record IsRead (header : Header) (change : ChangeParts) : Type 0 where
  pub minimal : IsMinimal change
  pub back : step_in header (step_data change) ≡ Ok change

module _ (header : Header) where
  pub lawful-changes : (old : State) (change : ChangeParts) (new : State) → IsState old → IsState new → IsChange old change new → (cs : List EntryChange) → ((c : EntryChange) → Contains cs c → Contains change.entries c)
      → AllByRecursion (λ c. is_target_name c.target ≡ true) cs → AllByRecursion (λ c. may_name header.version header c.target ≡ true) cs → AllByRecursion IsEntryChange cs → AllByRecursion (IsLawfulChange header) cs
  lawful-changes old change new h g is [] from named may each = tt
  lawful-changes old change new h g is (c ∷ cs) from named may each =
      let both = on-target change c old.targets new.targets is.leads.targets (locks-lawful old.lines old.targets h.locks) (locks-lawful new.lines new.targets g.locks) (from c (Contains-here c cs)) in (
        record {
          target = named.0;
          known = may.0;
          name = normal_by c.name c.old c.new both.0 both.1 each.0.other;
          old = both.0;
          new = both.1;
        },
        lawful-changes old change new h g is cs (λ d there. from d (Contains-there c cs d there)) named.1 may.1 each.1,
      )

  -- a change from one state to another is read back
  change-back : ReadsVersions → (old : State) (change : ChangeParts) (new : State) → HasTargets header.version change.targets → IsLawfulStep change → MayName header change → IsState old → IsState new → IsChange old change new
      → step_in header (step_data change) ≡ Ok change
  change-back reads old change new has lawful may h g is =
      step-back reads header change has lawful.targets (lawful-changes old change new h g is change.entries (λ c there. there) lawful.entries may is.minimal.entries.each)
      (on-first change old.targets new.targets h.some g.some is.leads.targets (locks-lawful old.lines old.targets h.locks) (locks-lawful new.lines new.targets g.locks))

  -- the changes of a history are read back
  pub changes-read : ReadsVersions → (states : List State) (changes : List ChangeParts) → AreSteps states changes → AllByRecursion IsState states → AllByRecursion (λ c. HasTargets header.version c.targets) changes
      → AllByRecursion IsLawfulStep changes → AllByRecursion (MayName header) changes → AllByRecursion (IsRead header) changes
  changes-read reads [] changes steps lawful have named may = absurd steps
  changes-read reads (s ∷ []) [] steps lawful have named may = tt
  changes-read reads (s ∷ []) (c ∷ cs) steps lawful have named may = absurd steps
  changes-read reads (s ∷ t ∷ states) [] steps lawful have named may = absurd steps
  changes-read reads (s ∷ t ∷ states) (c ∷ cs) steps lawful have named may =
      (record { minimal = steps.0.minimal; back = change-back reads s c t have.0 named.0 may.0 lawful.0 lawful.1.0 steps.0 }, changes-read reads (t ∷ states) cs steps.1 lawful.1 have.1 named.1 may.1)

-- ---- where no step has targets, all states have the same ones

same-names-by : (states : List State) (changes : List ChangeParts) (first : State) (names : List (List ℕ)) → AllByRecursion (λ c. c.targets ≡ []) changes → names_of first ≡ names → AreSteps (first ∷ states) changes
    → AllByRecursion (λ s. names_of s ≡ names) (first ∷ states)
same-names-by [] changes first names stay is steps = (is, tt)
same-names-by (t ∷ states) [] first names stay is steps = absurd steps
same-names-by (t ∷ states) (c ∷ cs) first names stay is steps =
    let each = (stays-from c.targets c first.targets t.targets stay.0 steps.0.leads.targets).each in
    (is, same-names-by states cs t names stay.1 (names-stay c first.targets t.targets each ∙ is) steps.1)

named-at : (states : List State) (n : ℕ) (state : State) (names : List (List ℕ)) → AllByRecursion (λ s. names_of s ≡ names) states → slice_get states n ≡ Some state → names_of state ≡ names
named-at [] n state names all at = absurd cc
named-at (s ∷ states) zero state names all at = let same : s ≡ state = cc in subst (λ (x : State). names_of x ≡ names) same all.0
named-at (s ∷ states) (suc n) state names all at = named-at states n state names all.1 at

-- names that a header has may stand behind it
may-by : (version : JournalVersion) (header : Header) (name : List ℕ) → has_target header name ≡ true → may_name version header name ≡ true
may-by One header name is = is
may-by Two header name is = is
may-by Three header name is = refl

has-may : (header : Header) (name : List ℕ) → has_target header name ≡ true → may_name header.version header name ≡ true
has-may header name is = may-by header.version header name is

may-entries : (header : Header) (names : List (List ℕ)) → ((name : List ℕ) → Contains names name → has_target header name ≡ true) → (cs : List EntryChange) → AllByRecursion (λ c. Contains names c.target) cs
    → AllByRecursion (λ c. may_name header.version header c.target ≡ true) cs
may-entries header names known [] all = tt
may-entries header names known (c ∷ cs) all = (has-may header c.target (known c.target all.0), may-entries header names known cs all.1)

may-all : (header : Header) (names : List (List ℕ)) → ((name : List ℕ) → Contains names name → has_target header name ≡ true) → (states : List State) (changes : List ChangeParts) → AllByRecursion (λ c. c.targets ≡ []) changes
    → AreSteps states changes → AllByRecursion (λ s. names_of s ≡ names) states → AllByRecursion (MayName header) changes
may-all header names known [] changes stay steps all = absurd steps
may-all header names known (s ∷ []) [] stay steps all = tt
may-all header names known (s ∷ []) (c ∷ cs) stay steps all = absurd steps
may-all header names known (s ∷ t ∷ states) [] stay steps all = absurd steps
may-all header names known (s ∷ t ∷ states) (c ∷ cs) stay steps all =
    let there = (stays-from c.targets c s.targets t.targets stay.0 steps.0.leads.targets).known in (
      may-entries header names known c.entries (subst (λ (l : List (List ℕ)). AllByRecursion (λ (e : EntryChange). Contains l e.target) c.entries) all.0 there),
      may-all header names known (t ∷ states) cs stay.1 steps.1 all.1,
    )

-- each entry of a history may be of its target behind a header that has the targets of one of its states
pub all-may : (header : Header) (states : List State) (changes : List ChangeParts) (n : ℕ) (state : State) → AllByRecursion (λ c. c.targets ≡ []) changes → AreSteps states changes → slice_get states n ≡ Some state
    → ((name : List ℕ) → Contains (names_of state) name → has_target header name ≡ true) → AllByRecursion (MayName header) changes
all-may header [] changes n state stay steps at known = absurd steps
all-may header (s ∷ states) changes n state stay steps at known =
    let all = same-names-by states changes s (names_of s) stay refl steps in
    let same : names_of state ≡ names_of s = named-at (s ∷ states) n state (names_of s) all at in
    may-all header (names_of s) (λ name there. known name (subst (λ (l : List (List ℕ)). Contains l name) (sym same) there)) (s ∷ states) changes stay steps all

any-entries : (header : Header) → header.version ≡ Three → (cs : List EntryChange) → AllByRecursion (λ c. may_name header.version header c.target ≡ true) cs
any-entries header third [] = tt
any-entries header third (c ∷ cs) = (subst (λ (v : JournalVersion). may_name v header c.target ≡ true) (sym third) refl, any-entries header third cs)

-- in version 3 each may
pub any-may : (header : Header) → header.version ≡ Three → (changes : List ChangeParts) → AllByRecursion (MayName header) changes
any-may header third [] = tt
any-may header third (c ∷ cs) = (any-entries header third c.entries, any-may header third cs)
