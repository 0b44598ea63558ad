-- The lock of a solution.
use Rattle.std.proofs.Common.{◌≡◌, ◌≢◌, ℕ, Bool, true, false, not, ◌&&◌, List, [], ◌∷◌, ◌++◌, Some, None, Option, Result, Ok, Err, IfOk, Contains, map, filter, refl, sym, ap, subst, inl, inr}
use Rattle.std.proofs.lemmas.Bool.{cases_Bool}
use Rattle.std.proofs.lemmas.List.Elements.{Contains-append_cases}
use Rattle.std.proofs.lemmas.Slice.Eq.{bytes_eq-Decides}
use Rattle.std.specs.BTreeMap.{BTreeMap}
use Rattle.std.specs.BTreeSet.{BTreeSet}
use Rattle.std.specs.Cmp.Lexicographic.{slice_cmp}
use Rattle.std.specs.List.Sorted.{IsStrictlySortedBy}
use Rattle.std.specs.Map.{keys_of}
use Rattle.std.specs.Option.{option_map_or}
use Rattle.std.specs.Ordering.{nat_cmp}
use Rattle.std.specs.Str.{bytes_eq}
use Rattle.pep440.specs.Version.{VersionParts}
use Rattle.pep508.specs.Requirement.{RequirementParts}
use Rattle.pylock.specs.Locks.{LockParts, lock_of}
use Rattle.pylock.specs.Packages.{EntryParts}
use Rattle.markers.specs.Environment.{marker_text}
use Rattle.search.specs.Solutions.{IsBest}
use Rattle.snapshot.specs.Release.{Release}
use Rattle.problems.specs.Admission.{release_at}
use Rattle.problems.specs.Problem.{ProblemParts}
use Rattle.problems.specs.Rules.{bare, counts, rules_of}
use Rattle.problems.specs.Tied.OwnNeeds.{own_wants, own_wants_of}
use Rattle.problems.proofs.OwnNeeds.{bare-needed, own-counts, wanted-own}
use Rattle.markers.specs.MarkerExtras.{OtherExtrasAreAsNone}
use Rattle.problems.specs.Solutions.{AreNeeded, version_for}
use Rattle.problems.specs.declared.node.Node.{Node}
use Rattle.states.specs.Names.{with_names}
use Rattle.states.specs.Tied.Dependencies.{leads_away, names_at, names_in, names_needed, names_over, names_wanted, release_chosen}
use Rattle.states.specs.Tied.Entries.{AreEntries, AreNeeds, HasRelease, entry_for}
use Rattle.states.specs.Locks.{IsDependency, IsEntry, IsLockOf, versions_of}
use Rattle.states.proofs.LawfulNames.{apart, differ, rises-from}
use Rattle.lists.proofs.Members.{Contains-cons_cases, Contains-filter, Contains-filter_of, Contains-flat_map, Contains-flat_map_of, Contains-map, Contains-map_of, Contains-nil}
use Rattle.states.proofs.NamesInOrder.{from-names, put-names, sorted-names}

and-both : (a b : Bool) → (a && b) ≡ true → (a ≡ true) × (b ≡ true)
and-both true b e = (refl, e)
and-both false b e = cc

not-true : (b : Bool) → not b ≡ true → b ≡ false
not-true true e = cc
not-true false e = refl

-- a name that a release needs at a node is that of a dependency which leads away
wanted-from : (given : ProblemParts) (node : Node) (dependencies : List RequirementParts) (name : List ℕ) → Contains (names_wanted given.environment node dependencies) name
    → (w : RequirementParts) × Contains dependencies w × (counts given.environment node.extra w ≡ true) × (w.name ≡ name) × (name ≢ node.name)
wanted-from given node dependencies name h =
    let k = Contains-map (λ (w : RequirementParts). w.name) (filter (leads_away given.environment node) dependencies) name h in
    let passed = Contains-filter (leads_away given.environment node) dependencies k.0 k.1 in
    let both = and-both (counts given.environment node.extra k.0) (not (bytes_eq node.name k.0.name)) passed.1 in
    (k.0, passed.0, both.0, k.2, rw k.2 at (apart node.name k.0.name (not-true _ both.1)))

wanted-of : (given : ProblemParts) (node : Node) (dependencies : List RequirementParts) (w : RequirementParts) → Contains dependencies w → counts given.environment node.extra w ≡ true → w.name ≢ node.name
    → Contains (names_wanted given.environment node dependencies) w.name
wanted-of given node dependencies w there counted other =
    Contains-map_of (λ (w : RequirementParts). w.name) (filter (leads_away given.environment node) dependencies) w
    (Contains-filter_of (leads_away given.environment node) dependencies w there (rw (counted, differ node.name w.name other) refl))

-- a name that a package needs at a needed node is that of a dependency of it
needed-by : (given : ProblemParts) (chosen : List ℕ → Option VersionParts) (nodes : List Node) (own name : List ℕ) (node : Node) (v : Option VersionParts) (r : Option Release)
    → AreNeeded given chosen nodes → Contains nodes node → node.name ≡ own → chosen node.name ≡ v → ((version : VersionParts) → v ≡ Some version → release_at given node.name version ≡ r)
    → Contains (names_needed given.environment node (release_chosen given chosen node.name)) name → IsDependency given chosen own name
needed-by given chosen nodes own name node None r needed there on picked found h =
    absurd (Contains-nil name (rw picked at h))
needed-by given chosen nodes own name node (Some version) None needed there on picked found h =
    absurd (Contains-nil name (rw (picked, found version refl) at h))
needed-by given chosen nodes own name node (Some version) (Some release) needed there on picked found h =
    let k = wanted-from given node (own_wants_of given.environment node.extra release.dependencies) name (rw (picked, found version refl) at h) in
    record {
      other = rw on at k.4;
      node = node;
      on = on;
      needed = needed.sound node there;
      version = version;
      picked = rw on at picked;
      wanted = k.0;
      counts = rw (found version refl) (own-counts given.environment node.extra release.dependencies k.0 k.1);
      named = k.3;
    }

-- what a package needs at nodes are the names of its dependencies
IsDependency-from : (given : ProblemParts) (chosen : List ℕ → Option VersionParts) (nodes : List Node) (own name : List ℕ) → AreNeeded given chosen nodes
    → Contains (names_over given chosen own nodes) name → IsDependency given chosen own name
IsDependency-from given chosen nodes own name needed h =
    let k = Contains-flat_map (names_at given chosen own) nodes name h in
    elim (cases_Bool (bytes_eq own k.0.name)) [
      | inl same ↦ needed-by given chosen nodes own name k.0 (chosen k.0.name) (release_chosen given chosen k.0.name) needed k.1
          (sym ((bytes_eq-Decides own k.0.name).0 same)) refl (λ version picked. rw picked refl) (rw same at k.2)
      | inr other ↦ absurd (Contains-nil name (rw other at k.2))
    ]

-- what a node wants of its own is one of the names that its release needs there
own-at : (given : ProblemParts) (node : Node) (w : RequirementParts) (r : Option Release) → Contains (own_wants_of given.environment node.extra (option_map_or (λ (release : Release). release.dependencies) r [])) w → w.name ≢ node.name
    → Contains (names_needed given.environment node r) w.name
own-at given node w None there other = absurd (Contains-nil w (own-counts given.environment node.extra [] w there))
own-at given node w (Some release) there other =
    let k = Contains-filter (counts given.environment node.extra) release.dependencies w (own-counts given.environment node.extra release.dependencies w there) in
    wanted-of given node (own_wants_of given.environment node.extra release.dependencies) w there k.1 other

gathered-at : (given : ProblemParts) (chosen : List ℕ → Option VersionParts) (nodes : List Node) (own name : List ℕ) (node : Node) (version : VersionParts) (w : RequirementParts) → bytes_eq own node.name ≡ true → chosen node.name ≡ Some version
    → Contains nodes node → Contains (own_wants given node version) w → w.name ≢ node.name → w.name ≡ name → Contains (names_over given chosen own nodes) name
gathered-at given chosen nodes own name node version w same picked listed wanted other named =
    let there : Contains (names_needed given.environment node (release_chosen given chosen node.name)) w.name = rw picked (own-at given node w (release_at given node.name version) wanted other) in
    Contains-flat_map_of (names_at given chosen own) nodes node name listed (rw same (rw named at there))

-- a dependency of a package its node wants of its own, or its name does with no extra; both are needed
IsDependency-gathered : OtherExtrasAreAsNone → (given : ProblemParts) (chosen : List ℕ → Option VersionParts) (nodes : List Node) (own name : List ℕ) → AreNeeded given chosen nodes
    → IsDependency given chosen own name → Contains (names_over given chosen own nodes) name
IsDependency-gathered law given chosen nodes own name needed d =
    let same : bytes_eq own d.node.name ≡ true = (bytes_eq-Decides own d.node.name).1 (sym d.on) in
    let other : d.wanted.name ≢ d.node.name = rw (d.named, d.on) d.other in
    let picked : chosen d.node.name ≡ Some d.version = rw d.on d.picked in
    elim (wanted-own law given d.node d.version d.wanted d.counts) [
      | inl mine ↦ gathered-at given chosen nodes own name d.node d.version d.wanted same picked (needed.whole d.node d.needed) mine other d.named
      | inr names ↦ gathered-at given chosen nodes own name (bare d.node.name) d.version d.wanted same picked (needed.whole (bare d.node.name) (bare-needed given chosen d.node d.needed)) names other d.named
    ]

-- what a package needs at nodes, put in order
AreNeeds-from : (given : ProblemParts) (chosen : List ℕ → Option VersionParts) (nodes : List Node) (own : List ℕ) → AreNeeded given chosen nodes → AreNeeds own (with_names [] (names_over given chosen own nodes))
AreNeeds-from given chosen nodes own needed = record {
  rising = sorted-names (names_over given chosen own nodes);
  others = λ name h. elim (from-names [] (names_over given chosen own nodes) name h) [
    | inl none ↦ absurd (Contains-nil name none)
    | inr there ↦ (IsDependency-from given chosen nodes own name needed there).other
  ];
}

pub AreNeeds-gathered : (given : ProblemParts) (chosen : List ℕ → Option VersionParts) (nodes : List Node) (gathered : BTreeMap (List ℕ) (BTreeSet (List ℕ))) → AreNeeded given chosen nodes
    → ((own : List ℕ) → names_in gathered own ≡ with_names [] (names_over given chosen own nodes)) → (own : List ℕ) → AreNeeds own (names_in gathered own)
AreNeeds-gathered given chosen nodes gathered needed is own = rw (is own) (AreNeeds-from given chosen nodes own needed)

-- what is locked for a name is its entry
IsEntry-from : OtherExtrasAreAsNone → (given : ProblemParts) (chosen : List ℕ → Option VersionParts) (nodes : List Node) (gathered : BTreeMap (List ℕ) (BTreeSet (List ℕ))) → AreNeeded given chosen nodes
    → ((own : List ℕ) → names_in gathered own ≡ with_names [] (names_over given chosen own nodes)) → (p : List ℕ × VersionParts) → IsEntry given chosen (entry_for given (names_in gathered) p)
IsEntry-from law given chosen nodes gathered needed is p = record {
  python = refl;
  sdist = refl;
  wheels = refl;
  rising = rw (is p.0) (sorted-names (names_over given chosen p.0 nodes));
  dependencies = λ name. rw (is p.0) (
    (λ h. elim (from-names [] (names_over given chosen p.0 nodes) name h) [
      | inl none ↦ absurd (Contains-nil name none)
      | inr there ↦ IsDependency-from given chosen nodes p.0 name needed there
    ]),
    (λ d. put-names [] (names_over given chosen p.0 nodes) name (IsDependency-gathered law given chosen nodes p.0 name needed d)),
  );
}

versions_of-entries : (given : ProblemParts) (names : List ℕ → List (List ℕ)) (versions : List (List ℕ × VersionParts)) → versions_of (map (entry_for given names) versions) ≡ versions
versions_of-entries given names [] = refl
versions_of-entries given names (p ∷ rest) = ap (λ (l : List (List ℕ × VersionParts)). p ∷ l) (versions_of-entries given names rest)

names-entries : (given : ProblemParts) (names : List ℕ → List (List ℕ)) (versions : List (List ℕ × VersionParts)) → map (λ e. e.name) (map (entry_for given names) versions) ≡ keys_of versions
names-entries given names [] = refl
names-entries given names (p ∷ rest) = ap (λ (l : List (List ℕ)). p.0 ∷ l) (names-entries given names rest)

AreEntries-from : OtherExtrasAreAsNone → (given : ProblemParts) (versions : List (List ℕ × VersionParts)) (nodes : List Node) (gathered : BTreeMap (List ℕ) (BTreeSet (List ℕ))) → IsStrictlySortedBy (slice_cmp nat_cmp) (keys_of versions)
    → ((e : EntryParts) → Contains (map (entry_for given (names_in gathered)) versions) e → HasRelease given e.name e.version)
    → AreNeeded given (version_for versions) nodes → ((own : List ℕ) → names_in gathered own ≡ with_names [] (names_over given (version_for versions) own nodes))
    → AreEntries given versions (map (entry_for given (names_in gathered)) versions)
AreEntries-from law given versions nodes gathered rising releases needed is = record {
  versions_are = versions_of-entries given (names_in gathered) versions;
  rising = rw (names-entries given (names_in gathered) versions) rising;
  entries = λ e h.
      let k = Contains-map (entry_for given (names_in gathered)) versions e h in
      subst (IsEntry given (version_for versions)) k.2 (IsEntry-from law given (version_for versions) nodes gathered needed is k.0);
  releases = releases;
}

-- the answer that goes over what was gathered
pub AreEntries-answer : {E : Type 0} → OtherExtrasAreAsNone → (given : ProblemParts) (versions : List (List ℕ × VersionParts)) (nodes : List Node) (gathered : BTreeMap (List ℕ) (BTreeSet (List ℕ))) (answer : Result (List EntryParts) E)
    → IfOk answer (λ lock. lock ≡ map (entry_for given (names_in gathered)) versions) → IfOk answer (λ _. IsStrictlySortedBy (slice_cmp nat_cmp) (keys_of versions))
    → IfOk answer (λ lock. (e : EntryParts) → Contains lock e → HasRelease given e.name e.version)
    → AreNeeded given (version_for versions) nodes → ((own : List ℕ) → names_in gathered own ≡ with_names [] (names_over given (version_for versions) own nodes))
    → IfOk answer (λ lock. AreEntries given versions lock)
AreEntries-answer law given versions nodes gathered (Ok lock) made rising releases needed is =
    rw made (AreEntries-from law given versions nodes gathered rising (rw made at releases) needed is)
AreEntries-answer law given versions nodes gathered (Err e) made rising releases needed is = tt

-- entries whose names rise make a lock
lock-made : (l : LockParts) → IsStrictlySortedBy (slice_cmp nat_cmp) (map (λ e. e.name) l.entries) → lock_of l ≡ Some l
lock-made l rising = rw (rises-from (map (λ e. e.name) l.entries) rising) refl

pub lock-there : (l : LockParts) (made : Option LockParts) → made ≡ lock_of l → IsStrictlySortedBy (slice_cmp nat_cmp) (map (λ e. e.name) l.entries) → made ≡ None → ⊥
lock-there l made is rising none = let some = lock-made l rising in cc

pub lock-entries : (l m : LockParts) (made : Option LockParts) → made ≡ lock_of l → IsStrictlySortedBy (slice_cmp nat_cmp) (map (λ e. e.name) l.entries) → made ≡ Some m → m.entries ≡ l.entries
lock-entries l m made is rising some =
    let whole = lock-made l rising in
    let same : m ≡ l = cc in
    ap (λ (k : LockParts). k.entries) same

-- one more entry has its release
pub releases-more : (given : ProblemParts) (items : List EntryParts) (e : EntryParts) → ((x : EntryParts) → Contains items x → HasRelease given x.name x.version) → HasRelease given e.name e.version
    → (x : EntryParts) → Contains (items ++ e ∷ []) x → HasRelease given x.name x.version
releases-more given items e before here x h = elim (Contains-append_cases items (e ∷ []) x h) [
  | inl old ↦ before x old
  | inr new ↦ elim (Contains-cons_cases e [] x new) [
    | inl same ↦ subst (λ (y : EntryParts). HasRelease given y.name y.version) same here
    | inr none ↦ absurd (Contains-nil x none)
  ]
]

-- the entries of the best solution are the lock
pub IsLockOf-from : (given : ProblemParts) (versions : List (List ℕ × VersionParts)) (lock : LockParts) → IsBest (rules_of given) (version_for versions) → AreEntries given versions lock.entries
    → lock.environment ≡ marker_text given.environment → lock.snapshot ≡ given.index.digest → IsLockOf given lock
IsLockOf-from given versions lock best h environment snapshot =
    record { environment = environment; snapshot = snapshot; rising = h.rising; best = rw h.versions_are best; entries = rw h.versions_are h.entries }
