-- Merges from both sides, and kept versions that fit.
use Rattle.std.proofs.Common.{◌≡◌, ◌↔◌, ◌∙◌, ◌⊎◌, inl, inr, ℕ, true, false, List, [], ◌∷◌, Option, Some, None, Result, Ok, Err, Contains, find, is_some, map, option_map, refl, sym, ap, subst, if◌then◌else◌, ◌&&◌}
use Rattle.std.proofs.lemmas.List.{append-nil}
use Rattle.std.specs.Bool.{⊤}
use Rattle.std.proofs.lemmas.Cmp.{eq_by_cmp_equiv}
use Rattle.std.proofs.lemmas.Map.Text.{is_eq-slice_cmp}
use Rattle.std.specs.Cmp.{IsEquivalence}
use Rattle.std.specs.Cmp.Lexicographic.{nat_list_eq_equiv, slice_cmp}
use Rattle.std.specs.List.{AllByRecursion, AllZip}
use Rattle.std.specs.Option.{option_and_then, option_to_list}
use Rattle.std.specs.Map.{keys_of}
use Rattle.std.specs.Ordering.{bool_cmp, is_eq, is_lt, nat_cmp, ordering_reverse}
use Rattle.std.specs.Str.{bytes_eq}
use Rattle.std.specs.declared.cmp.Ordering.{Ordering}
use Rattle.std.specs.declared.cmp.Ordering.TheVariants.{Less, Equal, Greater}
use Rattle.lists.proofs.Members.{Contains-cons_cases, Contains-here, Contains-map_of, Contains-nil, Contains-there}
use Rattle.lists.specs.Rising.{rises}
use Rattle.changes.specs.Changes.{IsSameTarget}
use Rattle.markers.specs.Environment.{Texts}
use Rattle.pep440.specs.Order.{version_cmp}
use Rattle.pep440.specs.Tied.OrderLaws.{second_tie, version_total}
use Rattle.pep440.specs.Version.{VersionParts}
use Rattle.pep508.specs.Requirement.{RequirementParts}
use Rattle.pylock.specs.Locks.{LockParts}
use Rattle.pylock.specs.Packages.{EntryParts}
use Rattle.search.specs.Rules.{Rules}
use Rattle.search.specs.Solutions.{HasNoSolution, IsBest, Needed}
use Rattle.snapshot.specs.Packages.{Index}
use Rattle.snapshot.specs.Release.{Release}
use Rattle.problems.specs.Admission.{release_at}
use Rattle.problems.specs.Problem.{ProblemParts, releases_on}
use Rattle.problems.specs.Rules.{preferring, rules_of, same_version, versions_of as released}
use Rattle.problems.specs.Solutions.{version_for}
use Rattle.problems.specs.declared.node.Node.{Node}
use Rattle.states.proofs.EntryFacts.{rises-above, rises-rest}
use Rattle.states.specs.Locks.{HasUnsolved, IsDependency, IsEntry, IsLockOf, IsTargetLocked, given_of, versions_of}
use Rattle.states.specs.Pool.{PoolParts}
use Rattle.states.specs.State.{IsLockFor, IsState}
use Rattle.states.specs.StateParts.{StateParts}
use Rattle.states.specs.declared.refusal.Refusal.{Refusal}
use Rattle.states.specs.declared.target.Target.{Target}
use Rattle.edits.specs.Edits.{Locks, problem_for, problems_after}
use Rattle.edits.specs.Pins.{is_released, newer_of, pin_cmp, pins_for}
use Rattle.edits.specs.ReplaceLaws.{pins_of}
use Rattle.edits.specs.declared.request.Edit.TheVariants.{Relock, Replace}
use Rattle.edits.proofs.GreatestPins.{pin_total}
use Rattle.edits.proofs.NewerVersions.{InOrder, Pins, at-newer, greatest_of, in-order, newer-made}

versions-alike : IsEquivalence same_version
versions-alike = eq_by_cmp_equiv version_total

-- ---- versions that are one

-- both are there and equal, or none is
abbrev Alike : Option VersionParts → Option VersionParts → Type 0
Alike None None = ⊤
Alike (Some v) (Some w) = same_version v w ≡ true
Alike None (Some w) = ⊥
Alike (Some v) None = ⊥

alike-both : (index : Index) (name : List ℕ) (v w : VersionParts) (o : Ordering) → pin_cmp index name v w ≡ o
    → Alike (greatest_of index name (Some v) (Some w)) (greatest_of index name (Some w) (Some v))
alike-both index name v w o is =
    let back : pin_cmp index name w v ≡ ordering_reverse o = (pin_total index name).antisymm w v ∙ ap ordering_reverse is in
    (λ i. same_version (if is_lt (is i) then w else v) (if is_lt (back i) then v else w)) ∙ alike-by o is
  where
    alike-by : (r : Ordering) → pin_cmp index name v w ≡ r → same_version (if is_lt r then w else v) (if is_lt (ordering_reverse r) then v else w) ≡ true
    alike-by Less is = versions-alike.refl w
    alike-by Equal is = second_tie (bool_cmp (is_released index name v) (is_released index name w)) (version_cmp v w) (ap is_eq is)
    alike-by Greater is = versions-alike.refl v

greatest-alike : (index : Index) (name : List ℕ) (one other : Option VersionParts) → Alike (greatest_of index name one other) (greatest_of index name other one)
greatest-alike index name None None = tt
greatest-alike index name None (Some w) = versions-alike.refl w
greatest-alike index name (Some v) None = versions-alike.refl v
greatest-alike index name (Some v) (Some w) = alike-both index name v w (pin_cmp index name v w) refl

-- ---- problems that keep such versions

release-alike : (given : ProblemParts) (name : List ℕ) (v w : VersionParts) → same_version v w ≡ true → release_at given name v ≡ release_at given name w
release-alike given name v w h = ap (λ test. find test (releases_on given name)) (λ i (release : Release). versions-alike.congr v w release.version h i)

-- the candidates of a name for which this version is kept
abbrev candidates-with : ProblemParts → List ℕ → Option VersionParts → List VersionParts
candidates-with given name kept =
    if given.only_kept && is_some kept then option_to_list (option_and_then (λ version. option_map (λ (release : Release). release.version) (release_at given name version)) kept)
    else preferring (option_and_then (λ version. option_map (λ (release : Release). release.version) (release_at given name version)) kept) (released (releases_on given name))

candidates-alike : (given : ProblemParts) (name : List ℕ) (one other : Option VersionParts) → Alike one other → candidates-with given name one ≡ candidates-with given name other
candidates-alike given name None None alike = refl
candidates-alike given name None (Some w) alike = absurd alike
candidates-alike given name (Some v) None alike = absurd alike
candidates-alike given name (Some v) (Some w) alike =
    ap (λ (found : Option Release).
    if given.only_kept && true then option_to_list (option_map (λ (release : Release). release.version) found)
    else preferring (option_map (λ (release : Release). release.version) found) (released (releases_on given name)))
    (release-alike given name v w alike)

-- the problem of lines with these versions kept
module _ (lines : List (List ℕ)) (environment : Texts) (pool : PoolParts) (one other : Pins) (alike : (name : List ℕ) → Alike (version_for one name) (version_for other name)) where
  abbrev first : ProblemParts
  first = given_of lines environment pool one

  abbrev second : ProblemParts
  second = given_of lines environment pool other

  rules-same : rules_of first ≡ rules_of second
  rules-same =
      ap (λ (all : List ℕ → List VersionParts). record (rules_of first) { candidates = all })
      (λ i name. candidates-alike first name (version_for one name) (version_for other name) (alike name) i)

  needed-same : (chosen : List ℕ → Option VersionParts) (node : Node) → Needed (rules_of first) chosen node → Needed (rules_of second) chosen node
  needed-same chosen node needed = subst (λ (rules : Rules (List ℕ) Node VersionParts RequirementParts). Needed rules chosen node) rules-same needed

  needed-back : (chosen : List ℕ → Option VersionParts) (node : Node) → Needed (rules_of second) chosen node → Needed (rules_of first) chosen node
  needed-back chosen node needed = subst (λ (rules : Rules (List ℕ) Node VersionParts RequirementParts). Needed rules chosen node) (sym rules-same) needed

  dependency-same : (chosen : List ℕ → Option VersionParts) (own name : List ℕ) → IsDependency first chosen own name ↔ IsDependency second chosen own name
  dependency-same chosen own name = (
    λ d. record { other = d.other; node = d.node; on = d.on; needed = needed-same chosen d.node d.needed; version = d.version; picked = d.picked; wanted = d.wanted; counts = d.counts; named = d.named },
    λ d. record { other = d.other; node = d.node; on = d.on; needed = needed-back chosen d.node d.needed; version = d.version; picked = d.picked; wanted = d.wanted; counts = d.counts; named = d.named },
  )

  entry-same : (chosen : List ℕ → Option VersionParts) (e : EntryParts) → IsEntry first chosen e → IsEntry second chosen e
  entry-same chosen e is = record {
    python = is.python;
    sdist = is.sdist;
    wheels = is.wheels;
    rising = is.rising;
    dependencies = λ name. let d = dependency-same chosen e.name name in (λ there. d.0 ((is.dependencies name).0 there), λ k. (is.dependencies name).1 (d.1 k));
  }

  lock-same : (lock : LockParts) → IsLockOf first lock → IsLockOf second lock
  lock-same lock is = record {
    environment = is.environment;
    snapshot = is.snapshot;
    rising = is.rising;
    best = subst (λ (rules : Rules (List ℕ) Node VersionParts RequirementParts). IsBest rules (version_for (versions_of lock.entries))) rules-same is.best;
    entries = λ e there. entry-same (version_for (versions_of lock.entries)) e (is.entries e there);
  }

-- ---- the pins of targets

none-for : (n : List ℕ) (targets : List Target) → ((m : List ℕ) → Contains (map (λ t. t.name) targets) m → slice_cmp nat_cmp n m ≡ Less ⊎ slice_cmp nat_cmp m n ≡ Less) → pins_for (pins_of targets) n ≡ []
none-for n [] apart = refl
none-for n (t ∷ ts) apart =
    let other : bytes_eq t.name n ≡ false = elim (apart t.name (Contains-here t.name (map (λ u. u.name) ts))) [
      | inl above ↦ nat_list_eq_equiv.symm t.name n ∙ sym (is_eq-slice_cmp n t.name) ∙ ap is_eq above
      | inr below ↦ sym (is_eq-slice_cmp t.name n) ∙ ap is_eq below
    ] in
    rw other (none-for n ts (λ m there. apart m (Contains-there t.name (map (λ u. u.name) ts) m there)))

pins-there : (targets : List Target) (t : Target) → rises (map (λ t. t.name) targets) ≡ true → Contains targets t → pins_for (pins_of targets) t.name ≡ versions_of t.lock.entries
pins-there [] t rise there = absurd (Contains-nil t there)
pins-there (x ∷ xs) t rise there =
    let names : List (List ℕ) = map (λ (u : Target). u.name) xs in
    elim (Contains-cons_cases x xs t there) [
      | inl same ↦
          let none : pins_for (pins_of xs) x.name ≡ [] = none-for x.name xs (λ m there. inl (rises-above x.name names m rise there)) in
          let own : bytes_eq x.name x.name ≡ true = nat_list_eq_equiv.refl x.name in
          let here : pins_for (pins_of (x ∷ xs)) x.name ≡ versions_of x.lock.entries = rw (own, none) (append-nil (versions_of x.lock.entries)) in
          subst (λ (u : Target). pins_for (pins_of (x ∷ xs)) u.name ≡ versions_of u.lock.entries) same here
      | inr more ↦
          let above = rises-above x.name names t.name rise (Contains-map_of (λ (u : Target). u.name) xs t more) in
          let other : bytes_eq x.name t.name ≡ false = sym (is_eq-slice_cmp x.name t.name) ∙ ap is_eq above in
          rw other (pins-there xs t (rises-rest x.name names rise) more)
    ]

-- names rise in the lock of each target
abbrev Rise : List Target → Type 0
Rise targets = AllByRecursion (λ t. InOrder (versions_of t.lock.entries)) targets

names-of : (entries : List EntryParts) → map (λ (p : List ℕ × VersionParts). p.0) (versions_of entries) ≡ map (λ (e : EntryParts). e.name) entries
names-of [] = refl
names-of (e ∷ es) = ap (λ (l : List (List ℕ)). e.name ∷ l) (names-of es)

rise-of : (lines : List (List ℕ)) (targets : List Target) → AllByRecursion (λ t. IsLockFor lines t.environment t.lock) targets → Rise targets
rise-of lines [] all = tt
rise-of lines (t ∷ ts) all = (in-order (keys_of (versions_of t.lock.entries)) (ap rises (names-of t.lock.entries) ∙ all.0.lawful.order), rise-of lines ts all.1)

-- ---- both sides

same-back : (ones others : List Target) → AllZip IsSameTarget ones others → AllZip IsSameTarget others ones
same-back [] [] zip = zip
same-back [] (y ∷ ys) zip = zip
same-back (x ∷ xs) [] zip = zip
same-back (x ∷ xs) (y ∷ ys) zip = (record { name = sym zip.0.name; environment = sym zip.0.environment }, same-back xs ys zip.1)

module _ (lines : List (List ℕ)) (pool : PoolParts) (one other : List Target) (rise : rises (map (λ t. t.name) one) ≡ true) (rise-too : rises (map (λ t. t.name) other) ≡ true) where
  abbrev from-one : Target → List ℕ × ProblemParts
  from-one = problem_for lines (Replace lines (pins_of other)) pool

  abbrev from-other : Target → List ℕ × ProblemParts
  from-other = problem_for lines (Replace lines (pins_of one)) pool

  -- what both sides keep for a target
  module _ (a b : Target) (same : IsSameTarget a b) (there : Contains one a) (there-too : Contains other b) (order : InOrder (versions_of a.lock.entries)) (order-too : InOrder (versions_of b.lock.entries)) where
    abbrev own : Pins
    own = versions_of a.lock.entries

    abbrev theirs : Pins
    theirs = versions_of b.lock.entries

    kept : newer_of pool.index own (pins_for (pins_of other) a.name) ≡ newer_of pool.index own theirs
    kept = ap (λ (n : List ℕ). newer_of pool.index own (pins_for (pins_of other) n)) (sym same.name) ∙ ap (newer_of pool.index own) (pins-there other b rise-too there-too)

    kept-too : newer_of pool.index theirs (pins_for (pins_of one) b.name) ≡ newer_of pool.index theirs own
    kept-too = ap (λ (n : List ℕ). newer_of pool.index theirs (pins_for (pins_of one) n)) same.name ∙ ap (newer_of pool.index theirs) (pins-there one a rise there)

    both-alike : (name : List ℕ) → Alike (version_for (newer_of pool.index own theirs) name) (version_for (newer_of pool.index theirs own) name)
    both-alike name =
        subst (λ (found : Option VersionParts). Alike found (version_for (newer_of pool.index theirs own) name)) (sym (at-newer pool.index own theirs name order order-too))
        (subst (Alike (greatest_of pool.index name (version_for own name) (version_for theirs name))) (sym (at-newer pool.index theirs own name order-too order))
        (greatest-alike pool.index name (version_for own name) (version_for theirs name)))

    target-same : (t : Target) → IsTargetLocked (from-one a) t → IsTargetLocked (from-other b) t
    target-same t is =
        let first : IsLockOf (given_of lines a.environment pool (newer_of pool.index own theirs)) t.lock = subst (λ (pins : Pins). IsLockOf (given_of lines a.environment pool pins) t.lock) kept is.lock in
        let second : IsLockOf (given_of lines a.environment pool (newer_of pool.index theirs own)) t.lock =
        lock-same lines a.environment pool (newer_of pool.index own theirs) (newer_of pool.index theirs own) both-alike t.lock first in
        let third = subst (λ (pins : Pins). IsLockOf (given_of lines a.environment pool pins) t.lock) (sym kept-too) second in
        record {
          name = is.name ∙ sym same.name;
          environment = is.environment ∙ sym same.environment;
          lock = subst (λ (environment : Texts). IsLockOf (given_of lines environment pool (newer_of pool.index theirs (pins_for (pins_of one) b.name))) t.lock) (sym same.environment) third;
        }

    none-same : HasNoSolution (rules_of (from-one a).1) → HasNoSolution (rules_of (from-other b).1)
    none-same none =
        let rules : rules_of (from-one a).1 ≡ rules_of (from-other b).1 =
        ap (λ (pins : Pins). rules_of (given_of lines a.environment pool pins)) kept
        ∙ rules-same lines a.environment pool (newer_of pool.index own theirs) (newer_of pool.index theirs own) both-alike
        ∙ ap (λ (pins : Pins). rules_of (given_of lines a.environment pool pins)) (sym kept-too)
        ∙ ap (λ (environment : Texts). rules_of (given_of lines environment pool (newer_of pool.index theirs (pins_for (pins_of one) b.name)))) (sym same.environment) in
        subst (λ (all : Rules (List ℕ) Node VersionParts RequirementParts). HasNoSolution all) rules none

  targets-same : (ones others news : List Target) → ((a : Target) → Contains ones a → Contains one a) → ((b : Target) → Contains others b → Contains other b) → Rise ones → Rise others → AllZip IsSameTarget ones others
      → AllZip IsTargetLocked (map from-one ones) news → AllZip IsTargetLocked (map from-other others) news
  targets-same [] [] news within within-too order order-too same zip = zip
  targets-same [] (b ∷ ys) news within within-too order order-too same zip = absurd same
  targets-same (a ∷ xs) [] news within within-too order order-too same zip = absurd same
  targets-same (a ∷ xs) (b ∷ ys) [] within within-too order order-too same zip = zip
  targets-same (a ∷ xs) (b ∷ ys) (t ∷ ts) within within-too order order-too same zip = (
    target-same a b same.0 (within a (Contains-here a xs)) (within-too b (Contains-here b ys)) order.0 order-too.0 t zip.0,
    targets-same xs ys ts (λ x there. within x (Contains-there a xs x there)) (λ y there. within-too y (Contains-there b ys y there)) order.1 order-too.1 same.1 zip.1,
  )

  unsolved-same : (ones others : List Target) → ((a : Target) → Contains ones a → Contains one a) → ((b : Target) → Contains others b → Contains other b) → Rise ones → Rise others → AllZip IsSameTarget ones others
      → HasUnsolved (map from-one ones) → HasUnsolved (map from-other others)
  unsolved-same [] [] within within-too order order-too same unsolved = unsolved
  unsolved-same [] (b ∷ ys) within within-too order order-too same unsolved = absurd same
  unsolved-same (a ∷ xs) [] within within-too order order-too same unsolved = absurd same
  unsolved-same (a ∷ xs) (b ∷ ys) within within-too order order-too same unsolved = elim (Contains-cons_cases (from-one a) (map from-one xs) unsolved.0 unsolved.1) [
    | inl here ↦
        let none = subst (λ (given : List ℕ × ProblemParts). HasNoSolution (rules_of given.1)) (sym here) unsolved.2 in
        (from-other b, Contains-here (from-other b) (map from-other ys), none-same a b same.0 (within a (Contains-here a xs)) (within-too b (Contains-here b ys)) order.0 order-too.0 none)
    | inr more ↦
        let rest = unsolved-same xs ys (λ x there. within x (Contains-there a xs x there)) (λ y there. within-too y (Contains-there b ys y there)) order.1 order-too.1 same.1 (unsolved.0, more, unsolved.2) in
        (rest.0, Contains-there (from-other b) (map from-other ys) rest.0 rest.1, rest.2)
  ]

from-side : (one other : StateParts) (lines : List (List ℕ)) (pool : PoolParts) (answer : Result StateParts Refusal) → IsState one → IsState other → AllZip IsSameTarget one.targets other.targets
    → Locks None (problems_after one (Replace lines (pins_of other.targets)) pool) lines answer → Locks None (problems_after other (Replace lines (pins_of one.targets)) pool) lines answer
from-side one other lines pool (Ok state) is is-too same locks = (
  record {
    lines_are = locks.0.lines_are;
    targets = targets-same lines pool one.targets other.targets is.rising is-too.rising one.targets other.targets state.targets (λ a there. there) (λ b there. there)
        (rise-of one.lines one.targets is.locks) (rise-of other.lines other.targets is-too.locks) same locks.0.targets;
  },
  locks.1,
)
from-side one other lines pool (Err refusal) is is-too same (inl none) = inl (
  none.0,
  unsolved-same lines pool one.targets other.targets is.rising is-too.rising one.targets other.targets (λ a there. there) (λ b there. there)
      (rise-of one.lines one.targets is.locks) (rise-of other.lines other.targets is-too.locks) same none.1,
)
from-side one other lines pool (Err refusal) is is-too same (inr never) = absurd never.1

pub merges-agree : (one other : StateParts) (lines : List (List ℕ)) (pool : PoolParts) (answer : Result StateParts Refusal) → IsState one → IsState other → AllZip IsSameTarget one.targets other.targets
    → Locks None (problems_after one (Replace lines (pins_of other.targets)) pool) lines answer ↔ Locks None (problems_after other (Replace lines (pins_of one.targets)) pool) lines answer
merges-agree one other lines pool answer is is-too same =
    (from-side one other lines pool answer is is-too same, from-side other one lines pool answer is-too is (same-back one.targets other.targets same))

-- ---- nothing handed in

relocked : (lines : List (List ℕ)) (pool : PoolParts) (targets : List Target) → Rise targets
    → map (problem_for lines (Replace lines []) pool) targets ≡ map (problem_for lines Relock pool) targets
relocked lines pool [] rise = refl
relocked lines pool (t ∷ ts) rise =
    let own : Pins = versions_of t.lock.entries in
    let kept : newer_of pool.index own [] ≡ own = sym (newer-made pool.index own [] rise.0) in
    let rest = relocked lines pool ts rise.1 in
    λ i. (t.name, given_of lines t.environment pool (kept i)) ∷ rest i

pub replaced-by-itself : (state : StateParts) (pool : PoolParts) → IsState state → problems_after state (Replace state.lines []) pool ≡ problems_after state Relock pool
replaced-by-itself state pool is = relocked state.lines pool state.targets (rise-of state.lines state.targets is.locks)
