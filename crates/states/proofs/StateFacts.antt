-- What holds of the lock in a state, from its problem.
use Rattle.std.proofs.Common.{◌≡◌, ℕ, Bool, true, false, List, [], ◌∷◌, Some, None, Option, Result, Ok, Err, Equal, Contains, MatchOption, find, map, option_map, refl, sym, ap, ◌∙◌, subst, inl, inr, if◌then◌else◌}
use Rattle.std.proofs.lemmas.Bool.{cases_Bool}
use Rattle.std.proofs.lemmas.Slice.Eq.{bytes_eq-Decides}
use Rattle.std.specs.Cmp.{Equal-is, first_so, second_so}
use Rattle.std.specs.Option.{option_map_or}
use Rattle.std.specs.Str.{bytes_eq}
use Rattle.markers.specs.Comparisons.{version_read}
use Rattle.markers.specs.Environment.{Texts, text_of}
use Rattle.markers.specs.declared.variable.Variable.TheVariants.{PythonFullVersion}
use Rattle.pep440.specs.Matching.{matches}
use Rattle.pep440.specs.Order.{version_cmp}
use Rattle.pep440.specs.Version.{VersionParts}
use Rattle.pep440.specs.declared.specifier.Clause.{Clause}
use Rattle.pep508.specs.Requirement.{RequirementParts}
use Rattle.pylock.specs.Locks.{IsLock, LockParts}
use Rattle.pylock.specs.Packages.{EntryParts}
use Rattle.search.specs.Solutions.{Needed, Solution, by_dependency, by_line}
use Rattle.snapshot.specs.Lawful.{IsRelease}
use Rattle.snapshot.specs.Release.{Release}
use Rattle.pep440.proofs.PythonFacts.{set-read}
use Rattle.pep440.specs.Python.{PythonParts, python_of}
use Rattle.problems.specs.Admission.{admits, admits_release, fits, admits_python as runs_with, has_version, meets_python, release_at}
use Rattle.problems.specs.Problem.{ProblemParts, releases_on, requirements}
use Rattle.problems.specs.Rules.{bare, nodes_of, rules_of, wants, with_extra}
use Rattle.problems.specs.Solutions.{version_for}
use Rattle.problems.specs.declared.node.Node.{Node}
use Rattle.states.specs.Locks.{IsDependency, IsEntry, IsLockOf, versions_of}
use Rattle.states.specs.State.{IsAnEntry, IsLockFor, IsMet, Reached, by_entry, by_line as by_active, is_for_python, has_version as set_has}
use Rattle.states.proofs.EntriesByName.{Has-from, version-there}
use Rattle.lists.proofs.Members.{Contains-cons_cases, Contains-map}

-- each entry is that of the solution of the entries' versions
abbrev pub AreEntriesOf : ProblemParts → List EntryParts → Type 0
AreEntriesOf given entries = (e : EntryParts) → Contains entries e → IsEntry given (version_for (versions_of entries)) e

-- the release of each entry is there, and lawful
abbrev pub AreReleased : ProblemParts → List EntryParts → Type 0
AreReleased given entries = (e : EntryParts) → Contains entries e → (r : Release) × (release_at given e.name e.version ≡ Some r) × IsRelease r

-- versions that are equal in their order match alike
abbrev pub MatchAlike : Type 0
MatchAlike = (clauses : List Clause) (v w : VersionParts) → version_cmp v w ≡ Equal → matches clauses v ≡ matches clauses w

-- ---- what a release asks of Python

set-has : (p : PythonParts) (version : Option VersionParts) → runs_with p version ≡ true → set_has (Ok p.set) version ≡ true
set-has p None met = met
set-has p (Some version) met = met

-- an entry runs where its release does
runs-from : (environment : Texts) (python : Option PythonParts) → MatchOption python Unit (λ p. python_of p.text ≡ Ok (Some p)) → meets_python environment python ≡ true
    → option_map_or (is_for_python environment) (option_map (λ p. p.text) python) true ≡ true
runs-from environment None lawful met = refl
runs-from environment (Some p) lawful met = rw (set-read p lawful) (set-has p (version_read (text_of environment PythonFullVersion)) met)

-- ---- met

-- what is found passes
found-passes : {X : Type 0} (p : X → Bool) (xs : List X) (x : X) → find p xs ≡ Some x → p x ≡ true
found-passes p [] x e = absurd cc
found-passes p (y ∷ ys) x e = elim (cases_Bool (p y)) [
  | inl passes ↦ let same : y ≡ x = cc (rw passes at e) in subst (λ z. p z ≡ true) same passes
  | inr fails ↦ found-passes p ys x (rw fails at e)
]

-- a requirement that admits the version of its name is met by the entry
met-by : (given : ProblemParts) (entries : List EntryParts) → MatchAlike → AreEntriesOf given entries → AreReleased given entries → (wanted : RequirementParts) (version : VersionParts)
    → version_for (versions_of entries) wanted.name ≡ Some version → admits given wanted version ≡ true → IsMet given.environment entries wanted
met-by given entries alike are released wanted version picked admitted =
    let k = Has-from entries wanted.name version picked in
    let r : (r : Release) × (release_at given k.entry.name k.entry.version ≡ Some r) × IsRelease r = released k.entry k.there in
    let found : release_at given wanted.name version ≡ Some r.0 = sym (λ i. release_at given (k.named i) (k.versioned i)) ∙ r.1 in
    let taken : admits_release given wanted r.0 ≡ true = rw found at admitted in
    let fitting : fits given.environment wanted r.0 ≡ true = first_so (fits given.environment wanted r.0) _ taken in
    let tied = (Equal-is (version_cmp k.entry.version r.0.version)).0 (found-passes (has_version k.entry.version) (releases_on given k.entry.name) r.0 r.1) in (
      k.entry,
      k.there,
      record {
        named = k.named;
        matched = alike wanted.clauses k.entry.version r.0.version tied ∙ first_so (matches wanted.clauses r.0.version) _ fitting;
        runs = rw ((are k.entry k.there).python, r.1) (runs-from given.environment r.0.requires_python r.2.python (second_so (matches wanted.clauses r.0.version) _ fitting));
      },
    )

-- ---- closed

-- a dependency of an entry is an entry
closed-by : (given : ProblemParts) (entries : List EntryParts) → AreEntriesOf given entries → Solution (rules_of given) (version_for (versions_of entries)) → (e : EntryParts) (name : List ℕ)
    → Contains entries e → Contains e.dependencies name → IsAnEntry entries name
closed-by given entries are solution e name there depends =
    let d = ((are e there).dependencies name).0 depends in
    let m : (v : VersionParts) × (version_for (versions_of entries) d.wanted.name ≡ Some v) × (admits given d.wanted v ≡ true) =
    solution.dependencies_met d.node d.version d.wanted d.needed (rw d.on d.picked) d.counts in
    let k = Has-from entries d.wanted.name m.0 m.1 in
    record { entry = k.entry; there = k.there; named = k.named ∙ d.named }

-- ---- reached

-- a node that a requirement needs is on its name
on-own : (wanted : RequirementParts) (node : Node) → Contains (nodes_of wanted) node → wanted.name ≡ node.name
on-own wanted node h = elim (Contains-cons_cases (bare wanted.name) (map (with_extra wanted.name) wanted.extras) node h) [
  | inl e ↦ ap (λ (n : Node). n.name) e
  | inr r ↦ let k = Contains-map (with_extra wanted.name) wanted.extras node r in ap (λ (n : Node). n.name) k.2
]

-- what counts at a needed node is on the node's name, or on that of a dependency of its entry
reached-from : (given : ProblemParts) (entries : List EntryParts) → AreEntriesOf given entries → (link : Node) (version : VersionParts) (wanted : RequirementParts)
    → Needed (rules_of given) (version_for (versions_of entries)) link → version_for (versions_of entries) link.name ≡ Some version → Contains (wants given link version) wanted
    → Reached given.active entries link.name → Reached given.active entries wanted.name
reached-from given entries are link version wanted needed picked counted reached = elim (cases_Bool (bytes_eq wanted.name link.name)) [
  | inl same ↦ subst (Reached given.active entries) (sym ((bytes_eq-Decides wanted.name link.name).0 same)) reached
  | inr other ↦
      let k = Has-from entries link.name version picked in
      let depends : IsDependency given (version_for (versions_of entries)) k.entry.name wanted.name = record {
        other = λ same. cc (sym other ∙ (bytes_eq-Decides wanted.name link.name).1 (same ∙ k.named));
        node = link;
        on = sym k.named;
        needed = needed;
        version = version;
        picked = rw k.named picked;
        wanted = wanted;
        counts = counted;
        named = refl;
      } in
      by_entry k.entry wanted.name k.there (subst (Reached given.active entries) (sym k.named) reached) (((are k.entry k.there).dependencies wanted.name).1 depends)
]

-- the name of a needed node is reached
reached-by : (given : ProblemParts) (entries : List EntryParts) → AreEntriesOf given entries → (node : Node) → Needed (rules_of given) (version_for (versions_of entries)) node → Reached given.active entries node.name
reached-by given entries are _ (by_line wanted node there own) = subst (Reached given.active entries) (on-own wanted node own) (by_active wanted there)
reached-by given entries are _ (by_dependency link version wanted node needed picked counted own) =
    subst (Reached given.active entries) (on-own wanted node own) (reached-from given entries are link version wanted needed picked counted (reached-by given entries are link needed))

-- an entry is reached
entry-reached : (given : ProblemParts) (entries : List EntryParts) → AreEntriesOf given entries → Solution (rules_of given) (version_for (versions_of entries)) → (e : EntryParts) → Contains entries e → Reached given.active entries e.name
entry-reached given entries are solution e there =
    let v : (v : VersionParts) × (version_for (versions_of entries) e.name ≡ Some v) = version-there entries e there in
    let k : (node : Node) × Needed (rules_of given) (version_for (versions_of entries)) node × (node.name ≡ e.name) = solution.each_needed e.name v.0 v.1 in
    subst (Reached given.active entries) k.2 (reached-by given entries are k.0 k.1)

-- ---- locks

-- the lock of a problem of lines is one for the lines
pub IsLockFor-from : (given : ProblemParts) (lines : List (List ℕ)) (lock : LockParts) → IsLockOf given lock → given.active ≡ requirements given.environment lines
    → IsLock lock → AreReleased given lock.entries → MatchAlike → IsLockFor lines given.environment lock
IsLockFor-from given lines lock is active lawful released alike =
    let solution = is.best.solution in
    let asked : requirements given.environment lines ≡ given.active = sym active in
    record {
      lawful = lawful;
      met = λ wanted there.
          let m : (v : VersionParts) × (version_for (versions_of lock.entries) wanted.name ≡ Some v) × (admits given wanted v ≡ true) = solution.lines_met wanted (rw asked at there) in
          met-by given lock.entries alike is.entries released wanted m.0 m.1 m.2;
      closed = closed-by given lock.entries is.entries solution;
      reached = λ e there. rw asked (entry-reached given lock.entries is.entries solution e there);
      named = is.environment;
    }
