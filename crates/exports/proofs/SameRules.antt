-- The best solution and the locks are the same where the answers are.
use Rattle.std.proofs.Common.{◌≡◌, ◌∙◌, ◌⊎◌, inl, inr, ℕ, List, [], ◌∷◌, Contains, Option, Some, None, find, refl, ap, subst, sym}
use Rattle.std.specs.List.{AllByRecursion}
use Rattle.std.proofs.lemmas.Bool.{cases_Bool}
use Rattle.std.proofs.lemmas.Slice.Eq.{bytes_eq-Decides}
use Rattle.markers.specs.Environment.{Texts}
use Rattle.pep440.specs.Version.{VersionParts}
use Rattle.pep508.specs.Requirement.{RequirementParts}
use Rattle.problems.specs.Admission.{admits, has_version, release_at}
use Rattle.problems.specs.Problem.{ProblemParts}
use Rattle.problems.specs.Rules.{rules_of, wants}
use Rattle.problems.specs.Solutions.{version_for}
use Rattle.problems.specs.declared.node.Node.{Node}
use Rattle.problems.proofs.Equals.{lawful-rules}
use Rattle.pylock.specs.Packages.{EntryParts}
use Rattle.search.specs.Rules.{IsLawful, Rules}
use Rattle.search.specs.Solutions.{IsBest, Needed, Solution}
use Rattle.snapshot.specs.Packages.{Index, is_named, releases_of}
use Rattle.snapshot.specs.Release.{Release}
use Rattle.snapshot.specs.declared.package.Package.{Package}
use Rattle.states.specs.Locks.{IsDependency, IsEntry, python_text, sdist_of, versions_of, wheels_of}
use Rattle.exports.specs.Alike.{AnswersAlike, CanAsk}
use Rattle.exports.specs.Laws.{Asking, HasSameBest, HasSameLock, problem_in}
use Rattle.exports.proofs.AgreeingRules.{Agree, agree-back, answering, best-back, best-there, needed-there, reached-wants, solution-there}
use Rattle.exports.proofs.ReachedRules.{rules-agree, rules-answering}

-- ---- what is locked

-- of problems whose rules agree on what can be asked, over one index: a solution of both has the same dependencies
dependency-moves : (given other : ProblemParts) (Asked : RequirementParts → Type 0) → Agree (rules_of given) (admits other) (wants other) Asked → answering (rules_of given) (admits other) (wants other) ≡ rules_of other
    → (s : List ℕ → Option VersionParts) → Solution (rules_of given) s → (own name : List ℕ) → IsDependency given s own name → IsDependency other s own name
dependency-moves given other Asked agree is s solution own name d =
    let had : (n : List ℕ) (v : VersionParts) → s n ≡ Some v → s n ≡ Some v = λ n v e. e in
    let picked : s d.node.name ≡ Some d.version = ap s d.on ∙ d.picked in record {
      other = d.other;
      node = d.node;
      on = d.on;
      needed = subst (λ (rules : Rules (List ℕ) Node VersionParts RequirementParts). Needed rules s d.node) is
          (needed-there (rules_of given) (lawful-rules given) (admits other) (wants other) Asked agree s s solution had d.node d.needed);
      version = d.version;
      picked = d.picked;
      wanted = d.wanted;
      counts = subst (λ (wanted : List RequirementParts). Contains wanted d.wanted)
          (reached-wants (rules_of given) (lawful-rules given) (admits other) (wants other) Asked agree s s solution had d.node d.version d.needed picked) d.counts;
      named = d.named;
    }

-- so they lock the same for a name
entry-moves : (given other : ProblemParts) (Asked : RequirementParts → Type 0) → Agree (rules_of given) (admits other) (wants other) Asked → answering (rules_of given) (admits other) (wants other) ≡ rules_of other
    → Agree (rules_of other) (admits given) (wants given) Asked → answering (rules_of other) (admits given) (wants given) ≡ rules_of given
    → (s : List ℕ → Option VersionParts) → Solution (rules_of given) s → Solution (rules_of other) s → (e : EntryParts) → given.index ≡ other.index → IsEntry given s e → IsEntry other s e
entry-moves given other Asked agree is agree_too is_too s solution solution_too e indexes k =
    let release : release_at given e.name e.version ≡ release_at other e.name e.version = ap (λ (index : Index). find (has_version e.version) (releases_of e.name index.packages)) indexes in record {
      python = k.python ∙ ap python_text release;
      sdist = k.sdist ∙ ap sdist_of release;
      wheels = k.wheels ∙ ap wheels_of release;
      rising = k.rising;
      dependencies = λ name. (
        λ has. dependency-moves given other Asked agree is s solution e.name name ((k.dependencies name).0 has),
        λ there. (k.dependencies name).1 (dependency-moves other given Asked agree_too is_too s solution_too e.name name there),
      );
    }

abbrev BestOf : (List ℕ → Option VersionParts) → Rules (List ℕ) Node VersionParts RequirementParts → Type 0
BestOf s rules = IsBest rules s

pub best-same : (lines : List (List ℕ)) (index : Index) (environment other : Texts) → AnswersAlike lines index environment other → HasSameBest lines index environment other
best-same lines index environment other h kept only s =
    let asking : Asking = record { lines = lines; index = index; kept = kept; only_kept = only } in
    let here : ProblemParts = problem_in asking environment in
    let there : ProblemParts = problem_in asking other in
    let Asked : RequirementParts → Type 0 = CanAsk lines index in
    let law : IsLawful (rules_of here) = lawful-rules here in
    let agree : Agree (rules_of here) (admits there) (wants there) Asked = rules-agree asking environment other h in
    let is : answering (rules_of here) (admits there) (wants there) ≡ rules_of there = rules-answering asking environment other h in
    let agree_too : Agree (rules_of there) (admits here) (wants here) Asked =
    subst (λ (rules : Rules (List ℕ) Node VersionParts RequirementParts). Agree rules (admits here) (wants here) Asked) is (agree-back (rules_of here) (admits there) (wants there) Asked agree) in
    let is_too : answering (rules_of there) (admits here) (wants here) ≡ rules_of here =
    ap (λ (rules : Rules (List ℕ) Node VersionParts RequirementParts). answering rules (admits here) (wants here)) (sym is) in (
      (
        λ best. subst (BestOf s) is (best-there (rules_of here) law (admits there) (wants there) Asked agree s best),
        λ best. best-back (rules_of here) law (admits there) (wants there) Asked agree s (subst (BestOf s) (sym is) best),
      ),
      λ best e.
          let solution : Solution (rules_of here) s = best.solution in
          let solution_too : Solution (rules_of there) s =
          subst (λ (rules : Rules (List ℕ) Node VersionParts RequirementParts). Solution rules s) is (solution-there (rules_of here) law (admits there) (wants there) Asked agree s solution) in (
            λ k. entry-moves here there Asked agree is agree_too is_too s solution solution_too e refl k,
            λ k. entry-moves there here Asked agree_too is_too agree is s solution_too solution e refl k,
          ),
    )

pub lock-same : (lines : List (List ℕ)) (index : Index) (environment other : Texts) → HasSameBest lines index environment other → HasSameLock lines index environment other
lock-same lines index environment other h kept only lock k =
    let same = h kept only (version_for (versions_of lock.entries)) in record {
      environment = refl;
      snapshot = k.snapshot;
      rising = k.rising;
      best = same.0.0 k.best;
      entries = λ e there. (same.1 k.best e).0 (k.entries e there);
    }

-- ---- the releases of a name are those of its package

named-or-none : (P : Release → Type 0) (name : List ℕ) (packages ps : List Package) → AllByRecursion (λ p. AllByRecursion P (releases_of p.name packages)) ps
    → AllByRecursion P (releases_of name packages) ⊎ (find (is_named name) ps ≡ None)
named-or-none P name packages [] h = inr refl
named-or-none P name packages (p ∷ ps) h = elim (cases_Bool (is_named name p)) [
  | inl passes ↦ inl (subst (λ (n : List ℕ). AllByRecursion P (releases_of n packages)) ((bytes_eq-Decides p.name name).0 passes) h.0)
  | inr fails ↦ rw fails (named-or-none P name packages ps h.1)
]

pub each-named : (P : Release → Type 0) (packages : List Package) → AllByRecursion (λ p. AllByRecursion P (releases_of p.name packages)) packages → (name : List ℕ) → AllByRecursion P (releases_of name packages)
each-named P packages h name = elim (named-or-none P name packages packages h) [
  | inl all ↦ all
  | inr none ↦ rw none tt
]
