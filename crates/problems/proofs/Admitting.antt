-- Which releases are admitted, where lines are asked about pre-releases and yanked releases only if there are some.
use Rattle.std.proofs.Common.{◌≡◌, ◌&&◌, ◌||◌, not, Bool, true, false, List, [], ◌∷◌, map, refl, ap, ◌∙◌}
use Rattle.std.specs.List.{AllByRecursion, list_any}
use Rattle.markers.specs.Environment.{Texts}
use Rattle.pep440.specs.Version.{is_pre}
use Rattle.pep508.specs.Requirement.{RequirementParts}
use Rattle.snapshot.specs.Release.{Release}
use Rattle.problems.specs.Admission.{admits_release, admits_where, takes_pre, takes_yanked}
use Rattle.problems.specs.Problem.{ProblemParts, releases_on}

or-first : (a b : Bool) → (a || b) ≡ false → a ≡ false
or-first true b e = e
or-first false b e = refl

or-rest : (a b : Bool) → (a || b) ≡ false → b ≡ false
or-rest true b e = absurd cc
or-rest false b e = e

-- it is the same whether one asks always, or only where a release passes the test
abbrev AllAlike : (Release → Bool) → Bool → Bool → List Release → Type 0
AllAlike test asked told releases = AllByRecursion (λ release. (not (test release) || asked) ≡ (not (test release) || told)) releases

alike : (test : Release → Bool) (told : Bool) (releases : List Release) → AllAlike test told told releases
alike test told [] = tt
alike test told (release ∷ releases) = (refl, alike test told releases)

unasked : (test : Release → Bool) (told : Bool) (releases : List Release) → list_any test releases ≡ false → AllAlike test false told releases
unasked test told [] none = tt
unasked test told (release ∷ releases) none = (rw (or-first (test release) _ none) refl, unasked test told releases (or-rest _ _ none))

asked : (test : Release → Bool) (some told : Bool) (releases : List Release) → list_any test releases ≡ some → AllAlike test (some && told) told releases
asked test true told releases e = alike test told releases
asked test false told releases e = unasked test told releases e

admitted-by : (environment : Texts) (wanted : RequirementParts) (pre yanked takes_pre takes_yanked : Bool) (releases : List Release)
    → AllAlike (λ release. is_pre release.version) pre takes_pre releases → AllAlike (λ release. release.yanked) yanked takes_yanked releases
    → map (admits_where environment wanted pre yanked) releases ≡ map (admits_where environment wanted takes_pre takes_yanked) releases
admitted-by environment wanted pre yanked takes_pre takes_yanked [] p y = refl
admitted-by environment wanted pre yanked takes_pre takes_yanked (release ∷ releases) p y =
    let rest = admitted-by environment wanted pre yanked takes_pre takes_yanked releases p.1 y.1 in
    rw (p.0, y.0, rest) refl

admitted : (environment : Texts) (wanted : RequirementParts) (takes_pre takes_yanked : Bool) (releases : List Release)
    → map (admits_where environment wanted (list_any (λ release. is_pre release.version) releases && takes_pre) (list_any (λ release. release.yanked) releases && takes_yanked)) releases
    ≡ map (admits_where environment wanted takes_pre takes_yanked) releases
admitted environment wanted takes_pre takes_yanked releases =
    admitted-by environment wanted _ _ takes_pre takes_yanked releases
    (asked (λ release. is_pre release.version) _ takes_pre releases refl) (asked (λ release. release.yanked) _ takes_yanked releases refl)

-- what is asked only where a release passes admits the same releases
pub admitted-all : (given : ProblemParts) (wanted : RequirementParts) (environment : Texts) (pre yanked : Bool) (releases : List Release) → environment ≡ given.environment → releases ≡ releases_on given wanted.name
    → pre ≡ (list_any (λ release. is_pre release.version) releases && takes_pre given wanted) → yanked ≡ (list_any (λ release. release.yanked) releases && takes_yanked given wanted)
    → map (admits_where environment wanted pre yanked) releases ≡ map (admits_release given wanted) (releases_on given wanted.name)
admitted-all given wanted environment pre yanked releases e r p y =
    (λ i. map (admits_where (e i) wanted (p i) (y i)) releases) ∙ admitted given.environment wanted (takes_pre given wanted) (takes_yanked given wanted) releases
    ∙ ap (map (admits_release given wanted)) r

pub and-then : (a b c : Bool) → a ≡ true → c ≡ b → c ≡ (a && b)
and-then true b c is e = e
and-then false b c is e = absurd cc

pub and-else : (a b c : Bool) → a ≡ false → c ≡ false → c ≡ (a && b)
and-else true b c is e = absurd cc
and-else false b c is e = e
