-- What holds of a release makes its entry lawful.
use Rattle.std.proofs.Common.{◌≡◌, ℕ, ◌==◌, ◌||◌, not, true, List, [], ◌∷◌, length, map, Option, Some, None, Ok, Less, refl, arith}
use Rattle.std.proofs.lemmas.Bool.{and_from}
use Rattle.std.proofs.lemmas.Bool.Decides.{nat_tests}
use Rattle.std.specs.Cmp.Lexicographic.{slice_cmp}
use Rattle.std.specs.List.{AllByRecursion, list_all}
use Rattle.std.specs.List.Sorted.{IsStrictlySortedBy}
use Rattle.std.specs.Option.{MatchOption, option_map, option_map_or}
use Rattle.std.specs.Ordering.{nat_cmp}
use Rattle.std.specs.Prelude.{is_some}
use Rattle.distributions.specs.Files.{is_lawful_sdist, is_lawful_wheel}
use Rattle.distributions.specs.declared.file.DistributionFile.{DistributionFile}
use Rattle.markers.specs.Names.{is_normal}
use Rattle.pep440.specs.Version.{VersionParts}
use Rattle.pylock.specs.Order.{rises}
use Rattle.pylock.specs.Packages.{are_dependencies, are_wheels, entry_of, is_package, is_python}
use Rattle.pep440.proofs.PythonFacts.{fits}
use Rattle.pep440.specs.Python.{PythonParts, python_of}
use Rattle.snapshot.specs.Files.{has_file, name_cmp}
use Rattle.snapshot.specs.Lawful.{IsRelease, IsSdist, IsWheel}
use Rattle.snapshot.specs.Release.{Release}
use Rattle.states.specs.Tied.Entries.{entry_with}
use Rattle.states.proofs.LawfulNames.{rises-from}

-- ---- files

some_sdist-fits : (s : Option DistributionFile) → MatchOption s Unit IsSdist → option_map_or is_lawful_sdist s true ≡ true
some_sdist-fits None h = refl
some_sdist-fits (Some f) h = h

each-fits : (files : List DistributionFile) → AllByRecursion IsWheel files → list_all is_lawful_wheel files ≡ true
each-fits [] h = refl
each-fits (f ∷ rest) h = and_from (is_lawful_wheel f) (list_all is_lawful_wheel rest) h.0 (each-fits rest h.1)

above-names : (f : DistributionFile) (files : List DistributionFile) → AllByRecursion (λ g. name_cmp f g ≡ Less) files
    → AllByRecursion (λ t. slice_cmp nat_cmp f.name t ≡ Less) (map (λ e. e.name) files)
above-names f [] h = tt
above-names f (g ∷ rest) h = (h.0, above-names f rest h.1)

sorted-names : (files : List DistributionFile) → IsStrictlySortedBy name_cmp files → IsStrictlySortedBy (slice_cmp nat_cmp) (map (λ e. e.name) files)
unfolding IsStrictlySortedBy
sorted-names [] h = tt
sorted-names (f ∷ rest) h = (above-names f rest h.0, sorted-names rest h.1)

wheels-fit : (files : List DistributionFile) → AllByRecursion IsWheel files → IsStrictlySortedBy name_cmp files → are_wheels files ≡ true
wheels-fit files each sorted =
    and_from (rises (map (λ e. e.name) files)) (list_all is_lawful_wheel files)
    (rises-from (map (λ e. e.name) files) (sorted-names files sorted)) (each-fits files each)

some_file : (s : Option DistributionFile) (files : List DistributionFile) → has_file s files ≡ true → (is_some s || not (length files == 0)) ≡ true
some_file (Some f) files h = refl
some_file None (f ∷ rest) h = grind (arith, nat_tests)
some_file None [] h = cc

-- ---- Python

some_python-fits : (p : Option PythonParts) → MatchOption p Unit (λ p. python_of p.text ≡ Ok (Some p)) → option_map_or is_python (option_map (λ p. p.text) p) true ≡ true
some_python-fits None h = refl
some_python-fits (Some p) h = fits p h

-- ---- entries

-- the entry of a release that can be used is lawful
entry-fits : (name : List ℕ) (version : VersionParts) (names : List (List ℕ)) (r : Release) → is_normal name ≡ true → are_dependencies name names ≡ true → IsRelease r
    → is_package (entry_with (name, version) names (Some r)) ≡ true
entry-fits name version names r normal needs h =
    rw (normal, needs, some_python-fits r.requires_python h.python, some_sdist-fits r.sdist h.sdist, wheels-fit r.wheels h.wheels h.order, some_file r.sdist r.wheels h.files) refl

pub entry-made : (name : List ℕ) (version : VersionParts) (names : List (List ℕ)) (r : Release) → is_normal name ≡ true → are_dependencies name names ≡ true → IsRelease r
    → entry_of (entry_with (name, version) names (Some r)) ≡ Some (entry_with (name, version) names (Some r))
entry-made name version names r normal needs h = rw (entry-fits name version names r normal needs h) refl
