-- What holds of the parts of an entry.
use Rattle.std.proofs.Common.{◌≡◌, ◌^◌, ◌&&◌, true, false, Bool, List, [], ◌∷◌, Option, Some, None, option_to_list, nat_lt, refl, length, map, not, ◌==◌, ◌||◌, is_some}
use Rattle.std.specs.Prelude.{if◌then◌else◌}
use Rattle.std.proofs.lemmas.Bool.{and_parts}
use Rattle.std.specs.List.{list_all}
use Rattle.std.specs.Option.{option_map_or}
use Rattle.distributions.specs.declared.file.DistributionFile.{DistributionFile}
use Rattle.distributions.specs.Digests.{is_digest}
use Rattle.distributions.specs.Files.{is_lawful, is_lawful_sdist, is_lawful_wheel}
use Rattle.distributions.specs.Forms.{form_of, is_sdist, is_wheel}
use Rattle.lists.specs.Rising.{rises}
use Rattle.pep440.proofs.PythonFacts.{fits as fits-python}
use Rattle.pep440.specs.Python.{PythonParts}
use Rattle.markers.specs.Names.{is_normal}
use Rattle.pylock.specs.Packages.{EntryParts, are_dependencies, are_wheels, entry_of, is_package, is_python}
use Rattle.pylock.specs.Python.{IsPython, python_text}

pub all_pass : {X : Type 0} (xs : List X) → list_all (λ _. true) xs ≡ true
all_pass [] = refl
all_pass (x ∷ xs) = all_pass xs

-- the parts of an entry, one by one
pub record Parts (p : EntryParts) : Type 0 where
  pub name : is_normal p.name ≡ true
  pub python : option_map_or is_python p.requires_python true ≡ true
  pub dependencies : are_dependencies p.name p.dependencies ≡ true
  pub sdist : option_map_or is_lawful_sdist p.sdist true ≡ true
  pub wheels : are_wheels p.wheels ≡ true
  pub file : (is_some p.sdist || not (length p.wheels == 0)) ≡ true

split : (a b c d e f : Bool) → (a && b && c && d && e && f) ≡ true → (a ≡ true) × (b ≡ true) × (c ≡ true) × (d ≡ true) × (e ≡ true) × (f ≡ true)
split true true true true true true h = (refl, refl, refl, refl, refl, refl)
split true true true true true false h = absurd cc
split true true true true false f h = absurd cc
split true true true false e f h = absurd cc
split true true false d e f h = absurd cc
split true false c d e f h = absurd cc
split false b c d e f h = absurd cc

pub parts : (p : EntryParts) → is_package p ≡ true → Parts p
parts p h =
    let s = split (is_normal p.name) (option_map_or is_python p.requires_python true) (are_dependencies p.name p.dependencies) (option_map_or is_lawful_sdist p.sdist true) (are_wheels p.wheels) (is_some p.sdist || not (length p.wheels == 0)) h in
    record { name = s.0; python = s.1; dependencies = s.2; sdist = s.3; wheels = s.4; file = s.5 }

abbrev pub fits : DistributionFile → Bool
fits f = nat_lt f.size (2 ^ 63)

wheel_fits : (f : DistributionFile) → is_lawful_wheel f ≡ true → fits f ≡ true
wheel_fits f h = (and_parts (fits f) (is_digest f.sha256) (and_parts (is_wheel (form_of f.name)) (is_lawful f) h).1).0

sdist_fits : (f : DistributionFile) → is_lawful_sdist f ≡ true → fits f ≡ true
sdist_fits f h = (and_parts (fits f) (is_digest f.sha256) (and_parts (is_sdist (form_of f.name)) (is_lawful f) h).1).0

all_fit : (fs : List DistributionFile) → list_all is_lawful_wheel fs ≡ true → list_all fits fs ≡ true
all_fit [] h = refl
all_fit (f ∷ fs) h = let h2 = and_parts (is_lawful_wheel f) (list_all is_lawful_wheel fs) h in rw (wheel_fits f h2.0) (all_fit fs h2.1)

-- the sizes of the files of an entry fit
pub wheels_fit : (p : EntryParts) → is_package p ≡ true → list_all fits p.wheels ≡ true
wheels_fit p h = all_fit p.wheels (and_parts (rises (map (λ f. f.name) p.wheels)) (list_all is_lawful_wheel p.wheels) (parts p h).wheels).1

optional_fits : (o : Option DistributionFile) → option_map_or is_lawful_sdist o true ≡ true → list_all fits (option_to_list o) ≡ true
optional_fits None h = refl
optional_fits (Some f) h = rw (sdist_fits f h) refl

pub sdist_fit : (p : EntryParts) → is_package p ≡ true → list_all fits (option_to_list p.sdist) ≡ true
sdist_fit p h = optional_fits p.sdist (parts p h).sdist

-- ---- an entry that is made

-- what was read passes as what a package asks of Python
pub python-fits : (python : Option PythonParts) → IsPython python → option_map_or is_python (python_text python) true ≡ true
python-fits None is = refl
python-fits (Some p) is = fits-python p is

-- the tests of an entry's parts, as they were made
pub record Passed (p : EntryParts) : Type 0 where
  pub name : is_normal p.name ≡ true
  pub python : option_map_or is_python p.requires_python true ≡ true
  pub dependencies : true ≡ are_dependencies p.name p.dependencies
  pub sdist : true ≡ option_map_or is_lawful_sdist p.sdist true
  pub wheels : true ≡ are_wheels p.wheels
  pub file : true ≡ (is_some p.sdist || not (length p.wheels == 0))

pub package-from : (p : EntryParts) → Passed p → is_package p ≡ true
package-from p h = rw (h.name, h.python, ← h.dependencies, ← h.sdist, ← h.wheels, ← h.file) refl

none-by : (a b c d e f : Bool) (p : EntryParts) → b ≡ false → None ≡ (if a && b && c && d && e && f then Some p else None)
none-by true b c d e f p is = rw is refl
none-by false b c d e f p is = refl

-- there is no entry of a text that is no set
pub no-entry : (p : EntryParts) → option_map_or is_python p.requires_python true ≡ false → None ≡ entry_of p
no-entry p is =
    none-by (is_normal p.name) (option_map_or is_python p.requires_python true) (are_dependencies p.name p.dependencies) (option_map_or is_lawful_sdist p.sdist true)
    (are_wheels p.wheels) (is_some p.sdist || not (length p.wheels == 0)) p is

pub entry-from : (p : EntryParts) → is_package p ≡ true → Some p ≡ entry_of p
entry-from p is = rw is refl
