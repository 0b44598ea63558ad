-- What holds of every release that can be used.
use Rattle.std.proofs.Common.{◌≡◌, ℕ, Bool, true, false, cond, List, [], ◌∷◌, map, Option, Some, None, Result, Ok, Err, find, refl, ap}
use Rattle.std.specs.Prelude.{codes, filter, not, option_and_then, MatchOption}
use Rattle.std.proofs.lemmas.Bool.{and_from}
use Rattle.std.proofs.Math.Bool.{or-true}
use Rattle.std.specs.Char.{to_ascii_lowercase}
use Rattle.std.specs.List.{AllByRecursion}
use Rattle.std.specs.List.Sorted.{IsStrictlySortedBy}
use Rattle.std.specs.Option.{option_or}
use Rattle.serde_json.specs.Data.{Data, no_items}
use Rattle.serde_json.specs.Find.{as_array, as_bool, as_number, as_str, as_u64, get}
use Rattle.pep440.specs.declared.fault.Fault.{Fault as VersionFault}
use Rattle.distributions.specs.declared.file.DistributionFile.{DistributionFile}
use Rattle.distributions.specs.declared.form.Form.{Form}
use Rattle.distributions.specs.declared.form.Form.TheVariants.{Wheel, TarGz, Zip, Other}
use Rattle.distributions.specs.Digests.{digest_in, is_digest}
use Rattle.distributions.specs.Files.{is_lawful}
use Rattle.distributions.specs.Forms.{form_of, is_sdist, is_tar_gz, is_wheel, is_zip}
use Rattle.distributions.specs.Sizes.{is_size}
use Rattle.snapshot.specs.Files.{as_digest, as_filled, as_size, each_file, file_of, fitting_size, has_file, has_file_name, has_url, name_cmp, sdist_of, wheels_of}
use Rattle.snapshot.specs.Lawful.{IsFile, IsRelease, IsSdist, IsWheel}
use Rattle.snapshot.specs.Tied.OrderLaws.{name_total}
use Rattle.pep440.proofs.PythonFacts.{read-again}
use Rattle.pep440.specs.Python as python
use Rattle.pep440.specs.Python.{PythonParts}
use Rattle.snapshot.specs.Python.{or_skipped, python_of}
use Rattle.snapshot.specs.Release.{Release}
use Rattle.snapshot.specs.Releases.{fault_of_files, listed_of}
use Rattle.snapshot.specs.declared.skipped.SkipCause.TheVariants.{FileName, FileUrl, NoFile}
use Rattle.snapshot.specs.declared.listed.Listed.{Listed}
use Rattle.snapshot.specs.Shape.{each_at, each_from, field, key_path, object_of, optional, or_absent, required, text_of}
use Rattle.lists.proofs.SortedInserts.{all-inserted, sorted-inserted}
use Rattle.snapshot.proofs.SeveralSteps.{both, each-holds, found, inside, ok-inside, through}

-- ---- files

fits-by : (b : Bool) (m n : ℕ) → is_size m ≡ b → cond b (Some m) None ≡ Some n → is_size n ≡ true
fits-by true m n is e =
    let same : m ≡ n = cc in
    rw same at is
fits-by false m n is e = absurd cc

-- a size that fits
pub fits : (m n : ℕ) → fitting_size m ≡ Some n → is_size n ≡ true
fits m n e = fits-by (is_size m) m n refl e

sized : (d : Data) (n : ℕ) → as_size d ≡ Some n → is_size n ≡ true
sized d n e = through fitting_size (λ n. is_size n ≡ true) fits (option_and_then as_u64 (as_number d)) n e

digests-by : (b : Bool) (text digest : List ℕ) → is_digest text ≡ b → cond b (Some text) None ≡ Some digest → is_digest digest ≡ true
digests-by true text digest is e =
    let same : text ≡ digest = cc in
    rw same at is
digests-by false text digest is e = absurd cc

-- what a text is read as is a digest
pub digests : (text digest : List ℕ) → digest_in text ≡ Some digest → is_digest digest ≡ true
digests text digest e = digests-by (is_digest (map to_ascii_lowercase text)) (map to_ascii_lowercase text) digest refl e

digested : (d : Data) (digest : List ℕ) → as_digest d ≡ Some digest → is_digest digest ≡ true
digested d digest e = through digest_in (λ t. is_digest t ≡ true) digests (as_str d) digest e

-- a file that was read is lawful
file-lawful : (d : Data) (f : DistributionFile) → file_of d ≡ Ok f → IsFile f
unfolding file_of
file-lawful d f e =
    let object = both (object_of d) _ f e in
    let name = both (field (required as_filled) (codes "name") d) _ f object.then in
    let url = both (field (required as_str) (codes "url") d) _ f name.then in
    let size = both (field (required as_size) (codes "size") d) _ f url.then in
    let sha256 = both (field (required as_digest) (codes "sha256") d) _ f size.then in
    let same : record { name = name.first; url = url.first; size = size.first; sha256 = sha256.first } ≡ f = ok-inside _ _ sha256.then in
    let sizes = through as_size (λ n. is_size n ≡ true) sized (get (codes "size") d) size.first (found (key_path (codes "size")) _ size.first size.is) in
    let digest = through as_digest (λ t. is_digest t ≡ true) digested (get (codes "sha256") d) sha256.first (found (key_path (codes "sha256")) _ sha256.first sha256.is) in
    rw (← same) (and_from (is_size size.first) (is_digest sha256.first) sizes digest)

-- so are all files of a release that was read
pub listed-lawful : (d : Data) (l : Listed) → listed_of d ≡ Ok l → AllByRecursion IsFile l.files
unfolding listed_of
listed-lawful d l e =
    let object = both (object_of d) _ l e in
    let version = both (field (required as_str) (codes "version") d) _ l object.then in
    let python = both (field (optional [] as_str) (codes "requires_python") d) _ l version.then in
    let dependencies = both (field (optional no_items as_array) (codes "requires_dist") d) _ l python.then in
    let dist = both (each_at text_of (codes "requires_dist") dependencies.first) _ l dependencies.then in
    let yanked = both (field (or_absent false as_bool) (codes "yanked") d) _ l dist.then in
    let listed = both (field (required as_array) (codes "files") d) _ l yanked.then in
    let files = both (each_at file_of (codes "files") listed.first) _ l listed.then in
    let same : files.first ≡ l.files = ap (λ (q : Listed). q.files) (ok-inside _ _ files.then) in
    rw same at (each-holds file_of IsFile file-lawful 0 listed.first files.first (inside (key_path (codes "files")) (each_from file_of 0 listed.first) files.first files.is))

-- ---- the files to install from

wheel-from : (f : DistributionFile) → form_of f.name ≡ Wheel → IsFile f → IsWheel f
wheel-from f is file = and_from (is_wheel (form_of f.name)) (is_lawful f) (ap is_wheel is) file

sdist-from : (f : DistributionFile) → is_sdist (form_of f.name) ≡ true → IsFile f → IsSdist f
sdist-from f is file = and_from (is_sdist (form_of f.name)) (is_lawful f) is file

wheels-by : (o : Form) (f : DistributionFile) (rest : List DistributionFile) → form_of f.name ≡ o → IsFile f → AllByRecursion IsWheel rest → AllByRecursion IsWheel (cond (is_wheel o) (f ∷ rest) rest)
wheels-by Wheel f rest is file all = (wheel-from f is file, all)
wheels-by TarGz f rest is file all = all
wheels-by Zip f rest is file all = all
wheels-by Other f rest is file all = all

wheels-filtered : (files : List DistributionFile) → AllByRecursion IsFile files → AllByRecursion IsWheel (filter (λ f. is_wheel (form_of f.name)) files)
wheels-filtered [] all = tt
wheels-filtered (f ∷ files) all = wheels-by (form_of f.name) f (filter (λ f. is_wheel (form_of f.name)) files) refl all.0 (wheels-filtered files all.1)

wheels-lawful : (files : List DistributionFile) → AllByRecursion IsFile files → AllByRecursion IsWheel (wheels_of files)
wheels-lawful files all = all-inserted name_cmp IsWheel [] (filter (λ f. is_wheel (form_of f.name)) files) tt (wheels-filtered files all)

wheels-rise : (files : List DistributionFile) → IsStrictlySortedBy name_cmp (wheels_of files)
unfolding IsStrictlySortedBy
wheels-rise files = sorted-inserted name_total [] (filter (λ f. is_wheel (form_of f.name)) files) tt

-- a lawful file that passes a test, where there is one
abbrev MayPass : (DistributionFile → Bool) → Option DistributionFile → Type 0
MayPass p o = MatchOption o Unit (λ f. IsFile f × (p f ≡ true))

found-by : (p : DistributionFile → Bool) (b : Bool) (f : DistributionFile) (later : Option DistributionFile) → p f ≡ b → IsFile f → MayPass p later → MayPass p (cond b (Some f) later)
found-by p true f later is file rest = (file, is)
found-by p false f later is file rest = rest

found-passes : (p : DistributionFile → Bool) (files : List DistributionFile) → AllByRecursion IsFile files → MayPass p (find p files)
found-passes p [] all = tt
found-passes p (f ∷ files) all = found-by p (p f) f (find p files) refl all.0 (found-passes p files all.1)

sdist-by : (tar_gz zip : Option DistributionFile) → MayPass (λ f. is_tar_gz (form_of f.name)) tar_gz → MayPass (λ f. is_zip (form_of f.name)) zip → MatchOption (option_or tar_gz zip) Unit IsSdist
sdist-by (Some f) zip t z = sdist-from f (rw t.1 refl) t.0
sdist-by None (Some f) t z = sdist-from f (rw z.1 (or-true (is_tar_gz (form_of f.name)))) z.0
sdist-by None None t z = tt

sdist-lawful : (files : List DistributionFile) → AllByRecursion IsFile files → MatchOption (sdist_of files) Unit IsSdist
sdist-lawful files all = sdist-by _ _ (found-passes (λ f. is_tar_gz (form_of f.name)) files all) (found-passes (λ f. is_zip (form_of f.name)) files all)

-- ---- the release

not-skipped : (read : Result (Option PythonParts) VersionFault) (o : Option PythonParts) → or_skipped read ≡ Ok o → read ≡ Ok o
not-skipped (Ok found) o e = cc e
not-skipped (Err fault) o e = cc e

python-lawful : (text : List ℕ) (o : Option PythonParts) → python_of text ≡ Ok o → MatchOption o Unit (λ p. python.python_of p.text ≡ Ok (Some p))
python-lawful text None e = tt
python-lawful text (Some p) e = read-again text p (not-skipped (python.python_of text) (Some p) e)

-- files for which a release can be used
record AreFit (sdist : Option DistributionFile) (wheels : List DistributionFile) : Type 0 where
  pub some : has_file sdist wheels ≡ true
  pub names : each_file has_file_name sdist wheels ≡ true
  pub urls : each_file has_url sdist wheels ≡ true

fit-by : (some names urls : Bool) → cond (not some) (Some NoFile) (cond (not names) (Some FileName) (cond (not urls) (Some FileUrl) None)) ≡ None → (some ≡ true) × (names ≡ true) × (urls ≡ true)
fit-by true true true e = (refl, refl, refl)
fit-by false names urls e = absurd cc
fit-by true false urls e = absurd cc
fit-by true true false e = absurd cc

fit-files : (sdist : Option DistributionFile) (wheels : List DistributionFile) → fault_of_files sdist wheels ≡ None → AreFit sdist wheels
fit-files sdist wheels e =
    let all = fit-by (has_file sdist wheels) (each_file has_file_name sdist wheels) (each_file has_url sdist wheels) e in
    record { some = all.0; names = all.1; urls = all.2 }

-- a release of lawful files without a fault
pub release-lawful : (text : List ℕ) (files : List DistributionFile) (r : Release) → AllByRecursion IsFile files → python_of text ≡ Ok r.requires_python → r.sdist ≡ sdist_of files → r.wheels ≡ wheels_of files → fault_of_files r.sdist r.wheels ≡ None → IsRelease r
release-lawful text files r all python sdist wheels fit = record {
  python = python-lawful text r.requires_python python;
  sdist = rw sdist (sdist-lawful files all);
  wheels = rw wheels (wheels-lawful files all);
  order = rw wheels (wheels-rise files);
  files = (fit-files r.sdist r.wheels fit).some;
  names = (fit-files r.sdist r.wheels fit).names;
  urls = (fit-files r.sdist r.wheels fit).urls;
}
