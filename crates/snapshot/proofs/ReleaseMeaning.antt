-- What the values of a package that borrows its text mean: files, releases and the package.
use Rattle.std.proofs.Common.{◌≡◌, ℕ, ◌+◌, ◌≤◌, ◌<◌, Bool, true, false, List, [], ◌∷◌, ◌++◌, length, take, get_or, Option, Some, None, Result, Ok, fold, refl, sym, ap, ◌∙◌}
use Rattle.std.proofs.lemmas.Bool.{and_from}
use Rattle.std.specs.Prelude.{◌==◌, IfSome, codes}
use Rattle.std.specs.List.{AllByRecursion}
use Rattle.std.specs.declared.alloc.Global.{Global}
use Rattle.json.specs.Json as json
use Rattle.json.specs.Find as find
use Rattle.json.specs.Value.{items_view, value_view}
use Rattle.json.specs.declared.value.Value.{Value}
use Rattle.serde_json.specs.Data.{Data, null, boolean, number, string, array, object, unsigned, Items, no_items}
use Rattle.serde_json.specs.Find.{as_array, as_bool, as_str, get}
use Rattle.serde_json.specs.Read.{of_json, of_items}
use Rattle.markers.specs.Faults.{one_line}
use Rattle.markers.specs.Names.{name_of}
use Rattle.snapshot.specs.declared.fault.Fault.{Fault}
use Rattle.distributions.specs.declared.file.DistributionFile.{DistributionFile}
use Rattle.snapshot.specs.declared.listed.Listed.{Listed}
use Rattle.snapshot.specs.declared.release.reading.Gathering.{Gathering}
use Rattle.snapshot.specs.declared.release.reading.ReadReleases.{ReadReleases}
use Rattle.snapshot.specs.declared.usable.ReleaseOutcome.{ReleaseOutcome}
use Rattle.distributions.specs.Digests.{digest_in, is_digest}
use Rattle.distributions.specs.Sizes.{is_size}
use Rattle.snapshot.specs.Files.{file_of}
use Rattle.snapshot.specs.Lawful.{IsFile}
use Rattle.snapshot.specs.Packages.{as_name, package_of}
use Rattle.snapshot.specs.Releases.{listed_of, outcome_of, release_of, releases_in}
use Rattle.snapshot.specs.Shape.{◌>>=◌, each_at, each_from, field, found_at, key_path, optional, or_absent, required, text_of}
use Rattle.snapshot.specs.Tied.Gathering.{gather_release, gathered_view, kept, kept_view, nothing}
use Rattle.snapshot.specs.Tied.Meaning.{EachMeans, Has, HasItems, Means, dependencies_of}
use Rattle.snapshot.proofs.GatheredFacts.{gathered-is}
use Rattle.snapshot.proofs.ItemsOneByOne.{fold-last}
use Rattle.snapshot.proofs.MeaningFacts.{each_means, each_taken, found_nothing, has, is_object, more_means, text_is}
use Rattle.snapshot.proofs.NameFacts.{name_found}
use Rattle.snapshot.proofs.SeveralSteps.{both}
use Rattle.snapshot.proofs.UsableReleasesAreLawful.{digests}

pub all_push : {X : Type 0} (P : X → Type 0) (xs : List X) (x : X) → AllByRecursion P xs → P x → AllByRecursion P (xs ++ x ∷ [])
all_push P [] x all one = (one, tt)
all_push P (y ∷ ys) x all one = (all.0, all_push P ys x all.1 one)

-- ---- files

-- a file of these texts
abbrev pub file_with : List ℕ → List ℕ → ℕ → List ℕ → DistributionFile
file_with name url size sha256 = record { name = name; url = url; size = size; sha256 = sha256 }

pub file_means : (j : json.Json) (name url sha256 digest : List ℕ) (size : ℕ) → Has (codes "name") j (string name) → Has (codes "url") j (string url) → Has (codes "size") j (number (unsigned size)) → Has (codes "sha256") j (string sha256)
    → (length name == 0) ≡ false → is_size size ≡ true → digest_in sha256 ≡ Some digest → Means file_of j (file_with name url size digest)
unfolding file_of
file_means j name url sha256 digest size named at sized summed some fits in_lower d read =
    let the_name : get (codes "name") d ≡ Some (string name) = named d read in
    let the_url : get (codes "url") d ≡ Some (string url) = at d read in
    let the_size : get (codes "size") d ≡ Some (number (unsigned size)) = sized d read in
    let the_digest : get (codes "sha256") d ≡ Some (string sha256) = summed d read in
    rw (is_object (codes "name") d (string name) the_name, the_name, the_url, the_size, the_digest, some, fits, in_lower) refl

pub file_lawful : (name url sha256 digest : List ℕ) (size : ℕ) → is_size size ≡ true → digest_in sha256 ≡ Some digest → IsFile (file_with name url size digest)
file_lawful name url sha256 digest size fits in_lower = and_from (is_size size) (is_digest digest) fits (digests sha256 digest in_lower)

-- ---- releases

same_data : (d e : Data) → Some d ≡ Some e → d ≡ e
same_data d e is = cc

pub text_means : (j : json.Json) (s : List ℕ) → find.as_str j ≡ Some s → Means text_of j s
text_means j s is d read =
    let same : d ≡ string s = same_data d (string s) (sym read ∙ text_is j s is) in
    rw same refl

no_dependencies : (d : Data) (f : Result Items Fault) → f ≡ Ok no_items → (f >>= λ ds. each_at text_of (codes "requires_dist") ds) ≡ Ok []
unfolding each_from
no_dependencies d f is = rw is refl

pub absent_dependencies : (j : json.Json) → find.get (codes "requires_dist") j ≡ None → Means dependencies_of j []
absent_dependencies j at d read = no_dependencies d _ (rw (found_nothing (codes "requires_dist") j at d read) refl)

pub null_dependencies : (j e : json.Json) → find.get (codes "requires_dist") j ≡ Some e → e ≡ json.null → Means dependencies_of j []
null_dependencies j e at is d read = no_dependencies d _ (rw (has (codes "requires_dist") j e null at (ap of_json is) d read) refl)

-- an array that has to be there may be there
may_be_there : (path : List ℕ) (o : Option Data) (ds : Items) → found_at path (required as_array o) ≡ Ok ds → found_at path (optional no_items as_array o) ≡ Ok ds
may_be_there path None ds e = absurd cc
may_be_there path (Some null) ds e = absurd cc
may_be_there path (Some (boolean b)) ds e = absurd cc
may_be_there path (Some (number n)) ds e = absurd cc
may_be_there path (Some (string s)) ds e = absurd cc
may_be_there path (Some (array es)) ds e = e
may_be_there path (Some (object ms)) ds e = absurd cc

pub listed_dependencies : (j : json.Json) (vs : List (Value Global)) (r : Option (List (List ℕ))) → HasItems (required as_array) (codes "requires_dist") j vs → IfSome r (λ texts. EachMeans text_of vs texts)
    → IfSome r (λ texts. Means dependencies_of j texts)
listed_dependencies j vs None listed all = tt
listed_dependencies j vs (Some texts) listed all = λ d read.
    let found = listed d read in
    let optional_found = may_be_there (key_path (codes "requires_dist")) (get (codes "requires_dist") d) found.0 found.2 in
    rw (optional_found, each_means text_of vs texts found.0 0 all found.1) refl

-- a release of these parts
abbrev pub listed_with : List ℕ → List ℕ → List (List ℕ) → Bool → List DistributionFile → Listed
listed_with version python texts yanked files = record { version = version; requires_python = python; requires_dist = texts; yanked = yanked; files = files }

pub listed_means : (j : json.Json) (version python : List ℕ) (texts : List (List ℕ)) (yanked : Bool) (vs : List (Value Global)) (files : List DistributionFile) → Has (codes "version") j (string version)
    → Means (field (optional [] as_str) (codes "requires_python")) j python → Means dependencies_of j texts → Means (field (or_absent false as_bool) (codes "yanked")) j yanked
    → HasItems (required as_array) (codes "files") j vs → EachMeans file_of vs files → Means listed_of j (listed_with version python texts yanked files)
unfolding listed_of
listed_means j version python texts yanked vs files versioned asked depends flagged listed all d read =
    let the_version : get (codes "version") d ≡ Some (string version) = versioned d read in
    let dependencies = both (field (optional no_items as_array) (codes "requires_dist") d) (λ ds. each_at text_of (codes "requires_dist") ds) texts (depends d read) in
    let found = listed d read in
    rw (is_object (codes "version") d (string version) the_version, the_version, asked d read, dependencies.is, dependencies.then, flagged d read, found.2, each_means file_of vs files found.0 0 all found.1) refl

pub release_means : (j : json.Json) (r : Listed) → Means listed_of j r → Means release_of j (outcome_of r)
unfolding release_of
release_means j r listed d read = rw (listed d read) refl

-- ---- packages

-- how far the releases of a package are gone through
pub record GatheredSoFar (name : List ℕ) (vs : List (Value Global)) (place : ℕ) (g : Gathering) : Type 0 where
  pub outcomes : List ReleaseOutcome
  pub each : EachMeans release_of (take place vs) outcomes
  pub is : gathered_view place g ≡ fold (gather_release name) nothing outcomes

pub none_gathered : (name : List ℕ) (vs : List (Value Global)) (g : Gathering) → gathered_view 0 g ≡ nothing → GatheredSoFar name vs 0 g
none_gathered name vs g is = record { outcomes = []; each = tt; is = is }

pub one_gathered : (name : List ℕ) (vs : List (Value Global)) (place : ℕ) (w : Value Global) (g h : Gathering) (o : ReleaseOutcome) → place < length vs → GatheredSoFar name vs place g
    → Means release_of (value_view (get_or vs place w)) o → gathered_view (place + 1) h ≡ gather_release name (gathered_view place g) o → GatheredSoFar name vs (place + 1) h
one_gathered name vs place w g h o lt s means added = record {
  outcomes = s.outcomes ++ o ∷ [];
  each = more_means release_of vs place w s.outcomes o lt s.each means;
  is = added ∙ ap (λ view. gather_release name view o) s.is ∙ sym (fold-last (gather_release name) nothing s.outcomes o);
}

releases_by : (name : List ℕ) (ds : Items) (outcomes : List ReleaseOutcome) → each_from release_of 0 ds ≡ Ok outcomes → releases_in name ds ≡ Ok (kept (fold (gather_release name) nothing outcomes))
unfolding releases_in
releases_by name ds outcomes e = rw (e, gathered-is name outcomes) refl

pub all_gathered : (name : List ℕ) (vs : List (Value Global)) (place : ℕ) (g : Gathering) → length vs ≤ place → GatheredSoFar name vs place g → (ds : Items) → of_items (items_view vs) ≡ Some ds → releases_in name ds ≡ Ok (kept_view g)
all_gathered name vs place g le s ds e =
    releases_by name ds s.outcomes (each_means release_of vs s.outcomes ds 0 (each_taken release_of vs place s.outcomes le s.each) e)
    ∙ ap (λ (all : ReadReleases). let whole : Result ReadReleases Fault = Ok all in whole) (ap kept (sym s.is))

pub package_means : (j : json.Json) (text name : List ℕ) (vs : List (Value Global)) (read : ReadReleases) → Has (codes "name") j (string text) → one_line (name_of text) ≡ Ok name
    → HasItems (required as_array) (codes "releases") j vs → ((ds : Items) → of_items (items_view vs) ≡ Some ds → releases_in name ds ≡ Ok read)
    → Means package_of j (record { kept = record { name = name; releases = read.releases }; skipped = read.skipped })
unfolding package_of
package_means j text name vs read named is listed gathered d at =
    let the_name : get (codes "name") d ≡ Some (string text) = named d at in
    let found = listed d at in
    let the_text : field (required as_str) (codes "name") d ≡ Ok text = rw the_name refl in
    let spelled : field (required as_name) (codes "name") d ≡ Ok name = name_found (key_path (codes "name")) (get (codes "name") d) text name the_text is in
    rw (is_object (codes "name") d (string text) the_name, spelled, found.2, gathered found.0 found.1) refl
