-- One more release of a package.
use Rattle.std.proofs.Common.{◌≡◌, ℕ, ◌+◌, Bool, true, false, cond, not, List, [], ◌++◌, Result, Ok, Err, sym, ap, ◌∙◌, refl, true≢false, ◌⊎◌, inl, inr}
use Rattle.std.proofs.lemmas.List.{append-nil}
use Rattle.std.specs.BTreeSet.{insert_key}
use Rattle.std.specs.List.{list_any}
use Rattle.serde_json.specs.Data.{Items}
use Rattle.snapshot.specs.declared.fault.Fault.{Fault}
use Rattle.snapshot.specs.declared.fault.Fault.TheVariants.{OutOfMemory}
use Rattle.snapshot.specs.declared.release.reading.ReadReleases.{ReadReleases}
use Rattle.snapshot.specs.Release.{Release}
use Rattle.snapshot.specs.Shape.{◌>>=◌, each_from}
use Rattle.snapshot.proofs.GatheredFacts.{gathered-is}
use Rattle.snapshot.proofs.ItemsOneByOne.{gather}
use Rattle.snapshot.proofs.SeveralSteps.{ok-inside}
use Rattle.snapshot.specs.Releases.{has_version_of, newer_cmp, newest_first, release_of, releases_in, skipped_of, usable_of}
use Rattle.snapshot.specs.Tied.Gathering.{Gathered, gather_release, kept, left_out, nothing}
use Rattle.snapshot.specs.declared.skipped.SkipCause.TheVariants.{Duplicate}
use Rattle.snapshot.specs.declared.skipped.SkipCause.{SkipCause}
use Rattle.snapshot.specs.declared.skipped.Skipped.{Skipped}
use Rattle.snapshot.specs.declared.usable.ReleaseOutcome.{ReleaseOutcome}

new_by : (b added : Bool) → added ≡ not b → added ≡ true → b ≡ false
new_by true added is new = absurd (true≢false (sym new ∙ is))
new_by false added is new = refl

old_by : (b added : Bool) → added ≡ not b → added ≡ false → b ≡ true
old_by true added is old = refl
old_by false added is old = absurd (true≢false (sym is ∙ old))

-- a release that is put into its place
pub release_kept : (name : List ℕ) (place : ℕ) (version : List ℕ) (keys more : List Release) (skipped : List Skipped) (r : Release) (added : Bool) → more ≡ insert_key newer_cmp keys r → added ≡ not (list_any (has_version_of r) keys) → added ≡ true
    → record { place = place + 1; releases = more; skipped = skipped } ≡ gather_release name (record { place = place; releases = keys; skipped = skipped }) (record { version = version; release = Ok r })
release_kept name place version keys more skipped r added put is new =
    let none : list_any (has_version_of r) keys ≡ false = new_by (list_any (has_version_of r) keys) added is new in
    let same : skipped ≡ skipped ++ cond (list_any (has_version_of r) keys) (left_out name place version Duplicate) [] = rw none (sym (append-nil skipped)) in
    λ i. record { place = place + 1; releases = put i; skipped = same i }

-- a release of a version that is there
pub release_repeated : (name : List ℕ) (place : ℕ) (version : List ℕ) (keys more : List Release) (skipped all : List Skipped) (r : Release) (added : Bool) → more ≡ insert_key newer_cmp keys r → added ≡ not (list_any (has_version_of r) keys) → added ≡ false
    → all ≡ skipped ++ left_out name place version Duplicate → record { place = place + 1; releases = more; skipped = all } ≡ gather_release name (record { place = place; releases = keys; skipped = skipped }) (record { version = version; release = Ok r })
release_repeated name place version keys more skipped all r added put is old left =
    let some : list_any (has_version_of r) keys ≡ true = old_by (list_any (has_version_of r) keys) added is old in
    let same : all ≡ skipped ++ cond (list_any (has_version_of r) keys) (left_out name place version Duplicate) [] = rw some left in
    λ i. record { place = place + 1; releases = put i; skipped = same i }

-- a release that can't be used
pub release_left : (name : List ℕ) (place : ℕ) (version : List ℕ) (keys : List Release) (skipped all : List Skipped) (cause : SkipCause) → all ≡ skipped ++ left_out name place version cause
    → record { place = place + 1; releases = keys; skipped = all } ≡ gather_release name (record { place = place; releases = keys; skipped = skipped }) (record { version = version; release = Err cause })
release_left name place version keys skipped all cause left = λ i. record { place = place + 1; releases = keys; skipped = left i }

-- what an array lists for a package
abbrev listed_with : List ℕ → Result (List ReleaseOutcome) Fault → Result ReadReleases Fault
listed_with name read = read >>= λ listed. Ok (record { releases = newest_first (usable_of listed); skipped = skipped_of name listed })

kept_by : (name : List ℕ) (read : Result (List ReleaseOutcome) Fault) (g : Gathered) → gather (gather_release name) nothing read ≡ Ok g → listed_with name read ≡ Ok (kept g)
kept_by name (Ok listed) g is =
    ap (λ (r : ReadReleases). let whole : Result ReadReleases Fault = Ok r in whole) (sym (gathered-is name listed) ∙ ap (λ (h : Gathered). kept h) (ok-inside _ _ is))
kept_by name (Err e) g is = absurd cc

-- what is gathered of all that an array lists
pub kept_gathered : (name : List ℕ) (ds : Items) (g : Gathered) → gather (gather_release name) nothing (each_from release_of 0 ds) ≡ Ok g → releases_in name ds ≡ Ok (kept g)
unfolding releases_in
kept_gathered name ds g is = kept_by name (each_from release_of 0 ds) g is

fault_by : (name : List ℕ) (read : Result (List ReleaseOutcome) Fault) (e : Fault) → gather (gather_release name) nothing read ≡ Err e → listed_with name read ≡ Err e
fault_by name (Ok listed) e is = absurd cc
fault_by name (Err d) e is = cc

pub kept_refused : (name : List ℕ) (ds : Items) (e : Fault) → (e ≡ OutOfMemory) ⊎ (gather (gather_release name) nothing (each_from release_of 0 ds) ≡ Err e) → (e ≡ OutOfMemory) ⊎ (releases_in name ds ≡ Err e)
unfolding releases_in
kept_refused name ds e (inl memory) = inl memory
kept_refused name ds e (inr is) = inr (fault_by name (each_from release_of 0 ds) e is)
