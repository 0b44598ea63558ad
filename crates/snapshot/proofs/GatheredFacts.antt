-- What is gathered one release after another is what the rule says of the whole list.
use Rattle.std.proofs.Common.{◌≡◌, ℕ, ◌+◌, Bool, true, false, cond, List, [], ◌∷◌, ◌++◌, length, take, Option, Some, None, Result, Ok, Err, find, fold, refl, sym, ap, ◌∙◌, append_assoc}
use Rattle.std.proofs.Math.Seq.{take-append_seam}
use Rattle.std.proofs.lemmas.List.{append-nil, length-append}
use Rattle.std.specs.BTreeSet.{insert_key}
use Rattle.std.specs.List.{cons_option, enumerate_from, filter_map, list_any}
use Rattle.std.specs.Prelude.{◌||◌, is_some}
use Rattle.std.specs.Result.{result_ok}
use Rattle.snapshot.specs.declared.skipped.SkipCause.{SkipCause}
use Rattle.snapshot.specs.declared.skipped.SkipCause.TheVariants.{Duplicate}
use Rattle.snapshot.specs.declared.skipped.Skipped.{Skipped}
use Rattle.snapshot.specs.declared.usable.ReleaseOutcome.{ReleaseOutcome}
use Rattle.snapshot.specs.Release.{Release}
use Rattle.snapshot.specs.Releases.{cause_behind, has_version_of, left_out_for, newer_cmp, newest_first, skipped_of, usable_of}
use Rattle.snapshot.specs.Tied.Gathering.{Gathered, gather_release, kept, left_out, nothing, skipped_at, with_release}
use Rattle.snapshot.proofs.FirstOfEqualsStays.{newest-first}
use Rattle.snapshot.proofs.ItemsOneByOne.{fold-last}

-- ---- the releases that are kept

-- the releases with that of one more outcome
abbrev with_outcome : List Release → ReleaseOutcome → List Release
with_outcome releases o = with_release releases o.release

usable-first : (so_far : List Release) (r : Result Release SkipCause) (others : List Release)
    → fold (insert_key newer_cmp) (with_release so_far r) others ≡ fold (insert_key newer_cmp) so_far (cons_option (result_ok r) others)
usable-first so_far (Ok r) others = refl
usable-first so_far (Err cause) others = refl

with-usable : (so_far : List Release) (listed : List ReleaseOutcome) → fold with_outcome so_far listed ≡ fold (insert_key newer_cmp) so_far (usable_of listed)
with-usable so_far [] = refl
with-usable so_far (o ∷ listed) = with-usable (with_outcome so_far o) listed ∙ usable-first so_far o.release (usable_of listed)

releases-gathered : (name : List ℕ) (g : Gathered) (listed : List ReleaseOutcome) → (fold (gather_release name) g listed).releases ≡ fold with_outcome g.releases listed
releases-gathered name g [] = refl
releases-gathered name g (o ∷ listed) = releases-gathered name (gather_release name g o) listed

-- ---- the releases that are left out

found_by : {X : Type 0} (b any : Bool) (x : X) (later : Option X) → any ≡ is_some later → (b || any) ≡ is_some (cond b (Some x) later)
found_by true any x later more = refl
found_by false any x later more = more

any-found : {X : Type 0} (p : X → Bool) (xs : List X) → list_any p xs ≡ is_some (find p xs)
any-found p [] = refl
any-found p (x ∷ xs) = found_by (p x) (list_any p xs) x (find p xs) (any-found p xs)

-- an equal version is kept exactly where one is listed that can be used
repeats : (r : Release) (releases : List Release) → list_any (has_version_of r) (newest_first releases) ≡ list_any (has_version_of r) releases
repeats r releases = any-found (has_version_of r) (newest_first releases) ∙ ap is_some (newest-first r releases) ∙ sym (any-found (has_version_of r) releases)

-- a release put before those that are left out behind it
before_others : Option Skipped → List Skipped → List Skipped
before_others None others = others
before_others (Some one) others = one ∷ others

-- those that are left out behind others
skipped_behind : List ℕ → List ReleaseOutcome → List ReleaseOutcome → List Skipped
skipped_behind name before [] = []
skipped_behind name before (o ∷ rest) = before_others (left_out_for name (length before) o.version (cause_behind before o.release)) (skipped_behind name (before ++ o ∷ []) rest)

one-more : {X : Type 0} (before : List X) (x : X) → length (before ++ x ∷ []) ≡ length before + 1
one-more before x = length-append before (x ∷ [])

-- the rule, gone through from the front
behind-front : (name : List ℕ) (before rest : List ReleaseOutcome)
    → filter_map (λ at. left_out_for name at.0 at.1.version (cause_behind (take at.0 (before ++ rest)) at.1.release)) (enumerate_from (length before) rest) ≡ skipped_behind name before rest
unfolding skipped_behind before_others
behind-front name before [] = refl
behind-front name before (o ∷ rest) =
    let all = append_assoc before (o ∷ []) rest in
    let more : filter_map (λ at. left_out_for name at.0 at.1.version (cause_behind (take at.0 (before ++ o ∷ rest)) at.1.release)) (enumerate_from (length before + 1) rest) ≡ skipped_behind name (before ++ o ∷ []) rest =
    (λ i. filter_map (λ at. left_out_for name at.0 at.1.version (cause_behind (take at.0 (sym all i)) at.1.release)) (enumerate_from (sym (one-more before o) i) rest)) ∙ behind-front name (before ++ o ∷ []) rest in
    front (left_out_for name (length before) o.version (cause_behind (take (length before) (before ++ o ∷ rest)) o.release)) (left_out_for name (length before) o.version (cause_behind before o.release)) _ _
    (ap (λ (front : List ReleaseOutcome). left_out_for name (length before) o.version (cause_behind front o.release)) (take-append_seam before (o ∷ rest))) more
  where
    front : (a b : Option Skipped) (xs ys : List Skipped) → a ≡ b → xs ≡ ys → cons_option a xs ≡ before_others b ys
    front None None xs ys e f = f
    front None (Some y) xs ys e f = absurd cc
    front (Some x) None xs ys e f = absurd cc
    front (Some x) (Some y) xs ys e f = let same : x ≡ y = cc in λ i. same i ∷ f i

-- a release that is gone through
one-skipped : (name : List ℕ) (before : List ReleaseOutcome) (version : List ℕ) (r : Result Release SkipCause) (others : List Skipped)
    → skipped_at name (length before) version (newest_first (usable_of before)) r ++ others ≡ before_others (left_out_for name (length before) version (cause_behind before r)) others
unfolding before_others
one-skipped name before version (Err cause) others = refl
one-skipped name before version (Ok r) others = rw (repeats r (usable_of before)) (by (list_any (has_version_of r) (usable_of before)))
  where
    by : (b : Bool) → cond b (left_out name (length before) version Duplicate) [] ++ others ≡ before_others (left_out_for name (length before) version (cond b (Some Duplicate) None)) others
    by true = refl
    by false = refl

skipped-gathered : (name : List ℕ) (g : Gathered) (before listed : List ReleaseOutcome) → g.place ≡ length before → g.releases ≡ fold with_outcome [] before
    → (fold (gather_release name) g listed).skipped ≡ g.skipped ++ skipped_behind name before listed
unfolding skipped_behind
skipped-gathered name g before [] at kept = sym (append-nil g.skipped)
skipped-gathered name g before (o ∷ listed) at kept =
    let next = gather_release name g o in
    let place : next.place ≡ length (before ++ o ∷ []) = ap (λ n. n + 1) at ∙ sym (one-more before o) in
    let releases : next.releases ≡ fold with_outcome [] (before ++ o ∷ []) = ap (λ (rs : List Release). with_outcome rs o) kept ∙ sym (fold-last with_outcome [] before o) in
    let others = skipped_behind name (before ++ o ∷ []) listed in
    let here : skipped_at name g.place o.version g.releases o.release ≡ skipped_at name (length before) o.version (newest_first (usable_of before)) o.release =
    λ i. skipped_at name (at i) o.version ((kept ∙ with-usable [] before) i) o.release in
    skipped-gathered name next (before ++ o ∷ []) listed place releases
    ∙ append_assoc g.skipped (skipped_at name g.place o.version g.releases o.release) others
    ∙ ap (λ (l : List Skipped). g.skipped ++ l) (ap (λ (l : List Skipped). l ++ others) here ∙ one-skipped name before o.version o.release others)

-- ---- the whole list

pub gathered-is : (name : List ℕ) (listed : List ReleaseOutcome)
    → kept (fold (gather_release name) nothing listed) ≡ record { releases = newest_first (usable_of listed); skipped = skipped_of name listed }
gathered-is name listed =
    let releases = releases-gathered name nothing listed ∙ with-usable [] listed in
    let skipped = skipped-gathered name nothing [] listed refl refl ∙ sym (behind-front name [] listed) in
    λ i. record { releases = releases i; skipped = skipped i }
