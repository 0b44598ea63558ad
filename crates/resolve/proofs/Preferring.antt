-- The candidates of a name, by the places of its releases.
use Rattle.std.proofs.Common.{◌≡◌, ℕ, zero, suc, ◌+◌, ◌<◌, ◌≤◌, Bool, true, false, cond, not, List, [], ◌∷◌, ◌++◌, Option, Some, None, IfSome, find, length, take, map, get_or, inl, inr, if◌then◌else◌, ltb, arith, refl, ap, sym, ◌∙◌, subst, append-nil, Contains, option_map}
use Rattle.std.specs.Prelude.{nat_eq, slice_get}
use Rattle.std.specs.Cmp.{tied_itself}
use Rattle.std.specs.Cmp.Lexicographic.{slice_cmp}
use Rattle.std.specs.List.{position, position_or_len}
use Rattle.std.specs.List.Sorted.{IsStrictlySortedBy}
use Rattle.std.specs.BTreeMap.{is_at}
use Rattle.std.specs.Map.{lookup}
use Rattle.std.specs.Option.{option_eq, option_to_list}
use Rattle.std.specs.Ordering.{is_eq, nat_cmp}
use Rattle.std.specs.Str.{bytes_eq}
use Rattle.std.proofs.lemmas.Bool.{cases_Bool}
use Rattle.std.proofs.lemmas.List.{length-map, map-append, take_all, take_more}
use Rattle.std.proofs.lemmas.List.Elements.{Contains-push_cases, filter-append}
use Rattle.std.proofs.lemmas.List.Folds.{find_at}
use Rattle.std.proofs.lemmas.Map.Text.{is_eq-slice_cmp}
use borrow.Author.Tests.{eqb-true, eqb-false, ltb-true, ltb-false}
use Rattle.pep440.specs.Order.{version_cmp}
use Rattle.pep440.specs.Tied.OrderLaws.{version_total}
use Rattle.pep440.specs.Version.{VersionParts}
use Rattle.snapshot.specs.Release.{Release}
use Rattle.snapshot.specs.Releases.{newer_cmp}
use Rattle.problems.specs.Admission.{has_version}
use Rattle.problems.specs.Problem.{ProblemParts, releases_on}
use Rattle.problems.specs.Rules.{candidates, is_held, kept_version, preferring, versions_of}
use Rattle.resolve.specs.Tied.Places.{AreCandidates, version_at}
use Rattle.resolve.proofs.Falling.{version_at-tie}

-- a look-up by bytes is the look-up of a map
pub lookup-get : {X : Type 0} (name : List ℕ) (entries : List (List ℕ × X)) → lookup (bytes_eq name) entries ≡ lookup (is_at (slice_cmp nat_cmp name)) entries
lookup-get name entries = ap (λ (t : List ℕ → Bool). lookup t entries) (λ i x. sym (is_eq-slice_cmp name x) i)

get-some : (rs : List Release) (place : ℕ) → place < length rs → Some (version_at rs place) ≡ option_map (λ r. r.version) (slice_get rs place)
get-some [] place within = absurd (omega arith)
get-some (r ∷ rs) zero within = refl
get-some (r ∷ rs) (suc place) within = get-some rs place (omega arith)

get-none : (rs : List Release) (place : ℕ) → length rs ≤ place → None ≡ option_map (λ r. r.version) (slice_get rs place)
get-none [] place past = refl
get-none (r ∷ rs) zero past = absurd (omega arith)
get-none (r ∷ rs) (suc place) past = get-none rs place (omega arith)

get-within : (rs : List Release) (place : ℕ) → option_map (version_at rs) (cond (ltb place (length rs)) (Some place) None) ≡ option_map (λ r. r.version) (slice_get rs place)
get-within rs place = elim (cases_Bool (ltb place (length rs))) [
  | inl within ↦ rw within (get-some rs place (ltb-true place (length rs) within))
  | inr past ↦ rw past (get-none rs place (ltb-false place (length rs) past))
]

-- the release that is found stands at the place that is found
pub version-found : (test : Release → Bool) (rs : List Release) → option_map (version_at rs) (position test rs) ≡ option_map (λ r. r.version) (find test rs)
version-found test rs = get-within rs (position_or_len test rs) ∙ ap (option_map (λ r. r.version)) (sym (find_at test rs))

-- no version is kept for the name
pub kept-none : (given : ProblemParts) (name : List ℕ) → lookup (is_at (slice_cmp nat_cmp name)) given.kept ≡ None → None ≡ kept_version given name
kept-none given name none = rw (lookup-get name given.kept, none) refl

-- the release that has the version kept for the name
pub kept-some : (given : ProblemParts) (name : List ℕ) (version : VersionParts) → lookup (is_at (slice_cmp nat_cmp name)) given.kept ≡ Some version
    → option_map (version_at (releases_on given name)) (position (has_version version) (releases_on given name)) ≡ kept_version given name
kept-some given name version some = rw (lookup-get name given.kept, some) (version-found (has_version version) (releases_on given name))

-- the places that are preferred among the first ones of the releases
pub record IsPreferring (rs : List Release) (kept : Option ℕ) (places : List ℕ) (so_far : ℕ) : Type 0 where
  pub versions : map (version_at rs) places ≡ preferring (option_map (version_at rs) kept) (take so_far (versions_of rs))
  pub within : (place : ℕ) → Contains places place → place < length rs

pub preferring-start : (rs : List Release) (kept : Option ℕ) → IfSome kept (λ place. place < length rs) → IsPreferring rs kept (option_to_list kept) 0
preferring-start rs None known = record { versions = refl; within = λ place h. absurd (omega arith) }
preferring-start rs (Some kept) known = record {
  versions = refl;
  within = λ place h. let first : h.0 ≡ 0 = omega arith in let e : get_or (kept ∷ []) 0 place ≡ place = rw first at h.2 in subst (λ n. n < length rs) e known;
}

not-true : (b : Bool) → not b ≡ true → b ≡ false
not-true true e = sym e
not-true false e = refl

take-place : (rs : List Release) (place : ℕ) → place < length rs → take (place + 1) (versions_of rs) ≡ take place (versions_of rs) ++ version_at rs place ∷ []
take-place rs place within = take_more (versions_of rs) place _ (subst (λ n. place < n) (sym (length-map rs (λ r. r.version))) within)

preferring-more : (rs : List Release) (kept : Option ℕ) (vs : List VersionParts) (place : ℕ) → IsStrictlySortedBy newer_cmp rs → IfSome kept (λ k. k < length rs) → place < length rs
    → option_eq nat_eq (Some place) kept ≡ false → preferring (option_map (version_at rs) kept) (vs ++ version_at rs place ∷ []) ≡ preferring (option_map (version_at rs) kept) vs ++ version_at rs place ∷ []
preferring-more rs None vs place fall known within other = refl
preferring-more rs (Some kept) vs place fall known within other =
    let apart = version_at-tie rs kept place fall known within (λ e. eqb-false place kept other (sym e)) in
    ap (λ zs. version_at rs kept ∷ zs) (filter-append (λ v. not (is_eq (version_cmp (version_at rs kept) v))) vs (version_at rs place ∷ []) ∙ rw apart refl)

preferring-same : (rs : List Release) (kept : Option ℕ) (vs : List VersionParts) (place : ℕ) → option_eq nat_eq (Some place) kept ≡ true
    → preferring (option_map (version_at rs) kept) (vs ++ version_at rs place ∷ []) ≡ preferring (option_map (version_at rs) kept) vs
preferring-same rs None vs place same = absurd cc
preferring-same rs (Some kept) vs place same =
    let e : place ≡ kept = eqb-true place kept same in
    rw e (ap (λ zs. version_at rs kept ∷ zs) (filter-append (λ v. not (is_eq (version_cmp (version_at rs kept) v))) vs (version_at rs kept ∷ []) ∙ rw (tied_itself version_total (version_at rs kept)) (append-nil _)))

-- the next place, which isn't the kept one, is behind the others
pub preferring-other : (rs : List Release) (kept : Option ℕ) (places : List ℕ) (place : ℕ) → IsStrictlySortedBy newer_cmp rs → IfSome kept (λ k. k < length rs) → place < length rs
    → not (option_eq nat_eq (Some place) kept) ≡ true → IsPreferring rs kept places place → IsPreferring rs kept (places ++ place ∷ []) (place + 1)
preferring-other rs kept places place fall known within other h = record {
  versions = map-append (version_at rs) places (place ∷ []) ∙ ap (λ vs. vs ++ version_at rs place ∷ []) h.versions
      ∙ sym (preferring-more rs kept (take place (versions_of rs)) place fall known within (not-true _ other)) ∙ ap (preferring (option_map (version_at rs) kept)) (sym (take-place rs place within));
  within = λ q there. elim (Contains-push_cases places place q there) [ inl old ↦ h.within q old | inr e ↦ subst (λ n. n < length rs) e within ];
}

-- the kept one is there already
pub preferring-kept : (rs : List Release) (kept : Option ℕ) (places : List ℕ) (place : ℕ) → place < length rs
    → not (option_eq nat_eq (Some place) kept) ≡ false → IsPreferring rs kept places place → IsPreferring rs kept places (place + 1)
preferring-kept rs kept places place within same h = record {
  versions = h.versions ∙ sym (preferring-same rs kept (take place (versions_of rs)) place (not-false _ same)) ∙ ap (preferring (option_map (version_at rs) kept)) (sym (take-place rs place within));
  within = h.within;
}
  where
    not-false : (b : Bool) → not b ≡ false → b ≡ true
    not-false true e = refl
    not-false false e = sym e

-- the candidates of a name that isn't held, and of one that is
pub free-candidates : (given : ProblemParts) (name : List ℕ) → is_held given name ≡ false → candidates given name ≡ preferring (kept_version given name) (versions_of (releases_on given name))
free-candidates given name free = ap (λ (held : Bool). if held then option_to_list (kept_version given name) else preferring (kept_version given name) (versions_of (releases_on given name))) free

pub held-candidates : (given : ProblemParts) (name : List ℕ) → is_held given name ≡ true → candidates given name ≡ option_to_list (kept_version given name)
held-candidates given name held = ap (λ (held : Bool). if held then option_to_list (kept_version given name) else preferring (kept_version given name) (versions_of (releases_on given name))) held

alone-versions : (rs : List Release) (kept : Option ℕ) → map (version_at rs) (option_to_list kept) ≡ option_to_list (option_map (version_at rs) kept)
alone-versions rs None = refl
alone-versions rs (Some place) = refl

alone-within : (rs : List Release) (kept : Option ℕ) → IfSome kept (λ place. place < length rs) → (place : ℕ) → Contains (option_to_list kept) place → place < length rs
alone-within rs kept known = (preferring-start rs kept known).within

-- the place of the kept release alone
pub held-place : (given : ProblemParts) (name : List ℕ) (kept : Option ℕ) → is_held given name ≡ true → option_map (version_at (releases_on given name)) kept ≡ kept_version given name
    → IfSome kept (λ place. place < length (releases_on given name)) → AreCandidates given name (option_to_list kept)
held-place given name kept held is known = record {
  versions = alone-versions (releases_on given name) kept ∙ ap option_to_list is ∙ sym (held-candidates given name held);
  within = alone-within (releases_on given name) kept known;
}

-- the places of all releases
pub preferring-all : (given : ProblemParts) (name : List ℕ) (kept : Option ℕ) (places : List ℕ) (so_far : ℕ) → is_held given name ≡ false → option_map (version_at (releases_on given name)) kept ≡ kept_version given name
    → length (releases_on given name) ≤ so_far → IsPreferring (releases_on given name) kept places so_far → AreCandidates given name places
preferring-all given name kept places so_far free is whole h =
    let vs : List VersionParts = versions_of (releases_on given name) in
    let long = length-map (releases_on given name) (λ r. r.version) in
    record {
      versions = h.versions ∙ ap (preferring (option_map (version_at (releases_on given name)) kept)) (take_all so_far vs (omega arith)) ∙ ap (λ o. preferring o vs) is ∙ sym (free-candidates given name free);
      within = h.within;
    }
