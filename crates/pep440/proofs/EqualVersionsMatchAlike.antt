-- Versions that are equal in their order match alike.
use Rattle.std.proofs.Common.{◌≡◌, ℕ, Bool, true, ◌==◌, ◌&&◌, ◌||◌, not, List, [], ◌∷◌, length, Option, Some, None, is_some, Equal, refl, sym, ap, ◌∙◌, inl, inr, if◌then◌else◌}
use Rattle.std.specs.List.{list_all}
use Rattle.std.specs.Cmp.{Equal-is, first_so, second_so}
use Rattle.std.specs.Cmp.Lexicographic.{pointwise, slice_cmp}
use Rattle.std.specs.Prelude.{nat_eq}
use Rattle.std.specs.Ordering.{is_eq, is_ge, is_gt, is_le, is_lt, nat_cmp, ordering_then}
use Rattle.std.proofs.lemmas.Bool.{cases_Bool, eqb-true}
use Rattle.pep440.specs.declared.parts.Pre.{Pre}
use Rattle.pep440.specs.declared.parts.Pre.TheVariants.{Alpha, Beta, Candidate}
use Rattle.pep440.specs.declared.specifier.Operator.{Operator}
use Rattle.pep440.specs.declared.specifier.Operator.TheVariants as operators
use Rattle.pep440.specs.declared.specifier.Clause.{Clause}
use Rattle.pep440.specs.Version.{VersionParts, is_post, is_pre}
use Rattle.pep440.specs.Order.{dev_key, part_cmp, post_key, pre_key, pre_key_of, public_cmp, rank_cmp, trimmed, version_cmp}
use Rattle.pep440.specs.Tied.OrderLaws.{first_tie, list_tie, nat_tie, public_total, second_tie, version_total}
use Rattle.pep440.specs.Matching.{begins, equals, has_prefix, matches, operator_matches, same_release, without_last}

-- ---- releases

begins-none : (ns : List ℕ) → begins ns [] ≡ true
begins-none [] = refl
begins-none (n ∷ ns) = refl

trimmed-zeros : (ns : List ℕ) → list_all (λ n. n == 0) ns ≡ true → trimmed ns ≡ []
trimmed-zeros [] zeros = refl
trimmed-zeros (n ∷ ns) zeros = rw zeros refl

-- trailing zeros don't tell which prefix a release begins with
begins-trimmed : (ns ps : List ℕ) → begins ns ps ≡ begins (trimmed ns) ps
begins-trimmed [] ps = refl
begins-trimmed (n ∷ ns) [] = sym (begins-none (trimmed (n ∷ ns)))
begins-trimmed (n ∷ ns) (p ∷ ps) = elim (cases_Bool (list_all (λ n. n == 0) (n ∷ ns))) [
  | inl zeros ↦
      let zero : n ≡ 0 = eqb-true n 0 (first_so (n == 0) _ zeros) in
      let rest : trimmed ns ≡ [] = trimmed-zeros ns (second_so (n == 0) _ zeros) in
      let same : begins ns ps ≡ begins [] ps = begins-trimmed ns ps ∙ ap (λ (ms : List ℕ). begins ms ps) rest in
      rw zeros (λ i. (zero i == p) && same i)
  | inr other ↦ rw other (ap (λ b. (n == p) && b) (begins-trimmed ns ps))
]

-- ---- what ties

rank_same : (p q : ℕ × ℕ) → is_eq (rank_cmp p q) ≡ true → p ≡ q
rank_same p q tie =
    let a = nat_tie p.0 q.0 (first_tie (nat_cmp p.0 q.0) (nat_cmp p.1 q.1) tie) in
    let b = nat_tie p.1 q.1 (second_tie (nat_cmp p.0 q.0) (nat_cmp p.1 q.1) tie) in
    λ i. (a i, b i)

-- whether a rank is that of a pre part
abbrev has_pre : ℕ × ℕ → Bool
has_pre p = (p.0 == 1) || (p.0 == 2) || (p.0 == 3)

pre-known : (pre : Option Pre) (post dev : Option ℕ) → is_some pre ≡ has_pre (pre_key_of pre post dev)
pre-known (Some (Alpha n)) post dev = refl
pre-known (Some (Beta n)) post dev = refl
pre-known (Some (Candidate n)) post dev = refl
pre-known None None (Some n) = refl
pre-known None None None = refl
pre-known None (Some n) dev = refl

post-known : (post : Option ℕ) → is_some post ≡ ((post_key post).0 == 1)
post-known None = refl
post-known (Some n) = refl

dev-known : (dev : Option ℕ) → is_some dev ≡ ((dev_key dev).0 == 0)
dev-known None = refl
dev-known (Some n) = refl

-- what specifiers read of a version is the same
record Alike (v w : VersionParts) : Type 0 where
  whole : (u : VersionParts) → version_cmp v u ≡ version_cmp w u
  public : (u : VersionParts) → public_cmp v u ≡ public_cmp w u
  epoch : v.epoch ≡ w.epoch
  release : trimmed v.release ≡ trimmed w.release
  pre : is_pre v ≡ is_pre w
  post : is_post v ≡ is_post w

Alike-from : (v w : VersionParts) → version_cmp v w ≡ Equal → Alike v w
Alike-from v w equal =
    let epoch = nat_cmp v.epoch w.epoch in
    let release = slice_cmp nat_cmp (trimmed v.release) (trimmed w.release) in
    let pre = rank_cmp (pre_key v) (pre_key w) in
    let post = rank_cmp (post_key v.post) (post_key w.post) in
    let dev = rank_cmp (dev_key v.dev) (dev_key w.dev) in
    let h1 : is_eq (public_cmp v w) ≡ true = first_tie (public_cmp v w) (slice_cmp part_cmp v.local w.local) (ap is_eq equal) in
    let h2 = second_tie epoch (ordering_then release (ordering_then pre (ordering_then post dev))) h1 in
    let h3 = second_tie release (ordering_then pre (ordering_then post dev)) h2 in
    let h4 = second_tie pre (ordering_then post dev) h3 in
    let pres = rank_same (pre_key v) (pre_key w) (first_tie pre (ordering_then post dev) h3) in
    let posts = rank_same (post_key v.post) (post_key w.post) (first_tie post dev h4) in
    let devs = rank_same (dev_key v.dev) (dev_key w.dev) (second_tie post dev h4) in
    let had_pre : is_some v.pre ≡ is_some w.pre = pre-known v.pre v.post v.dev ∙ ap has_pre pres ∙ sym (pre-known w.pre w.post w.dev) in
    let had_dev : is_some v.dev ≡ is_some w.dev = dev-known v.dev ∙ ap (λ (p : ℕ × ℕ). p.0 == 0) devs ∙ sym (dev-known w.dev) in
    record {
      whole = λ u. version_total.congr v w u equal;
      public = λ u. public_total.congr v w u ((Equal-is (public_cmp v w)).0 h1);
      epoch = nat_tie v.epoch w.epoch (first_tie epoch (ordering_then release (ordering_then pre (ordering_then post dev))) h1);
      release = list_tie (trimmed v.release) (trimmed w.release) (first_tie release (ordering_then pre (ordering_then post dev)) h2);
      pre = λ i. had_pre i || had_dev i;
      post = post-known v.post ∙ ap (λ (p : ℕ × ℕ). p.0 == 1) posts ∙ sym (post-known w.post);
    }

-- ---- matching

equals-alike : (u v w : VersionParts) → Alike v w → equals u v ≡ equals u w
equals-alike u v w a = λ i. is_eq (if length u.local == 0 then a.public u i else a.whole u i)

prefix-alike : (epoch : ℕ) (release : List ℕ) (v w : VersionParts) → Alike v w → has_prefix epoch release v ≡ has_prefix epoch release w
prefix-alike epoch release v w a =
    let same : begins v.release release ≡ begins w.release release =
    begins-trimmed v.release release ∙ ap (λ (ns : List ℕ). begins ns release) a.release ∙ sym (begins-trimmed w.release release) in
    λ i. (a.epoch i == epoch) && same i

release-alike : (u v w : VersionParts) → Alike v w → same_release v u ≡ same_release w u
release-alike u v w a = λ i. (a.epoch i == u.epoch) && pointwise nat_eq (a.release i) (trimmed u.release)

operator-alike : (operator : Operator) (u v w : VersionParts) → Alike v w → operator_matches operator u v ≡ operator_matches operator u w
operator-alike operators.Compatible u v w a = λ i. is_ge (a.public u i) && prefix-alike u.epoch (without_last u.release) v w a i
operator-alike operators.Equal u v w a = equals-alike u v w a
operator-alike operators.NotEqual u v w a = ap not (equals-alike u v w a)
operator-alike operators.EqualPrefix u v w a = prefix-alike u.epoch u.release v w a
operator-alike operators.NotEqualPrefix u v w a = ap not (prefix-alike u.epoch u.release v w a)
operator-alike operators.AtMost u v w a = λ i. is_le (a.public u i)
operator-alike operators.AtLeast u v w a = λ i. is_ge (a.public u i)
operator-alike operators.Below u v w a = λ i. is_lt (a.public u i) && (is_pre u || not (a.pre i && release-alike u v w a i))
operator-alike operators.Above u v w a = λ i. is_gt (a.public u i) && (is_post u || not (a.post i && release-alike u v w a i))

-- sets match versions alike that are equal in their order
pub matches-alike : (clauses : List Clause) (v w : VersionParts) → version_cmp v w ≡ Equal → matches clauses v ≡ matches clauses w
matches-alike clauses v w equal = λ i. list_all (λ c. operator-alike c.operator c.version v w (Alike-from v w equal) i) clauses
