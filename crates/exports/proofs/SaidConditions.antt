-- Which conditions others say.
use Rattle.std.proofs.Common.{◌≡◌, ◌∙◌, ◌&&◌, ◌||◌, ◌==◌, ◌⊎◌, inl, inr, not, ℕ, Bool, true, false, List, [], ◌∷◌, length, Option, Some, None, is_some, arith, refl, ap, sym}
use Rattle.std.specs.Cmp.{IsTotalOrder, nat_cmp_total, on_total, then_total}
use Rattle.std.specs.Cmp.Lexicographic.{nat_list_cmp_total, slice_cmp}
use Rattle.std.specs.List.{list_any, slice_index_or}
use Rattle.std.specs.Ordering.{is_eq, is_ge, is_gt, is_le, is_lt, nat_cmp, on, ordering_reverse, ordering_then, then_cmp}
use Rattle.std.specs.declared.cmp.Ordering.{Ordering}
use Rattle.std.specs.declared.cmp.Ordering.TheVariants.{Equal, Greater, Less}
use Rattle.std.proofs.lemmas.Cmp.{tied_itself, upto}
use Rattle.std.proofs.lemmas.Bool.Decides.{nat_tests}
use Rattle.std.proofs.lemmas.Slice.Eq.{bytes_eq-Decides}
use Rattle.markers.specs.Comparisons.{version_read}
use Rattle.markers.specs.Environment.{Texts, place_of, text_of}
use Rattle.markers.specs.MarkerAtoms.{operand_text, relates}
use Rattle.markers.specs.declared.comparison.Comparison.{Comparison}
use Rattle.markers.specs.declared.comparison.Comparison.TheVariants as comparisons
use Rattle.markers.specs.declared.marker_atom.Operand.{Operand}
use Rattle.markers.specs.declared.marker_atom.Operand.TheVariants as operands
use Rattle.markers.specs.declared.marker_atom.MarkerOperator.{MarkerOperator}
use Rattle.markers.specs.declared.marker_atom.MarkerOperator.TheVariants as marker_operators
use Rattle.markers.specs.declared.variable.Variable.{Variable}
use Rattle.pep440.specs.Matching.{above, at_least, below, operator_matches, same_release}
use Rattle.pep440.specs.Order.{public_cmp, trimmed}
use Rattle.pep440.specs.Tied.OrderLaws.{first_tie, list_tie, nat_tie, public_total, second_tie}
use Rattle.pep440.specs.Version.{VersionParts, is_post, is_pre}
use Rattle.pep440.specs.declared.specifier.Clause.{Clause}
use Rattle.pep440.specs.declared.specifier.Operator.{Operator}
use Rattle.pep440.specs.declared.specifier.Operator.TheVariants as operators
use Rattle.exports.specs.Conditions.{is_matched}
use Rattle.exports.specs.Tied.Implication.{are_both, does_follow, has_no_other, has_release_of, is_from, is_plain, is_same_clause, is_same_comparison, is_same_marker_operator, is_same_operand, is_same_operator, is_same_plain, is_up_to, opposite_of, says}
use Rattle.exports.specs.Tied.Kept.{ClauseFollows, Says, SaysAmong}
use Rattle.exports.specs.declared.condition.Condition.{Condition}
use Rattle.exports.specs.declared.condition.Condition.TheVariants.{Same, Matches, Holds}

-- ---- opposites

ge-not_lt : (o : Ordering) → is_ge o ≡ true → is_lt o ≡ false
ge-not_lt Less h = absurd cc
ge-not_lt Equal h = refl
ge-not_lt Greater h = refl

lt-not_ge : (o : Ordering) → is_lt o ≡ true → is_ge o ≡ false
lt-not_ge Less h = refl
lt-not_ge Equal h = absurd cc
lt-not_ge Greater h = absurd cc

gt-not_le : (o : Ordering) → is_gt o ≡ true → is_le o ≡ false
gt-not_le Less h = absurd cc
gt-not_le Equal h = absurd cc
gt-not_le Greater h = refl

le-not_gt : (o : Ordering) → is_le o ≡ true → is_gt o ≡ false
le-not_gt Less h = refl
le-not_gt Equal h = refl
le-not_gt Greater h = absurd cc

pub both-first : (a b : Bool) → (a && b) ≡ true → a ≡ true
both-first true b h = refl
both-first false b h = h

pub both-second : (a b : Bool) → (a && b) ≡ true → b ≡ true
both-second true b h = h
both-second false b h = absurd cc

not-both : (a b : Bool) → a ≡ false → (a && b) ≡ false
not-both true b h = absurd cc
not-both false b h = refl

pub below-not_at_least : (wanted version : VersionParts) → below wanted version ≡ true → at_least wanted version ≡ false
below-not_at_least wanted version h = lt-not_ge (public_cmp version wanted) (both-first (is_lt (public_cmp version wanted)) _ h)

pub at_least-not_below : (wanted version : VersionParts) → at_least wanted version ≡ true → below wanted version ≡ false
at_least-not_below wanted version h = not-both (is_lt (public_cmp version wanted)) _ (ge-not_lt (public_cmp version wanted) h)

pub above-not_at_most : (wanted version : VersionParts) → above wanted version ≡ true → is_le (public_cmp version wanted) ≡ false
above-not_at_most wanted version h = gt-not_le (public_cmp version wanted) (both-first (is_gt (public_cmp version wanted)) _ h)

pub at_most-not_above : (wanted version : VersionParts) → is_le (public_cmp version wanted) ≡ true → above wanted version ≡ false
at_most-not_above wanted version h = not-both (is_gt (public_cmp version wanted)) _ (le-not_gt (public_cmp version wanted) h)

both-so : (a b : Bool) → a ≡ true → b ≡ true → (a && b) ≡ true
both-so true b h k = k
both-so false b h k = absurd cc

pub not-so : (a : Bool) → not a ≡ true → a ≡ false
not-so true h = absurd cc
not-so false h = refl

pub so-not : (a : Bool) → a ≡ true → not a ≡ false
so-not true h = refl
so-not false h = absurd cc

-- ---- bounds

reverse-ge : (o : Ordering) → is_ge o ≡ true → is_gt (ordering_reverse o) ≡ false
reverse-ge Less h = absurd cc
reverse-ge Equal h = refl
reverse-ge Greater h = refl

not-gt-reverse : (o : Ordering) → is_gt (ordering_reverse o) ≡ false → is_ge o ≡ true
not-gt-reverse Less h = absurd cc
not-gt-reverse Equal h = refl
not-gt-reverse Greater h = refl

turn-ge : {K : Type 0} {R : K → K → Ordering} (total : IsTotalOrder R) (x y : K) → is_ge (R x y) ≡ true → is_gt (R y x) ≡ false
turn-ge {R = R} total x y h = ap is_gt (total.antisymm y x) ∙ reverse-ge (R x y) h

ge-turned : {K : Type 0} {R : K → K → Ordering} (total : IsTotalOrder R) (x y : K) → is_gt (R y x) ≡ false → is_ge (R x y) ≡ true
ge-turned {R = R} total x y h = not-gt-reverse (R x y) (sym (ap is_gt (total.antisymm y x)) ∙ h)

-- a version that is at least the greater one is at least the lesser one
pub at_least-follows : (bound wanted version : VersionParts) → is_ge (public_cmp bound wanted) ≡ true → at_least bound version ≡ true → at_least wanted version ≡ true
at_least-follows bound wanted version g h =
    ge-turned public_total version wanted (upto public_total wanted bound version (turn-ge public_total bound wanted g) (turn-ge public_total version bound h))

-- the order of epochs and releases alone
abbrev lead_cmp : VersionParts → VersionParts → Ordering
lead_cmp = then_cmp (on (λ v. v.epoch) nat_cmp) (on (λ v. trimmed v.release) (slice_cmp nat_cmp))

lead_total : IsTotalOrder lead_cmp
lead_total = then_total (on_total (λ v. v.epoch) nat_cmp_total) (on_total (λ v. trimmed v.release) nat_list_cmp_total)

lead-first : (a b c : Ordering) → is_gt (ordering_then a (ordering_then b c)) ≡ false → is_gt (ordering_then a b) ≡ false
lead-first Less b c h = refl
lead-first Greater b c h = h
lead-first Equal Less c h = refl
lead-first Equal Equal c h = refl
lead-first Equal Greater c h = h

lead-upto : (v w : VersionParts) → is_gt (public_cmp v w) ≡ false → is_gt (lead_cmp v w) ≡ false
lead-upto v w h = lead-first (nat_cmp v.epoch w.epoch) (slice_cmp nat_cmp (trimmed v.release) (trimmed w.release)) _ h

neither : (o : Ordering) → is_gt o ≡ false → is_gt (ordering_reverse o) ≡ false → is_eq o ≡ true
neither Less h k = absurd cc
neither Equal h k = refl
neither Greater h k = absurd cc

pub nat-same : (m n : ℕ) → (m == n) ≡ true → m ≡ n
nat-same m n h = grind (arith, nat_tests)

nat-itself : (m n : ℕ) → m ≡ n → (m == n) ≡ true
nat-itself m n h = grind (arith, nat_tests)

same-lead : (v w : VersionParts) → same_release v w ≡ true → lead_cmp w v ≡ lead_cmp v v
same-lead v w h =
    let epochs : w.epoch ≡ v.epoch = sym (nat-same v.epoch w.epoch (both-first _ _ h)) in
    let releases : trimmed w.release ≡ trimmed v.release = sym ((bytes_eq-Decides (trimmed v.release) (trimmed w.release)).0 (both-second (v.epoch == w.epoch) _ h)) in
    λ i. ordering_then (nat_cmp (epochs i) v.epoch) (slice_cmp nat_cmp (releases i) (trimmed v.release))

lead-same : (v w : VersionParts) → is_eq (lead_cmp v w) ≡ true → same_release v w ≡ true
lead-same v w h =
    let epochs : v.epoch ≡ w.epoch = nat_tie v.epoch w.epoch (first_tie (nat_cmp v.epoch w.epoch) (slice_cmp nat_cmp (trimmed v.release) (trimmed w.release)) h) in
    let releases : trimmed v.release ≡ trimmed w.release = list_tie (trimmed v.release) (trimmed w.release) (second_tie (nat_cmp v.epoch w.epoch) (slice_cmp nat_cmp (trimmed v.release) (trimmed w.release)) h) in
    both-so (v.epoch == w.epoch) _ (nat-itself v.epoch w.epoch epochs) ((bytes_eq-Decides (trimmed v.release) (trimmed w.release)).1 releases)

-- what is no greater than a bound, and of the release of a version that the bound isn't greater than, is of the bound's release
between : (bound wanted version : VersionParts) → is_gt (public_cmp version bound) ≡ false → is_gt (public_cmp bound wanted) ≡ false → same_release version wanted ≡ true → same_release version bound ≡ true
between bound wanted version below_bound below_wanted same =
    let itself : is_gt (lead_cmp wanted version) ≡ false = ap is_gt (same-lead version wanted same ∙ tied_itself lead_total version) in
    let up : is_gt (lead_cmp bound version) ≡ false = upto lead_total bound wanted version (lead-upto bound wanted below_wanted) itself in
    lead-same version bound (neither (lead_cmp version bound) (lead-upto version bound below_bound) (sym (ap is_gt (lead_total.antisymm bound version)) ∙ up))

lt-not_gt : (o : Ordering) → is_lt o ≡ true → is_gt o ≡ false
lt-not_gt Less h = refl
lt-not_gt Equal h = absurd cc
lt-not_gt Greater h = absurd cc

lt-is : (o : Ordering) → is_lt o ≡ true → o ≡ Less
lt-is Less h = refl
lt-is Equal h = absurd cc
lt-is Greater h = absurd cc

-- what comes before a bound comes before all that the bound isn't greater than
before-by : (o : Ordering) (bound wanted version : VersionParts) → public_cmp bound wanted ≡ o → is_le o ≡ true → public_cmp version bound ≡ Less → public_cmp version wanted ≡ Less
before-by Less bound wanted version e h k = public_total.trans version bound wanted k e
before-by Equal bound wanted version e h k =
    public_total.antisymm version wanted ∙ ap ordering_reverse (sym (public_total.congr bound wanted version e) ∙ public_total.antisymm bound version ∙ ap ordering_reverse k)
before-by Greater bound wanted version e h k = absurd cc

pre-part : (pre_wanted pre_bound pre_version same_wanted same_bound : Bool) → (pre_wanted || not pre_bound) ≡ true → (same_wanted ≡ true → same_bound ≡ true) → (pre_bound || not (pre_version && same_bound)) ≡ true
    → (pre_wanted || not (pre_version && same_wanted)) ≡ true
pre-part true pre_bound pre_version same_wanted same_bound h s k = refl
pre-part false true pre_version same_wanted same_bound h s k = absurd cc
pre-part false false false same_wanted same_bound h s k = refl
pre-part false false true false same_bound h s k = refl
pre-part false false true true true h s k = k
pre-part false false true true false h s k = absurd (let e = s refl in cc)

-- a version below the lesser bound is below the greater one
pub below-follows : (bound wanted version : VersionParts) → is_le (public_cmp bound wanted) ≡ true → (is_pre wanted || not (is_pre bound)) ≡ true → below bound version ≡ true → below wanted version ≡ true
below-follows bound wanted version le pre h =
    let first : is_lt (public_cmp version bound) ≡ true = both-first _ _ h in
    let behind : public_cmp version wanted ≡ Less = before-by (public_cmp bound wanted) bound wanted version refl le (lt-is (public_cmp version bound) first) in
    both-so (is_lt (public_cmp version wanted)) _ (ap is_lt behind)
    (pre-part (is_pre wanted) (is_pre bound) (is_pre version) (same_release version wanted) (same_release version bound) pre
    (λ same. between bound wanted version (lt-not_gt (public_cmp version bound) first) (le-not_gt (public_cmp bound wanted) le) same)
    (both-second (is_lt (public_cmp version bound)) _ h))

-- ---- clauses

no-some : {A : Type 0} (o : Option A) → is_some o ≡ false → o ≡ None
no-some None h = refl
no-some (Some x) h = absurd cc

or-first : (a b : Bool) → (a || b) ≡ false → a ≡ false
or-first true b e = e
or-first false b e = refl

or-rest : (a b : Bool) → (a || b) ≡ false → b ≡ false
or-rest true b e = absurd cc
or-rest false b e = e

pub one-of : (a b : Bool) → (a || b) ≡ true → (a ≡ true) ⊎ (b ≡ true)
one-of true b h = inl refl
one-of false b h = inr h

pub none-left : {A : Type 0} (xs : List A) → length xs ≡ 0 → xs ≡ []
none-left [] h = refl
none-left (x ∷ xs) h = absurd (omega arith)

pub same-operator : (operator wanted : Operator) → is_same_operator operator wanted ≡ true → operator ≡ wanted
same-operator operators.Compatible operators.Compatible h = refl
same-operator operators.Equal operators.Equal h = refl
same-operator operators.NotEqual operators.NotEqual h = refl
same-operator operators.EqualPrefix operators.EqualPrefix h = refl
same-operator operators.NotEqualPrefix operators.NotEqualPrefix h = refl
same-operator operators.AtMost operators.AtMost h = refl
same-operator operators.AtLeast operators.AtLeast h = refl
same-operator operators.Below operators.Below h = refl
same-operator operators.Above operators.Above h = refl
same-operator operator wanted h = absurd cc

pub opposite-turns : (operator other : Operator) (wanted version : VersionParts) → opposite_of operator ≡ Some other → operator_matches other wanted version ≡ true → operator_matches operator wanted version ≡ false
opposite-turns operators.Compatible other wanted version e h = absurd cc
opposite-turns operators.Equal other wanted version e h = let same : other ≡ operators.NotEqual = cc in not-so _ (rw same at h)
opposite-turns operators.NotEqual other wanted version e h = let same : other ≡ operators.Equal = cc in so-not _ (rw same at h)
opposite-turns operators.EqualPrefix other wanted version e h = let same : other ≡ operators.NotEqualPrefix = cc in not-so _ (rw same at h)
opposite-turns operators.NotEqualPrefix other wanted version e h = let same : other ≡ operators.EqualPrefix = cc in so-not _ (rw same at h)
opposite-turns operators.AtMost other wanted version e h = let same : other ≡ operators.Above = cc in above-not_at_most wanted version (rw same at h)
opposite-turns operators.AtLeast other wanted version e h = let same : other ≡ operators.Below = cc in below-not_at_least wanted version (rw same at h)
opposite-turns operators.Below other wanted version e h = let same : other ≡ operators.AtLeast = cc in at_least-not_below wanted version (rw same at h)
opposite-turns operators.Above other wanted version e h = let same : other ≡ operators.AtMost = cc in at_most-not_above wanted version (rw same at h)

not-pre : (v : VersionParts) → is_plain v ≡ true → is_pre v ≡ false
not-pre v h = not-so (is_pre v) (both-first (not (is_pre v)) _ h)

no-pre : (v : VersionParts) → is_plain v ≡ true → v.pre ≡ None
no-pre v h = no-some v.pre (or-first (is_some v.pre) (is_some v.dev) (not-pre v h))

no-dev : (v : VersionParts) → is_plain v ≡ true → v.dev ≡ None
no-dev v h = no-some v.dev (or-rest (is_some v.pre) (is_some v.dev) (not-pre v h))

no-post : (v : VersionParts) → is_plain v ≡ true → v.post ≡ None
no-post v h = no-some v.post (not-so (is_post v) (both-first (not (is_post v)) _ (both-second (not (is_pre v)) _ h)))

no-local : (v : VersionParts) → is_plain v ≡ true → v.local ≡ []
no-local v h = none-left v.local (nat-same (length v.local) 0 (both-second (not (is_post v)) _ (both-second (not (is_pre v)) _ h)))

pub plain-same : (v w : VersionParts) → is_same_plain v w ≡ true → v ≡ w
plain-same v w h =
    let p : is_plain v ≡ true = both-first (is_plain v) _ h in
    let both : (is_plain w && has_release_of v w) ≡ true = both-second (is_plain v) _ h in
    let q : is_plain w ≡ true = both-first (is_plain w) _ both in
    let r : has_release_of v w ≡ true = both-second (is_plain w) _ both in
    let epochs : v.epoch ≡ w.epoch = nat-same v.epoch w.epoch (both-first (v.epoch == w.epoch) _ r) in
    let releases : v.release ≡ w.release = (bytes_eq-Decides v.release w.release).0 (both-second (v.epoch == w.epoch) _ r) in
    let pres : v.pre ≡ w.pre = no-pre v p ∙ sym (no-pre w q) in
    let posts : v.post ≡ w.post = no-post v p ∙ sym (no-post w q) in
    let devs : v.dev ≡ w.dev = no-dev v p ∙ sym (no-dev w q) in
    let locals : v.local ≡ w.local = no-local v p ∙ sym (no-local w q) in
    λ i. record { epoch = epochs i; release = releases i; pre = pres i; post = posts i; dev = devs i; local = locals i }

from-follows : (clause wanted : Clause) → clause.operator ≡ operators.AtLeast → wanted.operator ≡ operators.AtLeast → is_from clause.version wanted.version ≡ true → ClauseFollows clause wanted
from-follows clause wanted p q g version h = rw q (at_least-follows clause.version wanted.version version g (rw p at h))

up_to-follows : (clause wanted : Clause) → clause.operator ≡ operators.Below → wanted.operator ≡ operators.Below → is_up_to clause.version wanted.version ≡ true → ClauseFollows clause wanted
up_to-follows clause wanted p q g version h =
    rw q (below-follows clause.version wanted.version version (both-first (is_le (public_cmp clause.version wanted.version)) _ g) (both-second (is_le (public_cmp clause.version wanted.version)) _ g) (rw p at h))

same-follows : (clause wanted : Clause) → is_same_clause clause wanted ≡ true → ClauseFollows clause wanted
same-follows clause wanted same version h =
    let operators_are : clause.operator ≡ wanted.operator = same-operator clause.operator wanted.operator (both-first (is_same_operator clause.operator wanted.operator) _ same) in
    let versions : clause.version ≡ wanted.version = plain-same clause.version wanted.version (both-second (is_same_operator clause.operator wanted.operator) _ same) in
    ap (λ (o : Operator). operator_matches o wanted.version version) (sym operators_are) ∙ ap (λ (v : VersionParts). operator_matches clause.operator v version) (sym versions) ∙ h

pub follows : (clause wanted : Clause) → does_follow clause wanted ≡ true → ClauseFollows clause wanted
follows clause wanted h = elim (one-of (are_both operators.AtLeast clause wanted && is_from clause.version wanted.version) _ h) [
  | inl f ↦
      (let both : are_both operators.AtLeast clause wanted ≡ true = both-first (are_both operators.AtLeast clause wanted) _ f in
      from-follows clause wanted (same-operator clause.operator operators.AtLeast (both-first (is_same_operator clause.operator operators.AtLeast) _ both))
      (same-operator wanted.operator operators.AtLeast (both-second (is_same_operator clause.operator operators.AtLeast) _ both))
      (both-second (are_both operators.AtLeast clause wanted) _ f))
  | inr r ↦ elim (one-of (are_both operators.Below clause wanted && is_up_to clause.version wanted.version) _ r) [
    | inl f ↦
        (let both : are_both operators.Below clause wanted ≡ true = both-first (are_both operators.Below clause wanted) _ f in
        up_to-follows clause wanted (same-operator clause.operator operators.Below (both-first (is_same_operator clause.operator operators.Below) _ both))
        (same-operator wanted.operator operators.Below (both-second (is_same_operator clause.operator operators.Below) _ both))
        (both-second (are_both operators.Below clause wanted) _ f))
    | inr s ↦ same-follows clause wanted s
  ]
]

-- ---- conditions

same-comparison : (comparison wanted : Comparison) → is_same_comparison comparison wanted ≡ true → comparison ≡ wanted
same-comparison comparisons.Compatible comparisons.Compatible h = refl
same-comparison comparisons.Equal comparisons.Equal h = refl
same-comparison comparisons.NotEqual comparisons.NotEqual h = refl
same-comparison comparisons.AtMost comparisons.AtMost h = refl
same-comparison comparisons.AtLeast comparisons.AtLeast h = refl
same-comparison comparisons.Below comparisons.Below h = refl
same-comparison comparisons.Above comparisons.Above h = refl
same-comparison comparison wanted h = absurd cc

pub same-marker_operator : (operator wanted : MarkerOperator) → is_same_marker_operator operator wanted ≡ true → operator ≡ wanted
same-marker_operator (marker_operators.Compare own) (marker_operators.Compare comparison) h = ap marker_operators.Compare (same-comparison own comparison h)
same-marker_operator marker_operators.In marker_operators.In h = refl
same-marker_operator marker_operators.NotIn marker_operators.NotIn h = refl
same-marker_operator operator wanted h = absurd cc

matched-follows : (clause wanted : Clause) (read : Option VersionParts) → ClauseFollows clause wanted → is_matched clause read ≡ true → is_matched wanted read ≡ true
matched-follows clause wanted None f h = h
matched-follows clause wanted (Some version) f h = f version h

pub one-text : (texts : Texts) (own variable : Variable) → (place_of own == place_of variable) ≡ true → text_of texts own ≡ text_of texts variable
one-text texts own variable h = ap (λ (place : ℕ). slice_index_or texts place []) (nat-same (place_of own) (place_of variable) h)

-- an operand with no other variable has the same text where this one has
one-operand : (environment other : Texts) (own : Variable) (operand : Operand) → has_no_other own operand ≡ true → text_of other own ≡ text_of environment own
    → operand_text other operand ≡ operand_text environment operand
one-operand environment other own (operands.Variable variable) h same = sym (one-text other own variable h) ∙ same ∙ one-text environment own variable h
one-operand environment other own (operands.Quoted text) h same = refl

pub same-operand : (texts : Texts) (operand wanted : Operand) → is_same_operand operand wanted ≡ true → operand_text texts operand ≡ operand_text texts wanted
same-operand texts (operands.Variable own) (operands.Variable variable) h = one-text texts own variable h
same-operand texts (operands.Quoted text) (operands.Quoted other) h = (bytes_eq-Decides text other).0 h
same-operand texts (operands.Variable own) (operands.Quoted other) h = absurd cc
same-operand texts (operands.Quoted text) (operands.Variable variable) h = absurd cc

said-by : (condition wanted : Condition) → says condition wanted ≡ true → Says condition wanted
said-by (Same own) (Same variable) h environment other meets same = sym (one-text other own variable h) ∙ same ∙ one-text environment own variable h
said-by (Same own) (Matches variable wanted) h environment other meets same =
    let texts : text_of other variable ≡ text_of environment variable = sym (one-text other own variable h) ∙ same ∙ one-text environment own variable h in
    ap (λ (text : List ℕ). is_matched wanted (version_read text)) texts ∙ meets
said-by (Matches own clause) (Matches variable wanted) h environment other meets matched =
    ap (λ (text : List ℕ). is_matched wanted (version_read text)) (sym (one-text other own variable (both-first (place_of own == place_of variable) _ h)))
    ∙ matched-follows clause wanted (version_read (text_of other own)) (follows clause wanted (both-second (place_of own == place_of variable) _ h)) matched
said-by (Matches own clause) (Same variable) h environment other meets matched = absurd cc
said-by (Same own) (Holds left operator right) h environment other meets same =
    let lefts : operand_text other left ≡ operand_text environment left = one-operand environment other own left (both-first (has_no_other own left) _ h) same in
    let rights : operand_text other right ≡ operand_text environment right = one-operand environment other own right (both-second (has_no_other own left) _ h) same in
    (λ i. relates operator (lefts i) (rights i)) ∙ meets
said-by (Holds left operator right) (Holds first wanted second) h environment other meets holds =
    let operators : operator ≡ wanted = same-marker_operator operator wanted (both-first (is_same_marker_operator operator wanted) _ h) in
    let both : (is_same_operand left first && is_same_operand right second) ≡ true = both-second (is_same_marker_operator operator wanted) _ h in
    let lefts : operand_text other left ≡ operand_text other first = same-operand other left first (both-first (is_same_operand left first) _ both) in
    let rights : operand_text other right ≡ operand_text other second = same-operand other right second (both-second (is_same_operand left first) _ both) in
    sym (λ i. relates (operators i) (lefts i) (rights i)) ∙ holds
said-by (Matches own clause) (Holds left operator right) h environment other meets matched = absurd cc
said-by (Holds left operator right) (Same variable) h environment other meets holds = absurd cc
said-by (Holds left operator right) (Matches variable wanted) h environment other meets holds = absurd cc

pub said-among : (conditions : List Condition) (wanted : Condition) → list_any (λ condition. says condition wanted) conditions ≡ true → SaysAmong conditions wanted
said-among [] wanted h environment other meets all = absurd cc
said-among (condition ∷ conditions) wanted h environment other meets all = elim (one-of (says condition wanted) _ h) [
  | inl here ↦ said-by condition wanted here environment other meets all.0
  | inr there ↦ said-among conditions wanted there environment other meets all.1
]
