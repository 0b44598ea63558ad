-- The relations by which conditions are told hold where the conditions are met.
use Rattle.std.proofs.Common.{◌≡◌, ◌∙◌, inl, inr, ℕ, ◌+◌, ◌<◌, ◌≤◌, Bool, true, false, not, ◌&&◌, ◌||◌, eqb, if◌then◌else◌, List, [], ◌∷◌, ◌++◌, length, map, get_or, take, Option, Some, None, is_some, nat_eq, arith, append_assoc, refl, ap, subst, sym}
use Rattle.std.proofs.lemmas.Bool.{cases_Bool}
use Rattle.std.proofs.lemmas.Bool.Decides.{nat_tests}
use Rattle.std.proofs.lemmas.List.{append-nil, map-append, take_all, take_more}
use Rattle.std.proofs.lemmas.List.Concat.{flat_map-append, flat_map-cons}
use Rattle.std.proofs.lemmas.Map.Text.{is_eq-slice_cmp}
use Rattle.std.proofs.lemmas.Slice.Eq.{bytes_eq-Decides}
use Rattle.std.specs.Cmp.{eq_by_cmp_equiv, first_so, second_so}
use Rattle.std.specs.Cmp.Derive.{both_true}
use Rattle.std.specs.Cmp.Lexicographic.{nat_list_cmp_total}
use Rattle.std.specs.List.{AllByRecursion, flat_map, list_all}
use Rattle.std.specs.Ordering.{is_eq}
use Rattle.std.specs.Prelude.{◌↔◌, Ok, codes}
use Rattle.markers.specs.Comparisons.{clauses_read, decides, text_cmp, text_compares, version_read}
use Rattle.markers.specs.Environment.{IsEnvironment, Texts, is_unescaped, is_versioned, joined, text_of}
use Rattle.markers.specs.Marker.{marker_of}
use Rattle.markers.specs.MarkerAtoms.{Relation, begins_with, contains, relation_holds}
use Rattle.markers.specs.MarkerSpelling.{is_inside}
use Rattle.markers.specs.Tied.MarkerTokens.{comparison_of}
use Rattle.markers.specs.declared.comparison.Comparison.TheVariants as comparisons
use Rattle.markers.specs.declared.marker_atom.Operand.{Operand}
use Rattle.markers.specs.declared.marker_atom.Operand.TheVariants as operands
use Rattle.markers.specs.declared.marker_atom.MarkerOperator.TheVariants as operators
use Rattle.markers.specs.declared.variable.Variable.{Variable}
use Rattle.markers.specs.declared.variable.Variable.TheVariants as variables
use Rattle.pep440.specs.Matching.{clause_matches}
use Rattle.pep440.specs.Version.{VersionParts}
use Rattle.pep440.specs.declared.specifier.Clause.{Clause}
use Rattle.exports.specs.Conditions.{IsMarkerOf, IsTellable, Meets, MeetsAll, can_stand, is_matched}
use Rattle.exports.specs.Tied.Told.{conditions_told, operand_told, related, relation_told, same_told, told, version_told, with_all, with_more}
use Rattle.exports.specs.declared.condition.Condition.{Condition}
use Rattle.exports.specs.declared.condition.Condition.TheVariants as conditions
use Rattle.exports.proofs.ToldClauses.{told-inside, told-read}
use Rattle.exports.proofs.ToldMarkers.{AreQuotable, IsQuotable, ReadsAsSpelled, told-holds, told-reads, tree_told}

-- ---- the text

abbrev IsSomeText : List ℕ → Type 0
IsSomeText text = (b : ℕ) × (rest : List ℕ) × (text ≡ b ∷ rest)

operand-some : (o : Operand) (behind : List ℕ) → IsSomeText (operand_told o ++ behind)
operand-some (operands.Variable variables.ImplementationName) behind = (_, _, refl)
operand-some (operands.Variable variables.ImplementationVersion) behind = (_, _, refl)
operand-some (operands.Variable variables.OsName) behind = (_, _, refl)
operand-some (operands.Variable variables.PlatformMachine) behind = (_, _, refl)
operand-some (operands.Variable variables.PlatformPythonImplementation) behind = (_, _, refl)
operand-some (operands.Variable variables.PlatformRelease) behind = (_, _, refl)
operand-some (operands.Variable variables.PlatformSystem) behind = (_, _, refl)
operand-some (operands.Variable variables.PlatformVersion) behind = (_, _, refl)
operand-some (operands.Variable variables.PythonFullVersion) behind = (_, _, refl)
operand-some (operands.Variable variables.PythonVersion) behind = (_, _, refl)
operand-some (operands.Variable variables.SysPlatform) behind = (_, _, refl)
operand-some (operands.Quoted text) behind = (_, _, refl)

each-some : (rs : List Relation) → AllByRecursion IsSomeText (map relation_told rs)
each-some [] = tt
each-some (r ∷ rs) = (operand-some r.left _, each-some rs)

-- what stands before another one, joined
abbrev onward : List ℕ → List ℕ
onward next = codes " and " ++ next

one-there : (b : ℕ) (rest : List ℕ) → eqb (length (b ∷ rest)) 0 ≡ false
one-there b rest = grind (arith, nat_tests)

first-there : (b : ℕ) (rest next : List ℕ) → with_more (b ∷ rest) next ≡ (b ∷ rest) ++ onward next
first-there b rest next = ap (λ (empty : Bool). if empty then next else (b ∷ rest) ++ onward next) (one-there b rest)

some-there : (text behind next : List ℕ) → IsSomeText text → with_more (text ++ behind) next ≡ (text ++ behind) ++ onward next
some-there text behind next h =
    subst (λ (t : List ℕ). with_more (t ++ behind) next ≡ (t ++ behind) ++ onward next) (sym h.2) (first-there h.0 (h.1 ++ behind) next)

joined-more : (texts : List (List ℕ)) (next : List ℕ) → AllByRecursion IsSomeText texts → joined (texts ++ next ∷ []) ≡ with_more (joined texts) next
joined-more [] next h = append-nil next
joined-more (first ∷ rest) next h =
    let grown : flat_map onward (rest ++ next ∷ []) ≡ flat_map onward rest ++ onward next =
    flat_map-append onward rest (next ∷ []) ∙ ap (λ (t : List ℕ). flat_map onward rest ++ t) (append-nil (onward next)) in
    ap (λ (t : List ℕ). first ++ t) grown ∙ sym (append_assoc first (flat_map onward rest) (onward next)) ∙ sym (some-there first (flat_map onward rest) next h.0)

each-joined : {A : Type 0} (P : A → Type 0) (xs ys : List A) → AllByRecursion P xs → AllByRecursion P ys → AllByRecursion P (xs ++ ys)
each-joined P [] ys h k = k
each-joined P (x ∷ xs) ys h k = (h.0, each-joined P xs ys h.1 k)

joined-all : (texts more : List (List ℕ)) → AllByRecursion IsSomeText texts → AllByRecursion IsSomeText more → with_all (joined texts) more ≡ joined (texts ++ more)
joined-all texts [] h k = ap joined (sym (append-nil texts))
joined-all texts (next ∷ more) h k =
    ap (λ (t : List ℕ). with_all t more) (sym (joined-more texts next h))
    ∙ joined-all (texts ++ next ∷ []) more (each-joined IsSomeText texts (next ∷ []) h (k.0, tt)) k.1
    ∙ ap joined (append_assoc texts (next ∷ []) more)

-- one condition more
pub told-more : (environment : Texts) (so_far : List Condition) (condition : Condition) (before after : List ℕ) → before ≡ conditions_told environment so_far
    → after ≡ with_all before (map relation_told (told environment condition)) → after ≡ conditions_told environment (so_far ++ condition ∷ [])
told-more environment so_far condition before after is grown =
    let relations = flat_map (told environment) so_far in
    let one : flat_map (told environment) (so_far ++ condition ∷ []) ≡ relations ++ told environment condition =
    flat_map-append (told environment) so_far (condition ∷ []) ∙ ap (λ (rs : List Relation). relations ++ rs) (append-nil (told environment condition)) in
    grown ∙ ap (λ (t : List ℕ). with_all t (map relation_told (told environment condition))) is
    ∙ joined-all (map relation_told relations) (map relation_told (told environment condition)) (each-some relations) (each-some (told environment condition))
    ∙ ap joined (sym (map-append relation_told relations (told environment condition))) ∙ sym (ap (λ (rs : List Relation). joined (map relation_told rs)) one)

pub told-step : (environment : Texts) (conditions : List Condition) (i : ℕ) (condition : Condition) (before after : List ℕ) → i < length conditions → condition ≡ get_or conditions i condition
    → before ≡ conditions_told environment (take i conditions) → after ≡ with_all before (map relation_told (told environment condition)) → after ≡ conditions_told environment (take (i + 1) conditions)
told-step environment conditions i condition before after within here is grown =
    told-more environment (take i conditions) condition before after is grown
    ∙ ap (conditions_told environment) (ap (λ (c : Condition). take i conditions ++ c ∷ []) here ∙ sym (take_more conditions i condition within))

pub told-whole : (environment : Texts) (conditions : List Condition) (i : ℕ) (text : List ℕ) → length conditions ≤ i → text ≡ conditions_told environment (take i conditions) → text ≡ conditions_told environment conditions
told-whole environment conditions i text past is = is ∙ ap (conditions_told environment) (take_all i conditions past)

-- ---- texts of which each stands in the other

begins-length : (text part : List ℕ) → begins_with text part ≡ true → length part ≤ length text
begins-length text [] h = omega arith
begins-length [] (c ∷ part) h = absurd cc
begins-length (b ∷ text) (c ∷ part) h = let rest = begins-length text part (second_so (nat_eq b c) (begins_with text part) h) in omega arith

contains-length : (text part : List ℕ) → contains text part ≡ true → length part ≤ length text
contains-length [] part h = begins-length [] part h
contains-length (b ∷ text) part h = elim (cases_Bool (begins_with (b ∷ text) part)) [
  | inl begins ↦ begins-length (b ∷ text) part begins
  | inr other ↦ (let rest = contains-length text part (rw other at h) in omega arith)
]

begins-same : (text part : List ℕ) → begins_with text part ≡ true → length text ≤ length part → text ≡ part
begins-same [] [] h k = refl
begins-same (b ∷ text) [] h k = absurd (omega arith)
begins-same [] (c ∷ part) h k = absurd cc
begins-same (b ∷ text) (c ∷ part) h k =
    let first : b ≡ c = same-number b c (first_so (nat_eq b c) (begins_with text part) h) in
    let rest : text ≡ part = begins-same text part (second_so (nat_eq b c) (begins_with text part) h) (omega arith) in
    λ i. first i ∷ rest i
  where
    same-number : (b c : ℕ) → nat_eq b c ≡ true → b ≡ c
    same-number b c h = grind (arith, nat_tests)

contains-same : (text part : List ℕ) → contains text part ≡ true → length text ≤ length part → text ≡ part
contains-same [] part h k = begins-same [] part h k
contains-same (b ∷ text) part h k = elim (cases_Bool (begins_with (b ∷ text) part)) [
  | inl begins ↦ begins-same (b ∷ text) part begins k
  | inr other ↦ (let rest = contains-length text part (rw other at h) in absurd (omega arith))
]

begins-itself : (text : List ℕ) → begins_with text text ≡ true
begins-itself [] = refl
begins-itself (b ∷ text) = both_true (same-number b) (begins-itself text)
  where
    same-number : (b : ℕ) → nat_eq b b ≡ true
    same-number b = grind (arith, nat_tests)

contains-itself : (text : List ℕ) → contains text text ≡ true
contains-itself [] = refl
contains-itself (b ∷ text) = rw (begins-itself (b ∷ text)) refl

-- ---- one condition

decides-texts : (read : Option VersionParts) (texts : Bool) → decides read None texts ≡ texts
decides-texts (Some version) texts = refl
decides-texts None texts = refl

same-told : (other : Texts) (v : Variable) (text : List ℕ) (read : Option (List Clause)) → clauses_read comparisons.Equal text ≡ read
    → AllByRecursion (λ r. relation_holds r other ≡ true) (same_told v text (is_some read)) ↔ (text_of other v ≡ text)
same-told other v text None e =
    let compared : relation_holds (related v (operators.Compare comparisons.Equal) text) other ≡ is_eq (text_cmp (text_of other v) text) =
    ap (λ (read : Option (List Clause)). decides (version_read (text_of other v)) read (is_eq (text_cmp (text_of other v) text))) e ∙ decides-texts (version_read (text_of other v)) (is_eq (text_cmp (text_of other v) text)) in (
      λ h. (bytes_eq-Decides (text_of other v) text).0 (sym (is_eq-slice_cmp (text_of other v) text) ∙ sym compared ∙ h.0),
      λ s. (compared ∙ ap (λ (t : List ℕ). is_eq (text_cmp t text)) s ∙ (eq_by_cmp_equiv nat_list_cmp_total).refl text, tt),
    )
same-told other v text (Some clauses) e = (
  λ h. sym (contains-same text (text_of other v) h.0 (contains-length (text_of other v) text h.1.0)),
  λ s. (
    ap (contains text) s ∙ contains-itself text,
    (ap (λ (t : List ℕ). contains t text) s ∙ contains-itself text, tt),
  ),
)

and-true : (b : Bool) → (b && true) ≡ b
and-true true = refl
and-true false = refl

matched : (read : Option VersionParts) (c : Clause) (texts : Bool) → is_some read ≡ true → decides read (Some (c ∷ [])) texts ≡ is_matched c read
matched None c texts h = absurd cc
matched (Some version) c texts h = and-true (clause_matches c version)

version-there : (versioned read : Bool) → versioned ≡ true → (not versioned || read) ≡ true → read ≡ true
version-there true read h k = k
version-there false read h k = absurd cc

has-version : (other : Texts) → IsEnvironment other → (v : Variable) → is_versioned v ≡ true → is_some (version_read (text_of other v)) ≡ true
has-version other e v versioned =
    version-there (is_versioned v) (is_some (version_read (text_of other v))) versioned
    (second_so (list_all is_unescaped (text_of other v)) (not (is_versioned v) || is_some (version_read (text_of other v))) (e.lawful v))

condition-told : (environment other : Texts) → IsEnvironment other → (c : Condition) → IsTellable c
    → AllByRecursion (λ r. relation_holds r other ≡ true) (told environment c) ↔ Meets environment other c
condition-told environment other e (conditions.Same v) t = same-told other v (text_of environment v) (clauses_read comparisons.Equal (text_of environment v)) refl
condition-told environment other e (conditions.Matches v clause) t =
    let texts = text_compares (comparison_of clause.operator) (text_of other v) (version_told clause) in
    let is : decides (version_read (text_of other v)) (clauses_read (comparison_of clause.operator) (version_told clause)) texts ≡ is_matched clause (version_read (text_of other v)) =
    ap (λ (read : Option (List Clause)). decides (version_read (text_of other v)) read texts) (told-read clause t.1 t.2) ∙ matched (version_read (text_of other v)) clause texts (has-version other e v t.0) in (
      λ h. sym is ∙ h.0,
      λ h. (is ∙ h, tt),
    )
condition-told environment other e (conditions.Holds left sign right) t = (λ h. h.0, λ h. (h, tt))

-- ---- all conditions

each-cut : {A : Type 0} (P : A → Type 0) (xs ys : List A) → AllByRecursion P (xs ++ ys) → AllByRecursion P xs × AllByRecursion P ys
each-cut P [] ys h = (tt, h)
each-cut P (x ∷ xs) ys h = let rest = each-cut P xs ys h.1 in ((h.0, rest.0), rest.1)

all-told : (environment other : Texts) → IsEnvironment other → (cs : List Condition) → AllByRecursion IsTellable cs
    → AllByRecursion (λ r. relation_holds r other ≡ true) (flat_map (told environment) cs) ↔ MeetsAll environment other cs
all-told environment other e [] t = (λ h. tt, λ h. tt)
all-told environment other e (c ∷ cs) t =
    let here = condition-told environment other e c t.0 in
    let more = all-told environment other e cs t.1 in
    let cut = flat_map-cons (told environment) c cs in (
      λ h. (let both = each-cut (λ r. relation_holds r other ≡ true) (told environment c) (flat_map (told environment) cs) (subst (AllByRecursion (λ r. relation_holds r other ≡ true)) cut h) in (here.0 both.0, more.0 both.1)),
      λ h. subst (AllByRecursion (λ r. relation_holds r other ≡ true)) (sym cut) (each-joined (λ r. relation_holds r other ≡ true) (told environment c) (flat_map (told environment) cs) (here.1 h.0) (more.1 h.1)),
    )

plain-inside : (b : ℕ) → is_unescaped b ≡ true → is_inside 34 b ≡ true
plain-inside b h = grind (arith, nat_tests)

all-inside : (text : List ℕ) → list_all is_unescaped text ≡ true → list_all (is_inside 34) text ≡ true
all-inside [] h = refl
all-inside (b ∷ text) h = both_true (plain-inside b (first_so (is_unescaped b) (list_all is_unescaped text) h)) (all-inside text (second_so (is_unescaped b) (list_all is_unescaped text) h))

own-inside : (environment : Texts) → IsEnvironment environment → (v : Variable) → list_all (is_inside 34) (text_of environment v) ≡ true
own-inside environment e v =
    all-inside (text_of environment v) (first_so (list_all is_unescaped (text_of environment v)) (not (is_versioned v) || is_some (version_read (text_of environment v))) (e.lawful v))

same-quotable : (v : Variable) (text : List ℕ) (reads : Bool) → list_all (is_inside 34) text ≡ true → AllByRecursion AreQuotable (same_told v text reads)
same-quotable v text true h = (record { left = tt; right = h }, (record { left = h; right = tt }, tt))
same-quotable v text false h = (record { left = tt; right = h }, tt)

operand-quotable : (operand : Operand) → can_stand operand ≡ true → IsQuotable operand
operand-quotable (operands.Variable v) h = tt
operand-quotable (operands.Quoted text) h = all-inside text h

condition-quotable : (environment : Texts) → IsEnvironment environment → (c : Condition) → IsTellable c → AllByRecursion AreQuotable (told environment c)
condition-quotable environment e (conditions.Same v) t = same-quotable v (text_of environment v) (is_some (clauses_read comparisons.Equal (text_of environment v))) (own-inside environment e v)
condition-quotable environment e (conditions.Matches v clause) t = (record { left = tt; right = told-inside clause t.1 }, tt)
condition-quotable environment e (conditions.Holds left sign right) t = (record { left = operand-quotable left t.0; right = operand-quotable right t.1 }, tt)

pub all-quotable : (environment : Texts) → IsEnvironment environment → (cs : List Condition) → AllByRecursion IsTellable cs → AllByRecursion AreQuotable (flat_map (told environment) cs)
all-quotable environment e [] t = tt
all-quotable environment e (c ∷ cs) t =
    subst (AllByRecursion AreQuotable) (sym (flat_map-cons (told environment) c cs))
    (each-joined AreQuotable (told environment c) (flat_map (told environment) cs) (condition-quotable environment e c t.0) (all-quotable environment e cs t.1))

-- ---- the law

same-there : (v : Variable) (text : List ℕ) (reads : Bool) (rest : List Relation) → same_told v text reads ++ rest ≡ [] → ⊥
same-there v text true rest h = cc
same-there v text false rest h = cc

told-there : (environment : Texts) (c : Condition) (rest : List Relation) → told environment c ++ rest ≡ [] → ⊥
told-there environment (conditions.Same v) rest h = same-there v (text_of environment v) (is_some (clauses_read comparisons.Equal (text_of environment v))) rest h
told-there environment (conditions.Matches v clause) rest h = cc
told-there environment (conditions.Holds left sign right) rest h = cc

pub relations-there : (environment : Texts) (cs : List Condition) → (cs ≡ [] → ⊥) → flat_map (told environment) cs ≡ [] → ⊥
relations-there environment [] some h = some refl
relations-there environment (c ∷ cs) some h = told-there environment c (flat_map (told environment) cs) (sym (flat_map-cons (told environment) c cs) ∙ h)

relations-read : ReadsAsSpelled → (rs : List Relation) → (rs ≡ [] → ⊥) → AllByRecursion AreQuotable rs → marker_of (joined (map relation_told rs)) ≡ Ok (tree_told rs)
relations-read found [] some q = absurd (some refl)
relations-read found (r ∷ rs) some q = told-reads found r rs q

pub conditions-told : ReadsAsSpelled → (environment : Texts) → IsEnvironment environment → (cs : List Condition) → AllByRecursion IsTellable cs → (cs ≡ [] → ⊥) → IsMarkerOf environment cs (conditions_told environment cs)
conditions-told found environment e cs t some =
    let relations = flat_map (told environment) cs in
    record {
      marker = tree_told relations;
      reads = relations-read found relations (relations-there environment cs some) (all-quotable environment e cs t);
      exact = λ other extra o. (
        λ h. (all-told environment other o cs t).0 ((told-holds relations other extra).0 h),
        λ h. (told-holds relations other extra).1 ((all-told environment other o cs t).1 h),
      );
    }
