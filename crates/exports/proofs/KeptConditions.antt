-- Conditions that grow, question by question.
use Rattle.std.proofs.Common.{◌≡◌, ◌∙◌, ◌&&◌, ◌⊎◌, inl, inr, ℕ, ◌+◌, ◌<◌, ◌≤◌, true, List, [], ◌∷◌, ◌++◌, Option, Some, None, get_or, length, take, refl, ap, subst, sym}
use Rattle.std.specs.List.{AllByRecursion}
use Rattle.markers.specs.Comparisons.{version_read}
use Rattle.markers.specs.Environment.{Texts, text_of}
use Rattle.markers.specs.MarkerAtoms.{Relation, operand_text, relates}
use Rattle.markers.specs.MarkerRelations.{RelationAlike}
use Rattle.markers.specs.declared.variable.Variable.{Variable}
use Rattle.pep440.specs.Matching.{clause_matches, matches, operator_matches}
use Rattle.pep440.specs.Version.{VersionParts}
use Rattle.pep440.specs.declared.specifier.Clause.{Clause}
use Rattle.pep440.specs.SetGrammar.{takes}
use Rattle.pep440.specs.declared.specifier.Operator.{Operator}
use Rattle.pep440.specs.declared.specifier.Operator.TheVariants as operators
use Rattle.exports.specs.Conditions.{IsTellable, Meets, MeetsAll, is_matched}
use Rattle.exports.specs.Tied.Implication.{opposite_of}
use Rattle.exports.specs.Tied.Kept.{AreOwn, ClauseAlike, ClausesAlike, IsOwn, Keeps, OperandAlike, SaysAmong, Settles, VersionsAlike, both_read, same_text}
use Rattle.exports.specs.declared.condition.Condition.{Condition}
use Rattle.exports.specs.declared.condition.Condition.TheVariants as conditions
use Rattle.exports.proofs.SaidConditions.{opposite-turns}
use Rattle.exports.proofs.EachOf.{each-front, each-map, each-last, each-more, each-push, each-whole}

-- ---- any question

-- nothing has to be asked
pub kept-none : (environment : Texts) (old : List Condition) (Settled : Texts → Type 0) → ((other : Texts) → Settled other) → Keeps environment old old Settled
kept-none environment old Settled f = record { stronger = λ other h. h; settled = λ other h. f other; own = λ h. h }

-- what settles one question settles another
pub kept-as : (environment : Texts) (old new : List Condition) (P Q : Texts → Type 0) → Keeps environment old new P → ((other : Texts) → P other → Q other) → Keeps environment old new Q
kept-as environment old new P Q k f = record { stronger = k.stronger; settled = λ other h. f other (k.settled other h); own = k.own }

-- two questions, one after the other
pub kept-both : (environment : Texts) (old between new : List Condition) (P Q R : Texts → Type 0) → Keeps environment old between P → Keeps environment between new Q
    → ((other : Texts) → P other → Q other → R other) → Keeps environment old new R
kept-both environment old between new P Q R k l f = record {
  stronger = λ other h. k.stronger other (l.stronger other h);
  settled = λ other h. f other (k.settled other (l.stronger other h)) (l.settled other h);
  own = λ h. l.own (k.own h);
}

-- one question more of a list
pub kept-more : {A : Type 0} (P : Texts → A → Type 0) (environment : Texts) (old between new : List Condition) (xs : List A) (i : ℕ) (x : A) → i < length xs → x ≡ get_or xs i x
    → Keeps environment old between (λ other. AllByRecursion (P other) (take i xs)) → Keeps environment between new (λ other. P other x)
    → Keeps environment old new (λ other. AllByRecursion (P other) (take (i + 1) xs))
kept-more P environment old between new xs i x within is k l =
    kept-both environment old between new (λ other. AllByRecursion (P other) (take i xs)) (λ other. P other x) (λ other. AllByRecursion (P other) (take (i + 1) xs))
    k l (λ other h j. each-more (P other) xs i x within h (subst (P other) is j))

-- none yet
pub kept-start : {A : Type 0} (P : Texts → A → Type 0) (environment : Texts) (old : List Condition) (xs : List A) → Keeps environment old old (λ other. AllByRecursion (P other) (take 0 xs))
kept-start P environment old xs = kept-none environment old (λ other. AllByRecursion (P other) (take 0 xs)) (λ other. tt)

-- all questions of a list
pub kept-whole : {A : Type 0} (P : Texts → A → Type 0) (environment : Texts) (old new : List Condition) (xs : List A) (i : ℕ) → length xs ≤ i
    → Keeps environment old new (λ other. AllByRecursion (P other) (take i xs)) → Keeps environment old new (λ other. AllByRecursion (P other) xs)
kept-whole P environment old new xs i past k =
    kept-as environment old new (λ other. AllByRecursion (P other) (take i xs)) (λ other. AllByRecursion (P other) xs) k (λ other h. each-whole (P other) xs i past h)

-- ---- a condition

-- the others say it
pub kept-said : (environment : Texts) (old : List Condition) (condition : Condition) → IsOwn environment condition
    → SaysAmong old condition → Keeps environment old old (λ other. Meets environment other condition)
kept-said environment old condition own said = record { stronger = λ other h. h; settled = λ other h. said environment other own.0 h; own = λ h. h }

-- it stands behind the others
pub kept-pushed : (environment : Texts) (old new : List Condition) (condition : Condition) → IsOwn environment condition → new ≡ old ++ condition ∷ []
    → Keeps environment old new (λ other. Meets environment other condition)
kept-pushed environment old new condition own e = record {
  stronger = λ other h. each-front (Meets environment other) old (condition ∷ []) (subst (MeetsAll environment other) e h);
  settled = λ other h. each-last (Meets environment other) old condition (subst (MeetsAll environment other) e h);
  own = λ h. subst (AreOwn environment) (sym e) (each-push (IsOwn environment) old condition h own);
}

-- ---- versions

read-some : (clause : Clause) (read : Option VersionParts) → is_matched clause read ≡ true → (version : VersionParts) × (read ≡ Some version) × (clause_matches clause version ≡ true)
read-some clause None h = absurd cc
read-some clause (Some version) h = (version, refl, h)

-- a clause that matches settles itself, and else its opposite settles it
pub settles-itself : (environment : Texts) (variable : Variable) (clause : Clause) (version : VersionParts) → IsTellable (conditions.Matches variable clause)
    → version_read (text_of environment variable) ≡ Some version → clause_matches clause version ≡ true → Settles environment variable clause clause
settles-itself environment variable clause version tellable read h = record {
  own = (rw read h, tellable);
  alike = λ one other a b. a ∙ sym b;
}

turned : (opposite wanted : Operator) (version : VersionParts) → Some wanted ≡ Some opposite → takes wanted version ≡ true → takes opposite version ≡ true
turned opposite wanted version e h = let same : wanted ≡ opposite = cc in subst (λ (operator : Operator). takes operator version ≡ true) same h

-- an opposite operator takes the same versions
opposite-takes : (operator opposite : Operator) (version : VersionParts) → opposite_of operator ≡ Some opposite → takes operator version ≡ true → takes opposite version ≡ true
opposite-takes operators.Compatible opposite version e h = absurd cc
opposite-takes operators.Equal opposite version e h = turned opposite operators.NotEqual version e h
opposite-takes operators.NotEqual opposite version e h = turned opposite operators.Equal version e h
opposite-takes operators.EqualPrefix opposite version e h = turned opposite operators.NotEqualPrefix version e h
opposite-takes operators.NotEqualPrefix opposite version e h = turned opposite operators.EqualPrefix version e h
opposite-takes operators.AtMost opposite version e h = turned opposite operators.Above version e h
opposite-takes operators.AtLeast opposite version e h = turned opposite operators.Below version e h
opposite-takes operators.Below opposite version e h = turned opposite operators.AtLeast version e h
opposite-takes operators.Above opposite version e h = turned opposite operators.AtMost version e h

pub settles-opposite : (environment : Texts) (variable : Variable) (clause : Clause) (operator : Operator) (version : VersionParts) → IsTellable (conditions.Matches variable clause)
    → version_read (text_of environment variable) ≡ Some version
    → opposite_of clause.operator ≡ Some operator → operator_matches operator clause.version version ≡ true → Settles environment variable clause (record { operator = operator; version = clause.version })
settles-opposite environment variable clause operator version tellable read e h = record {
  own = (rw read h, (tellable.0, tellable.1, opposite-takes clause.operator operator clause.version e tellable.2));
  alike = λ one other a b.
      opposite-turns clause.operator operator clause.version one e a ∙ sym (opposite-turns clause.operator operator clause.version other e b);
}

pub settled-clause : (environment other : Texts) (variable : Variable) (clause settling : Clause) → Settles environment variable clause settling → Meets environment other (conditions.Matches variable settling)
    → VersionsAlike environment other variable (ClauseAlike clause)
settled-clause environment other variable clause settling s h =
    let own : (version : VersionParts) × (version_read (text_of environment variable) ≡ Some version) × (clause_matches settling version ≡ true) = read-some settling _ s.own.0 in
    let its : (version : VersionParts) × (version_read (text_of other variable) ≡ Some version) × (clause_matches settling version ≡ true) = read-some settling _ h in
    both_read own.0 its.0 own.1 its.1 (s.alike own.0 its.0 own.2 its.2)

-- of clauses that each match both or neither
many : (environment other : Texts) (variable : Variable) (own its : VersionParts) (clauses : List Clause) → version_read (text_of environment variable) ≡ Some own → version_read (text_of other variable) ≡ Some its
    → AllByRecursion (λ clause. VersionsAlike environment other variable (ClauseAlike clause)) clauses → (text_of other variable ≡ text_of environment variable) ⊎ (matches clauses own ≡ matches clauses its)
many environment other variable own its [] p q h = inr refl
many environment other variable own its (clause ∷ clauses) p q h = elim h.0 [
  | same_text s ↦ inl s
  | both_read one two a b m ↦ elim (many environment other variable own its clauses p q h.1) [
    | inl s ↦ inl s
    | inr k ↦
        let e : own ≡ one = cc in
        let f : two ≡ its = cc in
        let n : clause_matches clause own ≡ clause_matches clause its = ap (clause_matches clause) e ∙ m ∙ ap (clause_matches clause) f in
        inr (λ i. n i && k i)
  ]
]

pub settled-clauses : (environment other : Texts) (variable : Variable) (clauses : List Clause) → (clauses ≡ [] → ⊥)
    → AllByRecursion (λ clause. VersionsAlike environment other variable (ClauseAlike clause)) clauses → VersionsAlike environment other variable (ClausesAlike clauses)
settled-clauses environment other variable [] some h = absurd (some refl)
settled-clauses environment other variable (clause ∷ clauses) some h = elim h.0 [
  | same_text s ↦ same_text s
  | both_read own its p q m ↦ elim (many environment other variable own its (clause ∷ clauses) p q h) [
    | inl s ↦ same_text s
    | inr k ↦ both_read own its p q k
  ]
]

-- ---- relations

pub settled-operands : (environment other : Texts) (relation : Relation) → OperandAlike environment relation.left other → OperandAlike environment relation.right other → RelationAlike environment other relation
settled-operands environment other relation left right =
    let lefts : operand_text environment relation.left ≡ operand_text other relation.left = sym left in
    let rights : operand_text environment relation.right ≡ operand_text other relation.right = sym right in
    λ i. relates relation.operator (lefts i) (rights i)

-- ---- conditions none of which another says

pub record IsLeft (environment : Texts) (whole left least : List Condition) : Type 0 where
  pub left_own : AreOwn environment left
  pub least_own : AreOwn environment least
  pub settled : (other : Texts) → MeetsAll environment other least → MeetsAll environment other left → MeetsAll environment other whole

pub left-step : (environment : Texts) (whole left next least more : List Condition) (condition : Condition) → IsLeft environment whole left least → left ≡ next ++ condition ∷ []
    → Keeps environment least more (λ other. Meets environment other condition) → IsLeft environment whole next more
left-step environment whole left next least more condition k e kept = record {
  left_own = each-front (IsOwn environment) next (condition ∷ []) (subst (AreOwn environment) e k.left_own);
  least_own = kept.own k.least_own;
  settled = λ other h j. k.settled other (kept.stronger other h) (subst (MeetsAll environment other) (sym e) (each-push (Meets environment other) next condition j (kept.settled other h)));
}

-- ---- all questions

-- conditions are met and can be told
pub own-met : (environment : Texts) (some : List Condition) → AreOwn environment some → MeetsAll environment environment some
own-met environment some h = each-map (IsOwn environment) (Meets environment environment) some (λ condition own. own.0) h

pub own-tellable : (environment : Texts) (some : List Condition) → AreOwn environment some → AllByRecursion IsTellable some
own-tellable environment some h = each-map (IsOwn environment) IsTellable some (λ condition own. own.1) h
