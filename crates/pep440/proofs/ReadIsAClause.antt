-- What is read as a clause is one of the grammar.
use Rattle.std.proofs.Common.{◌≡◌, ℕ, true, false, cond, ◌⊎◌, List, ◌++◌, Option, Some, None, Result, Ok, Err, refl, ap, subst, ◌∙◌, inl, inr}
use Rattle.std.specs.Option.{option_map}
use Rattle.pep440.specs.declared.fault.Fault.{Fault}
use Rattle.pep440.specs.declared.fault.Fault.TheVariants.{ArbitraryEquality, BadClause, NumberTooLarge}
use Rattle.pep440.specs.declared.specifier.Operator.{Operator}
use Rattle.pep440.specs.declared.specifier.Clause.{Clause}
use Rattle.pep440.specs.Version.{VersionParts, fits}
use Rattle.pep440.specs.Grammar.{IsVersionText}
use Rattle.pep440.specs.Tied.Reading.{Spans, bare_parts, parts_in, spans_of}
use Rattle.lists.specs.Spaces.{is_space_or_tab}
use Rattle.pep440.specs.Text.{trim_front}
use Rattle.pep440.specs.SetGrammar.{takes, IsClause, sign}
use Rattle.pep440.specs.Tied.Sets.{clause_behind, clause_for, clause_of, ends_in_star, is_arbitrary, operator_of, star_operator, version_text}
use Rattle.pep440.proofs.CutFacts.{chosen}
use Rattle.pep440.proofs.ReadIsSpelled.{read-spells}
use Rattle.pep440.proofs.OperatorsRead.{operator-cut, blank-cut, ended}

record ForCut (o : Option Operator) (v : Option VersionParts) (c : Clause) : Type 0 where
  operator : o ≡ Some c.operator
  version : v ≡ Some c.version
  taken : takes c.operator c.version ≡ true

ok-is : (x y : Clause) → ◌≡◌ {A = Result Clause Fault} (Ok x) (Ok y) → x ≡ y
ok-is x y h = cc

for-cut : (k : ℕ) (o : Option Operator) (v : Option VersionParts) (c : Clause) → clause_for k o v ≡ Ok c → ForCut o v c × (fits c.version ≡ true)
for-cut k None v c h = absurd cc
for-cut k (Some o) None c h = absurd cc
for-cut k (Some o) (Some v) c h = elim (chosen (takes o v) (cond (fits v) (Ok (record { operator = o; version = v })) (Err NumberTooLarge)) (Err (BadClause k)) (Ok c) h) [
  | inl x ↦ elim (chosen (fits v) (Ok (record { operator = o; version = v })) (Err NumberTooLarge) (Ok c) x.1) [
    | inl y ↦ subst (λ (d : Clause). ForCut (Some o) (Some v) d × (fits d.version ≡ true)) (ok-is _ c y.1) (record { operator = refl; version = refl; taken = x.0 }, y.0)
    | inr y ↦ absurd (let bad = y.1 in cc)
  ]
  | inr x ↦ absurd (let bad = x.1 in cc)
]

-- a fault behind the operator: a number is too large where all else is a clause, and any other is that of a bad clause
for-fault : (k : ℕ) (o : Option Operator) (v : Option VersionParts) (e : Fault) → clause_for k o v ≡ Err e
    → (e ≡ BadClause k) ⊎ ((e ≡ NumberTooLarge) × ((c : Clause) × ForCut o v c × (fits c.version ≡ false)))
for-fault k None v e h = inl cc
for-fault k (Some o) None e h = inl cc
for-fault k (Some o) (Some v) e h = elim (chosen (takes o v) (cond (fits v) (Ok (record { operator = o; version = v })) (Err NumberTooLarge)) (Err (BadClause k)) (Err e) h) [
  | inl x ↦ elim (chosen (fits v) (Ok (record { operator = o; version = v })) (Err NumberTooLarge) (Err e) x.1) [
    | inl y ↦ absurd (let bad = y.1 in cc)
    | inr y ↦ inr ((let bad = y.1 in cc), (record { operator = o; version = v }, record { operator = refl; version = refl; taken = x.0 }, y.0))
  ]
  | inr x ↦ inl (let bad = x.1 in cc)
]

map-some : (o : Option Spans) (v : VersionParts) → option_map parts_in o ≡ Some v → (s : Spans) × (o ≡ Some s) × (parts_in s ≡ v)
map-some None v h = absurd cc
map-some (Some s) v h = (s, refl, cc)

pub bare-spells : (text : List ℕ) (v : VersionParts) → bare_parts text ≡ Some v → IsVersionText text v
bare-spells text v h = let m = map-some (spans_of text) v h in subst (λ (w : VersionParts). IsVersionText text w) m.2 (read-spells text m.0 m.1)

-- what was found behind the operator is a clause of the grammar
found-clause : (piece : List ℕ) (p : Operator × List ℕ) (c : Clause) → operator_of piece ≡ Some p
    → ForCut (star_operator (ends_in_star (trim_front is_space_or_tab p.1)) p.0) (bare_parts (version_text (ends_in_star (trim_front is_space_or_tab p.1)) (trim_front is_space_or_tab p.1))) c
    → IsClause piece c
found-clause piece p c e f =
    let s = operator-cut piece p e in
    let b = blank-cut p.1 in
    let text = trim_front is_space_or_tab p.1 in
    let d = ended (ends_in_star text) p.0 c.operator text refl s.usual f.operator in
    let version = version_text (ends_in_star text) text in
    record {
      blanks = b.blanks;
      version = version;
      whole = s.whole ∙ (λ i. d.sign_is i ++ p.1) ∙ ap (λ (t : List ℕ). sign c.operator ++ t) (b.whole ∙ ap (λ (t : List ℕ). b.blanks ++ t) d.whole);
      are_blank = b.are_blank;
      spells = bare-spells version c.version f.version;
      taken = f.taken;
    }

behind-cut : (k : ℕ) (piece : List ℕ) (o : Option (Operator × List ℕ)) (c : Clause) → operator_of piece ≡ o → clause_behind k o ≡ Ok c → IsClause piece c × (fits c.version ≡ true)
behind-cut k piece None c e h = absurd cc
behind-cut k piece (Some p) c e h =
    let text = trim_front is_space_or_tab p.1 in
    let f = for-cut k (star_operator (ends_in_star text) p.0) (bare_parts (version_text (ends_in_star text) text)) c h in
    (found-clause piece p c e f.0, f.1)

pub behind-fault : (k : ℕ) (piece : List ℕ) (o : Option (Operator × List ℕ)) (e : Fault) → operator_of piece ≡ o → clause_behind k o ≡ Err e
    → (e ≡ BadClause k) ⊎ ((e ≡ NumberTooLarge) × ((c : Clause) × IsClause piece c × (fits c.version ≡ false)))
behind-fault k piece None e s h = inl cc
behind-fault k piece (Some p) e s h =
    let text = trim_front is_space_or_tab p.1 in
    elim (for-fault k (star_operator (ends_in_star text) p.0) (bare_parts (version_text (ends_in_star text) text)) e h) [
      | inl bad ↦ inl bad
      | inr large ↦ let found = large.1 in inr (large.0, (found.0, found-clause piece p found.0 s found.1, found.2))
    ]

-- what is read is a clause of the grammar, and its numbers fit
pub read-clause : (k : ℕ) (piece : List ℕ) (c : Clause) → clause_of k piece ≡ Ok c → IsClause piece c × (fits c.version ≡ true)
read-clause k piece c h = elim (chosen (is_arbitrary piece) (Err ArbitraryEquality) (clause_behind k (operator_of piece)) (Ok c) h) [
  | inl x ↦ absurd (let bad = x.1 in cc)
  | inr x ↦ behind-cut k piece (operator_of piece) c refl x.1
]
