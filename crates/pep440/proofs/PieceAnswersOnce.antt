-- A piece of a set has one answer, by the grammar alone.
use Rattle.std.proofs.Common.{◌≡◌, ℕ, true, false, eqb, ◌&&◌, List, [], ◌∷◌, Result, Ok, Err, refl, sym, ap, ◌∙◌, arith, inl, inr}
use Rattle.std.specs.Cmp.{first_so, second_so}
use Rattle.std.proofs.lemmas.Bool.{cases_Bool}
use Rattle.std.proofs.lemmas.Bool.Decides.{nat_tests}
use Rattle.pep440.specs.declared.fault.Fault.{Fault}
use Rattle.pep440.specs.declared.fault.Fault.TheVariants.{ArbitraryEquality, BadClause, BadVersion, NumberTooLarge, OutOfMemory}
use Rattle.pep440.specs.declared.specifier.Clause.{Clause}
use Rattle.pep440.specs.Version.{fits}
use Rattle.pep440.specs.SetGrammar.{IsArbitrary, IsClause, PieceAnswers}
use Rattle.pep440.specs.Tied.Sets.{clause_behind, clause_of, is_arbitrary, operator_of}
use Rattle.pep440.proofs.ClauseIsRead.{clause-large, clause-read}
use Rattle.pep440.proofs.ReadIsAClause.{behind-fault, read-clause}

equal-is : (b : ℕ) → eqb b 61 ≡ true → b ≡ 61
equal-is b h = grind (arith, nat_tests)

-- ---- `===` at the front

arbitrary-begins : (piece : List ℕ) → is_arbitrary piece ≡ true → IsArbitrary piece
arbitrary-begins [] h = absurd cc
arbitrary-begins (a ∷ []) h = absurd cc
arbitrary-begins (a ∷ b ∷ []) h = absurd cc
arbitrary-begins (a ∷ b ∷ c ∷ rest) h =
    let two = first_so (eqb a 61 && eqb b 61) (eqb c 61) h in
    let e = equal-is a (first_so (eqb a 61) (eqb b 61) two) in
    let f = equal-is b (second_so (eqb a 61) (eqb b 61) two) in
    let g = equal-is c (second_so (eqb a 61 && eqb b 61) (eqb c 61) h) in
    (rest, λ i. e i ∷ f i ∷ g i ∷ rest)

begins-arbitrary : (piece : List ℕ) → IsArbitrary piece → is_arbitrary piece ≡ true
begins-arbitrary piece h = ap is_arbitrary h.1

arbitrary-read : (k : ℕ) (piece : List ℕ) → IsArbitrary piece → clause_of k piece ≡ Err ArbitraryEquality
arbitrary-read k piece h = rw (begins-arbitrary piece h) refl

-- ---- what is read answers so

no-clause : (k : ℕ) (piece : List ℕ) (n : ℕ) → clause_of k piece ≡ Err (BadClause n) → (c : Clause) → IsClause piece c → ⊥
no-clause k piece n h c is = elim (cases_Bool (fits c.version)) [
  | inl small ↦ let e = clause-read k piece c is small in cc
  | inr large ↦ let e = clause-large k piece c is large in cc
]

-- the fault of a piece that doesn't begin with `===`
usual-fault : (k : ℕ) (piece : List ℕ) (e : Fault) → clause_of k piece ≡ Err e → clause_behind k (operator_of piece) ≡ Err e → PieceAnswers k piece (Err e)
usual-fault k piece e whole h = elim (behind-fault k piece (operator_of piece) e refl h) [
  | inl bad ↦ bad-clause e bad whole
  | inr large ↦ too-large e large.0 large.1
]
  where
    bad-clause : (e : Fault) → e ≡ BadClause k → clause_of k piece ≡ Err e → PieceAnswers k piece (Err e)
    bad-clause (BadClause n) is whole = (cc, (λ begins. let other = arbitrary-read k piece begins in cc), no-clause k piece n whole)
    bad-clause BadVersion is whole = absurd cc
    bad-clause NumberTooLarge is whole = absurd cc
    bad-clause ArbitraryEquality is whole = absurd cc
    bad-clause OutOfMemory is whole = absurd cc

    too-large : (e : Fault) → e ≡ NumberTooLarge → ((c : Clause) × IsClause piece c × (fits c.version ≡ false)) → PieceAnswers k piece (Err e)
    too-large NumberTooLarge is found = found
    too-large BadVersion is found = absurd cc
    too-large (BadClause n) is found = absurd cc
    too-large ArbitraryEquality is found = absurd cc
    too-large OutOfMemory is found = absurd cc

arbitrary-fault : (k : ℕ) (piece : List ℕ) (e : Fault) → is_arbitrary piece ≡ true → e ≡ ArbitraryEquality → PieceAnswers k piece (Err e)
arbitrary-fault k piece ArbitraryEquality begins is = arbitrary-begins piece begins
arbitrary-fault k piece BadVersion begins is = absurd cc
arbitrary-fault k piece NumberTooLarge begins is = absurd cc
arbitrary-fault k piece (BadClause n) begins is = absurd cc
arbitrary-fault k piece OutOfMemory begins is = absurd cc

pub piece-answers : (k : ℕ) (piece : List ℕ) (answer : Result Clause Fault) → clause_of k piece ≡ answer → PieceAnswers k piece answer
piece-answers k piece (Ok c) h = read-clause k piece c h
piece-answers k piece (Err e) h = elim (cases_Bool (is_arbitrary piece)) [
  | inl begins ↦ let is : ◌≡◌ {A = Result Clause Fault} (Err ArbitraryEquality) (Err e) = (rw begins at h) in arbitrary-fault k piece e begins cc
  | inr other ↦ usual-fault k piece e h (rw other at h)
]

-- ---- and nothing else answers so

only-bad : (k : ℕ) (piece : List ℕ) (answer : Result Clause Fault) → PieceAnswers k piece answer → ¬ IsArbitrary piece → ((c : Clause) → ¬ IsClause piece c) → answer ≡ Err (BadClause k)
only-bad k piece (Ok c) h usual none = absurd (none c h.0)
only-bad k piece (Err ArbitraryEquality) h usual none = absurd (usual h)
only-bad k piece (Err NumberTooLarge) h usual none = absurd (none h.0 h.1)
only-bad k piece (Err (BadClause n)) h usual none = ap (λ (m : ℕ). Err (BadClause m)) h.0
only-bad k piece (Err BadVersion) h usual none = absurd h
only-bad k piece (Err OutOfMemory) h usual none = absurd h

pub piece-read : (k : ℕ) (piece : List ℕ) (answer : Result Clause Fault) → PieceAnswers k piece answer → clause_of k piece ≡ answer
piece-read k piece (Ok c) h = clause-read k piece c h.0 h.1
piece-read k piece (Err ArbitraryEquality) h = arbitrary-read k piece h
piece-read k piece (Err NumberTooLarge) h = clause-large k piece h.0 h.1 h.2
piece-read k piece (Err (BadClause n)) h =
    only-bad k piece (clause_of k piece) (piece-answers k piece (clause_of k piece) refl) h.1 h.2 ∙ ap (λ (m : ℕ). Err (BadClause m)) (sym h.0)
piece-read k piece (Err BadVersion) h = absurd h
piece-read k piece (Err OutOfMemory) h = absurd h
