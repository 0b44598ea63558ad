-- A set has one answer, by the grammar alone.
use Rattle.std.proofs.Common.{◌≡◌, ℕ, suc, ◌+◌, true, ltb, List, [], ◌∷◌, ◌++◌, length, Result, Ok, Err, refl, sym, ap, subst, ◌∙◌, arith, inl, inr}
use Rattle.std.specs.List.{list_all}
use Rattle.std.proofs.lemmas.Bool.{cases_Bool}
use Rattle.std.proofs.lemmas.Bool.Decides.{nat_tests}
use Rattle.pep440.specs.declared.fault.Fault.{Fault}
use Rattle.pep440.specs.declared.specifier.Clause.{Clause}
use Rattle.pep440.specs.SetGrammar.{AreClauses, PieceAnswers, SetAnswers, clause_texts, counted, without_end}
use Rattle.lists.specs.Spaces.{is_space_or_tab}
use Rattle.pep440.specs.Text.{pieces, trim_blank}
use Rattle.pep440.specs.Tied.Sets.{◌>>=◌, clause_of, clauses_from, set_of}
use Rattle.pep440.proofs.PieceAnswersOnce.{piece-answers, piece-read}

-- the clauses of pieces, each of which has to be one
each_clause : ℕ → List (List ℕ) → Result (List Clause) Fault
each_clause k [] = Ok []
each_clause k (piece ∷ ps) = clause_of k (trim_blank piece) >>= λ c. each_clause (k + 1) ps >>= λ cs. Ok (c ∷ cs)

-- ---- reading takes the pieces that have to be clauses

later : (k : ℕ) → ltb 1 k ≡ true → ltb 1 (k + 1) ≡ true
later k h = grind (arith, nat_tests)

behind-first : (k : ℕ) (ps : List (List ℕ)) → ltb 1 k ≡ true → clauses_from k ps ≡ each_clause k (without_end ps)
unfolding clauses_from each_clause
behind-first k [] h = refl
behind-first k (piece ∷ []) h = elim (cases_Bool (list_all is_space_or_tab piece)) [
  | inl blank ↦ rw (h, blank) refl
  | inr other ↦ rw (h, other) refl
]
behind-first k (piece ∷ next ∷ rest) h =
    ap (λ (more : Result (List Clause) Fault). clause_of k (trim_blank piece) >>= λ c. more >>= λ cs. Ok (c ∷ cs)) (behind-first (k + 1) (next ∷ rest) (later k h))

from-first : (ps : List (List ℕ)) → clauses_from 1 ps ≡ each_clause 1 (counted ps)
unfolding clauses_from each_clause
from-first [] = refl
from-first (piece ∷ []) = refl
from-first (piece ∷ next ∷ rest) =
    ap (λ (more : Result (List Clause) Fault). clause_of 1 (trim_blank piece) >>= λ c. more >>= λ cs. Ok (c ∷ cs)) (behind-first 2 (next ∷ rest) refl)

set-each : (text : List ℕ) → set_of text ≡ each_clause 1 (clause_texts text)
unfolding each_clause
set-each text = elim (cases_Bool (list_all is_space_or_tab text)) [
  | inl blank ↦ rw blank refl
  | inr other ↦ rw other (from-first (pieces text))
]

-- ---- what is read answers so

-- the first fault of pieces, the first of which stands at a place
record FaultFrom (k : ℕ) (ps : List (List ℕ)) (fault : Fault) : Type 0 where
  before : List (List ℕ)
  piece : List ℕ
  behind : List (List ℕ)
  clauses : List Clause
  whole : ps ≡ before ++ piece ∷ behind
  are_clauses : AreClauses before clauses
  answers : PieceAnswers (length before + k) (trim_blank piece) (Err fault)

abbrev AnswersFrom : ℕ → List (List ℕ) → Result (List Clause) Fault → Type 0
AnswersFrom k ps (Ok cs) = AreClauses ps cs
AnswersFrom k ps (Err e) = FaultFrom k ps e

further : (k : ℕ) (piece : List ℕ) (ps : List (List ℕ)) (c : Clause) (more : Result (List Clause) Fault) → clause_of k (trim_blank piece) ≡ Ok c
    → AnswersFrom (k + 1) ps more → AnswersFrom k (piece ∷ ps) (more >>= λ cs. Ok (c ∷ cs))
further k piece ps c (Ok cs) first others = let p = piece-answers k (trim_blank piece) (Ok c) first in (p.0, p.1, others)
further k piece ps c (Err e) first others =
    let p = piece-answers k (trim_blank piece) (Ok c) first in
    let next : length others.before + (k + 1) ≡ suc (length others.before) + k = omega arith in
    record {
      before = piece ∷ others.before;
      piece = others.piece;
      behind = others.behind;
      clauses = c ∷ others.clauses;
      whole = ap (λ (ps : List (List ℕ)). piece ∷ ps) others.whole;
      are_clauses = (p.0, p.1, others.are_clauses);
      answers = subst (λ (n : ℕ). PieceAnswers n (trim_blank others.piece) (Err e)) next others.answers;
    }

each-answers : (k : ℕ) (ps : List (List ℕ)) → AnswersFrom k ps (each_clause k ps)
unfolding each_clause
each-answers k [] = tt
each-answers k (piece ∷ ps) = first (clause_of k (trim_blank piece)) refl (each-answers (k + 1) ps)
  where
    first : (r : Result Clause Fault) → clause_of k (trim_blank piece) ≡ r → AnswersFrom (k + 1) ps (each_clause (k + 1) ps)
        → AnswersFrom k (piece ∷ ps) (r >>= λ c. each_clause (k + 1) ps >>= λ cs. Ok (c ∷ cs))
    first (Ok c) h others = further k piece ps c (each_clause (k + 1) ps) h others
    first (Err e) h others = record {
      before = [];
      piece = piece;
      behind = ps;
      clauses = [];
      whole = refl;
      are_clauses = tt;
      answers = subst (λ (n : ℕ). PieceAnswers n (trim_blank piece) (Err e)) (let same : k ≡ length {A = List ℕ} [] + k = omega arith in same) (piece-answers k (trim_blank piece) (Err e) h);
    }

from-one : (text : List ℕ) (answer : Result (List Clause) Fault) → AnswersFrom 1 (clause_texts text) answer → SetAnswers text answer
from-one text (Ok cs) h = h
from-one text (Err e) h = record { before = h.before; piece = h.piece; behind = h.behind; clauses = h.clauses; whole = h.whole; are_clauses = h.are_clauses; answers = h.answers }

pub set-answers : (text : List ℕ) → SetAnswers text (set_of text)
set-answers text = from-one text (set_of text) (subst (λ (r : Result (List Clause) Fault). AnswersFrom 1 (clause_texts text) r) (sym (set-each text)) (each-answers 1 (clause_texts text)))

-- ---- and nothing else answers so

each-read : (k : ℕ) (ps : List (List ℕ)) (cs : List Clause) → AreClauses ps cs → each_clause k ps ≡ Ok cs
unfolding each_clause
each-read k [] [] h = refl
each-read k [] (c ∷ cs) h = absurd h
each-read k (piece ∷ ps) [] h = absurd h
each-read k (piece ∷ ps) (c ∷ cs) h = rw (piece-read k (trim_blank piece) (Ok c) (h.0, h.1), each-read (k + 1) ps cs h.2) refl

each-fault : (k : ℕ) (before : List (List ℕ)) (piece : List ℕ) (behind : List (List ℕ)) (clauses : List Clause) (e : Fault) → AreClauses before clauses
    → PieceAnswers (length before + k) (trim_blank piece) (Err e) → each_clause k (before ++ piece ∷ behind) ≡ Err e
unfolding each_clause
each-fault k [] piece behind clauses e all h =
    let here : length {A = List ℕ} [] + k ≡ k = omega arith in
    rw (piece-read k (trim_blank piece) (Err e) (subst (λ (n : ℕ). PieceAnswers n (trim_blank piece) (Err e)) here h)) refl
each-fault k (p ∷ before) piece behind [] e all h = absurd all
each-fault k (p ∷ before) piece behind (c ∷ clauses) e all h =
    let next : suc (length before) + k ≡ length before + (k + 1) = omega arith in
    let more = each-fault (k + 1) before piece behind clauses e all.2 (subst (λ (n : ℕ). PieceAnswers n (trim_blank piece) (Err e)) next h) in
    rw (piece-read k (trim_blank p) (Ok c) (all.0, all.1), more) refl

pub set-read : (text : List ℕ) (answer : Result (List Clause) Fault) → SetAnswers text answer → set_of text ≡ answer
set-read text (Ok cs) h = set-each text ∙ each-read 1 (clause_texts text) cs h
set-read text (Err e) h = set-each text ∙ ap (each_clause 1) h.whole ∙ each-fault 1 h.before h.piece h.behind h.clauses e h.are_clauses h.answers
