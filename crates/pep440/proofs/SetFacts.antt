-- Facts on sets of specifiers as they are read.
use Rattle.std.proofs.Common.{◌≡◌, ℕ, zero, suc, ◌+◌, ◌<◌, true, false, eqb, ltb, ◌&&◌, List, [], ◌∷◌, ◌++◌, length, get_or, take, drop, Result, Ok, Err, refl, sym, ap, ◌∙◌, arith, inl, inr, append_assoc}
use Rattle.std.specs.List.{list_all, onto_first}
use Rattle.std.proofs.lemmas.Bool.{cases_Bool}
use Rattle.std.proofs.lemmas.List.{append-nil}
use Rattle.pep440.specs.declared.fault.Fault.{Fault}
use Rattle.pep440.specs.declared.fault.Fault.TheVariants.{ArbitraryEquality, BadClause, BadVersion, NumberTooLarge, OutOfMemory}
use Rattle.pep440.specs.declared.specifier.Clause.{Clause}
use Rattle.pep440.specs.Answers.{Fails}
use Rattle.pep440.specs.Tied.Sets.{◌>>=◌, clause_of, clauses_from}
use Rattle.lists.specs.Spaces.{is_space_or_tab}
use Rattle.pep440.specs.Text.{pieces, trim_blank}

-- ---- the parts between commas

-- the first comma ends the first piece
pub pieces-at : (text : List ℕ) (i : ℕ) → i < length text → ((k : ℕ) → k < i → eqb (get_or text k 0) 44 ≡ false) → eqb (get_or text i 0) 44 ≡ true
    → pieces text ≡ take i text ∷ pieces (drop (i + 1) text)
pieces-at [] i within others comma = absurd (omega arith)
pieces-at (b ∷ rest) zero within others comma = rw comma refl
pieces-at (b ∷ rest) (suc i) within others comma =
    let first : eqb b 44 ≡ false = others 0 (omega arith) in
    let next : suc i + 1 ≡ suc (i + 1) = omega arith in
    rw (next, first, pieces-at rest i (omega arith) (λ k h. others (suc k) (omega arith)) comma) refl

-- with no comma there is one piece
pub pieces-one : (text : List ℕ) → ((k : ℕ) → k < length text → eqb (get_or text k 0) 44 ≡ false) → pieces text ≡ text ∷ []
pieces-one [] others = refl
pieces-one (b ∷ rest) others =
    let first : eqb b 44 ≡ false = others 0 (omega arith) in
    rw (first, pieces-one rest (λ k h. others (suc k) (omega arith))) refl

-- ---- clauses one after the other

-- the clauses before, and those that are still read
abbrev pub with_front : List Clause → Result (List Clause) Fault → Result (List Clause) Fault
with_front front read = read >>= λ cs. Ok (front ++ cs)

regroup : (front : List Clause) (c : Clause) (read : Result (List Clause) Fault) → with_front front (read >>= λ cs. Ok (c ∷ cs)) ≡ with_front (front ++ c ∷ []) read
regroup front c (Ok cs) = ap (λ (ds : List Clause). Ok ds) (sym (append_assoc front (c ∷ []) cs))
regroup front c (Err e) = refl

more : (k : ℕ) (piece : List ℕ) (ps : List (List ℕ)) (c : Clause) → 0 < length ps → clause_of k (trim_blank piece) ≡ Ok c → clauses_from k (piece ∷ ps) ≡ (clauses_from (k + 1) ps >>= λ cs. Ok (c ∷ cs))
unfolding clauses_from
more k piece [] c some h = absurd (omega arith)
more k piece (next ∷ rest) c some h = rw h refl

more-fault : (k : ℕ) (piece : List ℕ) (ps : List (List ℕ)) (e : Fault) → 0 < length ps → clause_of k (trim_blank piece) ≡ Err e → clauses_from k (piece ∷ ps) ≡ Err e
unfolding clauses_from
more-fault k piece [] e some h = absurd (omega arith)
more-fault k piece (next ∷ rest) e some h = rw h refl

onto_first-some : (b : ℕ) (ps : List (List ℕ)) → 0 < length (onto_first b ps)
onto_first-some b [] = omega arith
onto_first-some b (p ∷ ps) = omega arith

pieces-some : (text : List ℕ) → 0 < length (pieces text)
pieces-some [] = omega arith
pieces-some (b ∷ rest) = elim (cases_Bool (eqb b 44)) [ inl comma ↦ rw comma (omega arith) | inr other ↦ rw other (onto_first-some b (pieces rest)) ]

-- a clause that ends at a comma
pub goes_on : (front : List Clause) (k m : ℕ) (text piece rest : List ℕ) (c : Clause) (total : Result (List Clause) Fault) → m ≡ k + 1 → pieces text ≡ piece ∷ pieces rest
    → clause_of k (trim_blank piece) ≡ Ok c → with_front front (clauses_from k (pieces text)) ≡ total
    → with_front (front ++ c ∷ []) (clauses_from m (pieces rest)) ≡ total
goes_on front k m text piece rest c total next cut read so_far =
    let one : clauses_from k (pieces text) ≡ (clauses_from m (pieces rest) >>= λ cs. Ok (c ∷ cs)) =
    ap (clauses_from k) cut ∙ rw next (more k piece (pieces rest) c (pieces-some rest) read) in
    sym (regroup front c (clauses_from m (pieces rest))) ∙ ap (with_front front) (sym one) ∙ so_far

stops_err : (front : List Clause) (k : ℕ) (text piece rest : List ℕ) (e : Fault) (total : Result (List Clause) Fault) → pieces text ≡ piece ∷ pieces rest
    → clause_of k (trim_blank piece) ≡ Err e → with_front front (clauses_from k (pieces text)) ≡ total → total ≡ Err e
stops_err front k text piece rest e total cut read so_far =
    sym so_far ∙ ap (with_front front) (ap (clauses_from k) cut ∙ more-fault k piece (pieces rest) e (pieces-some rest) read)

-- a faulty clause that ends at a comma
pub stops : (e : Fault) (front : List Clause) (k : ℕ) (text piece rest : List ℕ) (total : Result (List Clause) Fault) → pieces text ≡ piece ∷ pieces rest
    → Fails e (clause_of k (trim_blank piece)) → with_front front (clauses_from k (pieces text)) ≡ total → Fails e total
stops BadVersion front k text piece rest total cut read so_far = stops_err front k text piece rest BadVersion total cut read so_far
stops NumberTooLarge front k text piece rest total cut read so_far = stops_err front k text piece rest NumberTooLarge total cut read so_far
stops (BadClause n) front k text piece rest total cut read so_far = stops_err front k text piece rest (BadClause n) total cut read so_far
stops ArbitraryEquality front k text piece rest total cut read so_far = stops_err front k text piece rest ArbitraryEquality total cut read so_far
stops OutOfMemory front k text piece rest total cut read so_far = tt

-- ---- the last piece

-- a blank last piece behind a clause
pub ends_blank : (front : List Clause) (k : ℕ) (text : List ℕ) (total : Result (List Clause) Fault) → (ltb 1 k && list_all is_space_or_tab text) ≡ true → pieces text ≡ text ∷ []
    → with_front front (clauses_from k (pieces text)) ≡ total → total ≡ Ok front
unfolding clauses_from
ends_blank front k text total end cut so_far =
    sym so_far ∙ ap (λ ps. with_front front (clauses_from k ps)) cut ∙ rw end (ap (λ (cs : List Clause). Ok cs) (append-nil front))

last-same : (k : ℕ) (text : List ℕ) → (ltb 1 k && list_all is_space_or_tab text) ≡ false → clauses_from k (text ∷ []) ≡ (clause_of k (trim_blank text) >>= λ c. Ok (c ∷ []))
unfolding clauses_from
last-same k text h = rw h refl

-- a last piece that is a clause
pub ends_clause : (front : List Clause) (k : ℕ) (text : List ℕ) (c : Clause) (total : Result (List Clause) Fault) → (ltb 1 k && list_all is_space_or_tab text) ≡ false → pieces text ≡ text ∷ []
    → clause_of k (trim_blank text) ≡ Ok c → with_front front (clauses_from k (pieces text)) ≡ total → total ≡ Ok (front ++ c ∷ [])
ends_clause front k text c total is_no_end cut read so_far =
    sym so_far ∙ ap (λ ps. with_front front (clauses_from k ps)) cut ∙ rw (last-same k text is_no_end, read) refl

ends_err : (front : List Clause) (k : ℕ) (text : List ℕ) (e : Fault) (total : Result (List Clause) Fault) → (ltb 1 k && list_all is_space_or_tab text) ≡ false → pieces text ≡ text ∷ []
    → clause_of k (trim_blank text) ≡ Err e → with_front front (clauses_from k (pieces text)) ≡ total → total ≡ Err e
ends_err front k text e total is_no_end cut read so_far =
    sym so_far ∙ ap (λ ps. with_front front (clauses_from k ps)) cut ∙ rw (last-same k text is_no_end, read) refl

-- a last piece that is none
pub ends_fault : (e : Fault) (front : List Clause) (k : ℕ) (text : List ℕ) (total : Result (List Clause) Fault) → (ltb 1 k && list_all is_space_or_tab text) ≡ false → pieces text ≡ text ∷ []
    → Fails e (clause_of k (trim_blank text)) → with_front front (clauses_from k (pieces text)) ≡ total → Fails e total
ends_fault BadVersion front k text total is_no_end cut read so_far = ends_err front k text BadVersion total is_no_end cut read so_far
ends_fault NumberTooLarge front k text total is_no_end cut read so_far = ends_err front k text NumberTooLarge total is_no_end cut read so_far
ends_fault (BadClause n) front k text total is_no_end cut read so_far = ends_err front k text (BadClause n) total is_no_end cut read so_far
ends_fault ArbitraryEquality front k text total is_no_end cut read so_far = ends_err front k text ArbitraryEquality total is_no_end cut read so_far
ends_fault OutOfMemory front k text total is_no_end cut read so_far = tt

pub starts : (text : List ℕ) → with_front [] (clauses_from 1 (pieces text)) ≡ clauses_from 1 (pieces text)
starts text = same (clauses_from 1 (pieces text))
  where
    same : (r : Result (List Clause) Fault) → with_front [] r ≡ r
    same (Ok cs) = refl
    same (Err e) = refl
