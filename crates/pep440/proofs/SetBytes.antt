-- The bytes of a set of specifiers.
use Rattle.std.proofs.Common.{◌≡◌, ℕ, ◌+◌, ltb, ◌&&◌, ◌⊎◌, Bool, true, false, eqb, List, [], ◌∷◌, ◌++◌, get_or, Result, Ok, Err, refl, ap, ◌∙◌, arith, inl, inr}
use Rattle.std.proofs.lemmas.Bool.{cases_Bool, eqb-true}
use Rattle.std.proofs.lemmas.Bool.Decides.{nat_tests}
use Rattle.std.specs.Cmp.{first_so, second_so}
use Rattle.std.specs.List.{list_all, onto_first}
use Rattle.pep440.specs.declared.fault.Fault.{Fault}
use Rattle.pep440.specs.declared.specifier.Clause.{Clause}
use Rattle.pep440.specs.declared.specifier.Operator.{Operator}
use Rattle.pep440.specs.declared.specifier.Operator.TheVariants as operators
use Rattle.pep440.specs.SetGrammar.{IsClause, begins_operator, is_set_byte, sign, star}
use Rattle.pep440.specs.Tied.Sets.{◌>>=◌, clause_of, clauses_from, set_of}
use Rattle.lists.specs.Spaces.{is_space_or_tab}
use Rattle.pep440.specs.Text.{pieces, trim_blank, trim_end, trim_front}
use Rattle.pep440.proofs.ByteFacts.{Covers, all-append, all-weaker, version-pass}
use Rattle.pep440.proofs.ReadIsAClause.{read-clause}

-- ---- a clause

covers : Covers is_set_byte
covers = record {
  byte = λ b h. grind (arith, nat_tests);
  separator = λ b h. grind (arith, nat_tests);
  lower = λ b. grind (arith, nat_tests);
  bang = refl;
  plus = refl;
}

blank-byte : (b : ℕ) → is_space_or_tab b ≡ true → is_set_byte b ≡ true
blank-byte b h = grind (arith, nat_tests)

blank-pass : (text : List ℕ) → list_all is_space_or_tab text ≡ true → list_all is_set_byte text ≡ true
blank-pass text h = all-weaker is_space_or_tab is_set_byte text blank-byte h

sign-pass : (o : Operator) → list_all is_set_byte (sign o) ≡ true
sign-pass operators.Compatible = refl
sign-pass operators.Equal = refl
sign-pass operators.NotEqual = refl
sign-pass operators.EqualPrefix = refl
sign-pass operators.NotEqualPrefix = refl
sign-pass operators.AtMost = refl
sign-pass operators.AtLeast = refl
sign-pass operators.Below = refl
sign-pass operators.Above = refl

star-pass : (o : Operator) → list_all is_set_byte (star o) ≡ true
star-pass operators.Compatible = refl
star-pass operators.Equal = refl
star-pass operators.NotEqual = refl
star-pass operators.EqualPrefix = refl
star-pass operators.NotEqualPrefix = refl
star-pass operators.AtMost = refl
star-pass operators.AtLeast = refl
star-pass operators.Below = refl
star-pass operators.Above = refl

clause-pass : (piece : List ℕ) (c : Clause) → IsClause piece c → list_all is_set_byte piece ≡ true
clause-pass piece c h =
    ap (list_all is_set_byte) h.whole
    ∙ all-append is_set_byte (sign c.operator) (h.blanks ++ (h.version ++ star c.operator)) (sign-pass c.operator)
    (all-append is_set_byte h.blanks (h.version ++ star c.operator) (blank-pass h.blanks h.are_blank)
    (all-append is_set_byte h.version (star c.operator) (version-pass is_set_byte covers h.version c.version h.spells) (star-pass c.operator)))

-- ---- the space around a piece

front-pass : (text : List ℕ) → list_all is_set_byte (trim_front is_space_or_tab text) ≡ true → list_all is_set_byte text ≡ true
front-pass [] h = refl
front-pass (b ∷ rest) h = elim (cases_Bool (is_space_or_tab b)) [
  | inl blank ↦ rw (blank-byte b blank) (front-pass rest (rw blank at h))
  | inr other ↦ rw other at h
]

end-pass : (text : List ℕ) → list_all is_set_byte (trim_end is_space_or_tab text) ≡ true → list_all is_set_byte text ≡ true
end-pass [] h = refl
end-pass (b ∷ rest) h = elim (cases_Bool (list_all is_space_or_tab (b ∷ rest))) [
  | inl blank ↦ blank-pass (b ∷ rest) blank
  | inr other ↦
      let kept = rw other at h in
      rw (first_so (is_set_byte b) (list_all is_set_byte (trim_end is_space_or_tab rest)) kept) (end-pass rest (second_so (is_set_byte b) (list_all is_set_byte (trim_end is_space_or_tab rest)) kept))
]

piece-pass : (piece : List ℕ) (c : Clause) → IsClause (trim_blank piece) c → list_all is_set_byte piece ≡ true
piece-pass piece c h = front-pass piece (end-pass (trim_front is_space_or_tab piece) (clause-pass (trim_blank piece) c h))

-- ---- all pieces

bound : {A B : Type 0} (first : Result A Fault) (next : A → Result B Fault) (y : B) → first >>= next ≡ Ok y → (x : A) × (first ≡ Ok x) × (next x ≡ Ok y)
bound (Ok x) next y reads = (x, refl, reads)
bound (Err fault) next y reads = absurd cc

abbrev passes : List ℕ → Bool
passes piece = list_all is_set_byte piece

pieces-pass : (k : ℕ) (ps : List (List ℕ)) (cs : List Clause) → clauses_from k ps ≡ Ok cs → list_all passes ps ≡ true
unfolding clauses_from
pieces-pass k [] cs reads = refl
pieces-pass k (piece ∷ []) cs reads = elim (cases_Bool (ltb 1 k && list_all is_space_or_tab piece)) [
  | inl blank ↦ rw (blank-pass piece (second_so (ltb 1 k) (list_all is_space_or_tab piece) blank)) refl
  | inr other ↦
      let b = bound (clause_of k (trim_blank piece)) (λ c. Ok (c ∷ [])) cs (rw other at reads) in
      rw (piece-pass piece b.0 (read-clause k (trim_blank piece) b.0 b.1).0) refl
]
pieces-pass k (piece ∷ next ∷ rest) cs reads =
    let b = bound (clause_of k (trim_blank piece)) (λ c. clauses_from (k + 1) (next ∷ rest) >>= λ more. Ok (c ∷ more)) cs reads in
    let more = bound (clauses_from (k + 1) (next ∷ rest)) (λ more. Ok (b.0 ∷ more)) cs b.2 in
    rw (piece-pass piece b.0 (read-clause k (trim_blank piece) b.0 b.1).0) (pieces-pass (k + 1) (next ∷ rest) more.0 more.1)

onto-pass : (b : ℕ) (ps : List (List ℕ)) → list_all passes (onto_first b ps) ≡ true → (is_set_byte b ≡ true) × (list_all passes ps ≡ true)
onto-pass b [] h = (first_so (is_set_byte b) true (first_so (is_set_byte b && true) true h), refl)
onto-pass b (p ∷ ps) h =
    let one = first_so (is_set_byte b && passes p) (list_all passes ps) h in
    (first_so (is_set_byte b) (passes p) one, rw (second_so (is_set_byte b) (passes p) one) (second_so (is_set_byte b && passes p) (list_all passes ps) h))

text-pass : (text : List ℕ) → list_all passes (pieces text) ≡ true → list_all is_set_byte text ≡ true
text-pass [] h = refl
text-pass (b ∷ rest) h = elim (cases_Bool (eqb b 44)) [
  | inl comma ↦
      let is = eqb-true b 44 comma in
      rw is (text-pass rest (rw comma at h))
  | inr other ↦
      let o = onto-pass b (pieces rest) (rw other at h) in
      rw o.0 (text-pass rest o.1)
]

-- the bytes of a text that reads as a set
pub set-bytes : (text : List ℕ) (clauses : List Clause) → set_of text ≡ Ok clauses → list_all is_set_byte text ≡ true
set-bytes text clauses reads = elim (cases_Bool (list_all is_space_or_tab text)) [
  | inl blank ↦ blank-pass text blank
  | inr other ↦ text-pass text (pieces-pass 1 (pieces text) clauses (rw other at reads))
]

-- ---- the first byte

sign-begins : (o : Operator) (b : ℕ) (rest more : List ℕ) → b ∷ rest ≡ sign o ++ more → begins_operator b ≡ true
sign-begins operators.Compatible b rest more h = let e : b ≡ 126 = ap (λ (l : List ℕ). get_or l 0 0) h in rw e refl
sign-begins operators.Equal b rest more h = let e : b ≡ 61 = ap (λ (l : List ℕ). get_or l 0 0) h in rw e refl
sign-begins operators.NotEqual b rest more h = let e : b ≡ 33 = ap (λ (l : List ℕ). get_or l 0 0) h in rw e refl
sign-begins operators.EqualPrefix b rest more h = let e : b ≡ 61 = ap (λ (l : List ℕ). get_or l 0 0) h in rw e refl
sign-begins operators.NotEqualPrefix b rest more h = let e : b ≡ 33 = ap (λ (l : List ℕ). get_or l 0 0) h in rw e refl
sign-begins operators.AtMost b rest more h = let e : b ≡ 60 = ap (λ (l : List ℕ). get_or l 0 0) h in rw e refl
sign-begins operators.AtLeast b rest more h = let e : b ≡ 62 = ap (λ (l : List ℕ). get_or l 0 0) h in rw e refl
sign-begins operators.Below b rest more h = let e : b ≡ 60 = ap (λ (l : List ℕ). get_or l 0 0) h in rw e refl
sign-begins operators.Above b rest more h = let e : b ≡ 62 = ap (λ (l : List ℕ). get_or l 0 0) h in rw e refl

clause-begins : (b : ℕ) (rest : List ℕ) (c : Clause) → IsClause (b ∷ rest) c → begins_operator b ≡ true
clause-begins b rest c h = sign-begins c.operator b rest (h.blanks ++ (h.version ++ star c.operator)) h.whole

-- the first piece is a clause
first-clause : (piece : List ℕ) (ps : List (List ℕ)) (cs : List Clause) → clauses_from 1 (piece ∷ ps) ≡ Ok cs → (c : Clause) × (clause_of 1 (trim_blank piece) ≡ Ok c)
unfolding clauses_from
first-clause piece [] cs reads =
    let b = bound (clause_of 1 (trim_blank piece)) (λ c. Ok (c ∷ [])) cs reads in
    (b.0, b.1)
first-clause piece (next ∷ rest) cs reads =
    let b = bound (clause_of 1 (trim_blank piece)) (λ c. clauses_from 2 (next ∷ rest) >>= λ more. Ok (c ∷ more)) cs reads in
    (b.0, b.1)

-- no clause is empty
no-clause : (c : Clause) → clause_of 1 [] ≡ Ok c → ⊥
no-clause c h = cc

-- the first byte that is no blank begins an operator
piece-begins : (b : ℕ) (piece : List ℕ) (c : Clause) → is_space_or_tab b ≡ false → clause_of 1 (trim_blank (b ∷ piece)) ≡ Ok c → begins_operator b ≡ true
piece-begins b piece c other h =
    let trimmed : trim_blank (b ∷ piece) ≡ b ∷ trim_end is_space_or_tab piece = rw (other, other) refl in
    clause-begins b (trim_end is_space_or_tab piece) c (read-clause 1 (b ∷ trim_end is_space_or_tab piece) c (rw trimmed at h)).0

onto-begins : (b : ℕ) (ps : List (List ℕ)) (cs : List Clause) → is_space_or_tab b ≡ false → clauses_from 1 (onto_first b ps) ≡ Ok cs → begins_operator b ≡ true
onto-begins b [] cs other reads = let f = first-clause (b ∷ []) [] cs reads in piece-begins b [] f.0 other f.1
onto-begins b (p ∷ ps) cs other reads = let f = first-clause (b ∷ p) ps cs reads in piece-begins b p f.0 other f.1

-- an operator begins a text that reads as a set, where no space does
pub set-begins : (text : List ℕ) (clauses : List Clause) → set_of text ≡ Ok clauses → is_space_or_tab (get_or text 0 0) ≡ false → (text ≡ []) ⊎ (begins_operator (get_or text 0 0) ≡ true)
set-begins [] clauses reads other = inl refl
set-begins (b ∷ rest) clauses reads other =
    let from : clauses_from 1 (pieces (b ∷ rest)) ≡ Ok clauses = rw other at reads in
    elim (cases_Bool (eqb b 44)) [
      | inl comma ↦ absurd (let f = first-clause [] (pieces rest) clauses (rw comma at from) in no-clause f.0 f.1)
      | inr differs ↦ inr (onto-begins b (pieces rest) clauses other (rw differs at from))
    ]
