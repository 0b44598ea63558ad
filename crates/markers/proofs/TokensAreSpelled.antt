-- What is found as tokens is spelled so by the grammar.
use Rattle.std.proofs.Common.{◌≡◌, ℕ, zero, suc, ◌+◌, ◌-◌, Bool, true, false, eqb, List, [], ◌∷◌, ◌++◌, length, drop, Option, Some, None, refl, sym, ap, subst, ◌∙◌, inl, inr, append_assoc, arith}
use Rattle.std.proofs.Math.Seq.{drop-append-add, drop-append_seam}
use Rattle.std.proofs.lemmas.Bool.{cases_Bool, eqb-true}
use Rattle.std.proofs.lemmas.Slice.Eq.{bytes_eq-Decides}
use Rattle.std.specs.Cmp.Derive.{both_true}
use Rattle.std.specs.List.{list_all}
use Rattle.std.specs.Option.{option_map}
use Rattle.std.specs.Prelude.{codes, find}
use Rattle.std.specs.Str.{bytes_eq}
use Rattle.pep440.specs.SetGrammar.{sign as operator_sign}
use Rattle.pep440.specs.Tied.Sets.{double_of, operator_of, with_rest}
use Rattle.pep440.specs.declared.specifier.Operator.{Operator}
use Rattle.pep440.specs.declared.specifier.Operator.TheVariants as operators
use Rattle.pep440.proofs.OperatorsRead.{operator-cut}
use Rattle.markers.specs.Comparisons.{sign}
use Rattle.markers.specs.Environment.{all_variables, variable_named}
use Rattle.markers.specs.MarkerSpelling.{AreTokens, IsToken, goes_on, is_inside, starts_word, is_quotable, is_quote, is_word_byte, starts_equal}
use Rattle.lists.specs.Spaces.{is_space_or_tab}
use Rattle.markers.specs.Tied.MarkerTokens.{before_tokens, comparison_of, quoted_at, quoted_text, sign_at, token_at, tokens_from, word_at, word_of, word_token}
use Rattle.markers.specs.Variables.{variable_name}
use Rattle.markers.specs.declared.marker_atom.Operand.TheVariants as operands
use Rattle.markers.specs.declared.marker_token.Side.TheVariants as sides
use Rattle.markers.specs.declared.marker_token.Token.{Token}
use Rattle.markers.specs.declared.marker_token.Token.TheVariants as tokens
use Rattle.markers.specs.declared.variable.Variable.{Variable}

-- a token at the front of a text, and what follows it
record First (text : List ℕ) (t : Token) (after : List ℕ) : Type 0 where
  first : List ℕ
  whole : text ≡ first ++ after
  is_token : IsToken first t
  ends : goes_on t after ≡ false

moved : (text : List ℕ) (t u : Token) (after behind : List ℕ) → t ≡ u → after ≡ behind → First text t after → First text u behind
moved text t u after behind same left f = subst (λ (u : Token). First text u behind) same (subst (λ (rest : List ℕ). First text t rest) left f)

some-map : {A B : Type 0} (f : A → B) (o : Option A) (b : B) → option_map f o ≡ Some b → (a : A) × (o ≡ Some a) × (f a ≡ b)
some-map f None b h = absurd cc
some-map f (Some a) b h = (a, refl, cc)

-- a quoted text, and what follows the quote that ends it
record Inside (q : ℕ) (rest inner : List ℕ) : Type 0 where
  after : List ℕ
  whole : rest ≡ inner ++ q ∷ after
  lawful : list_all (is_inside q) inner ≡ true

quoted-found : (q : ℕ) (rest inner : List ℕ) → quoted_text q rest ≡ Some inner → Inside q rest inner
quoted-found q [] inner h = absurd cc
quoted-found q (b ∷ rest) inner h = elim (cases_Bool (eqb b q)) [
  | inl ends ↦
      let g = (rw ends at h) in
      let e : [] ≡ inner = cc in
      let same = eqb-true b q ends in
      rw (← e) (record { after = rest; whole = ap (λ (c : ℕ). c ∷ rest) same; lawful = refl })
  | inr more ↦ elim (cases_Bool (is_quotable b)) [
    | inl good ↦
        let g = (rw (more, good) at h) in
        let p = some-map (λ (t : List ℕ). b ∷ t) (quoted_text q rest) inner g in
        let i = quoted-found q rest p.0 p.1 in
        let here : is_inside q b ≡ true = rw (good, more) refl in
        rw (← p.2) (record { after = i.after; whole = ap (λ (t : List ℕ). b ∷ t) i.whole; lawful = both_true here i.lawful })
    | inr bad ↦ absurd (let g = (rw (more, bad) at h) in cc)
  ]
]

quoted_at-found : (q : ℕ) (rest : List ℕ) (t : Token) (k : ℕ) → is_quote q ≡ true → quoted_at q rest ≡ Some (t, k) → First (q ∷ rest) t (drop k rest)
quoted_at-found q rest t k opens h =
    let p = some-map (λ (inner : List ℕ). let found : Token × ℕ = (tokens.Side (sides.Operand (operands.Quoted inner)), length inner + 1) in found) (quoted_text q rest) (t, k) h in
    let i = quoted-found q rest p.0 p.1 in
    let token : tokens.Side (sides.Operand (operands.Quoted p.0)) ≡ t = ap (λ (found : Token × ℕ). found.0) p.2 in
    let count : length p.0 + 1 ≡ k = ap (λ (found : Token × ℕ). found.1) p.2 in
    let left : drop (length p.0 + 1) rest ≡ i.after = ap (λ (text : List ℕ). drop (length p.0 + 1) text) i.whole ∙ drop-append-add p.0 (q ∷ i.after) 1 in
    moved (q ∷ rest) (tokens.Side (sides.Operand (operands.Quoted p.0))) t i.after (drop k rest) token (sym left ∙ ap (λ (k : ℕ). drop k rest) count)
    (record {
      first = q ∷ (p.0 ++ q ∷ []);
      whole = ap (λ (t : List ℕ). q ∷ t) (i.whole ∙ sym (append_assoc p.0 (q ∷ []) i.after));
      is_token = record { quote = q; opens = opens; whole = refl; lawful = i.lawful };
      ends = refl;
    })

-- what follows the longest word
after_word : List ℕ → List ℕ
after_word text = drop (length (word_of text)) text

word-whole : (text : List ℕ) → text ≡ word_of text ++ after_word text
unfolding after_word
word-whole [] = refl
word-whole (b ∷ rest) = elim (cases_Bool (is_word_byte b)) [
  | inl good ↦ rw good (ap (λ (t : List ℕ). b ∷ t) (word-whole rest))
  | inr bad ↦ rw bad refl
]

word-ends : (text : List ℕ) → starts_word (after_word text) ≡ false
unfolding after_word
word-ends [] = refl
word-ends (b ∷ rest) = elim (cases_Bool (is_word_byte b)) [
  | inl good ↦ rw good (word-ends rest)
  | inr bad ↦ rw bad bad
]

find-passes : {A : Type 0} (p : A → Bool) (xs : List A) (x : A) → find p xs ≡ Some x → p x ≡ true
find-passes p [] x h = absurd cc
find-passes p (y ∷ ys) x h = elim (cases_Bool (p y)) [
  | inl passes ↦ let g = (rw passes at h) in let e : y ≡ x = cc in rw (← e) passes
  | inr fails ↦ let g = (rw fails at h) in find-passes p ys x g
]

-- a token that is a word
record IsWord (word : List ℕ) (t : Token) : Type 0 where
  is_token : IsToken word t
  grows : (rest : List ℕ) → goes_on t rest ≡ starts_word rest

word-found : (word : List ℕ) (t : Token) → word_token word ≡ Some t → IsWord word t
word-found word t h = elim (cases_Bool (bytes_eq word (codes "and"))) [
  | inl same ↦ let g = (rw same at h) in let e : tokens.And ≡ t = cc in rw (← e) (record { is_token = (bytes_eq-Decides word (codes "and")).0 same; grows = λ rest. refl })
  | inr a ↦ elim (cases_Bool (bytes_eq word (codes "or"))) [
    | inl same ↦ let g = (rw (a, same) at h) in let e : tokens.Or ≡ t = cc in rw (← e) (record { is_token = (bytes_eq-Decides word (codes "or")).0 same; grows = λ rest. refl })
    | inr b ↦ elim (cases_Bool (bytes_eq word (codes "not"))) [
      | inl same ↦ let g = (rw (a, b, same) at h) in let e : tokens.Not ≡ t = cc in rw (← e) (record { is_token = (bytes_eq-Decides word (codes "not")).0 same; grows = λ rest. refl })
      | inr c ↦ elim (cases_Bool (bytes_eq word (codes "in"))) [
        | inl same ↦ let g = (rw (a, b, c, same) at h) in let e : tokens.In ≡ t = cc in rw (← e) (record { is_token = (bytes_eq-Decides word (codes "in")).0 same; grows = λ rest. refl })
        | inr d ↦ elim (cases_Bool (bytes_eq word (codes "extra"))) [
          | inl same ↦ let g = (rw (a, b, c, d, same) at h) in let e : tokens.Side sides.Extra ≡ t = cc in rw (← e) (record { is_token = (bytes_eq-Decides word (codes "extra")).0 same; grows = λ rest. refl })
          | inr f ↦
              let g = (rw (a, b, c, d, f) at h) in
              let p = some-map (λ (v : Variable). let token : Token = tokens.Side (sides.Operand (operands.Variable v)) in token) (variable_named word) t g in
              let named : variable_name p.0 ≡ word = (bytes_eq-Decides (variable_name p.0) word).0 (find-passes (λ v. bytes_eq (variable_name v) word) all_variables p.0 p.1) in
              rw (← p.2) (record { is_token = sym named; grows = λ rest. refl })
        ]
      ]
    ]
  ]
]

word_at-found : (b : ℕ) (rest : List ℕ) (t : Token) (k : ℕ) → is_word_byte b ≡ true → word_at (b ∷ rest) ≡ Some (t, k) → First (b ∷ rest) t (drop k rest)
unfolding after_word
word_at-found b rest t k good h =
    let p = some-map (λ (token : Token). let found : Token × ℕ = (token, length (word_of (b ∷ rest)) - 1) in found) (word_token (word_of (b ∷ rest))) (t, k) h in
    let w = word-found (word_of (b ∷ rest)) p.0 p.1 in
    let token : p.0 ≡ t = ap (λ (found : Token × ℕ). found.0) p.2 in
    let count : length (word_of (b ∷ rest)) - 1 ≡ k = ap (λ (found : Token × ℕ). found.1) p.2 in
    let long : word_of (b ∷ rest) ≡ b ∷ word_of rest = rw good refl in
    let size : length (word_of rest) ≡ k = let l = (rw long at count) in omega arith in
    let left : drop k rest ≡ after_word rest = rw (← size) refl in
    rw (← token, left) (record {
      first = word_of (b ∷ rest);
      whole = rw long (ap (λ (t : List ℕ). b ∷ t) (word-whole rest));
      is_token = w.is_token;
      ends = w.grows (after_word rest) ∙ word-ends rest;
    })

-- an operator that was read leaves what follows it
rest-kept : (found : Option Operator) (rest : List ℕ) (p : Operator × List ℕ) → with_rest found rest ≡ Some p → rest ≡ p.1
rest-kept None rest p h = absurd cc
rest-kept (Some o) rest p h = let e : ◌≡◌ {A = Operator × List ℕ} (o, rest) p = cc in ap (λ (p : Operator × List ℕ). p.1) e

-- no `=` follows an operator of one character
no-equal : (b : ℕ) (rest : List ℕ) (p : Operator × List ℕ) → operator_of (b ∷ rest) ≡ Some p → rest ≡ p.1 → starts_equal p.1 ≡ false
no-equal b [] p h same = rw (← same) refl
no-equal b (c ∷ rest) p h same = elim (cases_Bool (eqb c 61)) [
  | inl equal ↦ absurd (
      let kept = rest-kept (double_of b) rest p (rw equal at h) in
      let size : length (c ∷ rest) ≡ length rest = ap (λ (t : List ℕ). length t) (same ∙ sym kept) in
      omega arith)
  | inr other ↦ rw (← same) other
]

sign-ends : (o : Operator) (b : ℕ) (rest after : List ℕ) → operator_of (b ∷ rest) ≡ Some (o, after) → b ∷ rest ≡ operator_sign o ++ after → goes_on (tokens.Compare (comparison_of o)) after ≡ false
sign-ends operators.Compatible b rest after h e = refl
sign-ends operators.Equal b rest after h e = refl
sign-ends operators.NotEqual b rest after h e = refl
sign-ends operators.EqualPrefix b rest after h e = refl
sign-ends operators.NotEqualPrefix b rest after h e = refl
sign-ends operators.AtMost b rest after h e = refl
sign-ends operators.AtLeast b rest after h e = refl
sign-ends operators.Below b rest after h e = no-equal b rest (operators.Below, after) h (ap (λ (t : List ℕ). drop 1 t) e)
sign-ends operators.Above b rest after h e = no-equal b rest (operators.Above, after) h (ap (λ (t : List ℕ). drop 1 t) e)

-- an operator has a first character, and is written as its comparison
sign-size : (o : Operator) → length (operator_sign o) ≡ suc (length (operator_sign o) - 1)
sign-size operators.Compatible = refl
sign-size operators.Equal = refl
sign-size operators.NotEqual = refl
sign-size operators.EqualPrefix = refl
sign-size operators.NotEqualPrefix = refl
sign-size operators.AtMost = refl
sign-size operators.AtLeast = refl
sign-size operators.Below = refl
sign-size operators.Above = refl

pub same-sign : (o : Operator) → sign (comparison_of o) ≡ operator_sign o
same-sign operators.Compatible = refl
same-sign operators.Equal = refl
same-sign operators.NotEqual = refl
same-sign operators.EqualPrefix = refl
same-sign operators.NotEqualPrefix = refl
same-sign operators.AtMost = refl
same-sign operators.AtLeast = refl
same-sign operators.Below = refl
same-sign operators.Above = refl

sign_at-found : (b : ℕ) (rest : List ℕ) (t : Token) (k : ℕ) → sign_at (b ∷ rest) ≡ Some (t, k) → First (b ∷ rest) t (drop k rest)
sign_at-found b rest t k h =
    let p = some-map (λ (p : Operator × List ℕ). let found : Token × ℕ = (tokens.Compare (comparison_of p.0), length (operator_sign p.0) - 1) in found) (operator_of (b ∷ rest)) (t, k) h in
    let o = p.0.0 in
    let after = p.0.1 in
    let whole = (operator-cut (b ∷ rest) p.0 p.1).whole in
    let token : tokens.Compare (comparison_of o) ≡ t = ap (λ (found : Token × ℕ). found.0) p.2 in
    let count : length (operator_sign o) - 1 ≡ k = ap (λ (found : Token × ℕ). found.1) p.2 in
    let left : after ≡ drop (length (operator_sign o) - 1) rest =
    sym (drop-append_seam (operator_sign o) after) ∙ ap (λ (t : List ℕ). drop (length (operator_sign o)) t) (sym whole) ∙ ap (λ (n : ℕ). drop n (b ∷ rest)) (sign-size o) in
    moved (b ∷ rest) (tokens.Compare (comparison_of o)) t after (drop k rest) token (left ∙ ap (λ (k : ℕ). drop k rest) count)
    (record { first = operator_sign o; whole = whole; is_token = sym (same-sign o); ends = sign-ends o b rest after p.1 whole })

some-parts : (p q : Token × ℕ) → Some p ≡ Some q → (p.0 ≡ q.0) × (p.1 ≡ q.1)
some-parts p q h =
    let e : p ≡ q = cc in
    (ap (λ (p : Token × ℕ). p.0) e, ap (λ (p : Token × ℕ). p.1) e)

parenthesis-found : (b : ℕ) (rest : List ℕ) (t u : Token) (k : ℕ) → IsToken (b ∷ []) u → goes_on u rest ≡ false → ◌≡◌ {A = Option (Token × ℕ)} (Some (u, 0)) (Some (t, k)) → First (b ∷ rest) t (drop k rest)
parenthesis-found b rest t u k is ends h =
    let p = some-parts (u, 0) (t, k) h in
    moved (b ∷ rest) u t rest (drop k rest) p.0 (ap (λ (k : ℕ). drop k rest) p.1) (record { first = b ∷ []; whole = refl; is_token = is; ends = ends })

token-found : (b : ℕ) (rest : List ℕ) (t : Token) (k : ℕ) → token_at (b ∷ rest) ≡ Some (t, k) → First (b ∷ rest) t (drop k rest)
unfolding token_at
token-found b rest t k h = elim (cases_Bool (is_quote b)) [
  | inl quote ↦ quoted_at-found b rest t k quote (rw quote at h)
  | inr q ↦ elim (cases_Bool (is_word_byte b)) [
    | inl word ↦ word_at-found b rest t k word (rw word (rw (q, word) at h))
    | inr w ↦ elim (cases_Bool (eqb b 40)) [
      | inl same ↦ parenthesis-found b rest t tokens.Open k (ap (λ (c : ℕ). c ∷ []) (eqb-true b 40 same)) refl (rw (q, w, same) at h)
      | inr o ↦ elim (cases_Bool (eqb b 41)) [
        | inl same ↦ parenthesis-found b rest t tokens.Close k (ap (λ (c : ℕ). c ∷ []) (eqb-true b 41 same)) refl (rw (q, w, o, same) at h)
        | inr c ↦ sign_at-found b rest t k (rw (q, w, o, c) at h)
      ]
    ]
  ]
]

pub space-first : (b : ℕ) (rest : List ℕ) (ts : List Token) → is_space_or_tab b ≡ true → AreTokens rest ts → AreTokens (b ∷ rest) ts
space-first b rest [] space h = both_true space h
space-first b rest (t ∷ ts) space h = (b ∷ h.0, h.1, h.2, ap (λ (t : List ℕ). b ∷ t) h.3, both_true space h.4, h.5, h.6, h.7)

first-found : (b : ℕ) (rest : List ℕ) (ts : List Token) (found : Option (Token × ℕ)) → token_at (b ∷ rest) ≡ found → ((k : ℕ) (us : List Token) → tokens_from k rest ≡ Some us → AreTokens (drop k rest) us)
    → before_tokens found (λ behind. tokens_from behind rest) ≡ Some ts → AreTokens (b ∷ rest) ts
first-found b rest ts None is more h = absurd cc
first-found b rest ts (Some p) is more h =
    let q = some-map (λ (us : List Token). p.0 ∷ us) (tokens_from p.1 rest) ts h in
    let f = token-found b rest p.0 p.1 is in
    rw (← q.2) ([], f.first, drop p.1 rest, f.whole, refl, f.is_token, f.ends, more p.1 q.0 q.1)

pub tokens-found : (text : List ℕ) (k : ℕ) (ts : List Token) → tokens_from k text ≡ Some ts → AreTokens (drop k text) ts
unfolding tokens_from
tokens-found [] zero ts h = let e : [] ≡ ts = cc in rw (← e) refl
tokens-found [] (suc k) ts h = let e : [] ≡ ts = cc in rw (← e) refl
tokens-found (b ∷ rest) (suc k) ts h = tokens-found rest k ts h
tokens-found (b ∷ rest) zero ts h = elim (cases_Bool (is_space_or_tab b)) [
  | inl space ↦ space-first b rest ts space (tokens-found rest 0 ts (rw space at h))
  | inr solid ↦ first-found b rest ts (token_at (b ∷ rest)) refl (λ k ts. tokens-found rest k ts) (rw solid at h)
]
