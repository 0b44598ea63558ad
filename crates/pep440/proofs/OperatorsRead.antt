-- What is read as an operator, as blanks or as `.*` stands in the text.
use Rattle.std.proofs.Common.{◌≡◌, ℕ, suc, ◌-◌, Bool, true, false, cond, eqb, leb, List, [], ◌∷◌, ◌++◌, length, take, Option, Some, None, refl, sym, ap, subst, ◌∙◌, arith, inl, inr}
use Rattle.std.specs.List.{list_all}
use Rattle.std.specs.Prelude.{codes}
use Rattle.std.specs.Cmp.{first_so, second_so}
use Rattle.std.proofs.lemmas.Bool.{cases_Bool, le-leb}
use Rattle.std.proofs.lemmas.Bool.Decides.{nat_tests}
use Rattle.std.proofs.lemmas.List.{append-nil}
use Rattle.pep440.specs.declared.specifier.Operator.{Operator}
use Rattle.pep440.specs.declared.specifier.Operator.TheVariants as operators
use Rattle.lists.specs.Spaces.{is_space_or_tab}
use Rattle.pep440.specs.Text.{trim_front}
use Rattle.pep440.specs.SetGrammar.{sign, star}
use Rattle.pep440.specs.Tied.Sets.{double_of, ends_in_star, operator_of, single_of, star_operator, version_text, with_rest}
use Rattle.pep440.proofs.CutFacts.{chosen}

-- ---- what is read is a clause

some-is : {A : Type 0} (x y : A) → ◌≡◌ {A = Option A} (Some x) (Some y) → x ≡ y
some-is x y h = cc

eqb-is : (a b : ℕ) → eqb a b ≡ true → a ≡ b
eqb-is a b h = grind (arith, nat_tests)

-- an operator without `.*` stands at the front of the text
pub record SignCut (piece : List ℕ) (p : Operator × List ℕ) : Type 0 where
  pub whole : piece ≡ sign p.0 ++ p.1
  pub usual : star p.0 ≡ []

with_rest-some : (o : Option Operator) (rest : List ℕ) (p : Operator × List ℕ) → with_rest o rest ≡ Some p → (q : Operator) × (o ≡ Some q) × ((q, rest) ≡ p)
with_rest-some None rest p h = absurd cc
with_rest-some (Some q) rest p h = (q, refl, cc)

single-cut : (a : ℕ) (rest : List ℕ) (q : Operator) → single_of a ≡ Some q → SignCut (a ∷ rest) (q, rest)
single-cut a rest q h = elim (chosen (eqb a 60) (Some operators.Below) (cond (eqb a 62) (Some operators.Above) None) (Some q) h) [
  | inl x ↦ subst (λ (o : Operator). SignCut (a ∷ rest) (o, rest)) (some-is _ q x.1) (record { whole = ap (λ (k : ℕ). k ∷ rest) (eqb-is a 60 x.0); usual = refl })
  | inr x ↦ elim (chosen (eqb a 62) (Some operators.Above) None (Some q) x.1) [
    | inl y ↦ subst (λ (o : Operator). SignCut (a ∷ rest) (o, rest)) (some-is _ q y.1) (record { whole = ap (λ (k : ℕ). k ∷ rest) (eqb-is a 62 y.0); usual = refl })
    | inr y ↦ absurd (let bad = y.1 in cc)
  ]
]

abbrev d5 : ℕ → Option Operator
d5 a = cond (eqb a 62) (Some operators.AtLeast) None

abbrev d4 : ℕ → Option Operator
d4 a = cond (eqb a 60) (Some operators.AtMost) (d5 a)

abbrev d3 : ℕ → Option Operator
d3 a = cond (eqb a 33) (Some operators.NotEqual) (d4 a)

abbrev d2 : ℕ → Option Operator
d2 a = cond (eqb a 61) (Some operators.Equal) (d3 a)

double-cut : (a : ℕ) (rest : List ℕ) (q : Operator) → double_of a ≡ Some q → SignCut (a ∷ 61 ∷ rest) (q, rest)
double-cut a rest q h =
    let cut = λ (o : Operator). SignCut (a ∷ 61 ∷ rest) (o, rest) in
    elim (chosen (eqb a 126) (Some operators.Compatible) (d2 a) (Some q) h) [
      | inl x ↦ subst cut (some-is _ q x.1) (record { whole = ap (λ (k : ℕ). k ∷ 61 ∷ rest) (eqb-is a 126 x.0); usual = refl })
      | inr x ↦ elim (chosen (eqb a 61) (Some operators.Equal) (d3 a) (Some q) x.1) [
        | inl y ↦ subst cut (some-is _ q y.1) (record { whole = ap (λ (k : ℕ). k ∷ 61 ∷ rest) (eqb-is a 61 y.0); usual = refl })
        | inr y ↦ elim (chosen (eqb a 33) (Some operators.NotEqual) (d4 a) (Some q) y.1) [
          | inl z ↦ subst cut (some-is _ q z.1) (record { whole = ap (λ (k : ℕ). k ∷ 61 ∷ rest) (eqb-is a 33 z.0); usual = refl })
          | inr z ↦ elim (chosen (eqb a 60) (Some operators.AtMost) (d5 a) (Some q) z.1) [
            | inl u ↦ subst cut (some-is _ q u.1) (record { whole = ap (λ (k : ℕ). k ∷ 61 ∷ rest) (eqb-is a 60 u.0); usual = refl })
            | inr u ↦ elim (chosen (eqb a 62) (Some operators.AtLeast) None (Some q) u.1) [
              | inl w ↦ subst cut (some-is _ q w.1) (record { whole = ap (λ (k : ℕ). k ∷ 61 ∷ rest) (eqb-is a 62 w.0); usual = refl })
              | inr w ↦ absurd (let bad = w.1 in cc)
            ]
          ]
        ]
      ]
    ]

pub operator-cut : (piece : List ℕ) (p : Operator × List ℕ) → operator_of piece ≡ Some p → SignCut piece p
operator-cut [] p h = absurd cc
operator-cut (a ∷ []) p h =
    let w = with_rest-some (single_of a) [] p h in
    subst (λ (q : Operator × List ℕ). SignCut (a ∷ []) q) w.2 (single-cut a [] w.0 w.1)
operator-cut (a ∷ b ∷ rest) p h = elim (chosen (eqb b 61) (with_rest (double_of a) rest) (with_rest (single_of a) (b ∷ rest)) (Some p) h) [
  | inl x ↦
      let w = with_rest-some (double_of a) rest p x.1 in
      rw (eqb-is b 61 x.0) (subst (λ (q : Operator × List ℕ). SignCut (a ∷ 61 ∷ rest) q) w.2 (double-cut a rest w.0 w.1))
  | inr x ↦
      let w = with_rest-some (single_of a) (b ∷ rest) p x.1 in
      subst (λ (q : Operator × List ℕ). SignCut (a ∷ b ∷ rest) q) w.2 (single-cut a (b ∷ rest) w.0 w.1)
]

pub record BlankCut (text : List ℕ) : Type 0 where
  pub blanks : List ℕ
  pub whole : text ≡ blanks ++ trim_front is_space_or_tab text
  pub are_blank : list_all is_space_or_tab blanks ≡ true

pub blank-cut : (text : List ℕ) → BlankCut text
blank-cut [] = record { blanks = []; whole = refl; are_blank = refl }
blank-cut (b ∷ text) = elim (cases_Bool (is_space_or_tab b)) [
  | inl blank ↦ let r = blank-cut text in record { blanks = b ∷ r.blanks; whole = rw blank (ap (λ (t : List ℕ). b ∷ t) r.whole); are_blank = rw (blank, r.are_blank) refl }
  | inr other ↦ record { blanks = []; whole = rw other refl; are_blank = refl }
]

-- what `.*` at the end means, and what stands before it
last-two : (text : List ℕ) → ends_in_star text ≡ true → text ≡ take (length text - 2) text ++ codes ".*"
last-two [] h = absurd cc
last-two (a ∷ []) h = absurd cc
last-two (a ∷ b ∷ []) h =
    let e = eqb-is a 46 (first_so (eqb a 46) (eqb b 42) h) in
    let f = eqb-is b 42 (second_so (eqb a 46) (eqb b 42) h) in
    λ i. e i ∷ f i ∷ []
last-two (a ∷ b ∷ c ∷ rest) h =
    let two : length (a ∷ b ∷ c ∷ rest) - 2 ≡ suc (length (b ∷ c ∷ rest) - 2) = omega arith in
    let one : length (a ∷ b ∷ c ∷ rest) - 1 ≡ suc (length (b ∷ c ∷ rest) - 1) = omega arith in
    let more : ends_in_star (b ∷ c ∷ rest) ≡ true = shorter a b c rest h two one in
    let ih = last-two (b ∷ c ∷ rest) more in
    rw two (ap (λ (t : List ℕ). a ∷ t) ih)
  where
    shorter : (a b c : ℕ) (rest : List ℕ) → ends_in_star (a ∷ b ∷ c ∷ rest) ≡ true → length (a ∷ b ∷ c ∷ rest) - 2 ≡ suc (length (b ∷ c ∷ rest) - 2) → length (a ∷ b ∷ c ∷ rest) - 1 ≡ suc (length (b ∷ c ∷ rest) - 1)
        → ends_in_star (b ∷ c ∷ rest) ≡ true
    shorter a b c rest h two one =
        let long : leb 2 (length (b ∷ c ∷ rest)) ≡ true = le-leb 2 (length (b ∷ c ∷ rest)) (omega arith) in
        let tests = second_so (leb 2 (length (a ∷ b ∷ c ∷ rest))) _ h in
        rw long (rw (two, one) at tests)

pub record Ended (o q : Operator) (text front : List ℕ) : Type 0 where
  pub whole : text ≡ front ++ star q
  pub sign_is : sign o ≡ sign q

pub ended : (b : Bool) (o q : Operator) (text : List ℕ) → ends_in_star text ≡ b → star o ≡ [] → star_operator b o ≡ Some q → Ended o q text (version_text b text)
ended false o q text e usual h =
    subst (λ (p : Operator). Ended o p text text) (some-is o q h) (record { whole = sym (append-nil text) ∙ ap (λ (t : List ℕ). text ++ t) (sym usual); sign_is = refl })
ended true operators.Equal q text e usual h =
    subst (λ (p : Operator). Ended operators.Equal p text (version_text true text)) (some-is _ q h) (record { whole = last-two text e; sign_is = refl })
ended true operators.NotEqual q text e usual h =
    subst (λ (p : Operator). Ended operators.NotEqual p text (version_text true text)) (some-is _ q h) (record { whole = last-two text e; sign_is = refl })
ended true operators.Compatible q text e usual h = absurd cc
ended true operators.EqualPrefix q text e usual h = absurd cc
ended true operators.NotEqualPrefix q text e usual h = absurd cc
ended true operators.AtMost q text e usual h = absurd cc
ended true operators.AtLeast q text e usual h = absurd cc
ended true operators.Below q text e usual h = absurd cc
ended true operators.Above q text e usual h = absurd cc
