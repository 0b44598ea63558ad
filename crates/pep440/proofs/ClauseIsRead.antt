-- A clause of the grammar is read.
use Rattle.std.proofs.Common.{◌≡◌, ℕ, zero, suc, ◌+◌, ◌-◌, ◌≤◌, Bool, true, false, cond, eqb, not, ◌&&◌, List, [], ◌∷◌, ◌++◌, length, take, get_or, Some, Ok, Err, refl, ap, ◌∙◌, arith, length-append}
use Rattle.std.specs.List.{list_all}
use Rattle.std.specs.Prelude.{codes}
use Rattle.std.specs.Cmp.{first_so, second_so}
use Rattle.std.proofs.lemmas.Bool.{le-leb}
use Rattle.std.proofs.lemmas.Bool.Decides.{nat_tests}
use Rattle.std.proofs.lemmas.List.{append-nil}
use Rattle.pep440.specs.declared.fault.Fault.TheVariants.{NumberTooLarge}
use Rattle.pep440.specs.declared.specifier.Operator.{Operator}
use Rattle.pep440.specs.declared.specifier.Operator.TheVariants as operators
use Rattle.pep440.specs.declared.specifier.Clause.{Clause}
use Rattle.pep440.specs.Version.{VersionParts, fits}
use Rattle.pep440.specs.Grammar.{IsVersionText}
use Rattle.pep440.specs.Tied.Reading.{bare_parts}
use Rattle.lists.specs.Spaces.{is_space_or_tab}
use Rattle.pep440.specs.Text.{trim_front}
use Rattle.pep440.specs.SetGrammar.{IsClause, sign, star}
use Rattle.pep440.specs.Tied.Sets.{clause_of, clause_text, ends_in_star, is_arbitrary, operator_of, single_of, star_operator, version_text, with_rest}
use Rattle.pep440.proofs.ByteFacts.{Covers, version-pass}
use Rattle.pep440.proofs.ReleaseReads.{is_start, spells-read, starts_version, version-start}

-- ---- what stands behind the operator

start-no_blank : (b : ℕ) → is_start b ≡ true → is_space_or_tab b ≡ false
start-no_blank b h = grind (arith, nat_tests)

start-no_equals : (b : ℕ) → is_start b ≡ true → eqb b 61 ≡ false
start-no_equals b h = grind (arith, nat_tests)

blank-no_equals : (b : ℕ) → is_space_or_tab b ≡ true → eqb b 61 ≡ false
blank-no_equals b h = grind (arith, nat_tests)

-- no `=` begins the text
abbrev no_equals : List ℕ → Bool
no_equals [] = true
no_equals (b ∷ rest) = not (eqb b 61)

behind-no_equals : (blanks version rest : List ℕ) → list_all is_space_or_tab blanks ≡ true → starts_version version ≡ true → no_equals (blanks ++ (version ++ rest)) ≡ true
behind-no_equals [] [] rest h g = absurd cc
behind-no_equals [] (b ∷ version) rest h g = rw (start-no_equals b g) refl
behind-no_equals (b ∷ blanks) version rest h g = rw (blank-no_equals b (first_so (is_space_or_tab b) (list_all is_space_or_tab blanks) h)) refl

trimmed : (blanks version rest : List ℕ) → list_all is_space_or_tab blanks ≡ true → starts_version version ≡ true → trim_front is_space_or_tab (blanks ++ (version ++ rest)) ≡ version ++ rest
trimmed [] [] rest h g = absurd cc
trimmed [] (b ∷ version) rest h g = rw (start-no_blank b g) refl
trimmed (b ∷ blanks) version rest h g = rw (first_so (is_space_or_tab b) (list_all is_space_or_tab blanks) h) (trimmed blanks version rest (second_so (is_space_or_tab b) (list_all is_space_or_tab blanks) h) g)

not-true : (b : Bool) → not b ≡ true → b ≡ false
not-true true h = absurd cc
not-true false h = refl

single-read : (a : ℕ) (text : List ℕ) → no_equals text ≡ true → operator_of (a ∷ text) ≡ with_rest (single_of a) text
single-read a [] h = refl
single-read a (b ∷ rest) h = rw (not-true (eqb b 61) h) refl

-- what an operator is before `.*` is seen
base : Operator → Operator
base operators.Compatible = operators.Compatible
base operators.Equal = operators.Equal
base operators.NotEqual = operators.NotEqual
base operators.EqualPrefix = operators.Equal
base operators.NotEqualPrefix = operators.NotEqual
base operators.AtMost = operators.AtMost
base operators.AtLeast = operators.AtLeast
base operators.Below = operators.Below
base operators.Above = operators.Above

sign-read : (o : Operator) (text : List ℕ) → no_equals text ≡ true → operator_of (sign o ++ text) ≡ Some (base o, text)
unfolding base
sign-read operators.Compatible text h = refl
sign-read operators.Equal text h = refl
sign-read operators.NotEqual text h = refl
sign-read operators.EqualPrefix text h = refl
sign-read operators.NotEqualPrefix text h = refl
sign-read operators.AtMost text h = refl
sign-read operators.AtLeast text h = refl
sign-read operators.Below text h = single-read 60 text h
sign-read operators.Above text h = single-read 62 text h

equals-usual : (text : List ℕ) → no_equals text ≡ true → is_arbitrary (61 ∷ 61 ∷ text) ≡ false
equals-usual [] h = refl
equals-usual (b ∷ rest) h = rw (not-true (eqb b 61) h) refl

other-usual : (a : ℕ) (text : List ℕ) → eqb a 61 ≡ false → is_arbitrary (a ∷ text) ≡ false
other-usual a [] h = refl
other-usual a (b ∷ []) h = refl
other-usual a (b ∷ c ∷ rest) h = rw h refl

sign-usual : (o : Operator) (text : List ℕ) → no_equals text ≡ true → is_arbitrary (sign o ++ text) ≡ false
sign-usual operators.Compatible text h = other-usual 126 (61 ∷ text) refl
sign-usual operators.Equal text h = equals-usual text h
sign-usual operators.NotEqual text h = other-usual 33 (61 ∷ text) refl
sign-usual operators.EqualPrefix text h = equals-usual text h
sign-usual operators.NotEqualPrefix text h = other-usual 33 (61 ∷ text) refl
sign-usual operators.AtMost text h = other-usual 60 (61 ∷ text) refl
sign-usual operators.AtLeast text h = other-usual 62 (61 ∷ text) refl
sign-usual operators.Below text h = other-usual 60 text refl
sign-usual operators.Above text h = other-usual 62 text refl

-- ---- `.*`

no_star : Covers (λ b. not (eqb b 42))
no_star = record {
  byte = λ b h. grind (arith, nat_tests);
  separator = λ b h. grind (arith, nat_tests);
  lower = λ b. grind (arith, nat_tests);
  bang = refl;
  plus = refl;
}

no_star-at : (text : List ℕ) (i : ℕ) → list_all (λ b. not (eqb b 42)) text ≡ true → eqb (get_or text i 0) 42 ≡ false
no_star-at [] i h = refl
no_star-at (b ∷ text) zero h = not-true (eqb b 42) (first_so (not (eqb b 42)) (list_all (λ b. not (eqb b 42)) text) h)
no_star-at (b ∷ text) (suc i) h = no_star-at text i (second_so (not (eqb b 42)) (list_all (λ b. not (eqb b 42)) text) h)

and-false : (b : Bool) → (b && false) ≡ false
and-false true = refl
and-false false = refl

version-no_star : (text : List ℕ) (v : VersionParts) → IsVersionText text v → ends_in_star text ≡ false
version-no_star text v h =
    let last = no_star-at text (length text - 1) (version-pass (λ b. not (eqb b 42)) no_star text v h) in
    rw (last, and-false, and-false) refl

at-end : (text : List ℕ) → (get_or (text ++ codes ".*") (length (text ++ codes ".*") - 2) 0 ≡ 46) × (get_or (text ++ codes ".*") (length (text ++ codes ".*") - 1) 0 ≡ 42)
    × (take (length (text ++ codes ".*") - 2) (text ++ codes ".*") ≡ text) × (2 ≤ length (text ++ codes ".*"))
at-end text =
    let len : length (text ++ codes ".*") ≡ length text + 2 = length-append text (codes ".*") in
    let two : length (text ++ codes ".*") - 2 ≡ length text = omega arith in
    let one : length (text ++ codes ".*") - 1 ≡ length text + 1 = omega arith in
    (ap (λ k. get_or (text ++ codes ".*") k 0) two ∙ first text, ap (λ k. get_or (text ++ codes ".*") k 0) one ∙ second text, ap (λ k. take k (text ++ codes ".*")) two ∙ front text, omega arith)
  where
    first : (t : List ℕ) → get_or (t ++ codes ".*") (length t) 0 ≡ 46
    first [] = refl
    first (b ∷ t) = first t

    second : (t : List ℕ) → get_or (t ++ codes ".*") (length t + 1) 0 ≡ 42
    second [] = refl
    second (b ∷ t) = let e : suc (length t) + 1 ≡ suc (length t + 1) = omega arith in rw e (second t)

    front : (t : List ℕ) → take (length t) (t ++ codes ".*") ≡ t
    front [] = refl
    front (b ∷ t) = ap (λ (x : List ℕ). b ∷ x) (front t)

with_star : (text : List ℕ) → (ends_in_star (text ++ codes ".*") ≡ true) × (version_text true (text ++ codes ".*") ≡ text)
with_star text = let e = at-end text in (rw (le-leb 2 _ e.3, e.0, e.1) refl, e.2)

bare-end : (o : Operator) (text : List ℕ) (v : VersionParts) → IsVersionText text v
    → (star_operator (ends_in_star (text ++ [])) o ≡ Some o) × (version_text (ends_in_star (text ++ [])) (text ++ []) ≡ text)
bare-end o text v h =
    let e : ends_in_star (text ++ []) ≡ false = ap ends_in_star (append-nil text) ∙ version-no_star text v h in
    (rw e refl, rw e (append-nil text))

-- what stands behind the blanks is read
starred : (o : Operator) (text : List ℕ) (v : VersionParts) → IsVersionText text v
    → (star_operator (ends_in_star (text ++ star o)) (base o) ≡ Some o) × (version_text (ends_in_star (text ++ star o)) (text ++ star o) ≡ text)
unfolding base
starred operators.EqualPrefix text v h = let w = with_star text in (rw w.0 refl, rw w.0 w.1)
starred operators.NotEqualPrefix text v h = let w = with_star text in (rw w.0 refl, rw w.0 w.1)
starred operators.Compatible text v h = bare-end operators.Compatible text v h
starred operators.Equal text v h = bare-end operators.Equal text v h
starred operators.NotEqual text v h = bare-end operators.NotEqual text v h
starred operators.AtMost text v h = bare-end operators.AtMost text v h
starred operators.AtLeast text v h = bare-end operators.AtLeast text v h
starred operators.Below text v h = bare-end operators.Below text v h
starred operators.Above text v h = bare-end operators.Above text v h

-- a clause of the grammar is read, or its number is refused
clause-reads : (k : ℕ) (piece : List ℕ) (c : Clause) → IsClause piece c → clause_of k piece ≡ cond (fits c.version) (Ok c) (Err NumberTooLarge)
clause-reads k piece c h =
    let behind = h.blanks ++ (h.version ++ star c.operator) in
    let start = version-start h.version c.version h.spells in
    let clear = behind-no_equals h.blanks h.version (star c.operator) h.are_blank start in
    let usual : is_arbitrary piece ≡ false = ap is_arbitrary h.whole ∙ sign-usual c.operator behind clear in
    let cut : operator_of piece ≡ Some (base c.operator, behind) = ap operator_of h.whole ∙ sign-read c.operator behind clear in
    let rest : trim_front is_space_or_tab behind ≡ h.version ++ star c.operator = trimmed h.blanks h.version (star c.operator) h.are_blank start in
    let s = starred c.operator h.version c.version h.spells in
    let parts : bare_parts h.version ≡ Some c.version = spells-read h.version c.version h.spells in
    let text : clause_text k (base c.operator) (h.version ++ star c.operator) ≡ cond (fits c.version) (Ok c) (Err NumberTooLarge) = rw (s.0, s.1, parts, h.taken) refl in
    rw (usual, cut, rest) text

pub clause-read : (k : ℕ) (piece : List ℕ) (c : Clause) → IsClause piece c → fits c.version ≡ true → clause_of k piece ≡ Ok c
clause-read k piece c h small = clause-reads k piece c h ∙ rw small refl

pub clause-large : (k : ℕ) (piece : List ℕ) (c : Clause) → IsClause piece c → fits c.version ≡ false → clause_of k piece ≡ Err NumberTooLarge
clause-large k piece c h large = clause-reads k piece c h ∙ rw large refl
