-- What the grammar spells as tokens is found so.
use Rattle.std.proofs.Common.{◌≡◌, ℕ, ◌+◌, ◌-◌, ◌<◌, Bool, true, false, eqb, List, [], ◌∷◌, ◌++◌, length, Option, Some, refl, sym, ap, ◌∙◌, append_assoc, length-append, arith}
use Rattle.std.proofs.Math.Seq.{drop-append_seam}
use Rattle.std.proofs.lemmas.Bool.{eq-eqb}
use Rattle.std.proofs.lemmas.Bool.Decides.{nat_tests}
use Rattle.std.specs.Cmp.{first_so, second_so}
use Rattle.std.specs.List.{list_all}
use Rattle.std.specs.Option.{option_map}
use Rattle.std.specs.Prelude.{codes, not}
use Rattle.pep440.specs.Tied.Sets.{operator_of, single_of}
use Rattle.pep440.specs.declared.specifier.Operator.{Operator}
use Rattle.pep440.specs.declared.specifier.Operator.TheVariants as operators
use Rattle.markers.specs.MarkerSpelling.{AreTokens, IsQuoted, IsToken, goes_on, is_inside, starts_word, is_quotable, is_quote, is_word_byte, starts_equal}
use Rattle.lists.specs.Spaces.{is_space_or_tab}
use Rattle.markers.specs.Tied.MarkerTokens.{quoted_text, token_at, tokens_from, word_at, word_of, word_token}
use Rattle.markers.specs.Variables.{variable_name}
use Rattle.markers.specs.declared.comparison.Comparison.TheVariants as comparisons
use Rattle.markers.specs.declared.marker_atom.Operand.TheVariants as operands
use Rattle.markers.specs.declared.marker_token.Side.TheVariants as sides
use Rattle.markers.specs.declared.marker_token.Token.{Token}
use Rattle.markers.specs.declared.marker_token.Token.TheVariants as tokens
use Rattle.markers.specs.declared.variable.Variable.{Variable}
use Rattle.markers.specs.declared.variable.Variable.TheVariants as variables
use Rattle.markers.proofs.ReadFacts.{tokens_from-drop}

-- a token that is found where it is spelled
record Found (first : List ℕ) (t : Token) (after : List ℕ) : Type 0 where
  head : ℕ
  tail : List ℕ
  cut : first ≡ head ∷ tail
  solid : is_space_or_tab head ≡ false
  found : token_at (head ∷ (tail ++ after)) ≡ Some (t, length tail)

not-true : (b : Bool) → not b ≡ true → b ≡ false
not-true true h = absurd cc
not-true false h = refl

quoted-read : (q : ℕ) (inner after : List ℕ) → list_all (is_inside q) inner ≡ true → quoted_text q (inner ++ q ∷ after) ≡ Some inner
quoted-read q [] after h = rw (eq-eqb q q refl) refl
quoted-read q (b ∷ inner) after h =
    let here = first_so (is_inside q b) (list_all (is_inside q) inner) h in
    let good = first_so (is_quotable b) (not (eqb b q)) here in
    let other = not-true (eqb b q) (second_so (is_quotable b) (not (eqb b q)) here) in
    rw (other, good, quoted-read q inner after (second_so (is_inside q b) (list_all (is_inside q) inner) h)) refl

quote-solid : (b : ℕ) → is_quote b ≡ true → is_space_or_tab b ≡ false
quote-solid b h = grind (arith, nat_tests)

quoted_token-found : (first inner after : List ℕ) → IsQuoted first inner → Found first (tokens.Side (sides.Operand (operands.Quoted inner))) after
unfolding token_at
quoted_token-found first inner after h =
    let token : Token = tokens.Side (sides.Operand (operands.Quoted inner)) in
    let count : length inner + 1 ≡ length (inner ++ h.quote ∷ []) = sym (length-append inner (h.quote ∷ [])) in
    record {
      head = h.quote;
      tail = inner ++ h.quote ∷ [];
      cut = h.whole;
      solid = quote-solid h.quote h.opens;
      found =
          rw (h.opens, append_assoc inner (h.quote ∷ []) after, quoted-read h.quote inner after h.lawful)
          (ap (λ (k : ℕ). let found : Option (Token × ℕ) = Some (token, k) in found) count);
    }

word-cut : (word after : List ℕ) → list_all is_word_byte word ≡ true → starts_word after ≡ false → word_of (word ++ after) ≡ word
word-cut [] [] h ends = refl
word-cut [] (b ∷ after) h ends = rw ends refl
word-cut (b ∷ word) after h ends =
    rw (first_so (is_word_byte b) (list_all is_word_byte word) h)
    (ap (λ (t : List ℕ). b ∷ t) (word-cut word after (second_so (is_word_byte b) (list_all is_word_byte word) h) ends))

word-solid : (b : ℕ) → is_word_byte b ≡ true → is_space_or_tab b ≡ false
word-solid b h = grind (arith, nat_tests)

word-no_quote : (b : ℕ) → is_word_byte b ≡ true → is_quote b ≡ false
word-no_quote b h = grind (arith, nat_tests)

word_at-cut : (b : ℕ) (tail after : List ℕ) (t : Token) → list_all is_word_byte (b ∷ tail) ≡ true → word_token (b ∷ tail) ≡ Some t → starts_word after ≡ false → word_at (b ∷ (tail ++ after)) ≡ Some (t, length tail)
word_at-cut b tail after t all known ends =
    let cut : word_of (b ∷ (tail ++ after)) ≡ b ∷ tail = word-cut (b ∷ tail) after all ends in
    let count : length (b ∷ tail) - 1 ≡ length tail = omega arith in
    ap (λ (word : List ℕ). option_map (λ (token : Token). let found : Token × ℕ = (token, length word - 1) in found) (word_token word)) cut
    ∙ ap (λ (o : Option Token). option_map (λ (token : Token). let found : Token × ℕ = (token, length (b ∷ tail) - 1) in found) o) known
    ∙ ap (λ (k : ℕ). let found : Option (Token × ℕ) = Some (t, k) in found) count

word-read : (word : List ℕ) (t : Token) (first after : List ℕ) → first ≡ word → 0 < length word → list_all is_word_byte word ≡ true → word_token word ≡ Some t → starts_word after ≡ false → Found first t after
unfolding token_at
word-read [] t first after e some all known ends = absurd (omega arith)
word-read (b ∷ tail) t first after e some all known ends =
    let good = first_so (is_word_byte b) (list_all is_word_byte tail) all in
    record {
      head = b;
      tail = tail;
      cut = e;
      solid = word-solid b good;
      found = let read = word_at-cut b tail after t all known ends in rw (word-no_quote b good, good) (rw good at read);
    }

variable-some : (v : Variable) → 0 < length (variable_name v)
variable-some v = elim v as (λ v. 0 < length (variable_name v)) [
  | variables.ImplementationName ↦ omega arith
  | variables.ImplementationVersion ↦ omega arith
  | variables.OsName ↦ omega arith
  | variables.PlatformMachine ↦ omega arith
  | variables.PlatformPythonImplementation ↦ omega arith
  | variables.PlatformRelease ↦ omega arith
  | variables.PlatformSystem ↦ omega arith
  | variables.PlatformVersion ↦ omega arith
  | variables.PythonFullVersion ↦ omega arith
  | variables.PythonVersion ↦ omega arith
  | variables.SysPlatform ↦ omega arith
]

variable-word : (v : Variable) → list_all is_word_byte (variable_name v) ≡ true
variable-word variables.ImplementationName = refl
variable-word variables.ImplementationVersion = refl
variable-word variables.OsName = refl
variable-word variables.PlatformMachine = refl
variable-word variables.PlatformPythonImplementation = refl
variable-word variables.PlatformRelease = refl
variable-word variables.PlatformSystem = refl
variable-word variables.PlatformVersion = refl
variable-word variables.PythonFullVersion = refl
variable-word variables.PythonVersion = refl
variable-word variables.SysPlatform = refl

variable-known : (v : Variable) → word_token (variable_name v) ≡ Some (tokens.Side (sides.Operand (operands.Variable v)))
variable-known variables.ImplementationName = refl
variable-known variables.ImplementationVersion = refl
variable-known variables.OsName = refl
variable-known variables.PlatformMachine = refl
variable-known variables.PlatformPythonImplementation = refl
variable-known variables.PlatformRelease = refl
variable-known variables.PlatformSystem = refl
variable-known variables.PlatformVersion = refl
variable-known variables.PythonFullVersion = refl
variable-known variables.PythonVersion = refl
variable-known variables.SysPlatform = refl

single-read : (b : ℕ) (o : Operator) (after : List ℕ) → single_of b ≡ Some o → starts_equal after ≡ false → operator_of (b ∷ after) ≡ Some (o, after)
single-read b o [] h ends = rw h refl
single-read b o (c ∷ rest) h ends = rw (ends, h) refl

token-read : (t : Token) (first after : List ℕ) → IsToken first t → goes_on t after ≡ false → Found first t after
unfolding token_at
token-read (tokens.Side (sides.Operand (operands.Quoted inner))) first after is ends = quoted_token-found first inner after is
token-read (tokens.Side (sides.Operand (operands.Variable v))) first after is ends = word-read (variable_name v) _ first after is (variable-some v) (variable-word v) (variable-known v) ends
token-read (tokens.Side sides.Extra) first after is ends = word-read (codes "extra") _ first after is (omega arith) refl refl ends
token-read (tokens.Compare comparisons.Compatible) first after is ends = record { head = 126; tail = 61 ∷ []; cut = is; solid = refl; found = refl }
token-read (tokens.Compare comparisons.Equal) first after is ends = record { head = 61; tail = 61 ∷ []; cut = is; solid = refl; found = refl }
token-read (tokens.Compare comparisons.NotEqual) first after is ends = record { head = 33; tail = 61 ∷ []; cut = is; solid = refl; found = refl }
token-read (tokens.Compare comparisons.AtMost) first after is ends = record { head = 60; tail = 61 ∷ []; cut = is; solid = refl; found = refl }
token-read (tokens.Compare comparisons.AtLeast) first after is ends = record { head = 62; tail = 61 ∷ []; cut = is; solid = refl; found = refl }
token-read (tokens.Compare comparisons.Below) first after is ends = record { head = 60; tail = []; cut = is; solid = refl; found = rw (single-read 60 operators.Below after refl ends) refl }
token-read (tokens.Compare comparisons.Above) first after is ends = record { head = 62; tail = []; cut = is; solid = refl; found = rw (single-read 62 operators.Above after refl ends) refl }
token-read tokens.Not first after is ends = word-read (codes "not") _ first after is (omega arith) refl refl ends
token-read tokens.In first after is ends = word-read (codes "in") _ first after is (omega arith) refl refl ends
token-read tokens.And first after is ends = word-read (codes "and") _ first after is (omega arith) refl refl ends
token-read tokens.Or first after is ends = word-read (codes "or") _ first after is (omega arith) refl refl ends
token-read tokens.Open first after is ends = record { head = 40; tail = []; cut = is; solid = refl; found = refl }
token-read tokens.Close first after is ends = record { head = 41; tail = []; cut = is; solid = refl; found = refl }

spaces-skipped : (spaces rest : List ℕ) → list_all is_space_or_tab spaces ≡ true → tokens_from 0 (spaces ++ rest) ≡ tokens_from 0 rest
unfolding tokens_from
spaces-skipped [] rest h = refl
spaces-skipped (b ∷ spaces) rest h =
    rw (first_so (is_space_or_tab b) (list_all is_space_or_tab spaces) h) (spaces-skipped spaces rest (second_so (is_space_or_tab b) (list_all is_space_or_tab spaces) h))

spaces-read : (text : List ℕ) → list_all is_space_or_tab text ≡ true → tokens_from 0 text ≡ Some []
unfolding tokens_from
spaces-read [] h = refl
spaces-read (b ∷ text) h = rw (first_so (is_space_or_tab b) (list_all is_space_or_tab text) h) (spaces-read text (second_so (is_space_or_tab b) (list_all is_space_or_tab text) h))

token-skipped : (b : ℕ) (tail rest : List ℕ) (t : Token) → is_space_or_tab b ≡ false → token_at (b ∷ (tail ++ rest)) ≡ Some (t, length tail) → tokens_from 0 (b ∷ (tail ++ rest)) ≡ option_map (λ ts. t ∷ ts) (tokens_from 0 rest)
unfolding tokens_from
token-skipped b tail rest t solid found =
    rw (solid, found)
    (ap (λ (o : Option (List Token)). option_map (λ (ts : List Token). t ∷ ts) o)
    (tokens_from-drop (length tail) (tail ++ rest) ∙ ap (λ (text : List ℕ). tokens_from 0 text) (drop-append_seam tail rest)))

pub tokens-read : (ts : List Token) (text : List ℕ) → AreTokens text ts → tokens_from 0 text ≡ Some ts
tokens-read [] text h = spaces-read text h
tokens-read (t ∷ ts) text h =
    let f = token-read t h.1 h.2 h.5 h.6 in
    ap (λ (text : List ℕ). tokens_from 0 text) h.3
    ∙ spaces-skipped h.0 (h.1 ++ h.2) h.4
    ∙ ap (λ (first : List ℕ). tokens_from 0 (first ++ h.2)) f.cut
    ∙ token-skipped f.head f.tail h.2 t f.solid f.found
    ∙ ap (λ (o : Option (List Token)). option_map (λ (ts : List Token). t ∷ ts) o) (tokens-read ts h.2 h.7)
