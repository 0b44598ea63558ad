-- The text of relations, joined by `and`, reads as a marker that holds where all of them do.
use Rattle.std.proofs.Common.{◌≡◌, ◌∙◌, ℕ, Bool, true, false, eqb, ltb, not, ◌+◌, ◌&&◌, ◌||◌, List, [], ◌∷◌, ◌++◌, length, map, filter, Option, Some, None, arith, append_assoc, refl, ap, subst, sym, inl, inr}
use Rattle.std.proofs.lemmas.Bool.{cases_Bool}
use Rattle.std.proofs.lemmas.Bool.Decides.{nat_tests}
use Rattle.std.proofs.lemmas.List.{append-nil}
use Rattle.std.proofs.lemmas.List.Folds.{list_all-map}
use Rattle.std.specs.Cmp.{first_so, second_so}
use Rattle.std.specs.Cmp.Derive.{both_true}
use Rattle.std.specs.List.{AllByRecursion, flat_map, list_all, list_any}
use Rattle.std.specs.Prelude.{◌↔◌, ⊤, Ok, codes}
use Rattle.markers.specs.Comparisons.{sign}
use Rattle.markers.specs.Environment.{Texts, joined}
use Rattle.markers.specs.Marker.{Tree, holds, marker_of}
use Rattle.markers.specs.MarkerAtoms.{Relation, relation_holds}
use Rattle.markers.specs.MarkerDepth.{beginnings, count_closed, is_too_deep, leaves_too_many, outside, quote_after}
use Rattle.markers.specs.MarkerGrammar.{AreMembers, operand_token, operator_tokens, relation_tokens}
use Rattle.markers.specs.MarkerHolds.{all_hold}
use Rattle.markers.specs.MarkerSpelling.{AreTokens, IsToken, SpellsMarker, goes_on, is_inside, is_quote, starts_word}
use Rattle.markers.specs.Tied.MarkerTokens.{word_token}
use Rattle.markers.specs.MarkerTree.{all_of, any_of, atom, no_trees, tree, trees_of}
use Rattle.markers.specs.Variables.{variable_name}
use Rattle.markers.specs.declared.comparison.Comparison.{Comparison}
use Rattle.markers.specs.declared.comparison.Comparison.TheVariants as comparisons
use Rattle.markers.specs.declared.marker_atom.Atom.TheVariants as atoms
use Rattle.markers.specs.declared.marker_atom.Operand.{Operand}
use Rattle.markers.specs.declared.marker_atom.Operand.TheVariants as operands
use Rattle.markers.specs.declared.marker_atom.MarkerOperator.{MarkerOperator}
use Rattle.markers.specs.declared.marker_atom.MarkerOperator.TheVariants as operators
use Rattle.markers.specs.declared.variable.Variable.{Variable}
use Rattle.markers.specs.declared.variable.Variable.TheVariants as variables
use Rattle.exports.specs.Tied.Told.{operand_told, operator_told, relation_told}

-- ---- tokens

-- the type of tokens, and the token `and`, neither of which has a name outside of its crate
abbrev pub result_of : {A B : Type 0} → (A → B) → Type 0
result_of {A} {B} f = B

abbrev pub Token : Type 0
Token = result_of operand_token

abbrev pub token_or : Token → Option Token → Token
token_or other (Some token) = token
token_or other None = other

abbrev and_token : Token
and_token = token_or (operand_token (operands.Quoted [])) (word_token (codes "and"))

-- a text between quotes has no quote in it
abbrev pub IsQuotable : Operand → Type 0
IsQuotable (operands.Variable v) = ⊤
IsQuotable (operands.Quoted text) = list_all (is_inside 34) text ≡ true

pub record AreQuotable (r : Relation) : Type 0 where
  pub left : IsQuotable r.left
  pub right : IsQuotable r.right

operand-token : (o : Operand) → IsQuotable o → IsToken (operand_told o) (operand_token o)
operand-token (operands.Variable v) h = refl
operand-token (operands.Quoted text) h = record { quote = 34; opens = refl; whole = refl; lawful = h }

-- no letter follows, so that a name ends there
operand-ends : (o : Operand) (rest : List ℕ) → starts_word rest ≡ false → goes_on (operand_token o) rest ≡ false
operand-ends (operands.Variable v) rest h = h
operand-ends (operands.Quoted text) rest h = refl

-- an operand that ends a relation
right-tokens : (o : Operand) → IsQuotable o → (after : List ℕ) (ts : List Token) → starts_word after ≡ false → AreTokens after ts
    → AreTokens (32 ∷ (operand_told o ++ after)) (operand_token o ∷ ts)
right-tokens o q after ts ends h = (32 ∷ [], operand_told o, after, refl, refl, operand-token o q, operand-ends o after ends, h)

-- the operator, and what stands behind it
operator-tokens : (operator : MarkerOperator) (behind : List ℕ) (ts : List Token) → AreTokens (32 ∷ behind) ts → AreTokens (32 ∷ (operator_told operator ++ 32 ∷ behind)) (operator_tokens operator ++ ts)
operator-tokens (operators.Compare comparisons.Compatible) behind ts h = (32 ∷ [], codes "~=", 32 ∷ behind, refl, refl, refl, refl, h)
operator-tokens (operators.Compare comparisons.Equal) behind ts h = (32 ∷ [], codes "==", 32 ∷ behind, refl, refl, refl, refl, h)
operator-tokens (operators.Compare comparisons.NotEqual) behind ts h = (32 ∷ [], codes "!=", 32 ∷ behind, refl, refl, refl, refl, h)
operator-tokens (operators.Compare comparisons.AtMost) behind ts h = (32 ∷ [], codes "<=", 32 ∷ behind, refl, refl, refl, refl, h)
operator-tokens (operators.Compare comparisons.AtLeast) behind ts h = (32 ∷ [], codes ">=", 32 ∷ behind, refl, refl, refl, refl, h)
operator-tokens (operators.Compare comparisons.Below) behind ts h = (32 ∷ [], codes "<", 32 ∷ behind, refl, refl, refl, refl, h)
operator-tokens (operators.Compare comparisons.Above) behind ts h = (32 ∷ [], codes ">", 32 ∷ behind, refl, refl, refl, refl, h)
operator-tokens operators.In behind ts h = (32 ∷ [], codes "in", 32 ∷ behind, refl, refl, refl, refl, h)
operator-tokens operators.NotIn behind ts h = (32 ∷ [], codes "not", codes " in" ++ 32 ∷ behind, refl, refl, refl, refl, (32 ∷ [], codes "in", 32 ∷ behind, refl, refl, refl, refl, h))

pieces : (left operator right after : List ℕ) → (left ++ (32 ∷ (operator ++ 32 ∷ right))) ++ after ≡ left ++ (32 ∷ (operator ++ 32 ∷ (right ++ after)))
pieces left operator right after =
    append_assoc left (32 ∷ (operator ++ 32 ∷ right)) after ∙ ap (λ (behind : List ℕ). left ++ 32 ∷ behind) (append_assoc operator (32 ∷ right) after)

relation-tokens : (r : Relation) → AreQuotable r → (after : List ℕ) (ts : List Token) → starts_word after ≡ false → AreTokens after ts → AreTokens (relation_told r ++ after) (relation_tokens r ++ ts)
relation-tokens r q after ts ends h =
    let behind : List ℕ = 32 ∷ (operator_told r.operator ++ 32 ∷ (operand_told r.right ++ after)) in
    let us : List Token = operator_tokens r.operator ++ operand_token r.right ∷ ts in
    let rest : AreTokens behind us = operator-tokens r.operator (operand_told r.right ++ after) (operand_token r.right ∷ ts) (right-tokens r.right q.right after ts ends h) in
    let texts : relation_told r ++ after ≡ operand_told r.left ++ behind = pieces (operand_told r.left) (operator_told r.operator) (operand_told r.right) after in
    let all : relation_tokens r ++ ts ≡ operand_token r.left ∷ us =
    ap (λ (more : List Token). operand_token r.left ∷ more) (append_assoc (operator_tokens r.operator) (operand_token r.right ∷ []) ts) in
    subst (λ (text : List ℕ). AreTokens text (relation_tokens r ++ ts)) (sym texts)
    (subst (λ (all : List Token). AreTokens (operand_told r.left ++ behind) all) (sym all)
    ([], operand_told r.left, behind, refl, refl, operand-token r.left q.left, operand-ends r.left behind refl, rest))

-- relations behind another, each with `and` before it
abbrev pub more_told : List Relation → List ℕ
more_told rs = flat_map (λ next. codes " and " ++ next) (map relation_told rs)

abbrev pub more_tokens : List Relation → List Token
more_tokens [] = []
more_tokens (r ∷ rs) = and_token ∷ (relation_tokens r ++ more_tokens rs)

more-ends : (rs : List Relation) (after : List ℕ) → starts_word after ≡ false → starts_word (more_told rs ++ after) ≡ false
more-ends [] after h = h
more-ends (r ∷ rs) after h = refl

pub space-first : (rest : List ℕ) (ts : List Token) → AreTokens rest ts → AreTokens (32 ∷ rest) ts
space-first rest [] h = h
space-first rest (t ∷ ts) h = (32 ∷ h.0, h.1, h.2, ap (λ (text : List ℕ). 32 ∷ text) h.3, h.4, h.5, h.6, h.7)

more-tokens : (rs : List Relation) → AllByRecursion AreQuotable rs → (after : List ℕ) (ts : List Token) → starts_word after ≡ false → AreTokens after ts
    → AreTokens (more_told rs ++ after) (more_tokens rs ++ ts)
more-tokens [] q after ts ends h = h
more-tokens (r ∷ rs) q after ts ends h =
    let behind : List ℕ = more_told rs ++ after in
    let us : List Token = more_tokens rs ++ ts in
    let text : more_told (r ∷ rs) ++ after ≡ codes " and " ++ (relation_told r ++ behind) = ap (λ (t : List ℕ). codes " and " ++ t) (append_assoc (relation_told r) (more_told rs) after) in
    let tokens : (relation_tokens r ++ more_tokens rs) ++ ts ≡ relation_tokens r ++ us = append_assoc (relation_tokens r) (more_tokens rs) ts in
    let rest : AreTokens (relation_told r ++ behind) (relation_tokens r ++ us) = relation-tokens r q.0 behind us (more-ends rs after ends) (more-tokens rs q.1 after ts ends h) in (
      32 ∷ [],
      codes "and",
      32 ∷ (relation_told r ++ behind),
      text,
      refl,
      refl,
      refl,
      space-first (relation_told r ++ behind) ((relation_tokens r ++ more_tokens rs) ++ ts) (subst (AreTokens (relation_told r ++ behind)) (sym tokens) rest),
    )

-- relations, joined, before something else
abbrev pub conjoined_told : Relation → List Relation → List ℕ
conjoined_told r rs = relation_told r ++ more_told rs

abbrev pub conjoined_tokens : Relation → List Relation → List Token
conjoined_tokens r rs = relation_tokens r ++ more_tokens rs

pub conjoined-tokens : (r : Relation) (rs : List Relation) → AllByRecursion AreQuotable (r ∷ rs) → (after : List ℕ) (ts : List Token) → starts_word after ≡ false → AreTokens after ts
    → AreTokens (conjoined_told r rs ++ after) (conjoined_tokens r rs ++ ts)
conjoined-tokens r rs q after ts ends h =
    let rest = relation-tokens r q.0 (more_told rs ++ after) (more_tokens rs ++ ts) (more-ends rs after ends) (more-tokens rs q.1 after ts ends h) in
    subst (λ (text : List ℕ). AreTokens text (conjoined_tokens r rs ++ ts)) (sym (append_assoc (relation_told r) (more_told rs) after))
    (subst (AreTokens (relation_told r ++ (more_told rs ++ after))) (sym (append_assoc (relation_tokens r) (more_tokens rs) ts)) rest)

-- ---- the tree

abbrev pub relation_tree : Relation → Tree
relation_tree r = atom (atoms.Relation r)

abbrev pub tree_told : List Relation → Tree
tree_told rs = any_of (tree (all_of (trees_of (map relation_tree rs))) no_trees)

pub are-members : (r : Relation) (rs : List Relation) → AreMembers (relation_tokens r ++ more_tokens rs) (trees_of (map relation_tree (r ∷ rs)))
are-members r [] = append-nil (relation_tokens r)
are-members r (s ∷ rs) = (relation_tokens r, relation_tokens s ++ more_tokens rs, refl, refl, are-members s rs)

spells : (r : Relation) (rs : List Relation) → AllByRecursion AreQuotable (r ∷ rs) → SpellsMarker (joined (map relation_told (r ∷ rs))) (tree_told (r ∷ rs))
spells r rs q = record {
  tokens = relation_tokens r ++ more_tokens rs;
  are_tokens =
      subst (λ (text : List ℕ). AreTokens text (conjoined_tokens r rs)) (append-nil (conjoined_told r rs))
      (subst (AreTokens (conjoined_told r rs ++ [])) (append-nil (conjoined_tokens r rs)) (conjoined-tokens r rs q [] [] refl refl));
  are_marker = are-members r rs;
}

-- ---- no parenthesis is open outside quotes

abbrev pub is_no_open : ℕ → Bool
is_no_open b = not (eqb b 40)

abbrev pub none_open : Option ℕ → List ℕ → Bool
none_open quote text = list_all is_no_open (outside quote text)

beginnings-open : (quote : Option ℕ) (text : List ℕ) → none_open quote text ≡ true → list_all (none_open quote) (beginnings text) ≡ true
beginnings-open quote [] h = refl
beginnings-open None (b ∷ rest) h =
    let first : is_no_open b ≡ true = first_so (is_no_open b) (none_open (quote_after None b) rest) h in
    let more = beginnings-open (quote_after None b) rest (second_so (is_no_open b) (none_open (quote_after None b) rest) h) in
    list_all-map (none_open None) (λ (s : List ℕ). b ∷ s) (beginnings rest) ∙ ap (λ (p : List ℕ → Bool). list_all p (beginnings rest)) (λ i s. first i && none_open (quote_after None b) s) ∙ more
beginnings-open (Some q) (b ∷ rest) h =
    list_all-map (none_open (Some q)) (λ (s : List ℕ). b ∷ s) (beginnings rest) ∙ beginnings-open (quote_after (Some q) b) rest h

no-filter : (text : List ℕ) → list_all is_no_open text ≡ true → filter (λ b. eqb b 40) text ≡ []
no-filter [] h = refl
no-filter (b ∷ text) h = elim (cases_Bool (eqb b 40)) [
  | inl opens ↦ (let e = rw opens at h in cc)
  | inr other ↦ rw other (no-filter text (second_so (is_no_open b) (list_all is_no_open text) h))
]

few : (closed : ℕ) → ltb (closed + 64) 0 ≡ false
few closed = grind (arith, nat_tests)

leaves-few : (text : List ℕ) → none_open None text ≡ true → leaves_too_many text ≡ false
leaves-few text h = ap (λ (opened : List ℕ). ltb (count_closed text + 64) (length opened)) (no-filter (outside None text) h) ∙ few (count_closed text)

none-passes : (p q : List ℕ → Bool) (xs : List (List ℕ)) → ((x : List ℕ) → p x ≡ true → q x ≡ false) → list_all p xs ≡ true → list_any q xs ≡ false
none-passes p q [] f h = refl
none-passes p q (x ∷ xs) f h = rw (f x (first_so (p x) (list_all p xs) h), none-passes p q xs f (second_so (p x) (list_all p xs) h)) refl

pub shallow : (text : List ℕ) → none_open None text ≡ true → is_too_deep text ≡ false
unfolding is_too_deep
shallow text h = none-passes (none_open None) leaves_too_many (beginnings text) leaves-few (beginnings-open None text h)

abbrev is_flat : ℕ → Bool
is_flat b = not (is_quote b) && not (eqb b 40)

not-true : (b : Bool) → not b ≡ true → b ≡ false
not-true true h = absurd cc
not-true false h = refl

flat-skipped : (word rest : List ℕ) → list_all is_flat word ≡ true → none_open None (word ++ rest) ≡ none_open None rest
flat-skipped [] rest h = refl
flat-skipped (b ∷ word) rest h =
    let here = first_so (is_flat b) (list_all is_flat word) h in
    let quote = not-true (is_quote b) (first_so (not (is_quote b)) (not (eqb b 40)) here) in
    let opens = second_so (not (is_quote b)) (not (eqb b 40)) here in
    rw (opens, quote) (flat-skipped word rest (second_so (is_flat b) (list_all is_flat word) h))

inside-other : (b : ℕ) → is_inside 34 b ≡ true → eqb b 34 ≡ false
inside-other b h = grind (arith, nat_tests)

quoted-skipped : (text rest : List ℕ) → list_all (is_inside 34) text ≡ true → none_open (Some 34) (text ++ 34 ∷ rest) ≡ none_open None rest
quoted-skipped [] rest h = refl
quoted-skipped (b ∷ text) rest h =
    rw (inside-other b (first_so (is_inside 34 b) (list_all (is_inside 34) text) h)) (quoted-skipped text rest (second_so (is_inside 34 b) (list_all (is_inside 34) text) h))

name-flat : (v : Variable) → list_all is_flat (variable_name v) ≡ true
name-flat variables.ImplementationName = refl
name-flat variables.ImplementationVersion = refl
name-flat variables.OsName = refl
name-flat variables.PlatformMachine = refl
name-flat variables.PlatformPythonImplementation = refl
name-flat variables.PlatformRelease = refl
name-flat variables.PlatformSystem = refl
name-flat variables.PlatformVersion = refl
name-flat variables.PythonFullVersion = refl
name-flat variables.PythonVersion = refl
name-flat variables.SysPlatform = refl

sign-flat : (c : Comparison) → list_all is_flat (sign c) ≡ true
sign-flat comparisons.Compatible = refl
sign-flat comparisons.Equal = refl
sign-flat comparisons.NotEqual = refl
sign-flat comparisons.AtMost = refl
sign-flat comparisons.AtLeast = refl
sign-flat comparisons.Below = refl
sign-flat comparisons.Above = refl

operator-flat : (o : MarkerOperator) → list_all is_flat (operator_told o) ≡ true
operator-flat (operators.Compare c) = sign-flat c
operator-flat operators.In = refl
operator-flat operators.NotIn = refl

operand-skipped : (o : Operand) → IsQuotable o → (rest : List ℕ) → none_open None (operand_told o ++ rest) ≡ none_open None rest
operand-skipped (operands.Variable v) h rest = flat-skipped (variable_name v) rest (name-flat v)
operand-skipped (operands.Quoted text) h rest = ap (none_open (Some 34)) (append_assoc text (34 ∷ []) rest) ∙ quoted-skipped text rest h

relation-skipped : (r : Relation) → AreQuotable r → (rest : List ℕ) → none_open None (relation_told r ++ rest) ≡ none_open None rest
relation-skipped r q rest =
    ap (none_open None) (pieces (operand_told r.left) (operator_told r.operator) (operand_told r.right) rest)
    ∙ operand-skipped r.left q.left (32 ∷ (operator_told r.operator ++ 32 ∷ (operand_told r.right ++ rest)))
    ∙ flat-skipped (operator_told r.operator) (32 ∷ (operand_told r.right ++ rest)) (operator-flat r.operator)
    ∙ operand-skipped r.right q.right rest

more-skipped : (rs : List Relation) → AllByRecursion AreQuotable rs → (rest : List ℕ) → none_open None (more_told rs ++ rest) ≡ none_open None rest
more-skipped [] q rest = refl
more-skipped (r ∷ rs) q rest =
    ap (none_open None) (append_assoc (relation_told r) (more_told rs) rest) ∙ relation-skipped r q.0 (more_told rs ++ rest) ∙ more-skipped rs q.1 rest

pub conjoined-skipped : (r : Relation) (rs : List Relation) → AllByRecursion AreQuotable (r ∷ rs) → (rest : List ℕ) → none_open None (conjoined_told r rs ++ rest) ≡ none_open None rest
conjoined-skipped r rs q rest =
    ap (none_open None) (append_assoc (relation_told r) (more_told rs) rest) ∙ relation-skipped r q.0 (more_told rs ++ rest) ∙ more-skipped rs q.1 rest

-- ---- it holds where all relations do

all-hold : (texts : Texts) (extra : Option (List ℕ)) (rs : List Relation) → (all_hold (trees_of (map relation_tree rs)) texts extra ≡ true) ↔ AllByRecursion (λ r. relation_holds r texts ≡ true) rs
all-hold texts extra [] = (λ h. tt, λ h. refl)
all-hold texts extra (r ∷ rs) = (
  λ h. (first_so (relation_holds r texts) _ h, (all-hold texts extra rs).0 (second_so (relation_holds r texts) _ h)),
  λ h. both_true h.0 ((all-hold texts extra rs).1 h.1),
)

-- ---- the law

-- what the law of the grammar of markers says
abbrev pub ReadsAsSpelled : Type 0
ReadsAsSpelled = (text : List ℕ) (t : Tree) → is_too_deep text ≡ false → SpellsMarker text t → marker_of text ≡ Ok t

pub told-reads : ReadsAsSpelled → (r : Relation) (rs : List Relation) → AllByRecursion AreQuotable (r ∷ rs) → marker_of (joined (map relation_told (r ∷ rs))) ≡ Ok (tree_told (r ∷ rs))
told-reads found r rs q =
    found (joined (map relation_told (r ∷ rs))) (tree_told (r ∷ rs))
    (shallow (joined (map relation_told (r ∷ rs))) (sym (ap (none_open None) (append-nil (conjoined_told r rs))) ∙ conjoined-skipped r rs q [])) (spells r rs q)

pub or-false : (b : Bool) → (b || false) ≡ b
or-false true = refl
or-false false = refl

pub told-holds : (rs : List Relation) (texts : Texts) (extra : Option (List ℕ)) → (holds (tree_told rs) texts extra ≡ true) ↔ AllByRecursion (λ r. relation_holds r texts ≡ true) rs
told-holds rs texts extra = (
  λ h. (all-hold texts extra rs).0 (sym (or-false _) ∙ h),
  λ h. or-false _ ∙ (all-hold texts extra rs).1 h,
)
