-- The marker text of an environment spells a marker that holds in it.
use Rattle.std.proofs.Common.{◌≡◌, ℕ, Bool, true, false, eqb, ◌&&◌, List, [], ◌∷◌, ◌++◌, map, Option, Some, None, refl, ap, ◌∙◌, append_assoc, arith}
use Rattle.std.proofs.lemmas.Bool.Decides.{nat_tests}
use Rattle.std.specs.Cmp.{first_so, second_so}
use Rattle.std.specs.Cmp.Derive.{both_true}
use Rattle.std.specs.List.{flat_map, list_all}
use Rattle.std.specs.Prelude.{codes, is_some, not, ◌||◌, Ok}
use Rattle.markers.specs.Comparisons.{compares, version_read}
use Rattle.markers.specs.Environment.{IsEnvironment, Texts, condition, is_unescaped, is_versioned, joined, marker_text, text_of}
use Rattle.markers.specs.Marker.{holds, marker_of}
use Rattle.markers.specs.MarkerAtoms.{Relation}
use Rattle.markers.specs.MarkerGrammar.{AreMembers, relation_tokens}
use Rattle.markers.specs.MarkerHolds.{all_hold}
use Rattle.markers.specs.MarkerSpelling.{AreTokens, SpellsMarker, is_inside, is_quote}
use Rattle.markers.specs.MarkerDepth.{is_too_deep}
use Rattle.markers.specs.Tied.MarkerTokens.{is_deep_from}
use Rattle.markers.specs.MarkerTree.{Tree, all_of, any_of, atom, no_trees, tree, trees_of}
use Rattle.markers.specs.Variables.{variable_name}
use Rattle.markers.specs.declared.comparison.Comparison.TheVariants as comparisons
use Rattle.markers.specs.declared.marker_atom.Atom.TheVariants as atoms
use Rattle.markers.specs.declared.marker_atom.Operand.TheVariants as operands
use Rattle.markers.specs.declared.marker_atom.MarkerOperator.TheVariants as operators
use Rattle.markers.specs.declared.marker_token.Token.{Token}
use Rattle.markers.specs.declared.marker_token.Token.TheVariants as tokens
use Rattle.markers.specs.declared.variable.Variable.{Variable}
use Rattle.markers.specs.declared.variable.Variable.TheVariants as variables
use Rattle.markers.proofs.DeepBeginnings.{deep-is_scanned}
use Rattle.markers.proofs.TokensAreSpelled.{space-first}
use Rattle.markers.proofs.TextsReadAsSpelled.{text-read}

-- ---- its tokens and its tree

abbrev own_relation : Texts → Variable → Relation
own_relation texts v = record { left = operands.Variable v; operator = operators.Compare comparisons.Equal; right = operands.Quoted (text_of texts v) }

abbrev own_tokens : Texts → Variable → List Token
own_tokens texts v = relation_tokens (own_relation texts v)

abbrev own_atom : Texts → Variable → Tree
own_atom texts v = atom (atoms.Relation (own_relation texts v))

-- conditions behind another, each with `and` before it
abbrev more_tokens : Texts → List Variable → List Token
more_tokens texts [] = []
more_tokens texts (v ∷ vs) = tokens.And ∷ (own_tokens texts v ++ more_tokens texts vs)

abbrev more_text : Texts → List Variable → List ℕ
more_text texts vs = flat_map (λ next. codes " and " ++ next) (map (condition texts) vs)

-- the tree of conditions
abbrev own_tree : Texts → List Variable → Tree
own_tree texts vs = any_of (tree (all_of (trees_of (map (own_atom texts) vs))) no_trees)

-- each text may stand between double quotes
abbrev AreQuotable : Texts → Type 0
AreQuotable texts = (v : Variable) → list_all (is_inside 34) (text_of texts v) ≡ true

own-tokens : (texts : Texts) → AreQuotable texts → (v : Variable) (after : List ℕ) (ts : List Token) → AreTokens after ts → AreTokens (condition texts v ++ after) (own_tokens texts v ++ ts)
own-tokens texts lawful v after ts h =
    let text = text_of texts v in (
      [],
      variable_name v,
      (codes " == \"" ++ (text ++ codes "\"")) ++ after,
      append_assoc (variable_name v) (codes " == \"" ++ (text ++ codes "\"")) after,
      refl,
      refl,
      refl,
      (
        32 ∷ [],
        codes "==",
        32 ∷ 34 ∷ ((text ++ codes "\"") ++ after),
        refl,
        refl,
        refl,
        refl,
        (32 ∷ [], 34 ∷ (text ++ 34 ∷ []), after, refl, refl, record { quote = 34; opens = refl; whole = refl; lawful = lawful v }, refl, h),
      ),
    )

more-tokens : (texts : Texts) → AreQuotable texts → (vs : List Variable) → AreTokens (more_text texts vs) (more_tokens texts vs)
more-tokens texts lawful [] = refl
more-tokens texts lawful (v ∷ vs) = (
  32 ∷ [],
  codes "and",
  32 ∷ (condition texts v ++ more_text texts vs),
  refl,
  refl,
  refl,
  refl,
  space-first 32 (condition texts v ++ more_text texts vs) (own_tokens texts v ++ more_tokens texts vs) refl (own-tokens texts lawful v (more_text texts vs) (more_tokens texts vs) (more-tokens texts lawful vs)),
)

own-members : (texts : Texts) (v : Variable) (vs : List Variable) → AreMembers (own_tokens texts v ++ more_tokens texts vs) (trees_of (map (own_atom texts) (v ∷ vs)))
own-members texts v [] = refl
own-members texts v (w ∷ vs) = (own_tokens texts v, own_tokens texts w ++ more_tokens texts vs, refl, refl, own-members texts w vs)

own-spells : (texts : Texts) → AreQuotable texts → (v : Variable) (vs : List Variable) → SpellsMarker (joined (map (condition texts) (v ∷ vs))) (own_tree texts (v ∷ vs))
own-spells texts lawful v vs = record {
  tokens = own_tokens texts v ++ more_tokens texts vs;
  are_tokens = own-tokens texts lawful v (more_text texts vs) (more_tokens texts vs) (more-tokens texts lawful vs);
  are_marker = own-members texts v vs;
}

-- ---- it has no parentheses outside quotes

abbrev is_flat : ℕ → Bool
is_flat b = not (is_quote b) && (not (eqb b 40) && not (eqb b 41))

not-true : (b : Bool) → not b ≡ true → b ≡ false
not-true true h = absurd cc
not-true false h = refl

flat-skipped : (word rest : List ℕ) (begun ended : ℕ) → list_all is_flat word ≡ true → is_deep_from None begun ended (word ++ rest) ≡ is_deep_from None begun ended rest
flat-skipped [] rest begun ended h = refl
flat-skipped (b ∷ word) rest begun ended h =
    let here = first_so (is_flat b) (list_all is_flat word) h in
    let quote = not-true (is_quote b) (first_so (not (is_quote b)) (not (eqb b 40) && not (eqb b 41)) here) in
    let both = second_so (not (is_quote b)) (not (eqb b 40) && not (eqb b 41)) here in
    let opens = not-true (eqb b 40) (first_so (not (eqb b 40)) (not (eqb b 41)) both) in
    let closes = not-true (eqb b 41) (second_so (not (eqb b 40)) (not (eqb b 41)) both) in
    rw (opens, closes, quote) (flat-skipped word rest begun ended (second_so (is_flat b) (list_all is_flat word) h))

inside-other : (b : ℕ) → is_inside 34 b ≡ true → eqb b 34 ≡ false
inside-other b h = grind (arith, nat_tests)

quoted-skipped : (text rest : List ℕ) (begun ended : ℕ) → list_all (is_inside 34) text ≡ true → is_deep_from (Some 34) begun ended (text ++ 34 ∷ rest) ≡ is_deep_from None begun ended rest
quoted-skipped [] rest begun ended h = refl
quoted-skipped (b ∷ text) rest begun ended h =
    rw (inside-other b (first_so (is_inside 34 b) (list_all (is_inside 34) text) h))
    (quoted-skipped text rest begun ended (second_so (is_inside 34 b) (list_all (is_inside 34) text) h))

name-flat : (v : Variable) → list_all is_flat (variable_name v) ≡ true
name-flat variables.ImplementationName = refl
name-flat variables.ImplementationVersion = refl
name-flat variables.OsName = refl
name-flat variables.PlatformMachine = refl
name-flat variables.PlatformPythonImplementation = refl
name-flat variables.PlatformRelease = refl
name-flat variables.PlatformSystem = refl
name-flat variables.PlatformVersion = refl
name-flat variables.PythonFullVersion = refl
name-flat variables.PythonVersion = refl
name-flat variables.SysPlatform = refl

own-skipped : (texts : Texts) → AreQuotable texts → (v : Variable) (after : List ℕ) (begun ended : ℕ) → is_deep_from None begun ended (condition texts v ++ after) ≡ is_deep_from None begun ended after
own-skipped texts lawful v after begun ended =
    let text = text_of texts v in
    ap (λ (all : List ℕ). is_deep_from None begun ended all) (append_assoc (variable_name v) (codes " == \"" ++ (text ++ codes "\"")) after)
    ∙ flat-skipped (variable_name v) ((codes " == \"" ++ (text ++ codes "\"")) ++ after) begun ended (name-flat v)
    ∙ ap (λ (all : List ℕ). is_deep_from (Some 34) begun ended all) (append_assoc text (34 ∷ []) after)
    ∙ quoted-skipped text after begun ended (lawful v)

more-shallow : (texts : Texts) → AreQuotable texts → (vs : List Variable) → is_deep_from None 0 0 (more_text texts vs) ≡ false
more-shallow texts lawful [] = refl
more-shallow texts lawful (v ∷ vs) = own-skipped texts lawful v (more_text texts vs) 0 0 ∙ more-shallow texts lawful vs

own-shallow : (texts : Texts) → AreQuotable texts → (v : Variable) (vs : List Variable) → is_too_deep (joined (map (condition texts) (v ∷ vs))) ≡ false
own-shallow texts lawful v vs = deep-is_scanned (joined (map (condition texts) (v ∷ vs))) ∙ own-skipped texts lawful v (more_text texts vs) 0 0 ∙ more-shallow texts lawful vs

-- ---- it holds

-- each text equals itself
abbrev EqualThemselves : Texts → Type 0
EqualThemselves texts = (v : Variable) → compares comparisons.Equal (text_of texts v) (text_of texts v) ≡ true

own-all_hold : (texts : Texts) → EqualThemselves texts → (extra : Option (List ℕ)) (vs : List Variable) → all_hold (trees_of (map (own_atom texts) vs)) texts extra ≡ true
own-all_hold texts same extra [] = refl
own-all_hold texts same extra (v ∷ vs) = both_true (same v) (own-all_hold texts same extra vs)

own-holds : (texts : Texts) → EqualThemselves texts → (extra : Option (List ℕ)) (vs : List Variable) → holds (own_tree texts vs) texts extra ≡ true
own-holds texts same extra vs = rw (own-all_hold texts same extra vs) refl

-- ---- the law

plain-inside : (b : ℕ) → is_unescaped b ≡ true → is_inside 34 b ≡ true
plain-inside b h = grind (arith, nat_tests)

all_plain-inside : (text : List ℕ) → list_all is_unescaped text ≡ true → list_all (is_inside 34) text ≡ true
all_plain-inside [] h = refl
all_plain-inside (b ∷ text) h =
    both_true (plain-inside b (first_so (is_unescaped b) (list_all is_unescaped text) h)) (all_plain-inside text (second_so (is_unescaped b) (list_all is_unescaped text) h))

environment-quotable : (texts : Texts) → IsEnvironment texts → AreQuotable texts
environment-quotable texts e v =
    all_plain-inside (text_of texts v)
    (first_so (list_all is_unescaped (text_of texts v)) (not (is_versioned v) || is_some (version_read (text_of texts v))) (e.lawful v))

-- what stands behind the first variable
abbrev later_variables : List Variable
later_variables =
    variables.ImplementationVersion ∷ variables.OsName ∷ variables.PlatformMachine ∷ variables.PlatformPythonImplementation ∷ variables.PlatformRelease ∷ variables.PlatformSystem
    ∷ variables.PlatformVersion ∷ variables.PythonFullVersion ∷ variables.PythonVersion ∷ variables.SysPlatform ∷ []

pub marker_text-holds : (texts : Texts) → IsEnvironment texts → EqualThemselves texts → (t : Tree) × (marker_of (marker_text texts) ≡ Ok t) × ((extra : Option (List ℕ)) → holds t texts extra ≡ true)
unfolding marker_text
marker_text-holds texts e same =
    let lawful = environment-quotable texts e in
    let v = variables.ImplementationName in (
      own_tree texts (v ∷ later_variables),
      text-read (joined (map (condition texts) (v ∷ later_variables))) (own_tree texts (v ∷ later_variables)) (own-shallow texts lawful v later_variables) (own-spells texts lawful v later_variables),
      λ extra. own-holds texts same extra (v ∷ later_variables),
    )
