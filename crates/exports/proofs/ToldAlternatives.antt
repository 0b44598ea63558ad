-- Markers, joined by `or`, read as a marker that holds where one of them does.
use Rattle.std.proofs.Common.{◌≡◌, ◌∙◌, ℕ, Bool, true, false, ◌||◌, List, [], ◌∷◌, ◌++◌, map, None, Ok, refl, ap, subst, sym, inl, inr}
use Rattle.std.proofs.lemmas.Bool.{cases_Bool}
use Rattle.std.proofs.lemmas.List.{append-nil}
use Rattle.std.specs.List.{AllByRecursion, Contains, flat_map}
use Rattle.std.specs.Prelude.{◌↔◌, codes}
use Rattle.lists.proofs.Members.{Contains-cons_cases, Contains-here, Contains-nil, Contains-there}
use Rattle.markers.specs.Environment.{Texts, joined}
use Rattle.markers.specs.Marker.{Tree, holds, marker_of}
use Rattle.markers.specs.MarkerAtoms.{Relation}
use Rattle.markers.specs.MarkerGrammar.{AreConjunctions, AreMembers, operand_token}
use Rattle.markers.specs.MarkerHolds.{any_holds}
use Rattle.markers.specs.MarkerSpelling.{AreTokens, SpellsMarker, starts_word}
use Rattle.markers.specs.MarkerTree.{Trees, all_of, any_of, no_trees, tree, trees_of}
use Rattle.markers.specs.Tied.MarkerTokens.{word_token}
use Rattle.markers.specs.declared.marker_atom.Operand.TheVariants as operands
use Rattle.exports.specs.Joint.{is_held}
use Rattle.exports.specs.Tied.JointPackages.{alternatives}
use Rattle.exports.specs.Tied.Told.{relation_told}
use Rattle.exports.proofs.ToldMarkers.{AreQuotable, ReadsAsSpelled, Token, are-members, conjoined-skipped, conjoined-tokens, conjoined_tokens, none_open, or-false, relation_tree, shallow, space-first, token_or, told-reads}

-- a text has relations, joined by `and`
pub record IsRow (text : List ℕ) : Type 0 where
  pub first : Relation
  pub rest : List Relation
  pub quotable : AllByRecursion AreQuotable (first ∷ rest)
  pub told : text ≡ joined (map relation_told (first ∷ rest))

pub row-of : (rs : List Relation) → (rs ≡ [] → ⊥) → AllByRecursion AreQuotable rs → (text : List ℕ) → text ≡ joined (map relation_told rs) → IsRow text
row-of [] some q text told = absurd (some refl)
row-of (r ∷ rs) some q text told = record { first = r; rest = rs; quotable = q; told = told }

-- ---- tokens

abbrev or_token : Token
or_token = token_or (operand_token (operands.Quoted [])) (word_token (codes "or"))

-- the texts behind the first, each with `or` before it
abbrev behind_told : List (List ℕ) → List ℕ
behind_told texts = flat_map (λ next. codes " or " ++ next) texts

abbrev row_tokens : (text : List ℕ) → IsRow text → List Token
row_tokens text row = conjoined_tokens row.first row.rest

abbrev or_tokens : (texts : List (List ℕ)) → AllByRecursion IsRow texts → List Token
or_tokens [] rows = []
or_tokens (text ∷ texts) rows = or_token ∷ (row_tokens text rows.0 ++ or_tokens texts rows.1)

or-ends : (texts : List (List ℕ)) → starts_word (behind_told texts) ≡ false
or-ends [] = refl
or-ends (text ∷ texts) = refl

row-tokens : (text : List ℕ) (row : IsRow text) (after : List ℕ) (ts : List Token) → starts_word after ≡ false → AreTokens after ts → AreTokens (text ++ after) (row_tokens text row ++ ts)
row-tokens text row after ts ends h =
    subst (λ (t : List ℕ). AreTokens (t ++ after) (conjoined_tokens row.first row.rest ++ ts)) (sym row.told) (conjoined-tokens row.first row.rest row.quotable after ts ends h)

or-are-tokens : (texts : List (List ℕ)) (rows : AllByRecursion IsRow texts) → AreTokens (behind_told texts) (or_tokens texts rows)
or-are-tokens [] rows = refl
or-are-tokens (text ∷ texts) rows =
    let rest = row-tokens text rows.0 (behind_told texts) (or_tokens texts rows.1) (or-ends texts) (or-are-tokens texts rows.1) in
    (32 ∷ [], codes "or", 32 ∷ (text ++ behind_told texts), refl, refl, refl, refl, space-first (text ++ behind_told texts) (row_tokens text rows.0 ++ or_tokens texts rows.1) rest)

-- ---- the tree

abbrev row_tree : (text : List ℕ) → IsRow text → Tree
row_tree text row = all_of (trees_of (map relation_tree (row.first ∷ row.rest)))

abbrev row_trees : (texts : List (List ℕ)) → AllByRecursion IsRow texts → Trees
row_trees [] rows = no_trees
row_trees (text ∷ texts) rows = tree (row_tree text rows.0) (row_trees texts rows.1)

are-conjunctions : (text : List ℕ) (texts : List (List ℕ)) (rows : AllByRecursion IsRow (text ∷ texts))
    → AreConjunctions (row_tokens text rows.0 ++ or_tokens texts rows.1) (row_trees (text ∷ texts) rows)
are-conjunctions text [] rows =
    subst (λ (ts : List Token). AreMembers ts (trees_of (map relation_tree (rows.0.first ∷ rows.0.rest)))) (sym (append-nil (row_tokens text rows.0))) (are-members rows.0.first rows.0.rest)
are-conjunctions text (next ∷ texts) rows =
    (row_tokens text rows.0, row_tokens next rows.1.0 ++ or_tokens texts rows.1.1, refl, are-members rows.0.first rows.0.rest, are-conjunctions next texts rows.1)

spells : (text : List ℕ) (texts : List (List ℕ)) (rows : AllByRecursion IsRow (text ∷ texts)) → SpellsMarker (alternatives (text ∷ texts)) (any_of (row_trees (text ∷ texts) rows))
spells text texts rows = record {
  tokens = row_tokens text rows.0 ++ or_tokens texts rows.1;
  are_tokens = row-tokens text rows.0 (behind_told texts) (or_tokens texts rows.1) (or-ends texts) (or-are-tokens texts rows.1);
  are_marker = are-conjunctions text texts rows;
}

-- ---- no parenthesis is open outside quotes

row-skipped : (text : List ℕ) (row : IsRow text) (rest : List ℕ) → none_open None (text ++ rest) ≡ none_open None rest
row-skipped text row rest = ap (λ (t : List ℕ). none_open None (t ++ rest)) row.told ∙ conjoined-skipped row.first row.rest row.quotable rest

or-shallow : (texts : List (List ℕ)) → AllByRecursion IsRow texts → none_open None (behind_told texts) ≡ true
or-shallow [] rows = refl
or-shallow (text ∷ texts) rows = row-skipped text rows.0 (behind_told texts) ∙ or-shallow texts rows.1

-- ---- it holds where one of them does

row-held : ReadsAsSpelled → (text : List ℕ) (row : IsRow text) (environment : Texts) → is_held environment (marker_of text) ≡ holds (row_tree text row) environment None
row-held found text row environment =
    ap (λ (t : List ℕ). is_held environment (marker_of t)) row.told ∙ ap (is_held environment) (told-reads found row.first row.rest row.quotable) ∙ or-false (holds (row_tree text row) environment None)

or-one : (a b : Bool) → (a || b) ≡ true → (a ≡ false) → b ≡ true
or-one true b h e = absurd cc
or-one false b h e = h

or-first : (a b : Bool) → a ≡ true → (a || b) ≡ true
or-first true b h = refl
or-first false b h = absurd cc

or-second : (a b : Bool) → b ≡ true → (a || b) ≡ true
or-second true b h = refl
or-second false b h = h

abbrev pub HoldsOne : Texts → List (List ℕ) → Type 0
HoldsOne environment texts = (text : List ℕ) × Contains texts text × (is_held environment (marker_of text) ≡ true)

any-held : ReadsAsSpelled → (texts : List (List ℕ)) (rows : AllByRecursion IsRow texts) (environment : Texts) → (any_holds (row_trees texts rows) environment None ≡ true) ↔ HoldsOne environment texts
any-held found [] rows environment = (λ h. absurd cc, λ h. absurd (Contains-nil h.0 h.1))
any-held found (text ∷ texts) rows environment =
    let here = row-held found text rows.0 environment in
    let more = any-held found texts rows.1 environment in
    let one : Bool = holds (row_tree text rows.0) environment None in
    let others : Bool = any_holds (row_trees texts rows.1) environment None in (
      λ h. elim (cases_Bool one) [
        | inl this ↦ (text, Contains-here text texts, here ∙ this)
        | inr other ↦ (let found_in = more.0 (or-one one others h other) in (found_in.0, Contains-there text texts found_in.0 found_in.1, found_in.2))
      ],
      λ h. elim (Contains-cons_cases text texts h.0 h.1) [
        | inl same ↦ or-first one others (sym here ∙ ap (λ (t : List ℕ). is_held environment (marker_of t)) same ∙ h.2)
        | inr rest ↦ or-second one others (more.1 (h.0, rest, h.2))
      ],
    )

pub alternatives-held : ReadsAsSpelled → (texts : List (List ℕ)) → (texts ≡ [] → ⊥) → AllByRecursion IsRow texts → (environment : Texts)
    → (is_held environment (marker_of (alternatives texts)) ≡ true) ↔ HoldsOne environment texts
alternatives-held found [] some rows environment = absurd (some refl)
alternatives-held found (text ∷ texts) some rows environment =
    let whole : List ℕ = alternatives (text ∷ texts) in
    let reads : marker_of whole ≡ Ok (any_of (row_trees (text ∷ texts) rows)) =
    found whole (any_of (row_trees (text ∷ texts) rows)) (shallow whole (row-skipped text rows.0 (behind_told texts) ∙ or-shallow texts rows.1)) (spells text texts rows) in
    let any = any-held found (text ∷ texts) rows environment in (
      λ h. any.0 (sym (ap (is_held environment) reads) ∙ h),
      λ h. ap (is_held environment) reads ∙ any.1 h,
    )
