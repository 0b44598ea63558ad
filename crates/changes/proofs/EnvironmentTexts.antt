-- Environments whose texts are the same are the same.
use Rattle.std.proofs.Common.{◌≡◌, ◌∙◌, true, List, [], ◌∷◌, length, map, refl, sym, subst, arith}
use Rattle.std.proofs.lemmas.Bool.{and_from, and_parts}
use Rattle.std.proofs.lemmas.Slice.Eq.{bytes_eq-Decides}
use Rattle.std.specs.List.{list_all}
use Rattle.std.specs.Str.{bytes_eq}
use Rattle.markers.specs.Environment.{Texts, all_variables, text_of}
use Rattle.markers.specs.declared.variable.Variable.{Variable}

-- an environment is the list of its texts
pub eleven : (texts : Texts) → length texts ≡ 11 → map (text_of texts) all_variables ≡ texts
eleven (a ∷ b ∷ c ∷ d ∷ e ∷ f ∷ g ∷ h ∷ i ∷ j ∷ k ∷ []) is = refl
eleven texts is = absurd (omega (arith, is))

same-texts : (one other : Texts) (variables : List Variable) → list_all (λ v. bytes_eq (text_of one v) (text_of other v)) variables ≡ true → map (text_of one) variables ≡ map (text_of other) variables
same-texts one other [] is = refl
same-texts one other (v ∷ rest) is =
    let parts = and_parts (bytes_eq (text_of one v) (text_of other v)) (list_all (λ w. bytes_eq (text_of one w) (text_of other w)) rest) is in
    let first : text_of one v ≡ text_of other v = (bytes_eq-Decides (text_of one v) (text_of other v)).0 parts.0 in
    let more = same-texts one other rest parts.1 in
    λ i. first i ∷ more i

all-same : (texts : Texts) (variables : List Variable) → list_all (λ v. bytes_eq (text_of texts v) (text_of texts v)) variables ≡ true
all-same texts [] = refl
all-same texts (v ∷ rest) =
    and_from (bytes_eq (text_of texts v) (text_of texts v)) (list_all (λ w. bytes_eq (text_of texts w) (text_of texts w)) rest) ((bytes_eq-Decides (text_of texts v) (text_of texts v)).1 refl) (all-same texts rest)

pub texts-same : (one other : Texts) → length one ≡ 11 → length other ≡ 11 → list_all (λ v. bytes_eq (text_of one v) (text_of other v)) all_variables ≡ true → one ≡ other
texts-same one other count count_too is = sym (eleven one count) ∙ same-texts one other all_variables is ∙ eleven other count_too

pub texts-alike : (one other : Texts) → one ≡ other → list_all (λ v. bytes_eq (text_of one v) (text_of other v)) all_variables ≡ true
texts-alike one other same = subst (λ (t : Texts). list_all (λ v. bytes_eq (text_of one v) (text_of t v)) all_variables ≡ true) same (all-same one all_variables)
