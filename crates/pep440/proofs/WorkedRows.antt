-- Worked values of the definitions.
use Rattle.std.specs.Prelude.{◌≡◌, ℕ, List, [], ◌∷◌, true, false, Some, None, codes, refl}
use Rattle.std.specs.declared.cmp.Ordering.TheVariants.{Less, Equal}
use Rattle.pep440.specs.declared.parts.Pre.TheVariants.{Alpha, Candidate}
use Rattle.pep440.specs.declared.parts.LocalPart.TheVariants.{Number, Word}
use Rattle.pep440.specs.declared.specifier.Operator.TheVariants as operators
use Rattle.pep440.specs.Version.{VersionParts}
use Rattle.pep440.specs.Order.{version_cmp}
use Rattle.pep440.specs.Matching.{operator_matches}
use Rattle.pep440.specs.SetGrammar.{clause_texts}

-- a version of release numbers alone
abbrev plain : List ℕ → VersionParts
plain ns = record { epoch = 0; release = ns; pre = None; post = None; dev = None; local = [] }

-- a version with a dev part alone comes before the first alpha, and that before the release
dev_first : version_cmp (record (plain (1 ∷ 0 ∷ [])) { dev = Some 456 }) (record (plain (1 ∷ 0 ∷ [])) { pre = Some (Alpha 1) }) ≡ Less
dev_first = refl

pre_dev_before_pre : version_cmp (record (plain (1 ∷ 0 ∷ [])) { pre = Some (Alpha 12); dev = Some 456 }) (record (plain (1 ∷ 0 ∷ [])) { pre = Some (Alpha 12) }) ≡ Less
pre_dev_before_pre = refl

candidate_before_release : version_cmp (record (plain (1 ∷ 0 ∷ [])) { pre = Some (Candidate 1) }) (plain (1 ∷ 0 ∷ [])) ≡ Less
candidate_before_release = refl

zeros_are_equal : version_cmp (plain (1 ∷ 0 ∷ [])) (plain (1 ∷ 0 ∷ 0 ∷ [])) ≡ Equal
zeros_are_equal = refl

-- `1.0+abc.5 < 1.0+5`
word_before_number : version_cmp (record (plain (1 ∷ 0 ∷ [])) { local = Word (codes "abc") ∷ Number 5 ∷ [] }) (record (plain (1 ∷ 0 ∷ [])) { local = Number 5 ∷ [] }) ≡ Less
word_before_number = refl

post_dev_before_post : version_cmp (record (plain (1 ∷ 0 ∷ [])) { post = Some 456; dev = Some 34 }) (record (plain (1 ∷ 0 ∷ [])) { post = Some 456 }) ≡ Less
post_dev_before_post = refl

-- `~=2.2.post3` matches `2.3`, and neither `2.2` nor `3.0`
compatible_next : operator_matches operators.Compatible (record (plain (2 ∷ 2 ∷ [])) { post = Some 3 }) (plain (2 ∷ 3 ∷ [])) ≡ true
compatible_next = refl

compatible_older : operator_matches operators.Compatible (record (plain (2 ∷ 2 ∷ [])) { post = Some 3 }) (plain (2 ∷ 2 ∷ [])) ≡ false
compatible_older = refl

compatible_major : operator_matches operators.Compatible (record (plain (2 ∷ 2 ∷ [])) { post = Some 3 }) (plain (3 ∷ 0 ∷ [])) ≡ false
compatible_major = refl

-- `>1.7` doesn't match `1.7.0.post1`, and `>1.7.post2` matches `1.7.0.post3`
above_post : operator_matches operators.Above (plain (1 ∷ 7 ∷ [])) (record (plain (1 ∷ 7 ∷ 0 ∷ [])) { post = Some 1 }) ≡ false
above_post = refl

above_from_post : operator_matches operators.Above (record (plain (1 ∷ 7 ∷ [])) { post = Some 2 }) (record (plain (1 ∷ 7 ∷ 0 ∷ [])) { post = Some 3 }) ≡ true
above_from_post = refl

-- `<1.0` doesn't match `1.0rc1`, and `<1.0rc2` does
below_pre : operator_matches operators.Below (plain (1 ∷ 0 ∷ [])) (record (plain (1 ∷ 0 ∷ [])) { pre = Some (Candidate 1) }) ≡ false
below_pre = refl

below_from_pre : operator_matches operators.Below (record (plain (1 ∷ 0 ∷ [])) { pre = Some (Candidate 2) }) (record (plain (1 ∷ 0 ∷ [])) { pre = Some (Candidate 1) }) ≡ true
below_from_pre = refl

-- `==1.0.*` matches `1`, `1.0rc1` and `1.0+x`, and not `1.1`
prefix_padded : operator_matches operators.EqualPrefix (plain (1 ∷ 0 ∷ [])) (plain (1 ∷ [])) ≡ true
prefix_padded = refl

prefix_pre : operator_matches operators.EqualPrefix (plain (1 ∷ 0 ∷ [])) (record (plain (1 ∷ 0 ∷ [])) { pre = Some (Candidate 1) }) ≡ true
prefix_pre = refl

prefix_other : operator_matches operators.EqualPrefix (plain (1 ∷ 0 ∷ [])) (plain (1 ∷ 1 ∷ [])) ≡ false
prefix_other = refl

-- `==1.0` matches `1+x`, and `==1.0+x` doesn't match `1.0`
equal_local : operator_matches operators.Equal (plain (1 ∷ 0 ∷ [])) (record (plain (1 ∷ [])) { local = Word (codes "x") ∷ [] }) ≡ true
equal_local = refl

equal_asks_local : operator_matches operators.Equal (record (plain (1 ∷ 0 ∷ [])) { local = Word (codes "x") ∷ [] }) (plain (1 ∷ 0 ∷ [])) ≡ false
equal_asks_local = refl

-- one comma may stand behind the last clause, and none alone
trailing_comma : clause_texts (codes ">=1, <2, ") ≡ codes ">=1" ∷ codes " <2" ∷ []
trailing_comma = refl

comma_alone : clause_texts (codes ",") ≡ [] ∷ []
comma_alone = refl

two_commas : clause_texts (codes ">=1,,") ≡ codes ">=1" ∷ [] ∷ []
two_commas = refl

blank_text : clause_texts (codes " ") ≡ []
blank_text = refl
