-- A clause is read back from its sign and the canonical text of its version.
use Rattle.std.proofs.Common.{◌≡◌, ◌∙◌, ℕ, ◌+◌, ◌%◌, ◌^◌, ◌<◌, ◌==◌, ◌&&◌, ◌||◌, Bool, true, false, eqb, ltb, not, List, [], ◌∷◌, ◌++◌, Option, None, Some, Ok, if◌then◌else◌, arith, inl, inr, refl, ap, subst, sym, true≢false}
use Rattle.std.proofs.lemmas.Bool.{cases_Bool, ltb-true}
use Rattle.std.proofs.lemmas.Fmt.{decimal_by_steps}
use Rattle.std.proofs.lemmas.List.{append-nil}
use Rattle.std.proofs.lemmas.List.Folds.{list_all-append}
use Rattle.std.specs.Char.{is_ascii_alphanumeric, is_ascii_digit}
use Rattle.std.specs.Fmt.{decimal}
use Rattle.std.specs.Prelude.{codes, option_to_list}
use Rattle.std.proofs.lemmas.Bool.Decides.{nat_tests}
use Rattle.std.specs.Cmp.{first_so, second_so}
use Rattle.std.specs.List.{flat_map, list_all}
use Rattle.std.specs.Result.{result_ok}
use Rattle.lists.specs.Spaces.{is_space_or_tab}
use Rattle.markers.specs.Comparisons.{clauses_read, has_comma, sign as marker_sign}
use Rattle.markers.specs.MarkerSpelling.{is_inside}
use Rattle.markers.specs.Tied.MarkerTokens.{comparison_of}
use Rattle.markers.proofs.TokensAreSpelled.{same-sign}
use Rattle.pep440.specs.Canonical.{canonical, dev_text, epoch_text, local_text, part_text, post_text, pre_text, release_text}
use Rattle.pep440.specs.Grammar.{IsVersionText, is_space}
use Rattle.pep440.specs.SetGrammar.{AreClauses, IsClause, clause_texts, counted, sign, star, takes}
use Rattle.pep440.specs.Text.{pieces, trim_blank, trim_end, trim_front}
use Rattle.pep440.specs.Tied.Sets.{set_of}
use Rattle.pep440.specs.Tied.Views.{part_fits}
use Rattle.pep440.specs.Version.{IsVersion, VersionParts, is_part, is_word_byte, pre_numbers}
use Rattle.pep440.specs.declared.parts.LocalPart.{LocalPart}
use Rattle.pep440.specs.declared.parts.LocalPart.TheVariants.{Number, Word}
use Rattle.pep440.specs.declared.parts.Pre.{Pre}
use Rattle.pep440.specs.declared.parts.Pre.TheVariants as pres
use Rattle.pep440.specs.declared.specifier.Clause.{Clause}
use Rattle.pep440.specs.declared.specifier.Operator.{Operator}
use Rattle.pep440.specs.declared.specifier.Operator.TheVariants as operators
use Rattle.pep440.proofs.ByteFacts.{Covers, all-append, all-weaker, version-pass}
use Rattle.pep440.proofs.CanonicalFacts.{canonical-spells}
use Rattle.pep440.proofs.ReleaseFacts.{all_fit}
use Rattle.pep440.proofs.SetAnswersOnce.{set-read}
use Rattle.pep440.proofs.VersionFacts.{fits-parts}
use Rattle.exports.specs.Tied.Told.{version_told}

-- ---- the bytes of what is written

not-true : (b : Bool) → not b ≡ true → b ≡ false
not-true true h = absurd cc
not-true false h = refl

-- a byte of a canonical text
abbrev is_version_byte : ℕ → Bool
is_version_byte b = is_ascii_alphanumeric b || ((b == 46) || ((b == 33) || (b == 43)))

digit-there : (k : ℕ) → k < 10 → is_version_byte (48 + k) ≡ true
digit-there k small = grind (arith, nat_tests)

word-there : (b : ℕ) → is_word_byte b ≡ true → is_version_byte b ≡ true
word-there b h = grind (arith, nat_tests)

decimal-there : (n : ℕ) → ltb n (2 ^ 64) ≡ true → list_all is_version_byte (decimal n) ≡ true
decimal-there n small = decimal_by_steps (λ n ds. list_all is_version_byte ds ≡ true)
    (λ k low. rw (digit-there k low) refl)
    (λ k ds big ih. all-append is_version_byte ds ((48 + k % 10) ∷ []) ih (rw (digit-there (k % 10) (omega arith)) refl)) n (ltb-true n (2 ^ 64) small)

epoch-there : (n : ℕ) → ltb n (2 ^ 64) ≡ true → list_all is_version_byte (epoch_text n) ≡ true
epoch-there n small = elim (cases_Bool (eqb n 0)) [
  | inl none ↦ rw none refl
  | inr other ↦ rw other (all-append is_version_byte (decimal n) (33 ∷ []) (decimal-there n small) refl)
]

-- numbers, each behind a dot
dotted-there : (ns : List ℕ) → all_fit ns ≡ true → list_all is_version_byte (flat_map (λ m. codes "." ++ decimal m) ns) ≡ true
dotted-there [] h = refl
dotted-there (n ∷ ns) h =
    all-append is_version_byte (decimal n) (flat_map (λ m. codes "." ++ decimal m) ns) (decimal-there n (first_so (ltb n (2 ^ 64)) (all_fit ns) h)) (dotted-there ns (second_so (ltb n (2 ^ 64)) (all_fit ns) h))

release-there : (ns : List ℕ) → all_fit ns ≡ true → list_all is_version_byte (release_text ns) ≡ true
release-there [] h = refl
release-there (n ∷ ns) h =
    all-append is_version_byte (decimal n) (flat_map (λ m. codes "." ++ decimal m) ns) (decimal-there n (first_so (ltb n (2 ^ 64)) (all_fit ns) h)) (dotted-there ns (second_so (ltb n (2 ^ 64)) (all_fit ns) h))

pre-there : (p : Option Pre) → all_fit (pre_numbers p) ≡ true → list_all is_version_byte (pre_text p) ≡ true
pre-there None h = refl
pre-there (Some (pres.Alpha n)) h = decimal-there n (first_so (ltb n (2 ^ 64)) true h)
pre-there (Some (pres.Beta n)) h = decimal-there n (first_so (ltb n (2 ^ 64)) true h)
pre-there (Some (pres.Candidate n)) h = decimal-there n (first_so (ltb n (2 ^ 64)) true h)

post-there : (o : Option ℕ) → all_fit (option_to_list o) ≡ true → list_all is_version_byte (post_text o) ≡ true
post-there None h = refl
post-there (Some n) h = decimal-there n (first_so (ltb n (2 ^ 64)) true h)

dev-there : (o : Option ℕ) → all_fit (option_to_list o) ≡ true → list_all is_version_byte (dev_text o) ≡ true
dev-there None h = refl
dev-there (Some n) h = decimal-there n (first_so (ltb n (2 ^ 64)) true h)

part-there : (p : LocalPart) → is_part p ≡ true → part_fits p ≡ true → list_all is_version_byte (part_text p) ≡ true
part-there (Number n) h small = decimal-there n small
part-there (Word w) h small = all-weaker is_word_byte is_version_byte w word-there (first_so (list_all is_word_byte w) (not (list_all is_ascii_digit w)) h)

parts-there : (ps : List LocalPart) → list_all is_part ps ≡ true → list_all part_fits ps ≡ true → list_all is_version_byte (flat_map (λ q. codes "." ++ part_text q) ps) ≡ true
parts-there [] h g = refl
parts-there (p ∷ ps) h g =
    all-append is_version_byte (part_text p) (flat_map (λ q. codes "." ++ part_text q) ps) (part-there p (first_so (is_part p) (list_all is_part ps) h) (first_so (part_fits p) (list_all part_fits ps) g))
    (parts-there ps (second_so (is_part p) (list_all is_part ps) h) (second_so (part_fits p) (list_all part_fits ps) g))

local-there : (ps : List LocalPart) → list_all is_part ps ≡ true → list_all part_fits ps ≡ true → list_all is_version_byte (local_text ps) ≡ true
local-there [] h g = refl
local-there (p ∷ ps) h g =
    all-append is_version_byte (part_text p) (flat_map (λ q. codes "." ++ part_text q) ps) (part-there p (first_so (is_part p) (list_all is_part ps) h) (first_so (part_fits p) (list_all part_fits ps) g))
    (parts-there ps (second_so (is_part p) (list_all is_part ps) h) (second_so (part_fits p) (list_all part_fits ps) g))

canonical-there : (v : VersionParts) → IsVersion v → list_all is_version_byte (canonical v) ≡ true
canonical-there v h =
    let a = all_fit v.release in
    let b = all_fit (pre_numbers v.pre) in
    let c = all_fit (option_to_list v.post) in
    let d = all_fit (option_to_list v.dev) in
    let e = list_all part_fits v.local in
    let all = sym (fits-parts v) ∙ h.numbers in
    let f0 = second_so (ltb v.epoch (2 ^ 64)) (a && (b && (c && (d && e)))) all in
    let f1 = second_so a (b && (c && (d && e))) f0 in
    let f2 = second_so b (c && (d && e)) f1 in
    let f3 = second_so c (d && e) f2 in
    all-append is_version_byte (epoch_text v.epoch) _ (epoch-there v.epoch (first_so (ltb v.epoch (2 ^ 64)) (a && (b && (c && (d && e)))) all))
    (all-append is_version_byte (release_text v.release) _ (release-there v.release (first_so a (b && (c && (d && e))) f0))
    (all-append is_version_byte (pre_text v.pre) _ (pre-there v.pre (first_so b (c && (d && e)) f1))
    (all-append is_version_byte (post_text v.post) _ (post-there v.post (first_so c (d && e) f2))
    (all-append is_version_byte (dev_text v.dev) (local_text v.local) (dev-there v.dev (first_so d e f3)) (local-there v.local h.local (second_so d e f3))))))

space-other : (b : ℕ) → is_space b ≡ true → is_version_byte b ≡ false
space-other b h = grind (arith, nat_tests)

no-space : (text : List ℕ) → list_all is_space text ≡ true → list_all is_version_byte text ≡ true → text ≡ []
no-space [] h g = refl
no-space (b ∷ text) h g =
    let other = space-other b (first_so (is_space b) (list_all is_space text) h) in
    let there = first_so (is_version_byte b) (list_all is_version_byte text) g in
    absurd (true≢false (sym there ∙ other))

-- a canonical text spells its version with nothing around it
version-text : (v : VersionParts) → IsVersion v → IsVersionText (canonical v) v
version-text v h =
    let s = canonical-spells v h in
    let whole : list_all is_version_byte (s.before ++ (s.inner ++ s.after)) ≡ true = ap (list_all is_version_byte) (sym s.whole) ∙ canonical-there v h in
    let both : (list_all is_version_byte s.before && list_all is_version_byte (s.inner ++ s.after)) ≡ true = sym (list_all-append is_version_byte s.before (s.inner ++ s.after)) ∙ whole in
    let rest : (list_all is_version_byte s.inner && list_all is_version_byte s.after) ≡ true =
    sym (list_all-append is_version_byte s.inner s.after) ∙ second_so (list_all is_version_byte s.before) _ both in
    let front : s.before ≡ [] = no-space s.before s.spaces_before (first_so (list_all is_version_byte s.before) _ both) in
    let back : s.after ≡ [] = no-space s.after s.spaces_after (second_so (list_all is_version_byte s.inner) _ rest) in
    let same : canonical v ≡ s.inner = s.whole ∙ ap (λ (t : List ℕ). t ++ (s.inner ++ s.after)) front ∙ ap (λ (t : List ℕ). s.inner ++ t) back ∙ append-nil s.inner in
    subst (λ (t : List ℕ). IsVersionText t v) (sym same) s.version

star-pass : (test : ℕ → Bool) → test 42 ≡ true → test 46 ≡ true → (o : Operator) → list_all test (star o) ≡ true
star-pass test asterisk dot operators.Compatible = refl
star-pass test asterisk dot operators.Equal = refl
star-pass test asterisk dot operators.NotEqual = refl
star-pass test asterisk dot operators.EqualPrefix = rw (asterisk, dot) refl
star-pass test asterisk dot operators.NotEqualPrefix = rw (asterisk, dot) refl
star-pass test asterisk dot operators.AtMost = refl
star-pass test asterisk dot operators.AtLeast = refl
star-pass test asterisk dot operators.Below = refl
star-pass test asterisk dot operators.Above = refl

told-pass : (test : ℕ → Bool) → Covers test → test 42 ≡ true → (c : Clause) → IsVersion c.version → list_all test (version_told c) ≡ true
told-pass test p asterisk c h =
    all-append test (canonical c.version) (star c.operator) (version-pass test p (canonical c.version) c.version (version-text c.version h))
    (star-pass test asterisk (p.separator 46 refl) c.operator)

-- it may stand between double quotes
quotable : Covers (is_inside 34)
quotable = record {
  byte = λ b h. grind (arith, nat_tests);
  separator = λ b h. grind (arith, nat_tests);
  lower = λ b. grind (arith, nat_tests);
  bang = refl;
  plus = refl;
}

pub told-inside : (c : Clause) → IsVersion c.version → list_all (is_inside 34) (version_told c) ≡ true
told-inside c h = told-pass (is_inside 34) quotable refl c h

abbrev is_no_comma : ℕ → Bool
is_no_comma b = not (eqb b 44)

without_commas : Covers is_no_comma
without_commas = record {
  byte = λ b h. grind (arith, nat_tests);
  separator = λ b h. grind (arith, nat_tests);
  lower = λ b. grind (arith, nat_tests);
  bang = refl;
  plus = refl;
}

abbrev is_dark : ℕ → Bool
is_dark b = not (is_space_or_tab b)

without_blanks : Covers is_dark
without_blanks = record {
  byte = λ b h. grind (arith, nat_tests);
  separator = λ b h. grind (arith, nat_tests);
  lower = λ b. grind (arith, nat_tests);
  bang = refl;
  plus = refl;
}

sign-no_comma : (o : Operator) → list_all is_no_comma (sign o) ≡ true
sign-no_comma operators.Compatible = refl
sign-no_comma operators.Equal = refl
sign-no_comma operators.NotEqual = refl
sign-no_comma operators.EqualPrefix = refl
sign-no_comma operators.NotEqualPrefix = refl
sign-no_comma operators.AtMost = refl
sign-no_comma operators.AtLeast = refl
sign-no_comma operators.Below = refl
sign-no_comma operators.Above = refl

sign-dark : (o : Operator) → list_all is_dark (sign o) ≡ true
sign-dark operators.Compatible = refl
sign-dark operators.Equal = refl
sign-dark operators.NotEqual = refl
sign-dark operators.EqualPrefix = refl
sign-dark operators.NotEqualPrefix = refl
sign-dark operators.AtMost = refl
sign-dark operators.AtLeast = refl
sign-dark operators.Below = refl
sign-dark operators.Above = refl

no-comma : (text : List ℕ) → list_all is_no_comma text ≡ true → has_comma text ≡ false
no-comma [] h = refl
no-comma (b ∷ text) h =
    rw (not-true (eqb b 44) (first_so (is_no_comma b) (list_all is_no_comma text) h), no-comma text (second_so (is_no_comma b) (list_all is_no_comma text) h)) refl

one-piece : (text : List ℕ) → list_all is_no_comma text ≡ true → pieces text ≡ text ∷ []
one-piece [] h = refl
one-piece (b ∷ text) h =
    rw (not-true (eqb b 44) (first_so (is_no_comma b) (list_all is_no_comma text) h), one-piece text (second_so (is_no_comma b) (list_all is_no_comma text) h)) refl

end-kept : (text : List ℕ) → list_all is_dark text ≡ true → trim_end is_space_or_tab text ≡ text
end-kept [] h = refl
end-kept (b ∷ text) h =
    rw (not-true (is_space_or_tab b) (first_so (is_dark b) (list_all is_dark text) h), end-kept text (second_so (is_dark b) (list_all is_dark text) h)) refl

front-kept : (text : List ℕ) → list_all is_dark text ≡ true → trim_front is_space_or_tab text ≡ text
front-kept [] h = refl
front-kept (b ∷ text) h = rw (not-true (is_space_or_tab b) (first_so (is_dark b) (list_all is_dark text) h)) refl

around-kept : (text : List ℕ) → list_all is_dark text ≡ true → trim_blank text ≡ text
around-kept text h = ap (trim_end is_space_or_tab) (front-kept text h) ∙ end-kept text h

-- ---- the clause

sign-first : (o : Operator) (rest : List ℕ) → list_all is_space_or_tab (sign o ++ rest) ≡ false
sign-first operators.Compatible rest = refl
sign-first operators.Equal rest = refl
sign-first operators.NotEqual rest = refl
sign-first operators.EqualPrefix rest = refl
sign-first operators.NotEqualPrefix rest = refl
sign-first operators.AtMost rest = refl
sign-first operators.AtLeast rest = refl
sign-first operators.Below rest = refl
sign-first operators.Above rest = refl

told-clause : (c : Clause) → IsVersion c.version → takes c.operator c.version ≡ true → IsClause (sign c.operator ++ version_told c) c
told-clause c h taken = record { blanks = []; version = canonical c.version; whole = refl; are_blank = refl; spells = version-text c.version h; taken = taken }

told-texts : (c : Clause) → IsVersion c.version → clause_texts (sign c.operator ++ version_told c) ≡ (sign c.operator ++ version_told c) ∷ []
told-texts c h =
    let bare : list_all is_no_comma (sign c.operator ++ version_told c) ≡ true =
    all-append is_no_comma (sign c.operator) (version_told c) (sign-no_comma c.operator) (told-pass is_no_comma without_commas refl c h) in
    ap (λ (blank : Bool). if blank then [] else counted (pieces (sign c.operator ++ version_told c))) (sign-first c.operator (version_told c))
    ∙ ap counted (one-piece (sign c.operator ++ version_told c) bare)

told-set : (c : Clause) → IsVersion c.version → takes c.operator c.version ≡ true → set_of (sign c.operator ++ version_told c) ≡ Ok (c ∷ [])
told-set c h taken =
    let text = sign c.operator ++ version_told c in
    let dark : list_all is_dark text ≡ true = all-append is_dark (sign c.operator) (version_told c) (sign-dark c.operator) (told-pass is_dark without_blanks refl c h) in
    let clause : IsClause (trim_blank text) c = subst (λ (t : List ℕ). IsClause t c) (sym (around-kept text dark)) (told-clause c h taken) in
    set-read text (Ok (c ∷ [])) (subst (λ (ts : List (List ℕ)). AreClauses ts (c ∷ [])) (sym (told-texts c h)) (clause, h.numbers, tt))

-- what is written for a clause reads as that clause
pub told-read : (c : Clause) → IsVersion c.version → takes c.operator c.version ≡ true → clauses_read (comparison_of c.operator) (version_told c) ≡ Some (c ∷ [])
unfolding clauses_read
told-read c h taken =
    ap (λ (comma : Bool). if comma then None else result_ok (set_of (marker_sign (comparison_of c.operator) ++ version_told c))) (no-comma (version_told c) (told-pass is_no_comma without_commas refl c h))
    ∙ ap (λ (text : List ℕ). result_ok (set_of (text ++ version_told c))) (same-sign c.operator) ∙ ap result_ok (told-set c h taken)
