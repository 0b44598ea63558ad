-- The canonical text of a version is in the grammar.
use Rattle.std.proofs.Common.{◌≡◌, ℕ, ◌+◌, ◌-◌, ◌*◌, ◌%◌, ◌^◌, ◌<◌, Bool, true, false, eqb, ltb, not, ◌&&◌, List, [], ◌∷◌, ◌++◌, length, Option, Some, None, refl, sym, ap, subst, ◌∙◌, arith, inl, inr}
use Rattle.std.specs.Char.{is_ascii_alphanumeric, is_ascii_digit, to_ascii_lowercase}
use Rattle.std.specs.List.{list_all}
use Rattle.std.specs.Prelude.{codes}
use Rattle.std.specs.Cmp.{first_so, second_so}
use Rattle.std.proofs.lemmas.Bool.{cases_Bool}
use Rattle.std.proofs.lemmas.Bool.Decides.{nat_tests}
use Rattle.std.proofs.lemmas.List.{append-nil}
use Rattle.pep440.specs.declared.parts.Pre.{Pre}
use Rattle.pep440.specs.declared.parts.Pre.TheVariants as pres
use Rattle.pep440.specs.declared.parts.LocalPart.{LocalPart}
use Rattle.pep440.specs.declared.parts.LocalPart.TheVariants.{Number, Word}
use Rattle.std.specs.Fmt.{decimal}
use Rattle.std.specs.List.{flat_map}
use Rattle.std.proofs.lemmas.Bool.{eqb-true, ltb-true}
use Rattle.std.proofs.lemmas.Fmt.{decimal_by_steps, decimal_nonempty}
use Rattle.std.proofs.lemmas.List.Concat.{flat_map-cons}
use Rattle.pep440.specs.Canonical.{canonical, dev_text, epoch_text, local_text, part_text, post_text, pre_text, release_text}
use Rattle.pep440.specs.Version.{IsVersion, VersionParts, is_part, is_word_byte, pre_numbers}
use Rattle.pep440.specs.Grammar.{IsAlphaWord, IsBetaWord, IsCandidateWord, IsDev, IsDevWord, IsEpoch, IsLabelled, IsLocal, IsLocalPart, IsLocalParts, IsNumeral, IsPost, IsPostWord, IsPre, IsRelease, IsSeparator, Says, Spells, value_from}
use Rattle.std.specs.Prelude.{option_to_list}
use Rattle.pep440.specs.Tied.Views.{part_fits}
use Rattle.pep440.proofs.ReleaseFacts.{all_fit}
use Rattle.pep440.proofs.VersionFacts.{fits-parts}

digit_of : (k : ℕ) → k < 10 → is_ascii_digit (48 + k) ≡ true
digit_of k small = grind (arith, nat_tests)

digits-append : (ds es : List ℕ) → list_all is_ascii_digit ds ≡ true → list_all is_ascii_digit es ≡ true → list_all is_ascii_digit (ds ++ es) ≡ true
digits-append [] es h g = g
digits-append (d ∷ ds) es h g =
    rw (first_so (is_ascii_digit d) (list_all is_ascii_digit ds) h, digits-append ds es (second_so (is_ascii_digit d) (list_all is_ascii_digit ds) h) g) refl

value-append : (n : ℕ) (ds es : List ℕ) → value_from n (ds ++ es) ≡ value_from (value_from n ds) es
value-append n [] es = refl
value-append n (d ∷ ds) es = value-append (n * 10 + (d - 48)) ds es

record Digits (n : ℕ) (ds : List ℕ) : Type 0 where
  digits : list_all is_ascii_digit ds ≡ true
  value : value_from 0 ds ≡ n

decimal-digits : (n : ℕ) → n < 2 ^ 64 → Digits n (decimal n)
decimal-digits n small = decimal_by_steps Digits
    (λ k low. record { digits = rw (digit_of k low) refl; value = omega arith })
    (λ k ds big ih. record {
      digits = digits-append ds ((48 + k % 10) ∷ []) ih.digits (rw (digit_of (k % 10) (omega arith)) refl);
      value = value-append 0 ds ((48 + k % 10) ∷ []) ∙ rw ih.value (omega arith);
    }) n small

-- decimal digits are a numeral
IsNumeral-decimal : (n : ℕ) → n < 2 ^ 64 → IsNumeral (decimal n) n
IsNumeral-decimal n small =
    let d = decimal-digits n small in
    record { some = decimal_nonempty n small; digits = d.digits; value = d.value }

small-of : (n : ℕ) (rest : Bool) → (ltb n (2 ^ 64) && rest) ≡ true → n < 2 ^ 64
small-of n rest h = ltb-true n (2 ^ 64) (first_so (ltb n (2 ^ 64)) rest h)

-- ---- the parts

epoch-spelled : (n : ℕ) → n < 2 ^ 64 → IsEpoch (epoch_text n) n
epoch-spelled n small = elim (cases_Bool (eqb n 0)) [
  | inl zero_epoch ↦ rw zero_epoch (inl (refl, eqb-true n 0 zero_epoch))
  | inr other ↦ rw other (inr (decimal n, refl, IsNumeral-decimal n small))
]

IsRelease-more : (n : ℕ) (ns first rest : List ℕ) → IsNumeral first n → IsRelease rest ns → IsRelease (first ++ 46 ∷ rest) (n ∷ ns)
IsRelease-more n [] first rest one h = absurd h
IsRelease-more n (m ∷ ns) first rest one h = (first, rest, refl, one, h)

release-spelled : (ns : List ℕ) → 0 < length ns → all_fit ns ≡ true → IsRelease (release_text ns) ns
release-spelled [] some h = absurd (omega arith)
release-spelled (n ∷ []) some h =
    subst (λ (t : List ℕ). IsNumeral t n) (sym (append-nil (decimal n))) (IsNumeral-decimal n (small-of n true h))
release-spelled (n ∷ m ∷ ns) some h =
    let ih = release-spelled (m ∷ ns) (omega arith) (second_so (ltb n (2 ^ 64)) (all_fit (m ∷ ns)) h) in
    let cut : release_text (n ∷ m ∷ ns) ≡ decimal n ++ 46 ∷ release_text (m ∷ ns) =
    ap (λ (t : List ℕ). decimal n ++ t) (flat_map-cons (λ k. codes "." ++ decimal k) m ns) in
    subst (λ (t : List ℕ). IsRelease t (n ∷ m ∷ ns)) (sym cut) (IsRelease-more n (m ∷ ns) (decimal n) (release_text (m ∷ ns)) (IsNumeral-decimal n (small-of n (all_fit (m ∷ ns)) h)) ih)

labelled : (IsWord : List ℕ → Type 0) (first word : List ℕ) (n : ℕ) → IsSeparator first → IsWord word → n < 2 ^ 64 → IsLabelled IsWord (first ++ (word ++ decimal n)) n
labelled IsWord first word n s h small =
    let d = decimal-digits n small in
    record { first = first; word = word; second = []; digits = decimal n; whole = refl; separates = s; says = h; separates_more = tt; are_digits = d.digits; value = d.value }

no_empty : (n : ℕ) → n < 2 ^ 64 → decimal n ≡ [] → ⊥
no_empty n small e = let some = decimal_nonempty n small in let none : length (decimal n) ≡ 0 = ap length e in omega arith

pre-spelled : (p : Option Pre) (follows : List ℕ) → all_fit (pre_numbers p) ≡ true → IsPre (pre_text p) follows p
unfolding labelled
pre-spelled None follows h = refl
pre-spelled (Some (pres.Alpha n)) follows h =
    let small = small-of n true h in
    record { label = labelled IsAlphaWord [] (codes "a") n tt (inl refl) small; own_digits = λ e. absurd (no_empty n small e) }
pre-spelled (Some (pres.Beta n)) follows h =
    let small = small-of n true h in
    record { label = labelled IsBetaWord [] (codes "b") n tt (inl refl) small; own_digits = λ e. absurd (no_empty n small e) }
pre-spelled (Some (pres.Candidate n)) follows h =
    let small = small-of n true h in
    record { label = labelled IsCandidateWord [] (codes "rc") n tt (inl (inr refl)) small; own_digits = λ e. absurd (no_empty n small e) }

post-spelled : (o : Option ℕ) → all_fit (option_to_list o) ≡ true → IsPost (post_text o) o
post-spelled None h = refl
post-spelled (Some n) h = inl (labelled IsPostWord (codes ".") (codes "post") n refl (inl refl) (small-of n true h))

dev-spelled : (o : Option ℕ) → all_fit (option_to_list o) ≡ true → IsDev (dev_text o) o
dev-spelled None h = refl
dev-spelled (Some n) h = labelled IsDevWord (codes ".") (codes "dev") n refl refl (small-of n true h)

-- ---- local parts

word_byte-alphanumeric : (b : ℕ) → is_word_byte b ≡ true → is_ascii_alphanumeric b ≡ true
word_byte-alphanumeric b h = grind (arith, nat_tests)

word_byte-lower : (b : ℕ) → is_word_byte b ≡ true → to_ascii_lowercase b ≡ b
word_byte-lower b h = grind (arith, nat_tests)

word-bytes : (w : List ℕ) → list_all is_word_byte w ≡ true → (list_all is_ascii_alphanumeric w ≡ true) × Says w w
word-bytes [] h = (refl, refl)
word-bytes (b ∷ w) h =
    let one = first_so (is_word_byte b) (list_all is_word_byte w) h in
    let r = word-bytes w (second_so (is_word_byte b) (list_all is_word_byte w) h) in
    (rw (word_byte-alphanumeric b one, r.0) refl, λ i. word_byte-lower b one i ∷ r.1 i)

not-true : (b : Bool) → not b ≡ true → b ≡ false
not-true true h = absurd cc
not-true false h = refl

part-spelled : (p : LocalPart) → is_part p ≡ true → part_fits p ≡ true → IsLocalPart (part_text p) p
part-spelled (Number n) h small = IsNumeral-decimal n (ltb-true n (2 ^ 64) small)
part-spelled (Word w) h small =
    let r = word-bytes w (first_so (list_all is_word_byte w) (not (list_all is_ascii_digit w)) h) in
    (r.0, not-true (list_all is_ascii_digit w) (second_so (list_all is_word_byte w) (not (list_all is_ascii_digit w)) h), r.1)

abbrev body_text : LocalPart → List LocalPart → List ℕ
body_text p ps = part_text p ++ flat_map (λ q. codes "." ++ part_text q) ps

parts-spelled : (p : LocalPart) (ps : List LocalPart) → list_all is_part (p ∷ ps) ≡ true → list_all part_fits (p ∷ ps) ≡ true → IsLocalParts (body_text p ps) (p ∷ ps)
parts-spelled p [] h g =
    subst (λ (t : List ℕ). IsLocalPart t p) (sym (append-nil (part_text p))) (part-spelled p (first_so (is_part p) true h) (first_so (part_fits p) true g))
parts-spelled p (q ∷ ps) h g =
    let ih = parts-spelled q ps (second_so (is_part p) (list_all is_part (q ∷ ps)) h) (second_so (part_fits p) (list_all part_fits (q ∷ ps)) g) in
    let cut : body_text p (q ∷ ps) ≡ part_text p ++ 46 ∷ body_text q ps =
    ap (λ (t : List ℕ). part_text p ++ t) (flat_map-cons (λ k. codes "." ++ part_text k) q ps) in
    (part_text p, 46, body_text q ps, cut, refl, part-spelled p (first_so (is_part p) (list_all is_part (q ∷ ps)) h) (first_so (part_fits p) (list_all part_fits (q ∷ ps)) g), ih)

local-spelled : (ps : List LocalPart) → list_all is_part ps ≡ true → list_all part_fits ps ≡ true → IsLocal (local_text ps) ps
local-spelled [] h g = refl
local-spelled (p ∷ ps) h g = (body_text p ps, refl, parts-spelled p ps h g)

-- ---- the whole

-- the canonical text of a version spells it
pub canonical-spells : (v : VersionParts) → IsVersion v → Spells (canonical v) v
canonical-spells v h =
    let all = sym (fits-parts v) ∙ h.numbers in
    let a = all_fit v.release in
    let b = all_fit (pre_numbers v.pre) in
    let c = all_fit (option_to_list v.post) in
    let d = all_fit (option_to_list v.dev) in
    let e = list_all part_fits v.local in
    let f0 = second_so (ltb v.epoch (2 ^ 64)) (a && (b && (c && (d && e)))) all in
    let f1 = second_so a (b && (c && (d && e))) f0 in
    let f2 = second_so b (c && (d && e)) f1 in
    let f3 = second_so c (d && e) f2 in
    record {
      before = [];
      inner = canonical v;
      after = [];
      whole = sym (append-nil (canonical v));
      spaces_before = refl;
      spaces_after = refl;
      version = record {
        lead = [];
        epoch = epoch_text v.epoch;
        release = release_text v.release;
        pre = pre_text v.pre;
        post = post_text v.post;
        dev = dev_text v.dev;
        local = local_text v.local;
        whole = refl;
        is_lead = inl refl;
        is_epoch = epoch-spelled v.epoch (small-of v.epoch (a && (b && (c && (d && e)))) all);
        is_release = release-spelled v.release h.release (first_so a (b && (c && (d && e))) f0);
        is_pre = pre-spelled v.pre (post_text v.post ++ (dev_text v.dev ++ local_text v.local)) (first_so b (c && (d && e)) f1);
        is_post = post-spelled v.post (first_so c (d && e) f2);
        is_dev = dev-spelled v.dev (first_so d e f3);
        is_local = local-spelled v.local h.local (second_so d e f3);
      };
    }
