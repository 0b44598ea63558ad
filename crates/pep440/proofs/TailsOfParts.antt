-- What stands behind a pre part, a post part or a local one.
use Rattle.std.proofs.Common.{◌≡◌, ℕ, ◌<◌, true, false, eqb, not, List, [], ◌∷◌, ◌++◌, length, Option, Some, None, refl, sym, ap, subst, ◌∙◌, arith, inl, inr}
use Rattle.std.specs.Char.{is_ascii_digit, to_ascii_lowercase}
use Rattle.std.specs.Cmp.{first_so}
use Rattle.std.proofs.lemmas.Bool.Decides.{nat_tests}
use Rattle.pep440.specs.declared.parts.LocalPart.{LocalPart}
use Rattle.pep440.specs.Grammar.{IsDev, IsDevWord, IsLocal, IsPost, IsSeparator, is_separator, starts_number}
use Rattle.pep440.specs.Tied.Reading.{after_separator, post_word_at, pre_word_at, pre_word_of, starts_digit}
use Rattle.pep440.proofs.HeadFacts.{are_digits, head_is, opens}
use Rattle.pep440.proofs.WordFacts.{dev-no_post, dev-no_pre, dev-starts, post-no_pre, post-starts}
use Rattle.pep440.proofs.NumbersBehindWords.{apart, starts_dot_digit, apart-no_dot, label-split, label-front}

-- ---- local parts and dev parts at the front

local-front : (text : List ℕ) (ps : List LocalPart) → IsLocal text ps → (head_is opens text ≡ true) × (apart text ≡ true)
local-front text [] h = rw h (refl, refl)
local-front text (p ∷ ps) h = rw h.1 (refl, refl)

dev-no_c : (word rest : List ℕ) → IsDevWord word → head_is (λ b. not (eqb (to_ascii_lowercase b) 99)) (word ++ rest) ≡ true
dev-no_c [] rest h = absurd cc
dev-no_c (b ∷ word) rest h = let e : to_ascii_lowercase b ≡ 100 = cc in rw e refl

-- what stands behind a post part: it begins a dev or a local part, or is empty
pub record DevTail (text : List ℕ) : Type 0 where
  pub opens : head_is opens text ≡ true
  pub apart : apart text ≡ true
  pub no_c : head_is (λ b. not (eqb (to_ascii_lowercase b) 99)) text ≡ true
  pub no_pre : pre_word_at (after_separator text) ≡ None
  pub no_post : post_word_at (after_separator text) ≡ None

local-tail : (text : List ℕ) (ps : List LocalPart) → IsLocal text ps → DevTail text
local-tail text [] h = rw h (record { opens = refl; apart = refl; no_c = refl; no_pre = refl; no_post = refl })
local-tail text (p ∷ ps) h = rw h.1 (record { opens = refl; apart = refl; no_c = refl; no_pre = refl; no_post = refl })

separator-no_c : (b : ℕ) → is_separator b ≡ true → not (eqb (to_ascii_lowercase b) 99) ≡ true
separator-no_c b h = grind (arith, nat_tests)

front-no_c : (first word more : List ℕ) → IsSeparator first → IsDevWord word → head_is (λ b. not (eqb (to_ascii_lowercase b) 99)) (first ++ (word ++ more)) ≡ true
front-no_c [] word more s h = dev-no_c word more h
front-no_c (b ∷ []) word more s h = separator-no_c b s
front-no_c (b ∷ c ∷ rest) word more s h = absurd s

pub dev-tail : (dev local : List ℕ) (o : Option ℕ) (ps : List LocalPart) → IsDev dev o → IsLocal local ps → DevTail (dev ++ local)
dev-tail dev local None ps h g = subst (λ (t : List ℕ). DevTail (t ++ local)) (sym h) (local-tail local ps g)
dev-tail dev local (Some n) ps h g =
    let f = label-front dev n local h dev-starts in
    let tail = h.second ++ (h.digits ++ local) in
    record {
      opens = f.opens;
      apart = f.apart;
      no_c = rw (label-split dev n local h) (front-no_c h.first h.word tail h.separates h.says);
      no_pre = ap pre_word_at f.word_at ∙ dev-no_pre h.word tail h.says;
      no_post = ap post_word_at f.word_at ∙ dev-no_post h.word tail h.says;
    }

-- what stands behind a pre part
pub record PostTail (text : List ℕ) : Type 0 where
  pub opens : head_is opens text ≡ true
  pub no_dot : starts_dot_digit text ≡ false
  pub apart : starts_number text ≡ false → apart text ≡ true
  pub no_pre : pre_word_at (after_separator text) ≡ None

digit-no_pre : (b : ℕ) (rest : List ℕ) → is_ascii_digit b ≡ true → pre_word_of (to_ascii_lowercase b) rest ≡ None
digit-no_pre b rest h =
    let e : to_ascii_lowercase b ≡ b = grind (arith, nat_tests) in
    let a : eqb b 97 ≡ false = grind (arith, nat_tests) in
    let b2 : eqb b 98 ≡ false = grind (arith, nat_tests) in
    let c : eqb b 99 ≡ false = grind (arith, nat_tests) in
    let r : eqb b 114 ≡ false = grind (arith, nat_tests) in
    let p : eqb b 112 ≡ false = grind (arith, nat_tests) in
    rw (e, a, b2, c, r, p) refl

digits-no_pre : (ds rest : List ℕ) → 0 < length ds → are_digits ds ≡ true → pre_word_at (ds ++ rest) ≡ None
digits-no_pre [] rest some h = absurd (omega arith)
digits-no_pre (d ∷ ds) rest some h = digit-no_pre d (ds ++ rest) (first_so (is_ascii_digit d) (are_digits ds) h)

some_digits : (ds rest : List ℕ) → 0 < length ds → are_digits ds ≡ true → starts_digit (ds ++ rest) ≡ true
some_digits [] rest some h = absurd (omega arith)
some_digits (d ∷ ds) rest some h = first_so (is_ascii_digit d) (are_digits ds) h

pub digits-start : (ds rest : List ℕ) → 0 < length ds → are_digits ds ≡ true → starts_digit (ds ++ rest) ≡ true
digits-start = some_digits

behind-no_c : (second digits rest : List ℕ) → IsSeparator second → are_digits digits ≡ true → head_is (λ b. not (eqb (to_ascii_lowercase b) 99)) rest ≡ true → head_is (λ b. not (eqb (to_ascii_lowercase b) 99)) (second ++ (digits ++ rest)) ≡ true
behind-no_c [] [] rest s all h = h
behind-no_c [] (d ∷ ds) rest s all h = let one = first_so (is_ascii_digit d) (are_digits ds) all in grind (arith, nat_tests)
behind-no_c (b ∷ []) ds rest s all h = separator-no_c b s
behind-no_c (b ∷ c ∷ more) ds rest s all h = absurd s

implicit-number : (ds rest : List ℕ) → 0 < length ds → are_digits ds ≡ true → starts_number (45 ∷ (ds ++ rest)) ≡ true
implicit-number [] rest some h = absurd (omega arith)
implicit-number (d ∷ ds) rest some h = first_so (is_ascii_digit d) (are_digits ds) h

pub post-tail : (post tail : List ℕ) (o : Option ℕ) → IsPost post o → DevTail tail → PostTail (post ++ tail)
post-tail post tail None h t =
    subst (λ (x : List ℕ). PostTail (x ++ tail)) (sym h) (record { opens = t.opens; no_dot = apart-no_dot tail t.apart; apart = λ _. t.apart; no_pre = t.no_pre })
post-tail post tail (Some n) (inl l) t =
    let f = label-front post n tail l post-starts in
    let more = l.second ++ (l.digits ++ tail) in
    record {
      opens = f.opens;
      no_dot = apart-no_dot (post ++ tail) f.apart;
      apart = λ _. f.apart;
      no_pre = ap pre_word_at f.word_at ∙ post-no_pre l.word more l.says (behind-no_c l.second l.digits tail l.separates_more l.are_digits t.no_c);
    }
post-tail post tail (Some n) (inr (digits, whole, numeral)) t =
    subst (λ (x : List ℕ). PostTail (x ++ tail)) (sym whole) (record {
      opens = refl;
      no_dot = refl;
      apart = λ no. absurd (let yes = implicit-number digits tail numeral.some numeral.digits in cc);
      no_pre = digits-no_pre digits tail numeral.some numeral.digits;
    })
