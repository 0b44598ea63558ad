-- A test that letters, digits, separators, `!` and `+` pass is passed by each byte of a version.
use Rattle.std.proofs.Common.{◌≡◌, ℕ, Bool, true, List, [], ◌∷◌, ◌++◌, Option, Some, None, refl, sym, ap, ◌∙◌, arith, inl, inr}
use Rattle.std.specs.Char.{is_ascii_alphanumeric, is_ascii_digit, to_ascii_lowercase}
use Rattle.std.specs.List.{list_all}
use Rattle.std.specs.Prelude.{codes}
use Rattle.std.specs.Cmp.{first_so, second_so}
use Rattle.std.proofs.lemmas.Bool.Decides.{nat_tests}
use Rattle.pep440.specs.declared.parts.Pre.{Pre}
use Rattle.pep440.specs.declared.parts.Pre.TheVariants as pres
use Rattle.pep440.specs.declared.parts.LocalPart.{LocalPart}
use Rattle.pep440.specs.declared.parts.LocalPart.TheVariants.{Number, Word}
use Rattle.pep440.specs.Version.{VersionParts}
use Rattle.pep440.specs.Grammar.{IsAlphaWord, IsBetaWord, IsCandidateWord, IsDev, IsDevWord, IsEpoch, IsLabelled, IsLead, IsLocal, IsLocalPart, IsLocalParts, IsPost, IsPostWord, IsPre, IsRelease, IsSeparator, IsVersionText, Says, is_separator}
use Rattle.pep440.proofs.HeadFacts.{are_digits}

pub all-append : (test : ℕ → Bool) (a b : List ℕ) → list_all test a ≡ true → list_all test b ≡ true → list_all test (a ++ b) ≡ true
all-append test [] b h g = g
all-append test (x ∷ a) b h g = rw (first_so (test x) (list_all test a) h, all-append test a b (second_so (test x) (list_all test a) h) g) refl

pub all-weaker : (p q : ℕ → Bool) (text : List ℕ) → ((b : ℕ) → p b ≡ true → q b ≡ true) → list_all p text ≡ true → list_all q text ≡ true
all-weaker p q [] f h = refl
all-weaker p q (b ∷ text) f h = rw (f b (first_so (p b) (list_all p text) h), all-weaker p q text f (second_so (p b) (list_all p text) h)) refl

digit-byte : (b : ℕ) → is_ascii_digit b ≡ true → is_ascii_alphanumeric b ≡ true
digit-byte b h = grind (arith, nat_tests)

-- the bytes of a version pass the test
pub record Covers (test : ℕ → Bool) : Type 0 where
  pub byte : (b : ℕ) → is_ascii_alphanumeric b ≡ true → test b ≡ true
  pub separator : (b : ℕ) → is_separator b ≡ true → test b ≡ true
  pub lower : (b : ℕ) → test (to_ascii_lowercase b) ≡ test b
  pub bang : test 33 ≡ true
  pub plus : test 43 ≡ true

module _ (test : ℕ → Bool) (p : Covers test) where
  digits-pass : (ds : List ℕ) → are_digits ds ≡ true → list_all test ds ≡ true
  digits-pass ds h = all-weaker is_ascii_digit test ds (λ b g. p.byte b (digit-byte b g)) h

  says-pass : (word w : List ℕ) → Says word w → list_all is_ascii_alphanumeric w ≡ true → list_all test word ≡ true
  says-pass [] w h g = refl
  says-pass (b ∷ word) [] h g = absurd cc
  says-pass (b ∷ word) (c ∷ w) h g =
      let first : to_ascii_lowercase b ≡ c = cc in
      let others : Says word w = cc in
      let one : test b ≡ true = sym (p.lower b) ∙ ap test first ∙ p.byte c (first_so (is_ascii_alphanumeric c) (list_all is_ascii_alphanumeric w) g) in
      rw (one, says-pass word w others (second_so (is_ascii_alphanumeric c) (list_all is_ascii_alphanumeric w) g)) refl

  separator-pass : (text : List ℕ) → IsSeparator text → list_all test text ≡ true
  separator-pass [] h = refl
  separator-pass (s ∷ []) h = rw (p.separator s h) refl
  separator-pass (s ∷ t ∷ rest) h = absurd h

  label-pass : (IsWord : List ℕ → Type 0) (text : List ℕ) (n : ℕ) → IsLabelled IsWord text n → ((word : List ℕ) → IsWord word → list_all test word ≡ true) → list_all test text ≡ true
  label-pass IsWord text n l f =
      ap (list_all test) l.whole ∙ all-append test l.first (l.word ++ (l.second ++ l.digits)) (separator-pass l.first l.separates)
      (all-append test l.word (l.second ++ l.digits) (f l.word l.says) (all-append test l.second l.digits (separator-pass l.second l.separates_more) (digits-pass l.digits l.are_digits)))

  alpha-pass : (word : List ℕ) → IsAlphaWord word → list_all test word ≡ true
  alpha-pass word (inl h) = says-pass word (codes "a") h refl
  alpha-pass word (inr h) = says-pass word (codes "alpha") h refl

  beta-pass : (word : List ℕ) → IsBetaWord word → list_all test word ≡ true
  beta-pass word (inl h) = says-pass word (codes "b") h refl
  beta-pass word (inr h) = says-pass word (codes "beta") h refl

  candidate-pass : (word : List ℕ) → IsCandidateWord word → list_all test word ≡ true
  candidate-pass word (inl (inl h)) = says-pass word (codes "c") h refl
  candidate-pass word (inl (inr h)) = says-pass word (codes "rc") h refl
  candidate-pass word (inr (inl h)) = says-pass word (codes "pre") h refl
  candidate-pass word (inr (inr h)) = says-pass word (codes "preview") h refl

  post-pass : (word : List ℕ) → IsPostWord word → list_all test word ≡ true
  post-pass word (inl h) = says-pass word (codes "post") h refl
  post-pass word (inr (inl h)) = says-pass word (codes "rev") h refl
  post-pass word (inr (inr h)) = says-pass word (codes "r") h refl

  lead-pass : (text : List ℕ) → IsLead text → list_all test text ≡ true
  lead-pass text (inl h) = rw h refl
  lead-pass text (inr h) = says-pass text (codes "v") h refl

  epoch-pass : (text : List ℕ) (n : ℕ) → IsEpoch text n → list_all test text ≡ true
  epoch-pass text n (inl e) = rw e.0 refl
  epoch-pass text n (inr (digits, whole, numeral)) = ap (list_all test) whole ∙ all-append test digits (33 ∷ []) (digits-pass digits numeral.digits) (rw p.bang refl)

  dot-pass : test 46 ≡ true
  dot-pass = p.separator 46 refl

  release-pass : (ns text : List ℕ) → IsRelease text ns → list_all test text ≡ true
  release-pass [] text h = absurd h
  release-pass (n ∷ []) text h = digits-pass text h.digits
  release-pass (n ∷ m ∷ ns) text (first, rest, cut, one, more) =
      let c = release-pass (m ∷ ns) rest more in
      ap (list_all test) cut ∙ all-append test first (46 ∷ rest) (digits-pass first one.digits) (rw (p.separator 46 refl, c) refl)

  pre-pass : (text follows : List ℕ) (o : Option Pre) → IsPre text follows o → list_all test text ≡ true
  pre-pass text follows None h = rw h refl
  pre-pass text follows (Some (pres.Alpha n)) h = label-pass IsAlphaWord text n h.label alpha-pass
  pre-pass text follows (Some (pres.Beta n)) h = label-pass IsBetaWord text n h.label beta-pass
  pre-pass text follows (Some (pres.Candidate n)) h = label-pass IsCandidateWord text n h.label candidate-pass

  post-part-pass : (text : List ℕ) (o : Option ℕ) → IsPost text o → list_all test text ≡ true
  post-part-pass text None h = rw h refl
  post-part-pass text (Some n) (inl l) = label-pass IsPostWord text n l post-pass
  post-part-pass text (Some n) (inr (digits, whole, numeral)) = ap (list_all test) whole ∙ rw (p.separator 45 refl, digits-pass digits numeral.digits) refl

  dev-part-pass : (text : List ℕ) (o : Option ℕ) → IsDev text o → list_all test text ≡ true
  dev-part-pass text None h = rw h refl
  dev-part-pass text (Some n) h = label-pass IsDevWord text n h (λ word says. says-pass word (codes "dev") says refl)

  local-part-pass : (text : List ℕ) (q : LocalPart) → IsLocalPart text q → list_all test text ≡ true
  local-part-pass text (Number n) h = digits-pass text h.digits
  local-part-pass text (Word w) h = all-weaker is_ascii_alphanumeric test text p.byte h.0

  local-parts-pass : (ps : List LocalPart) (text : List ℕ) → IsLocalParts text ps → list_all test text ≡ true
  local-parts-pass [] text h = absurd h
  local-parts-pass (q ∷ []) text h = local-part-pass text q h
  local-parts-pass (q ∷ r ∷ ps) text (first, s, rest, cut, is, one, more) =
      let c = local-parts-pass (r ∷ ps) rest more in
      ap (list_all test) cut ∙ all-append test first (s ∷ rest) (local-part-pass first q one) (rw (p.separator s is, c) refl)

  local-pass : (text : List ℕ) (ps : List LocalPart) → IsLocal text ps → list_all test text ≡ true
  local-pass text [] h = rw h refl
  local-pass text (q ∷ ps) (body, whole, parts) = ap (list_all test) whole ∙ rw (p.plus, local-parts-pass (q ∷ ps) body parts) refl

  pub version-pass : (text : List ℕ) (v : VersionParts) → IsVersionText text v → list_all test text ≡ true
  version-pass text v h =
      ap (list_all test) h.whole ∙ all-append test h.lead _ (lead-pass h.lead h.is_lead)
      (all-append test h.epoch _ (epoch-pass h.epoch v.epoch h.is_epoch)
      (all-append test h.release _ (release-pass v.release h.release h.is_release)
      (all-append test h.pre _ (pre-pass h.pre (h.post ++ (h.dev ++ h.local)) v.pre h.is_pre)
      (all-append test h.post _ (post-part-pass h.post v.post h.is_post)
      (all-append test h.dev h.local (dev-part-pass h.dev v.dev h.is_dev) (local-pass h.local v.local h.is_local))))))
