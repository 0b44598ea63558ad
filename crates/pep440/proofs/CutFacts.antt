-- What the readers cut off: separators, digits and words.
use Rattle.std.proofs.Common.{◌≡◌, ℕ, Bool, true, false, cond, eqb, ◌⊎◌, List, [], ◌∷◌, ◌++◌, Option, Some, None, refl, sym, ap, subst, ◌∙◌, arith, inl, inr, append_assoc}
use Rattle.std.specs.Char.{is_ascii_digit, to_ascii_lowercase}
use Rattle.std.specs.Prelude.{codes, unwrap_or}
use Rattle.std.proofs.lemmas.Bool.{cases_Bool}
use Rattle.std.proofs.lemmas.Bool.Decides.{nat_tests}
use Rattle.pep440.specs.declared.words.PreWord.{PreWord}
use Rattle.pep440.specs.declared.words.PreWord.TheVariants as words
use Rattle.pep440.specs.Grammar.{IsAlphaWord, IsBetaWord, IsCandidateWord, IsPostWord, IsSeparator, Says, is_separator, starts_number}
use Rattle.pep440.specs.Tied.Reading.{after_digits, after_separator, digits_of, named, optional_word, post_word_at, pre_word_at, preview_rest, strip_word}
use Rattle.pep440.proofs.HeadFacts.{are_digits}

-- ---- the cuts of the readers

pub eqb-is : (a b : ℕ) → eqb a b ≡ true → a ≡ b
eqb-is a b h = grind (arith, nat_tests)

pub record SeparatorCut (text : List ℕ) : Type 0 where
  pub sep : List ℕ
  pub whole : text ≡ sep ++ after_separator text
  pub separates : IsSeparator sep
  pub none : sep ≡ [] → starts_number text ≡ false

pub separator-cut : (text : List ℕ) → SeparatorCut text
separator-cut [] = record { sep = []; whole = refl; separates = tt; none = λ _. refl }
separator-cut (b ∷ []) = elim (cases_Bool (is_separator b)) [
  | inl cut ↦ record { sep = b ∷ []; whole = rw cut refl; separates = cut; none = λ e. cc }
  | inr other ↦ record { sep = []; whole = rw other refl; separates = tt; none = λ _. refl }
]
separator-cut (b ∷ d ∷ rest) = elim (cases_Bool (is_separator b)) [
  | inl cut ↦ record { sep = b ∷ []; whole = rw cut refl; separates = cut; none = λ e. cc }
  | inr other ↦ record { sep = []; whole = rw other refl; separates = tt; none = λ _. rw other refl }
]

pub record DigitsCut (text : List ℕ) : Type 0 where
  pub whole : text ≡ digits_of text ++ after_digits text
  pub digits : are_digits (digits_of text) ≡ true

pub digits-cut : (text : List ℕ) → DigitsCut text
digits-cut [] = record { whole = refl; digits = refl }
digits-cut (b ∷ rest) = elim (cases_Bool (is_ascii_digit b)) [
  | inl one ↦ let r = digits-cut rest in record { whole = rw one (ap (λ (t : List ℕ). b ∷ t) r.whole); digits = rw one (rw (one, r.digits) refl) }
  | inr other ↦ record { whole = rw other refl; digits = rw other refl }
]

pub record WordCut (IsWord : List ℕ → Type 0) (text rest : List ℕ) : Type 0 where
  pub word : List ℕ
  pub whole : text ≡ word ++ rest
  pub says : IsWord word

pub strip-cut : (w text rest : List ℕ) → strip_word w text ≡ Some rest → WordCut (λ x. Says x w) text rest
strip-cut [] text rest h = record { word = []; whole = cc; says = refl }
strip-cut (c ∷ w) [] rest h = absurd cc
strip-cut (c ∷ w) (b ∷ text) rest h = elim (cases_Bool (eqb (to_ascii_lowercase b) c)) [
  | inl same ↦
      let r = strip-cut w text rest (rw same at h) in
      record { word = b ∷ r.word; whole = ap (λ (t : List ℕ). b ∷ t) r.whole; says = λ i. eqb-is (to_ascii_lowercase b) c same i ∷ r.says i }
  | inr other ↦ absurd (let g = (rw other at h) in cc)
]

pub optional-cut_by : (w text : List ℕ) (o : Option (List ℕ)) → strip_word w text ≡ o → WordCut (λ x. Says x w ⊎ Says x []) text (unwrap_or o text)
optional-cut_by w text None h = record { word = []; whole = refl; says = inr refl }
optional-cut_by w text (Some rest) h = let r = strip-cut w text rest h in record { word = r.word; whole = r.whole; says = inl r.says }

pub optional-cut : (w text : List ℕ) → WordCut (λ x. Says x w ⊎ Says x []) text (optional_word w text)
optional-cut w text = optional-cut_by w text (strip_word w text) refl

-- ---- pre words

abbrev pub SaysPre : PreWord → List ℕ → Type 0
SaysPre words.Alpha word = IsAlphaWord word
SaysPre words.Beta word = IsBetaWord word
SaysPre words.Candidate word = IsCandidateWord word

abbrev pub PreCut : List ℕ → PreWord × List ℕ → Type 0
PreCut text p = WordCut (SaysPre p.0) text p.1

-- one letter more at the front of a word
pub with_letter : (b c : ℕ) (word w : List ℕ) → to_ascii_lowercase b ≡ c → Says word w → Says (b ∷ word) (c ∷ w)
with_letter b c word w e h = λ i. e i ∷ h i

pub alpha-cut : (b : ℕ) (text : List ℕ) → to_ascii_lowercase b ≡ 97 → PreCut (b ∷ text) (words.Alpha, optional_word (codes "lpha") text)
alpha-cut b text e =
    let r = optional-cut (codes "lpha") text in
    record { word = b ∷ r.word; whole = ap (λ (t : List ℕ). b ∷ t) r.whole; says = elim r.says [ inl h ↦ inr (with_letter b 97 r.word (codes "lpha") e h) | inr h ↦ inl (with_letter b 97 r.word [] e h) ] }

pub beta-cut : (b : ℕ) (text : List ℕ) → to_ascii_lowercase b ≡ 98 → PreCut (b ∷ text) (words.Beta, optional_word (codes "eta") text)
beta-cut b text e =
    let r = optional-cut (codes "eta") text in
    record { word = b ∷ r.word; whole = ap (λ (t : List ℕ). b ∷ t) r.whole; says = elim r.says [ inl h ↦ inr (with_letter b 98 r.word (codes "eta") e h) | inr h ↦ inl (with_letter b 98 r.word [] e h) ] }

pub c-cut : (b : ℕ) (text : List ℕ) → to_ascii_lowercase b ≡ 99 → PreCut (b ∷ text) (words.Candidate, text)
c-cut b text e = record { word = b ∷ []; whole = refl; says = inl (inl (with_letter b 99 [] [] e refl)) }

pub named-some : (w : PreWord) (o : Option (List ℕ)) (p : PreWord × List ℕ) → named w o ≡ Some p → (rest : List ℕ) × (o ≡ Some rest) × ((w, rest) ≡ p)
named-some w None p h = absurd cc
named-some w (Some rest) p h = (rest, refl, cc)

pub preview-some : (o : Option (List ℕ)) (rest : List ℕ) → preview_rest o ≡ Some rest → (middle : List ℕ) × (o ≡ Some middle) × (optional_word (codes "view") middle ≡ rest)
preview-some None rest h = absurd cc
preview-some (Some middle) rest h = (middle, refl, cc)

pub rc-cut : (b : ℕ) (text : List ℕ) (p : PreWord × List ℕ) → to_ascii_lowercase b ≡ 114 → named words.Candidate (strip_word (codes "c") text) ≡ Some p → PreCut (b ∷ text) p
rc-cut b text p e h =
    let n = named-some words.Candidate (strip_word (codes "c") text) p h in
    let r = strip-cut (codes "c") text n.0 n.1 in
    subst (λ (q : PreWord × List ℕ). PreCut (b ∷ text) q) n.2 (record { word = b ∷ r.word; whole = ap (λ (t : List ℕ). b ∷ t) r.whole; says = inl (inr (with_letter b 114 r.word (codes "c") e r.says)) })

pub says-append : (a b v w : List ℕ) → Says a v → Says b w → Says (a ++ b) (v ++ w)
says-append [] b [] w h g = g
says-append [] b (c ∷ v) w h g = absurd cc
says-append (x ∷ a) b [] w h g = absurd cc
says-append (x ∷ a) b (c ∷ v) w h g = let first : to_ascii_lowercase x ≡ c = cc in let others : Says a v = cc in λ i. first i ∷ says-append a b v w others g i

pub pre-cut_word : (b : ℕ) (text : List ℕ) (p : PreWord × List ℕ) → to_ascii_lowercase b ≡ 112 → named words.Candidate (preview_rest (strip_word (codes "re") text)) ≡ Some p → PreCut (b ∷ text) p
pre-cut_word b text p e h =
    let n = named-some words.Candidate (preview_rest (strip_word (codes "re") text)) p h in
    let m = preview-some (strip_word (codes "re") text) n.0 n.1 in
    let r = strip-cut (codes "re") text m.0 m.1 in
    let o = optional-cut (codes "view") m.0 in
    let rest_is : optional_word (codes "view") m.0 ≡ n.0 = m.2 in
    let whole : text ≡ (r.word ++ o.word) ++ n.0 = r.whole ∙ ap (λ (t : List ℕ). r.word ++ t) (o.whole ∙ ap (λ (t : List ℕ). o.word ++ t) rest_is) ∙ sym (append_assoc r.word o.word n.0) in
    let says : IsCandidateWord (b ∷ (r.word ++ o.word)) = elim o.says [
      | inl view ↦ inr (inr (with_letter b 112 (r.word ++ o.word) (codes "review") e (says-append r.word o.word (codes "re") (codes "view") r.says view)))
      | inr none ↦ inr (inl (with_letter b 112 (r.word ++ o.word) (codes "re") e (says-append r.word o.word (codes "re") [] r.says none)))
    ] in
    subst (λ (q : PreWord × List ℕ). PreCut (b ∷ text) q) n.2 (record { word = b ∷ (r.word ++ o.word); whole = ap (λ (t : List ℕ). b ∷ t) whole; says = says })

-- a test that chose an answer
pub chosen : {A : Type 0} (b : Bool) (x y z : A) → cond b x y ≡ z → ((b ≡ true) × (x ≡ z)) ⊎ ((b ≡ false) × (y ≡ z))
chosen true x y z h = inl (refl, h)
chosen false x y z h = inr (refl, h)

pub some-is : {A : Type 0} (x y : A) → ◌≡◌ {A = Option A} (Some x) (Some y) → x ≡ y
some-is x y h = cc

abbrev pub p-branch : ℕ → List ℕ → Option (PreWord × List ℕ)
p-branch c rest = cond (eqb c 112) (named words.Candidate (preview_rest (strip_word (codes "re") rest))) None

abbrev pub r-branch : ℕ → List ℕ → Option (PreWord × List ℕ)
r-branch c rest = cond (eqb c 114) (named words.Candidate (strip_word (codes "c") rest)) (p-branch c rest)

abbrev pub c-branch : ℕ → List ℕ → Option (PreWord × List ℕ)
c-branch c rest = cond (eqb c 99) (Some (words.Candidate, rest)) (r-branch c rest)

abbrev pub b-branch : ℕ → List ℕ → Option (PreWord × List ℕ)
b-branch c rest = cond (eqb c 98) (Some (words.Beta, optional_word (codes "eta") rest)) (c-branch c rest)

pub pre-word_cut : (text : List ℕ) (p : PreWord × List ℕ) → pre_word_at text ≡ Some p → PreCut text p
pre-word_cut [] p h = absurd cc
pre-word_cut (b ∷ rest) p h =
    let c = to_ascii_lowercase b in
    let cut = λ (q : PreWord × List ℕ). PreCut (b ∷ rest) q in
    elim (chosen (eqb c 97) (Some (words.Alpha, optional_word (codes "lpha") rest)) (b-branch c rest) (Some p) h) [
      | inl x ↦ subst cut (some-is _ p x.1) (alpha-cut b rest (eqb-is c 97 x.0))
      | inr x ↦ elim (chosen (eqb c 98) (Some (words.Beta, optional_word (codes "eta") rest)) (c-branch c rest) (Some p) x.1) [
        | inl y ↦ subst cut (some-is _ p y.1) (beta-cut b rest (eqb-is c 98 y.0))
        | inr y ↦ elim (chosen (eqb c 99) (Some (words.Candidate, rest)) (r-branch c rest) (Some p) y.1) [
          | inl z ↦ subst cut (some-is _ p z.1) (c-cut b rest (eqb-is c 99 z.0))
          | inr z ↦ elim (chosen (eqb c 114) (named words.Candidate (strip_word (codes "c") rest)) (p-branch c rest) (Some p) z.1) [
            | inl u ↦ rc-cut b rest p (eqb-is c 114 u.0) u.1
            | inr u ↦ elim (chosen (eqb c 112) (named words.Candidate (preview_rest (strip_word (codes "re") rest))) None (Some p) u.1) [
              | inl w ↦ pre-cut_word b rest p (eqb-is c 112 w.0) w.1
              | inr w ↦ absurd (let bad = w.1 in cc)
            ]
          ]
        ]
      ]
    ]

-- ---- post and dev words

pub post-word_cut : (text rest : List ℕ) → post_word_at text ≡ Some rest → WordCut IsPostWord text rest
post-word_cut [] rest h = absurd cc
post-word_cut (b ∷ text) rest h =
    let c = to_ascii_lowercase b in
    elim (chosen (eqb c 112) (strip_word (codes "ost") text) (cond (eqb c 114) (Some (optional_word (codes "ev") text)) None) (Some rest) h) [
      | inl x ↦
          let r = strip-cut (codes "ost") text rest x.1 in
          record { word = b ∷ r.word; whole = ap (λ (t : List ℕ). b ∷ t) r.whole; says = inl (with_letter b 112 r.word (codes "ost") (eqb-is c 112 x.0) r.says) }
      | inr x ↦ elim (chosen (eqb c 114) (Some (optional_word (codes "ev") text)) None (Some rest) x.1) [
        | inl y ↦
            let r = optional-cut (codes "ev") text in
            let e = eqb-is c 114 y.0 in
            subst (λ (t : List ℕ). WordCut IsPostWord (b ∷ text) t) (some-is _ rest y.1)
            (record { word = b ∷ r.word; whole = ap (λ (t : List ℕ). b ∷ t) r.whole; says = elim r.says [ inl h ↦ inr (inl (with_letter b 114 r.word (codes "ev") e h)) | inr h ↦ inr (inr (with_letter b 114 r.word [] e h)) ] })
        | inr y ↦ absurd (let bad = y.1 in cc)
      ]
    ]
