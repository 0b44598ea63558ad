-- The words of a version are read as the grammar spells them.
use Rattle.std.proofs.Common.{◌≡◌, ℕ, Bool, true, false, cond, eqb, not, List, [], ◌∷◌, ◌++◌, Option, Some, None, refl, ap, ◌∙◌, arith, inl, inr, append_assoc}
use Rattle.std.specs.Char.{to_ascii_lowercase}
use Rattle.std.specs.Prelude.{codes}
use Rattle.std.proofs.lemmas.Bool.Decides.{nat_tests}
use Rattle.pep440.specs.declared.words.PreWord.TheVariants as words
use Rattle.pep440.specs.Grammar.{IsAlphaWord, IsBetaWord, IsCandidateWord, IsDevWord, IsPostWord, Says}
use Rattle.pep440.specs.Tied.Reading.{named, optional_word, post_word_at, post_word_of, pre_word_at, pre_word_of, preview_rest, strip_word}
use Rattle.pep440.proofs.HeadFacts.{ends_word, ends_word-e, ends_word-l, ends_word-v, head_is, is_word_start}

-- ---- a word at the front of a text

-- the first letter of a word, and the others
pub record Spelled (word : List ℕ) (c : ℕ) (cs : List ℕ) : Type 0 where
  pub letter : ℕ
  pub others : List ℕ
  pub whole : word ≡ letter ∷ others
  pub lower : to_ascii_lowercase letter ≡ c
  pub says : Says others cs

pub spelled : (word : List ℕ) (c : ℕ) (cs : List ℕ) → Says word (c ∷ cs) → Spelled word c cs
spelled [] c cs h = absurd cc
spelled (b ∷ bs) c cs h = record { letter = b; others = bs; whole = refl; lower = cc; says = cc }

said-nothing : (word : List ℕ) → Says word [] → word ≡ []
said-nothing [] h = refl
said-nothing (b ∷ bs) h = absurd cc

pub strip-said : (word w rest : List ℕ) → Says word w → strip_word w (word ++ rest) ≡ Some rest
strip-said [] [] rest h = refl
strip-said [] (c ∷ w) rest h = absurd cc
strip-said (b ∷ word) [] rest h = absurd cc
strip-said (b ∷ word) (c ∷ w) rest h =
    let first : to_ascii_lowercase b ≡ c = cc in
    let others : Says word w = cc in
    rw (first, eqb-same c) (strip-said word w rest others)
  where
    eqb-same : (c : ℕ) → eqb c c ≡ true
    eqb-same c = grind (arith, nat_tests)

-- a text that begins otherwise doesn't begin with the word
pub strip-other : (c : ℕ) (w rest : List ℕ) → head_is (λ b. not (eqb (to_ascii_lowercase b) c)) rest ≡ true → strip_word (c ∷ w) rest ≡ None
strip-other c w [] h = refl
strip-other c w (b ∷ rest) h = rw (not-true (eqb (to_ascii_lowercase b) c) h) refl
  where
    not-true : (b : Bool) → not b ≡ true → b ≡ false
    not-true true h = absurd cc
    not-true false h = refl

optional-said : (word w rest : List ℕ) → Says word w → optional_word w (word ++ rest) ≡ rest
optional-said word w rest h = rw (strip-said word w rest h) refl

optional-other : (c : ℕ) (w rest : List ℕ) → head_is (λ b. not (eqb (to_ascii_lowercase b) c)) rest ≡ true → optional_word (c ∷ w) rest ≡ rest
optional-other c w rest h = rw (strip-other c w rest h) refl

not-l : (rest : List ℕ) → head_is ends_word rest ≡ true → head_is (λ b. not (eqb (to_ascii_lowercase b) 108)) rest ≡ true
not-l [] h = refl
not-l (b ∷ rest) h = rw (ends_word-l b h) refl

not-e : (rest : List ℕ) → head_is ends_word rest ≡ true → head_is (λ b. not (eqb (to_ascii_lowercase b) 101)) rest ≡ true
not-e [] h = refl
not-e (b ∷ rest) h = rw (ends_word-e b h) refl

not-v : (rest : List ℕ) → head_is ends_word rest ≡ true → head_is (λ b. not (eqb (to_ascii_lowercase b) 118)) rest ≡ true
not-v [] h = refl
not-v (b ∷ rest) h = rw (ends_word-v b h) refl

-- ---- pre words

first-letter : (word rest : List ℕ) (c : ℕ) (cs : List ℕ) (s : Spelled word c cs) → pre_word_at (word ++ rest) ≡ pre_word_of c (s.others ++ rest)
first-letter word rest c cs s = ap (λ (t : List ℕ). pre_word_at (t ++ rest)) s.whole ∙ ap (λ (k : ℕ). pre_word_of k (s.others ++ rest)) s.lower

lone : (word : List ℕ) (rest : List ℕ) → Says word [] → word ++ rest ≡ rest
lone word rest h = ap (λ (t : List ℕ). t ++ rest) (said-nothing word h)

pub alpha-read : (word rest : List ℕ) → IsAlphaWord word → head_is ends_word rest ≡ true → pre_word_at (word ++ rest) ≡ Some (words.Alpha, rest)
alpha-read word rest (inl h) g =
    let s = spelled word 97 [] h in
    first-letter word rest 97 [] s ∙ ap (λ (t : List ℕ). pre_word_of 97 t) (lone s.others rest s.says) ∙ ap (λ (t : List ℕ). Some (words.Alpha, t)) (optional-other 108 (codes "pha") rest (not-l rest g))
alpha-read word rest (inr h) g =
    let s = spelled word 97 (codes "lpha") h in
    first-letter word rest 97 (codes "lpha") s ∙ ap (λ (t : List ℕ). Some (words.Alpha, t)) (optional-said s.others (codes "lpha") rest s.says)

pub beta-read : (word rest : List ℕ) → IsBetaWord word → head_is ends_word rest ≡ true → pre_word_at (word ++ rest) ≡ Some (words.Beta, rest)
beta-read word rest (inl h) g =
    let s = spelled word 98 [] h in
    first-letter word rest 98 [] s ∙ ap (λ (t : List ℕ). pre_word_of 98 t) (lone s.others rest s.says) ∙ ap (λ (t : List ℕ). Some (words.Beta, t)) (optional-other 101 (codes "ta") rest (not-e rest g))
beta-read word rest (inr h) g =
    let s = spelled word 98 (codes "eta") h in
    first-letter word rest 98 (codes "eta") s ∙ ap (λ (t : List ℕ). Some (words.Beta, t)) (optional-said s.others (codes "eta") rest s.says)

-- `re` and then `view` or not
preview-split : (word : List ℕ) → Says word (codes "review") → (front : List ℕ) × (back : List ℕ) × (word ≡ front ++ back) × Says front (codes "re") × Says back (codes "view")
preview-split [] h = absurd cc
preview-split (a ∷ []) h = absurd cc
preview-split (a ∷ b ∷ back) h = (a ∷ b ∷ [], back, refl, cc, cc)

pub candidate-read : (word rest : List ℕ) → IsCandidateWord word → head_is ends_word rest ≡ true → pre_word_at (word ++ rest) ≡ Some (words.Candidate, rest)
candidate-read word rest (inl (inl h)) g =
    let s = spelled word 99 [] h in
    first-letter word rest 99 [] s ∙ ap (λ (t : List ℕ). Some (words.Candidate, t)) (lone s.others rest s.says)
candidate-read word rest (inl (inr h)) g =
    let s = spelled word 114 (codes "c") h in
    first-letter word rest 114 (codes "c") s ∙ ap (λ (o : Option (List ℕ)). named words.Candidate o) (strip-said s.others (codes "c") rest s.says)
candidate-read word rest (inr (inl h)) g =
    let s = spelled word 112 (codes "re") h in
    first-letter word rest 112 (codes "re") s ∙ ap (λ (o : Option (List ℕ)). named words.Candidate (preview_rest o)) (strip-said s.others (codes "re") rest s.says)
    ∙ ap (λ (t : List ℕ). Some (words.Candidate, t)) (optional-other 118 (codes "iew") rest (not-v rest g))
candidate-read word rest (inr (inr h)) g =
    let s = spelled word 112 (codes "review") h in
    let p = preview-split s.others s.says in
    first-letter word rest 112 (codes "review") s
    ∙ ap (λ (t : List ℕ). named words.Candidate (preview_rest (strip_word (codes "re") t))) (ap (λ (t : List ℕ). t ++ rest) p.2 ∙ append_assoc p.0 p.1 rest)
    ∙ ap (λ (o : Option (List ℕ)). named words.Candidate (preview_rest o)) (strip-said p.0 (codes "re") (p.1 ++ rest) p.3)
    ∙ ap (λ (t : List ℕ). Some (words.Candidate, t)) (optional-said p.1 (codes "view") rest p.4)

-- ---- post and dev words

post-letter : (word rest : List ℕ) (c : ℕ) (cs : List ℕ) (s : Spelled word c cs) → post_word_at (word ++ rest) ≡ post_word_of c (s.others ++ rest)
post-letter word rest c cs s = ap (λ (t : List ℕ). post_word_at (t ++ rest)) s.whole ∙ ap (λ (k : ℕ). post_word_of k (s.others ++ rest)) s.lower

pub post-read : (word rest : List ℕ) → IsPostWord word → head_is ends_word rest ≡ true → post_word_at (word ++ rest) ≡ Some rest
post-read word rest (inl h) g =
    let s = spelled word 112 (codes "ost") h in
    post-letter word rest 112 (codes "ost") s ∙ strip-said s.others (codes "ost") rest s.says
post-read word rest (inr (inl h)) g =
    let s = spelled word 114 (codes "ev") h in
    post-letter word rest 114 (codes "ev") s ∙ ap (λ (t : List ℕ). Some t) (optional-said s.others (codes "ev") rest s.says)
post-read word rest (inr (inr h)) g =
    let s = spelled word 114 [] h in
    post-letter word rest 114 [] s ∙ ap (λ (t : List ℕ). post_word_of 114 t) (lone s.others rest s.says) ∙ ap (λ (t : List ℕ). Some t) (optional-other 101 (codes "v") rest (not-e rest g))

pub dev-read : (word rest : List ℕ) → IsDevWord word → strip_word (codes "dev") (word ++ rest) ≡ Some rest
dev-read word rest h = strip-said word (codes "dev") rest h

-- ---- what words begin with

-- the text begins with a letter that begins a word
abbrev pub starts_word : List ℕ → Bool
starts_word [] = false
starts_word (b ∷ rest) = is_word_start (to_ascii_lowercase b)

said-starts : (word : List ℕ) (c : ℕ) (cs rest : List ℕ) → Says word (c ∷ cs) → is_word_start c ≡ true → starts_word (word ++ rest) ≡ true
said-starts word c cs rest h g =
    let s = spelled word c cs h in
    ap (λ (t : List ℕ). starts_word (t ++ rest)) s.whole ∙ rw s.lower g

pub alpha-starts : (word rest : List ℕ) → IsAlphaWord word → starts_word (word ++ rest) ≡ true
alpha-starts word rest (inl h) = said-starts word 97 [] rest h refl
alpha-starts word rest (inr h) = said-starts word 97 (codes "lpha") rest h refl

pub beta-starts : (word rest : List ℕ) → IsBetaWord word → starts_word (word ++ rest) ≡ true
beta-starts word rest (inl h) = said-starts word 98 [] rest h refl
beta-starts word rest (inr h) = said-starts word 98 (codes "eta") rest h refl

pub candidate-starts : (word rest : List ℕ) → IsCandidateWord word → starts_word (word ++ rest) ≡ true
candidate-starts word rest (inl (inl h)) = said-starts word 99 [] rest h refl
candidate-starts word rest (inl (inr h)) = said-starts word 114 (codes "c") rest h refl
candidate-starts word rest (inr (inl h)) = said-starts word 112 (codes "re") rest h refl
candidate-starts word rest (inr (inr h)) = said-starts word 112 (codes "review") rest h refl

pub post-starts : (word rest : List ℕ) → IsPostWord word → starts_word (word ++ rest) ≡ true
post-starts word rest (inl h) = said-starts word 112 (codes "ost") rest h refl
post-starts word rest (inr (inl h)) = said-starts word 114 (codes "ev") rest h refl
post-starts word rest (inr (inr h)) = said-starts word 114 [] rest h refl

pub dev-starts : (word rest : List ℕ) → IsDevWord word → starts_word (word ++ rest) ≡ true
dev-starts word rest h = said-starts word 100 (codes "ev") rest h refl

-- a post word, or a dev word, is no pre word, and a dev word no post word
pub post-no_pre : (word rest : List ℕ) → IsPostWord word → head_is (λ b. not (eqb (to_ascii_lowercase b) 99)) rest ≡ true → pre_word_at (word ++ rest) ≡ None
post-no_pre word rest (inl h) g =
    let s = spelled word 112 (codes "ost") h in
    let t = spelled s.others 111 (codes "st") s.says in
    first-letter word rest 112 (codes "ost") s
    ∙ ap (λ (x : List ℕ). named words.Candidate (preview_rest (strip_word (codes "re") (x ++ rest)))) t.whole
    ∙ ap (λ (k : ℕ). named words.Candidate (preview_rest (cond (eqb k 114) (strip_word (codes "e") (t.others ++ rest)) None))) t.lower
post-no_pre word rest (inr (inl h)) g =
    let s = spelled word 114 (codes "ev") h in
    let t = spelled s.others 101 (codes "v") s.says in
    first-letter word rest 114 (codes "ev") s
    ∙ ap (λ (x : List ℕ). named words.Candidate (strip_word (codes "c") (x ++ rest))) t.whole
    ∙ ap (λ (k : ℕ). named words.Candidate (cond (eqb k 99) (strip_word [] (t.others ++ rest)) None)) t.lower
post-no_pre word rest (inr (inr h)) g =
    let s = spelled word 114 [] h in
    first-letter word rest 114 [] s ∙ ap (λ (t : List ℕ). pre_word_of 114 t) (lone s.others rest s.says) ∙ ap (λ (o : Option (List ℕ)). named words.Candidate o) (strip-other 99 [] rest g)

pub dev-no_pre : (word rest : List ℕ) → IsDevWord word → pre_word_at (word ++ rest) ≡ None
dev-no_pre word rest h = let s = spelled word 100 (codes "ev") h in first-letter word rest 100 (codes "ev") s

pub dev-no_post : (word rest : List ℕ) → IsDevWord word → post_word_at (word ++ rest) ≡ None
dev-no_post word rest h = let s = spelled word 100 (codes "ev") h in post-letter word rest 100 (codes "ev") s
