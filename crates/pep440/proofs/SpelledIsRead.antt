-- What the grammar spells is read: from the local part to the pre part.
use Rattle.std.proofs.Common.{◌≡◌, ℕ, ◌<◌, Bool, true, false, eqb, ◌&&◌, ◌⊎◌, List, [], ◌∷◌, ◌++◌, length, Option, Some, None, refl, sym, ap, subst, ◌∙◌, arith, inl, inr, append_assoc, length-append}
use Rattle.std.specs.Char.{is_ascii_alphanumeric, is_ascii_digit, to_ascii_lowercase}
use Rattle.std.specs.List.{list_all}
use Rattle.std.specs.Option.{option_map}
use Rattle.std.specs.Prelude.{codes}
use Rattle.std.specs.Cmp.{first_so, second_so}
use Rattle.std.proofs.lemmas.Bool.Decides.{nat_tests}
use Rattle.std.proofs.lemmas.List.{append-nil}
use Rattle.pep440.specs.declared.parts.Pre.{Pre}
use Rattle.pep440.specs.declared.parts.Pre.TheVariants as pres
use Rattle.pep440.specs.declared.parts.LocalPart.{LocalPart}
use Rattle.pep440.specs.declared.parts.LocalPart.TheVariants.{Number, Word}
use Rattle.pep440.specs.declared.words.PreWord.{PreWord}
use Rattle.pep440.specs.declared.words.PreWord.TheVariants as words
use Rattle.pep440.specs.Grammar.{IsAlphaWord, IsBetaWord, IsCandidateWord, IsDev, IsLabelled, IsLocal, IsLocalPart, IsLocalParts, IsPost, IsPre, IsPreLabel, is_separator, value_from}
use Rattle.pep440.specs.Tied.Reading.{after_separator, dev_spans, is_implicit, is_local_from, label_at, local_at, locals_from, locals_of, number_behind, part_of, post_spans, post_word_at, pre_at, pre_of, pre_with, pre_word_at, spans_with, strip_word}
use Rattle.pep440.proofs.HeadFacts.{are_digits, ends_word, head_is, is_word_start, opens, separator-no_plus, word-no_digit, word-no_plus}
use Rattle.pep440.proofs.WordFacts.{alpha-read, alpha-starts, beta-read, beta-starts, candidate-read, candidate-starts, dev-read, dev-starts, post-read, post-starts, starts_word}
use Rattle.pep440.proofs.NumbersBehindWords.{Skips, apart-no_dot, apart-no_implicit, behind, behind-ends_word, digits-read, label-front, opens-starts, starts_dot_digit, word-after_separator}
use Rattle.pep440.proofs.TailsOfParts.{DevTail, PostTail, dev-tail, digits-start, post-tail}
use Rattle.pep440.proofs.SpansRead.{locals_of-some}

-- ---- local parts

are_bytes : List ℕ → Bool
are_bytes text = list_all is_ascii_alphanumeric text

digit-alphanumeric : (b : ℕ) → is_ascii_digit b ≡ true → is_ascii_alphanumeric b ≡ true
digit-alphanumeric b h = grind (arith, nat_tests)

alphanumeric-no_separator : (b : ℕ) → is_ascii_alphanumeric b ≡ true → is_separator b ≡ false
alphanumeric-no_separator b h = grind (arith, nat_tests)

digits-alphanumeric : (ds : List ℕ) → are_digits ds ≡ true → list_all is_ascii_alphanumeric ds ≡ true
digits-alphanumeric [] h = refl
digits-alphanumeric (d ∷ ds) h =
    rw (digit-alphanumeric d (first_so (is_ascii_digit d) (are_digits ds) h), digits-alphanumeric ds (second_so (is_ascii_digit d) (are_digits ds) h)) refl

run-shape : (text rest : List ℕ) → list_all is_ascii_alphanumeric text ≡ true → is_local_from true (text ++ rest) ≡ is_local_from true rest
run-shape [] rest h = refl
run-shape (b ∷ text) rest h =
    let one = first_so (is_ascii_alphanumeric b) (list_all is_ascii_alphanumeric text) h in
    rw (alphanumeric-no_separator b one, one) (run-shape text rest (second_so (is_ascii_alphanumeric b) (list_all is_ascii_alphanumeric text) h))

some_run-shape : (some : Bool) (text rest : List ℕ) → 0 < length text → list_all is_ascii_alphanumeric text ≡ true → is_local_from some (text ++ rest) ≡ is_local_from true rest
some_run-shape some [] rest long h = absurd (omega arith)
some_run-shape some (b ∷ text) rest long h =
    let one = first_so (is_ascii_alphanumeric b) (list_all is_ascii_alphanumeric text) h in
    rw (alphanumeric-no_separator b one, one) (run-shape text rest (second_so (is_ascii_alphanumeric b) (list_all is_ascii_alphanumeric text) h))

run-locals : (front text rest : List ℕ) → list_all is_ascii_alphanumeric text ≡ true → locals_from front (text ++ rest) ≡ locals_from (front ++ text) rest
run-locals front [] rest h = ap (λ (t : List ℕ). locals_from t rest) (sym (append-nil front))
run-locals front (b ∷ text) rest h =
    let one = first_so (is_ascii_alphanumeric b) (list_all is_ascii_alphanumeric text) h in
    rw (alphanumeric-no_separator b one) (run-locals (front ++ b ∷ []) text rest (second_so (is_ascii_alphanumeric b) (list_all is_ascii_alphanumeric text) h)
    ∙ ap (λ (t : List ℕ). locals_from t rest) (append_assoc front (b ∷ []) text))

-- one part is letters and digits, and is read
record PartRead (text : List ℕ) (p : LocalPart) : Type 0 where
  some : 0 < length text
  bytes : list_all is_ascii_alphanumeric text ≡ true
  part : part_of text ≡ p

part-read : (text : List ℕ) (p : LocalPart) → IsLocalPart text p → PartRead text p
part-read text (Number n) h = record { some = h.some; bytes = digits-alphanumeric text h.digits; part = rw (h.digits, h.value) refl }
part-read [] (Word w) (bytes, letters, says) = absurd (let no : true ≡ false = letters in cc)
part-read (b ∷ text) (Word w) (bytes, letters, says) = record { some = omega arith; bytes = bytes; part = rw letters (ap (λ (t : List ℕ). Word t) says) }

record LocalsRead (text : List ℕ) (ps : List LocalPart) : Type 0 where
  some : 0 < length text
  shape : is_local_from false text ≡ true
  parts : locals_from [] text ≡ ps

locals-read : (ps : List LocalPart) (text : List ℕ) → IsLocalParts text ps → LocalsRead text ps
locals-read [] text h = absurd h
locals-read (p ∷ []) text h =
    let r = part-read text p h in
    record {
      some = r.some;
      shape = ap (λ (t : List ℕ). is_local_from false t) (sym (append-nil text)) ∙ some_run-shape false text [] r.some r.bytes;
      parts = ap (λ (t : List ℕ). locals_from [] t) (sym (append-nil text)) ∙ run-locals [] text [] r.bytes ∙ ap (λ q. q ∷ []) r.part;
    }
locals-read (p ∷ q ∷ ps) text (first, s, rest, cut, is, one, more) =
    let r = part-read first p one in
    let m = locals-read (q ∷ ps) rest more in
    record {
      some = subst (λ (t : List ℕ). 0 < length t) (sym cut) (omega (arith, length-append first (s ∷ rest)));
      shape = ap (λ (t : List ℕ). is_local_from false t) cut ∙ some_run-shape false first (s ∷ rest) r.some r.bytes ∙ rw is m.shape;
      parts = ap (λ (t : List ℕ). locals_from [] t) cut ∙ run-locals [] first (s ∷ rest) r.bytes ∙ rw (is, r.part, m.parts) refl;
    }

pub record LocalRead (text : List ℕ) (ps : List LocalPart) : Type 0 where
  pub body : List ℕ
  pub read : local_at text ≡ Some body
  pub parts : locals_of body ≡ ps

local-read : (text : List ℕ) (ps : List LocalPart) → IsLocal text ps → LocalRead text ps
local-read text [] h = record { body = []; read = ap local_at h; parts = refl }
local-read text (p ∷ ps) (body, whole, parts) =
    let r = locals-read (p ∷ ps) body parts in
    record { body = body; read = ap local_at whole ∙ rw r.shape refl; parts = locals_of-some body r.some ∙ r.parts }

local-no_skip : (text : List ℕ) (ps : List LocalPart) (behind : List ℕ) → IsLocal text ps → Skips text behind → ⊥
local-no_skip text [] behind h s = let e = s.whole in cc
local-no_skip text (p ∷ ps) behind (body, whole, parts) s =
    let e = s.whole in
    let same : s.separator ≡ 43 = cc in
    let no : is_separator 43 ≡ true = rw same at s.is in
    cc

local-no_dev : (text : List ℕ) (ps : List LocalPart) → IsLocal text ps → strip_word (codes "dev") (after_separator text) ≡ None
local-no_dev text [] h = rw h refl
local-no_dev text (p ∷ ps) (body, whole, parts) = rw whole refl

-- ---- separators that the number before has taken

word-no_local : (text : List ℕ) → starts_word text ≡ true → local_at text ≡ None
word-no_local [] h = absurd cc
word-no_local (b ∷ rest) h = rw (word-no_plus b h) refl

separator-no_local : (s : ℕ) (text : List ℕ) → is_separator s ≡ true → local_at (s ∷ text) ≡ None
separator-no_local s text h = rw (separator-no_plus s h) refl

dev-skip_by : (o : Option (List ℕ)) (e r : List ℕ) (p : Option (PreWord × List ℕ)) (q : Option (List ℕ)) (s : ℕ) (text : List ℕ) → is_separator s ≡ true → starts_word text ≡ true
    → spans_with e r p q (label_at o text).0 (local_at (label_at o text).1) ≡ spans_with e r p q (label_at o (s ∷ text)).0 (local_at (label_at o (s ∷ text)).1)
dev-skip_by None e r p q s text is w = rw (word-no_local text w, separator-no_local s text is) refl
dev-skip_by (Some rest) e r p q s text is w = refl

dev-skip : (e r : List ℕ) (p : Option (PreWord × List ℕ)) (q : Option (List ℕ)) (s : ℕ) (text : List ℕ) → is_separator s ≡ true → starts_word text ≡ true
    → dev_spans e r p q text ≡ dev_spans e r p q (s ∷ text)
dev-skip e r p q s text is w = rw (word-after_separator text w, is) (dev-skip_by (strip_word (codes "dev") text) e r p q s text is w)

post-skip_by : (o : Option (List ℕ)) (e r : List ℕ) (p : Option (PreWord × List ℕ)) (s : ℕ) (text : List ℕ) → is_separator s ≡ true → starts_word text ≡ true
    → dev_spans e r p (label_at o text).0 (label_at o text).1 ≡ dev_spans e r p (label_at o (s ∷ text)).0 (label_at o (s ∷ text)).1
post-skip_by None e r p s text is w = dev-skip e r p None s text is w
post-skip_by (Some rest) e r p s text is w = refl

post-skip : (e r : List ℕ) (p : Option (PreWord × List ℕ)) (s : ℕ) (text : List ℕ) → is_separator s ≡ true → starts_word text ≡ true
    → post_spans e r p text ≡ post_spans e r p (s ∷ text)
post-skip e r p s text is w =
    let none : is_implicit text ≡ false = word-no_implicit text w in
    let none_more : is_implicit (s ∷ text) ≡ false = separator-no_implicit s text w in
    rw (none, none_more, word-after_separator text w, is) (post-skip_by (post_word_at text) e r p s text is w)
  where
    word-no_minus : (b : ℕ) → is_word_start (to_ascii_lowercase b) ≡ true → eqb b 45 ≡ false
    word-no_minus b h = grind (arith, nat_tests)

    word-no_implicit : (text : List ℕ) → starts_word text ≡ true → is_implicit text ≡ false
    word-no_implicit [] h = refl
    word-no_implicit (b ∷ rest) h = rw (word-no_minus b h) refl

    and-false : (b : Bool) → (b && false) ≡ false
    and-false true = refl
    and-false false = refl

    separator-no_implicit : (s : ℕ) (text : List ℕ) → starts_word text ≡ true → is_implicit (s ∷ text) ≡ false
    separator-no_implicit s [] h = absurd cc
    separator-no_implicit s (b ∷ rest) h = rw (word-no_digit b h) (and-false (eqb s 45))

-- ---- the dev part, and what follows

pub record DevRead (text : List ℕ) (o : Option ℕ) (ps : List LocalPart) : Type 0 where
  pub digits : Option (List ℕ)
  pub body : List ℕ
  pub read : (e r : List ℕ) (p : Option (PreWord × List ℕ)) (q : Option (List ℕ)) → dev_spans e r p q text
      ≡ Some (record { epoch = e; release = r; pre = p; post = q; dev = digits; local = body })
  pub dev : option_map (value_from 0) digits ≡ o
  pub parts : locals_of body ≡ ps

left-same : (text behind : List ℕ) (ps : List LocalPart) → IsLocal text ps → (behind ≡ text) ⊎ Skips text behind → behind ≡ text
left-same text behind ps h (inl e) = e
left-same text behind ps h (inr s) = absurd (local-no_skip text ps behind h s)

dev-part : (dev local : List ℕ) (o : Option ℕ) (ps : List LocalPart) → IsDev dev o → IsLocal local ps → DevRead (dev ++ local) o ps
dev-part dev local None ps h g =
    let l = local-read local ps g in
    subst (λ (t : List ℕ). DevRead (t ++ local) None ps) (sym h) (record {
      digits = None;
      body = l.body;
      read = λ e r p q. rw (local-no_dev local ps g, l.read) refl;
      dev = refl;
      parts = l.parts;
    })
dev-part dev local (Some n) ps h g =
    let l = local-read local ps g in
    let t = dev-tail [] local None ps refl g in
    let f = label-front dev n local h dev-starts in
    let b = behind h.second h.digits local h.separates_more h.are_digits (opens-starts local t.opens) (λ _. t.apart) in
    let tail = h.second ++ (h.digits ++ local) in
    let word : strip_word (codes "dev") (after_separator (dev ++ local)) ≡ Some tail = ap (strip_word (codes "dev")) f.word_at ∙ dev-read h.word tail h.says in
    let same : (number_behind tail).1 ≡ local = left-same local (number_behind tail).1 ps g b.left in
    record {
      digits = Some h.digits;
      body = l.body;
      read = λ e r p q. rw word (ap (λ (d : List ℕ). spans_with e r p q (Some d) (local_at (number_behind tail).1)) b.number
          ∙ ap (λ (t : List ℕ). spans_with e r p q (Some h.digits) (local_at t)) same ∙ rw l.read refl);
      dev = ap (λ (k : ℕ). Some k) h.value;
      parts = l.parts;
    }

-- ---- the post part, and what follows

pub record PostRead (text : List ℕ) (m o : Option ℕ) (ps : List LocalPart) : Type 0 where
  pub post_digits : Option (List ℕ)
  pub dev_digits : Option (List ℕ)
  pub body : List ℕ
  pub read : (e r : List ℕ) (p : Option (PreWord × List ℕ)) → post_spans e r p text
      ≡ Some (record { epoch = e; release = r; pre = p; post = post_digits; dev = dev_digits; local = body })
  pub post : option_map (value_from 0) post_digits ≡ m
  pub dev : option_map (value_from 0) dev_digits ≡ o
  pub parts : locals_of body ≡ ps

dev-left : (e r : List ℕ) (p : Option (PreWord × List ℕ)) (q : Option (List ℕ)) (text behind : List ℕ) → (behind ≡ text) ⊎ Skips text behind → dev_spans e r p q behind ≡ dev_spans e r p q text
dev-left e r p q text behind (inl same) = ap (dev_spans e r p q) same
dev-left e r p q text behind (inr s) = dev-skip e r p q s.separator behind s.is s.word ∙ ap (dev_spans e r p q) (sym s.whole)

post-part : (post tail : List ℕ) (m o : Option ℕ) (ps : List LocalPart) → IsPost post m → DevTail tail → DevRead tail o ps → PostRead (post ++ tail) m o ps
post-part post tail None o ps h t d =
    subst (λ (x : List ℕ). PostRead (x ++ tail) None o ps) (sym h) (record {
      post_digits = None;
      dev_digits = d.digits;
      body = d.body;
      read = λ e r p. rw (apart-no_implicit tail t.apart, t.no_post) (d.read e r p None);
      post = refl;
      dev = d.dev;
      parts = d.parts;
    })
post-part post tail (Some n) o ps (inl l) t d =
    let f = label-front post n tail l post-starts in
    let more = l.second ++ (l.digits ++ tail) in
    let b = behind l.second l.digits tail l.separates_more l.are_digits (opens-starts tail t.opens) (λ _. t.apart) in
    let word : post_word_at (after_separator (post ++ tail)) ≡ Some more =
    ap post_word_at f.word_at ∙ post-read l.word more l.says (behind-ends_word l.second l.digits tail l.separates_more l.are_digits t.opens) in
    record {
      post_digits = Some l.digits;
      dev_digits = d.digits;
      body = d.body;
      read = λ e r p. rw (apart-no_implicit (post ++ tail) f.apart, word) (ap (λ (x : List ℕ). dev_spans e r p (Some x) (number_behind more).1) b.number
          ∙ dev-left e r p (Some l.digits) tail (number_behind more).1 b.left ∙ d.read e r p (Some l.digits));
      post = ap (λ (k : ℕ). Some k) l.value;
      dev = d.dev;
      parts = d.parts;
    }
post-part post tail (Some n) o ps (inr (digits, whole, numeral)) t d =
    let r = digits-read digits tail numeral.digits (opens-starts tail t.opens) in
    subst (λ (x : List ℕ). PostRead (x ++ tail) (Some n) o ps) (sym whole) (record {
      post_digits = Some digits;
      dev_digits = d.digits;
      body = d.body;
      read = λ e k p. rw (digits-start digits tail numeral.some numeral.digits, r.0, r.1) (d.read e k p (Some digits));
      post = ap (λ (k : ℕ). Some k) numeral.value;
      dev = d.dev;
      parts = d.parts;
    })

-- ---- the pre part, and what follows

pub record PreRead (text : List ℕ) (w : Option Pre) (m o : Option ℕ) (ps : List LocalPart) : Type 0 where
  pub pre_digits : Option (PreWord × List ℕ)
  pub post_digits : Option (List ℕ)
  pub dev_digits : Option (List ℕ)
  pub body : List ℕ
  pub read : (e r : List ℕ) → post_spans e r (pre_at text).0 (pre_at text).1
      ≡ Some (record { epoch = e; release = r; pre = pre_digits; post = post_digits; dev = dev_digits; local = body })
  pub pre : option_map pre_of pre_digits ≡ w
  pub post : option_map (value_from 0) post_digits ≡ m
  pub dev : option_map (value_from 0) dev_digits ≡ o
  pub parts : locals_of body ≡ ps

post-left : (e r : List ℕ) (p : Option (PreWord × List ℕ)) (text behind : List ℕ) → (behind ≡ text) ⊎ Skips text behind → post_spans e r p behind ≡ post_spans e r p text
post-left e r p text behind (inl same) = ap (post_spans e r p) same
post-left e r p text behind (inr s) = post-skip e r p s.separator behind s.is s.word ∙ ap (post_spans e r p) (sym s.whole)

label-part : (kind : PreWord) (IsWord : List ℕ → Type 0) (pre tail : List ℕ) (n : ℕ) (m o : Option ℕ) (ps : List LocalPart)
    → ((word rest : List ℕ) → IsWord word → starts_word (word ++ rest) ≡ true)
    → ((word rest : List ℕ) → IsWord word → head_is ends_word rest ≡ true → pre_word_at (word ++ rest) ≡ Some (kind, rest))
    → IsPreLabel IsWord pre n tail → PostTail tail → PostRead tail m o ps → PreRead (pre ++ tail) (Some (pre_with kind n)) m o ps
label-part kind IsWord pre tail n m o ps starts reads h t d =
    let l = h.label in
    let f = label-front pre n tail l starts in
    let more = l.second ++ (l.digits ++ tail) in
    let b = behind l.second l.digits tail l.separates_more l.are_digits (opens-starts tail t.opens) (λ none. t.apart (h.own_digits none)) in
    let word : pre_word_at (after_separator (pre ++ tail)) ≡ Some (kind, more) =
    ap pre_word_at f.word_at ∙ reads l.word more l.says (behind-ends_word l.second l.digits tail l.separates_more l.are_digits t.opens) in
    record {
      pre_digits = Some (kind, l.digits);
      post_digits = d.post_digits;
      dev_digits = d.dev_digits;
      body = d.body;
      read = λ e r. rw word (ap (λ (x : List ℕ). post_spans e r (Some (kind, x)) (number_behind more).1) b.number
          ∙ post-left e r (Some (kind, l.digits)) tail (number_behind more).1 b.left ∙ d.read e r (Some (kind, l.digits)));
      pre = ap (λ (k : ℕ). Some (pre_with kind k)) l.value;
      post = d.post;
      dev = d.dev;
      parts = d.parts;
    }

pre-part : (pre tail : List ℕ) (w : Option Pre) (m o : Option ℕ) (ps : List LocalPart) → IsPre pre tail w → PostTail tail → PostRead tail m o ps → PreRead (pre ++ tail) w m o ps
pre-part pre tail None m o ps h t d =
    subst (λ (x : List ℕ). PreRead (x ++ tail) None m o ps) (sym h) (record {
      pre_digits = None;
      post_digits = d.post_digits;
      dev_digits = d.dev_digits;
      body = d.body;
      read = λ e r. rw t.no_pre (d.read e r None);
      pre = refl;
      post = d.post;
      dev = d.dev;
      parts = d.parts;
    })
pre-part pre tail (Some (pres.Alpha n)) m o ps h t d = label-part words.Alpha IsAlphaWord pre tail n m o ps alpha-starts alpha-read h t d
pre-part pre tail (Some (pres.Beta n)) m o ps h t d = label-part words.Beta IsBetaWord pre tail n m o ps beta-starts beta-read h t d
pre-part pre tail (Some (pres.Candidate n)) m o ps h t d = label-part words.Candidate IsCandidateWord pre tail n m o ps candidate-starts candidate-read h t d

-- all that follows the release
pub tail-part : (pre post dev local : List ℕ) (w : Option Pre) (m o : Option ℕ) (ps : List LocalPart) → IsPre pre (post ++ (dev ++ local)) w → IsPost post m → IsDev dev o → IsLocal local ps
    → PreRead (pre ++ (post ++ (dev ++ local))) w m o ps
tail-part pre post dev local w m o ps a b c d =
    let dt = dev-tail dev local o ps c d in
    pre-part pre (post ++ (dev ++ local)) w m o ps a (post-tail post (dev ++ local) m b dt) (post-part post (dev ++ local) m o ps b dt (dev-part dev local o ps c d))

-- what stands behind the release
pub record ReleaseTail (text : List ℕ) : Type 0 where
  pub opens : head_is opens text ≡ true
  pub no_dot : starts_dot_digit text ≡ false

release-label : {IsWord : List ℕ → Type 0} (pre tail : List ℕ) (n : ℕ) → IsLabelled IsWord pre n → ((word rest : List ℕ) → IsWord word → starts_word (word ++ rest) ≡ true) → ReleaseTail (pre ++ tail)
release-label pre tail n l starts = let f = label-front pre n tail l starts in record { opens = f.opens; no_dot = apart-no_dot (pre ++ tail) f.apart }

pub release-tail : (pre post dev local : List ℕ) (w : Option Pre) (m o : Option ℕ) (ps : List LocalPart) → IsPre pre (post ++ (dev ++ local)) w → IsPost post m → IsDev dev o → IsLocal local ps
    → ReleaseTail (pre ++ (post ++ (dev ++ local)))
release-tail pre post dev local None m o ps a b c d =
    let t = post-tail post (dev ++ local) m b (dev-tail dev local o ps c d) in
    subst (λ (x : List ℕ). ReleaseTail (x ++ (post ++ (dev ++ local)))) (sym a) (record { opens = t.opens; no_dot = t.no_dot })
release-tail pre post dev local (Some (pres.Alpha n)) m o ps a b c d = release-label pre (post ++ (dev ++ local)) n a.label alpha-starts
release-tail pre post dev local (Some (pres.Beta n)) m o ps a b c d = release-label pre (post ++ (dev ++ local)) n a.label beta-starts
release-tail pre post dev local (Some (pres.Candidate n)) m o ps a b c d = release-label pre (post ++ (dev ++ local)) n a.label candidate-starts
