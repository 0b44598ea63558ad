-- What is read is in the grammar.
use Rattle.std.proofs.Common.{◌≡◌, ℕ, ◌+◌, ◌-◌, ◌*◌, ◌<◌, Bool, true, false, eqb, ◌&&◌, ◌⊎◌, List, [], ◌∷◌, ◌++◌, length, Option, Some, None, refl, sym, ap, subst, ◌∙◌, arith, inl, inr, append_assoc, length-append}
use Rattle.std.specs.Char.{is_ascii_alphanumeric, is_ascii_digit, to_ascii_lowercase}
use Rattle.std.specs.List.{list_all}
use Rattle.std.specs.Option.{option_map}
use Rattle.std.specs.Prelude.{codes}
use Rattle.std.specs.Cmp.{first_so, second_so}
use Rattle.std.proofs.lemmas.Bool.{cases_Bool}
use Rattle.std.proofs.lemmas.List.{append-nil}
use Rattle.pep440.specs.declared.parts.LocalPart.{LocalPart}
use Rattle.pep440.specs.declared.words.PreWord.{PreWord}
use Rattle.pep440.specs.declared.words.PreWord.TheVariants as words
use Rattle.pep440.specs.Grammar.{IsAlphaWord, IsBetaWord, IsCandidateWord, IsDev, IsDevWord, IsEpoch, IsLabelled, IsLead, IsLocal, IsLocalPart, IsLocalParts, IsNumeral, IsPost, IsPostWord, IsPre, IsRelease, IsVersionText, is_separator, starts_number, value_from}
use Rattle.pep440.specs.Tied.Reading.{Spans, after_digits, after_lead, after_release, after_separator, dev_at, digits_of, epoch_at, epoch_end, goes_on, is_implicit, is_local_from, label_at, local_at, locals_from, locals_of, number_behind, numbers_from, part_of, parts_in, post_at, post_spans, post_word_at, pre_at, pre_label_at, pre_of, pre_word_at, release_of, spans_of, spans_with, starts_digit, strip_word}
use Rattle.pep440.proofs.HeadFacts.{are_digits, digit-no_dot}
use Rattle.pep440.proofs.CutFacts.{SaysPre, WordCut, chosen, digits-cut, eqb-is, post-word_cut, pre-word_cut, separator-cut, some-is, strip-cut}

-- ---- labelled parts

record LabelCut (IsWord : List ℕ → Type 0) (text tail : List ℕ) : Type 0 where
  part : List ℕ
  whole : text ≡ part ++ (number_behind tail).1
  label : IsLabelled IsWord part (value_from 0 (number_behind tail).0)
  own_digits : label.second ++ label.digits ≡ [] → starts_number (number_behind tail).1 ≡ false

nil-parts : (a b : List ℕ) → a ++ b ≡ [] → (a ≡ []) × (b ≡ [])
nil-parts [] b h = (refl, h)
nil-parts (x ∷ a) b h = absurd cc

label-cut : (IsWord : List ℕ → Type 0) (text tail : List ℕ) → WordCut IsWord (after_separator text) tail → LabelCut IsWord text tail
label-cut IsWord text tail w =
    let a = separator-cut text in
    let b = separator-cut tail in
    let d = digits-cut (after_separator tail) in
    let digits = digits_of (after_separator tail) in
    let left = after_digits (after_separator tail) in
    let part = a.sep ++ (w.word ++ (b.sep ++ digits)) in
    let tail_is : tail ≡ b.sep ++ (digits ++ left) = b.whole ∙ ap (λ (t : List ℕ). b.sep ++ t) d.whole in
    let whole : text ≡ part ++ left =
    a.whole ∙ ap (λ (t : List ℕ). a.sep ++ t) (w.whole ∙ ap (λ (t : List ℕ). w.word ++ t) (tail_is ∙ sym (append_assoc b.sep digits left)) ∙ sym (append_assoc w.word (b.sep ++ digits) left))
    ∙ sym (append_assoc a.sep (w.word ++ (b.sep ++ digits)) left) in
    record {
      part = part;
      whole = whole;
      label = record { first = a.sep; word = w.word; second = b.sep; digits = digits; whole = refl; separates = a.separates; says = w.says; separates_more = b.separates; are_digits = d.digits; value = refl };
      own_digits = λ none.
          let n = nil-parts b.sep digits none in
          let same : tail ≡ left = tail_is ∙ (λ i. n.0 i ++ (n.1 i ++ left)) in
          ap starts_number (sym same) ∙ b.none n.0;
    }

record PreSound (text : List ℕ) (p : Option (PreWord × List ℕ) × List ℕ) : Type 0 where
  part : List ℕ
  whole : text ≡ part ++ p.1
  is : IsPre part p.1 (option_map pre_of p.0)

pre-label : (kind : PreWord) (text tail : List ℕ) → WordCut (SaysPre kind) (after_separator text) tail → PreSound text (Some (kind, (number_behind tail).0), (number_behind tail).1)
pre-label words.Alpha text tail w = let l = label-cut IsAlphaWord text tail w in record { part = l.part; whole = l.whole; is = record { label = l.label; own_digits = l.own_digits } }
pre-label words.Beta text tail w = let l = label-cut IsBetaWord text tail w in record { part = l.part; whole = l.whole; is = record { label = l.label; own_digits = l.own_digits } }
pre-label words.Candidate text tail w = let l = label-cut IsCandidateWord text tail w in record { part = l.part; whole = l.whole; is = record { label = l.label; own_digits = l.own_digits } }

pre-sound_by : (o : Option (PreWord × List ℕ)) (text : List ℕ) → pre_word_at (after_separator text) ≡ o → PreSound text (pre_label_at o text)
pre-sound_by None text h = record { part = []; whole = refl; is = refl }
pre-sound_by (Some p) text h = pre-label p.0 text p.1 (pre-word_cut (after_separator text) p h)

pre-sound : (text : List ℕ) → PreSound text (pre_at text)
pre-sound text = pre-sound_by (pre_word_at (after_separator text)) text refl

record PostSound (text : List ℕ) (p : Option (List ℕ) × List ℕ) : Type 0 where
  part : List ℕ
  whole : text ≡ part ++ p.1
  is : IsPost part (option_map (value_from 0) p.0)

post-sound_by : (o : Option (List ℕ)) (text : List ℕ) → post_word_at (after_separator text) ≡ o → PostSound text (label_at o text)
post-sound_by None text h = record { part = []; whole = refl; is = refl }
post-sound_by (Some rest) text h =
    let l = label-cut IsPostWord text rest (post-word_cut (after_separator text) rest h) in
    record { part = l.part; whole = l.whole; is = inl l.label }

some-digits_of : (text : List ℕ) → starts_digit text ≡ true → 0 < length (digits_of text)
some-digits_of [] h = absurd cc
some-digits_of (b ∷ rest) h = rw h (omega arith)

implicit-sound : (text : List ℕ) → is_implicit text ≡ true → PostSound text (label_at (Some text) text)
implicit-sound [] h = absurd cc
implicit-sound (b ∷ rest) h =
    let minus = eqb-is b 45 (first_so (eqb b 45) (starts_digit rest) h) in
    let digit = second_so (eqb b 45) (starts_digit rest) h in
    let d = digits-cut rest in
    let skip : after_separator (b ∷ rest) ≡ rest = rw minus refl in
    let made : PostSound (45 ∷ rest) (Some (digits_of rest), after_digits rest) = record {
      part = 45 ∷ digits_of rest;
      whole = ap (λ (t : List ℕ). 45 ∷ t) d.whole;
      is = inr (digits_of rest, refl, record { some = some-digits_of rest digit; digits = d.digits; value = refl });
    } in
    rw (skip, minus) made

post-sound : (text : List ℕ) → PostSound text (post_at text)
post-sound text = elim (cases_Bool (is_implicit text)) [
  | inl good ↦ rw good (implicit-sound text good)
  | inr bad ↦ rw bad (post-sound_by (post_word_at (after_separator text)) text refl)
]

record DevSound (text : List ℕ) (p : Option (List ℕ) × List ℕ) : Type 0 where
  part : List ℕ
  whole : text ≡ part ++ p.1
  is : IsDev part (option_map (value_from 0) p.0)

dev-sound_by : (o : Option (List ℕ)) (text : List ℕ) → strip_word (codes "dev") (after_separator text) ≡ o → DevSound text (label_at o text)
dev-sound_by None text h = record { part = []; whole = refl; is = refl }
dev-sound_by (Some rest) text h =
    let w = strip-cut (codes "dev") (after_separator text) rest h in
    let l = label-cut IsDevWord text rest (record { word = w.word; whole = w.whole; says = w.says }) in
    record { part = l.part; whole = l.whole; is = l.label }

dev-sound : (text : List ℕ) → DevSound text (dev_at text)
dev-sound text = dev-sound_by (strip_word (codes "dev") (after_separator text)) text refl

-- ---- local parts

IsLocalParts-more : (p : LocalPart) (ps : List LocalPart) (first : List ℕ) (s : ℕ) (rest : List ℕ) → is_separator s ≡ true → IsLocalPart first p → IsLocalParts rest ps → IsLocalParts (first ++ s ∷ rest) (p ∷ ps)
IsLocalParts-more p [] first s rest is one h = absurd h
IsLocalParts-more p (q ∷ ps) first s rest is one h = (first, s, rest, refl, is, one, h)

part-is : (text : List ℕ) → 0 < length text → list_all is_ascii_alphanumeric text ≡ true → IsLocalPart text (part_of text)
part-is text some bytes = elim (cases_Bool (list_all is_ascii_digit text)) [
  | inl digits ↦ rw digits (record { some = some; digits = digits; value = refl })
  | inr letters ↦ rw letters (bytes, letters, refl)
]

bytes-append : (front : List ℕ) (b : ℕ) → list_all is_ascii_alphanumeric front ≡ true → is_ascii_alphanumeric b ≡ true → list_all is_ascii_alphanumeric (front ++ b ∷ []) ≡ true
bytes-append [] b h g = rw g refl
bytes-append (a ∷ front) b h g =
    rw (first_so (is_ascii_alphanumeric a) (list_all is_ascii_alphanumeric front) h, bytes-append front b (second_so (is_ascii_alphanumeric a) (list_all is_ascii_alphanumeric front) h) g) refl

locals-sound : (some : Bool) (front text : List ℕ) → (some ≡ true → 0 < length front) → list_all is_ascii_alphanumeric front ≡ true → is_local_from some text ≡ true → IsLocalParts (front ++ text) (locals_from front text)
locals-sound some front [] long bytes h = subst (λ (t : List ℕ). IsLocalPart t (part_of front)) (sym (append-nil front)) (part-is front (long h) bytes)
locals-sound some front (b ∷ rest) long bytes h = elim (cases_Bool (is_separator b)) [
  | inl cut ↦
      let g : (some && is_local_from false rest) ≡ true = rw cut at h in
      let ih = locals-sound false [] rest (λ e. absurd cc) refl (second_so some (is_local_from false rest) g) in
      rw cut (IsLocalParts-more (part_of front) (locals_from [] rest) front b rest cut (part-is front (long (first_so some (is_local_from false rest) g)) bytes) ih)
  | inr other ↦
      let g : (is_ascii_alphanumeric b && is_local_from true rest) ≡ true = rw other at h in
      let one = first_so (is_ascii_alphanumeric b) (is_local_from true rest) g in
      let ih = locals-sound true (front ++ b ∷ []) rest (λ _. omega (arith, length-append front (b ∷ []))) (bytes-append front b bytes one) (second_so (is_ascii_alphanumeric b) (is_local_from true rest) g) in
      rw other (subst (λ (t : List ℕ). IsLocalParts t (locals_from (front ++ b ∷ []) rest)) (append_assoc front (b ∷ []) rest) ih)
]

IsLocal-parts : (ps : List LocalPart) (body : List ℕ) → IsLocalParts body ps → IsLocal (43 ∷ body) ps
IsLocal-parts [] body h = absurd h
IsLocal-parts (p ∷ ps) body h = (body, refl, h)

body-sound : (body : List ℕ) → is_local_from false body ≡ true → IsLocal (43 ∷ body) (locals_of body)
body-sound [] h = absurd cc
body-sound (b ∷ rest) h = IsLocal-parts (locals_from [] (b ∷ rest)) (b ∷ rest) (locals-sound false [] (b ∷ rest) (λ e. absurd cc) refl h)

local-sound : (text body : List ℕ) → local_at text ≡ Some body → IsLocal text (locals_of body)
local-sound [] body h = let e : [] ≡ body = cc in subst (λ (t : List ℕ). IsLocal [] (locals_of t)) e refl
local-sound (b ∷ rest) body h = elim (chosen (eqb b 43 && is_local_from false rest) (Some rest) None (Some body) h) [
  | inl x ↦
      let plus = eqb-is b 43 (first_so (eqb b 43) (is_local_from false rest) x.0) in
      let made = body-sound rest (second_so (eqb b 43) (is_local_from false rest) x.0) in
      rw plus (subst (λ (t : List ℕ). IsLocal (43 ∷ rest) (locals_of t)) (some-is rest body x.1) made)
  | inr x ↦ absurd (let bad = x.1 in cc)
]

-- ---- the release, the epoch and the lead

are_digits-append : (ds es : List ℕ) → are_digits ds ≡ true → are_digits es ≡ true → are_digits (ds ++ es) ≡ true
are_digits-append [] es h g = g
are_digits-append (d ∷ ds) es h g =
    rw (first_so (is_ascii_digit d) (are_digits ds) h, are_digits-append ds es (second_so (is_ascii_digit d) (are_digits ds) h) g) refl

value_from-append : (n : ℕ) (ds es : List ℕ) → value_from n (ds ++ es) ≡ value_from (value_from n ds) es
value_from-append n [] es = refl
value_from-append n (d ∷ ds) es = value_from-append (n * 10 + (d - 48)) ds es

IsRelease-more : (n : ℕ) (ns first rest : List ℕ) → IsNumeral first n → IsRelease rest ns → IsRelease (first ++ 46 ∷ rest) (n ∷ ns)
IsRelease-more n [] first rest one h = absurd h
IsRelease-more n (m ∷ ns) first rest one h = (first, rest, refl, one, h)

front-release : (front : List ℕ) → 0 < length front → are_digits front ≡ true → IsRelease (front ++ []) (value_from 0 front ∷ [])
front-release front some digits = subst (λ (t : List ℕ). IsNumeral t (value_from 0 front)) (sym (append-nil front)) (record { some = some; digits = digits; value = refl })

nonempty : (front rest : List ℕ) (b : ℕ) → (0 < length front) ⊎ (is_ascii_digit b ≡ true) → is_ascii_digit b ≡ false → 0 < length front
nonempty front rest b (inl some) bad = some
nonempty front rest b (inr digit) bad = absurd cc

release-sound : (front text : List ℕ) → are_digits front ≡ true → (0 < length front) ⊎ (starts_digit text ≡ true) → IsRelease (front ++ release_of text) (numbers_from (value_from 0 front) (release_of text))
release-sound front [] digits (inl some) = front-release front some digits
release-sound front [] digits (inr starts) = absurd cc
release-sound front (b ∷ rest) digits ready = elim (cases_Bool (is_ascii_digit b)) [
  | inl digit ↦
      let more : are_digits (front ++ b ∷ []) ≡ true = are_digits-append front (b ∷ []) digits (rw digit refl) in
      let ih = release-sound (front ++ b ∷ []) rest more (inl (omega (arith, length-append front (b ∷ [])))) in
      let made : IsRelease (front ++ b ∷ release_of rest) (numbers_from (value_from 0 (front ++ b ∷ [])) (release_of rest)) =
      subst (λ (t : List ℕ). IsRelease t (numbers_from (value_from 0 (front ++ b ∷ [])) (release_of rest))) (append_assoc front (b ∷ []) (release_of rest)) ih in
      rw digit (rw (digit-no_dot b digit) (subst (λ (k : ℕ). IsRelease (front ++ b ∷ release_of rest) (numbers_from k (release_of rest))) (value_from-append 0 front (b ∷ [])) made))
  | inr other ↦ elim (cases_Bool (eqb b 46 && starts_digit rest)) [
    | inl dot ↦
        let is_dot = first_so (eqb b 46) (starts_digit rest) dot in
        let some = nonempty front rest b ready other in
        let ih = release-sound [] rest refl (inr (second_so (eqb b 46) (starts_digit rest) dot)) in
        let made = IsRelease-more (value_from 0 front) (numbers_from 0 (release_of rest)) front (release_of rest) (record { some = some; digits = digits; value = refl }) ih in
        rw (other, dot) (rw is_dot (subst (λ (k : ℕ). IsRelease (front ++ k ∷ release_of rest) (value_from 0 front ∷ numbers_from 0 (release_of rest))) (sym (eqb-is b 46 is_dot)) made))
    | inr end ↦ rw (other, end) (front-release front (nonempty front rest b ready other) digits)
  ]
]

release-cut : (text : List ℕ) → text ≡ release_of text ++ after_release text
release-cut [] = refl
release-cut (b ∷ rest) = elim (cases_Bool (goes_on b rest)) [
  | inl on ↦ rw on (ap (λ (t : List ℕ). b ∷ t) (release-cut rest))
  | inr end ↦ rw end refl
]

record LeadSound (text : List ℕ) : Type 0 where
  part : List ℕ
  whole : text ≡ part ++ after_lead text
  is : IsLead part

lead-sound : (text : List ℕ) → LeadSound text
lead-sound [] = record { part = []; whole = refl; is = inl refl }
lead-sound (b ∷ rest) = elim (cases_Bool (eqb (to_ascii_lowercase b) 118)) [
  | inl v ↦ record { part = b ∷ []; whole = rw v refl; is = inr (ap (λ (k : ℕ). k ∷ []) (eqb-is (to_ascii_lowercase b) 118 v)) }
  | inr other ↦ record { part = []; whole = rw other refl; is = inl refl }
]

record EpochSound (text : List ℕ) (p : List ℕ × List ℕ) : Type 0 where
  part : List ℕ
  whole : text ≡ part ++ p.1
  is : IsEpoch part (value_from 0 p.0)

epoch-none : (text : List ℕ) → EpochSound text ([], text)
epoch-none text = record { part = []; whole = refl; is = inl (refl, refl) }

epoch-sound_by : (text digits after : List ℕ) → text ≡ digits ++ after → 0 < length digits → are_digits digits ≡ true → EpochSound text (epoch_end text digits after)
epoch-sound_by text digits [] whole some all = epoch-none text
epoch-sound_by text digits (b ∷ rest) whole some all = elim (cases_Bool (eqb b 33)) [
  | inl bang ↦
      let e = eqb-is b 33 bang in
      rw bang (record {
        part = digits ++ 33 ∷ [];
        whole = whole ∙ ap (λ (k : ℕ). digits ++ k ∷ rest) e ∙ sym (append_assoc digits (33 ∷ []) rest);
        is = inr (digits, refl, record { some = some; digits = all; value = refl });
      })
  | inr other ↦ rw other (epoch-none text)
]

epoch-sound : (text : List ℕ) → EpochSound text (epoch_at text)
epoch-sound text = elim (cases_Bool (starts_digit text)) [
  | inl good ↦ let d = digits-cut text in rw good (epoch-sound_by text (digits_of text) (after_digits text) d.whole (some-digits_of text good) d.digits)
  | inr bad ↦ rw bad (epoch-none text)
]

-- ---- the whole

spans-some : (e r : List ℕ) (p : Option (PreWord × List ℕ)) (q d l : Option (List ℕ)) (s : Spans) → spans_with e r p q d l ≡ Some s
    → (body : List ℕ) × (l ≡ Some body) × (record { epoch = e; release = r; pre = p; post = q; dev = d; local = body } ≡ s)
spans-some e r p q d None s h = absurd cc
spans-some e r p q d (Some body) s h = (body, refl, some-is _ s h)

-- what is read is in the grammar
pub read-spells : (text : List ℕ) (s : Spans) → spans_of text ≡ Some s → IsVersionText text (parts_in s)
unfolding spans_of
read-spells text s h =
    let l = lead-sound text in
    let e = epoch-sound (after_lead text) in
    let digits = (epoch_at (after_lead text)).0 in
    let x = (epoch_at (after_lead text)).1 in
    elim (chosen (starts_digit x) (post_spans digits (release_of x) (pre_at (after_release x)).0 (pre_at (after_release x)).1) None (Some s) h) [
      | inr bad ↦ absurd (let e = bad.1 in cc)
      | inl good ↦
          let a = pre-sound (after_release x) in
          let b = post-sound (pre_at (after_release x)).1 in
          let y = (post_at (pre_at (after_release x)).1).1 in
          let c = dev-sound y in
          let found = spans-some digits (release_of x) (pre_at (after_release x)).0 (post_at (pre_at (after_release x)).1).0 (dev_at y).0 (local_at (dev_at y).1) s good.1 in
          let d = local-sound (dev_at y).1 found.0 found.1 in
          let post_whole : (pre_at (after_release x)).1 ≡ b.part ++ (c.part ++ (dev_at y).1) = b.whole ∙ ap (λ (t : List ℕ). b.part ++ t) c.whole in
          let tail : after_release x ≡ a.part ++ (b.part ++ (c.part ++ (dev_at y).1)) = a.whole ∙ ap (λ (t : List ℕ). a.part ++ t) post_whole in
          let pre_is : IsPre a.part (b.part ++ (c.part ++ (dev_at y).1)) (option_map pre_of (pre_at (after_release x)).0) =
          subst (λ (t : List ℕ). IsPre a.part t (option_map pre_of (pre_at (after_release x)).0)) post_whole a.is in
          subst (λ (r : Spans). IsVersionText text (parts_in r)) found.2 (record {
            lead = l.part;
            epoch = e.part;
            release = release_of x;
            pre = a.part;
            post = b.part;
            dev = c.part;
            local = (dev_at y).1;
            whole = l.whole ∙ ap (λ (t : List ℕ). l.part ++ t) (e.whole ∙ ap (λ (t : List ℕ). e.part ++ t) (release-cut x ∙ ap (λ (t : List ℕ). release_of x ++ t) tail));
            is_lead = l.is;
            is_epoch = e.is;
            is_release = release-sound [] x refl (inr good.0);
            is_pre = pre_is;
            is_post = b.is;
            is_dev = c.is;
            is_local = d;
          })
    ]
