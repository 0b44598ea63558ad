-- What the grammar spells is read: the lead, the epoch and the release, and so the whole.
use Rattle.std.proofs.Common.{◌≡◌, ℕ, ◌+◌, ◌-◌, ◌*◌, Bool, true, false, eqb, ◌||◌, List, [], ◌∷◌, ◌++◌, map, Some, refl, sym, ap, ◌∙◌, inl, inr, append_assoc}
use Rattle.std.specs.Char.{is_ascii_digit, to_ascii_lowercase}
use Rattle.std.specs.Option.{option_map}
use Rattle.std.specs.Prelude.{codes}
use Rattle.std.specs.Cmp.{first_so, second_so}
use Rattle.std.proofs.lemmas.List.{append-nil}
use Rattle.pep440.specs.Version.{VersionParts}
use Rattle.pep440.specs.Grammar.{IsEpoch, IsLead, IsRelease, IsVersionText, value_from}
use Rattle.pep440.specs.Tied.Reading.{Spans, after_digits, after_lead, after_release, bare_parts, digits_of, epoch_at, epoch_end, numbers_from, parts_in, release_of, release_spans, spans_of, starts_digit}
use Rattle.pep440.proofs.HeadFacts.{are_digits, digit-no_dot, digit-no_lead, head_is, opens, opens-no_bang, opens-no_digit}
use Rattle.pep440.proofs.NumbersBehindWords.{digits-read, opens-starts}
use Rattle.pep440.proofs.TailsOfParts.{digits-start}
use Rattle.pep440.proofs.SpelledIsRead.{ReleaseTail, release-tail, tail-part}

release-run : (ds rest : List ℕ) → are_digits ds ≡ true → (release_of (ds ++ rest) ≡ ds ++ release_of rest) × (after_release (ds ++ rest) ≡ after_release rest)
release-run [] rest h = (refl, refl)
release-run (d ∷ ds) rest h =
    let one = first_so (is_ascii_digit d) (are_digits ds) h in
    let r = release-run ds rest (second_so (is_ascii_digit d) (are_digits ds) h) in
    (rw (one, r.0) refl, rw one r.1)

release-end : (text : List ℕ) → ReleaseTail text → (release_of text ≡ []) × (after_release text ≡ text)
release-end [] t = (refl, refl)
release-end (b ∷ rest) t =
    let no = opens-no_digit b t.opens in
    let no_dot = t.no_dot in
    (rw (no, no_dot) refl, rw (no, no_dot) refl)

digits-numbers : (n : ℕ) (ds rest : List ℕ) → are_digits ds ≡ true → numbers_from n (ds ++ rest) ≡ numbers_from (value_from n ds) rest
digits-numbers n [] rest h = refl
digits-numbers n (d ∷ ds) rest h =
    rw (digit-no_dot d (first_so (is_ascii_digit d) (are_digits ds) h)) (digits-numbers (n * 10 + (d - 48)) ds rest (second_so (is_ascii_digit d) (are_digits ds) h))

-- a release with what stands behind it
record Released (text rest ns : List ℕ) : Type 0 where
  release : release_of (text ++ rest) ≡ text
  after : after_release (text ++ rest) ≡ rest
  numbers : numbers_from 0 text ≡ ns
  starts : starts_digit (text ++ rest) ≡ true
  no_epoch : (whole digits : List ℕ) → epoch_end whole digits (after_digits (text ++ rest)) ≡ ([], whole)

no_bang : (text whole digits : List ℕ) → head_is opens text ≡ true → epoch_end whole digits text ≡ ([], whole)
no_bang [] whole digits h = refl
no_bang (b ∷ rest) whole digits h = rw (opens-no_bang b h) refl

released : (ns text rest : List ℕ) → IsRelease text ns → ReleaseTail rest → Released text rest ns
released [] text rest h t = absurd h
released (n ∷ []) text rest h t =
    let r = release-run text rest h.digits in
    let e = release-end rest t in
    let d = digits-read text rest h.digits (opens-starts rest t.opens) in
    record {
      release = r.0 ∙ ap (λ (x : List ℕ). text ++ x) e.0 ∙ append-nil text;
      after = r.1 ∙ e.1;
      numbers = ap (numbers_from 0) (sym (append-nil text)) ∙ digits-numbers 0 text [] h.digits ∙ ap (λ k. k ∷ []) h.value;
      starts = digits-start text rest h.some h.digits;
      no_epoch = λ whole digits. ap (epoch_end whole digits) d.1 ∙ no_bang rest whole digits t.opens;
    }
released (n ∷ m ∷ ns) text rest (first, more, cut, one, others) t =
    let ih = released (m ∷ ns) more rest others t in
    let split : text ++ rest ≡ first ++ (46 ∷ (more ++ rest)) = ap (λ (x : List ℕ). x ++ rest) cut ∙ append_assoc first (46 ∷ more) rest in
    let r = release-run first (46 ∷ (more ++ rest)) one.digits in
    let d = digits-read first (46 ∷ (more ++ rest)) one.digits refl in
    record {
      release = ap release_of split ∙ r.0 ∙ rw (ih.starts, ih.release) (sym cut);
      after = ap after_release split ∙ r.1 ∙ rw ih.starts ih.after;
      numbers = ap (numbers_from 0) cut ∙ digits-numbers 0 first (46 ∷ more) one.digits ∙ rw (one.value, ih.numbers) refl;
      starts = ap starts_digit split ∙ digits-start first (46 ∷ (more ++ rest)) one.some one.digits;
      no_epoch = λ whole digits. ap (λ (x : List ℕ). epoch_end whole digits (after_digits x)) split ∙ ap (epoch_end whole digits) d.1;
    }

-- the epoch before a release
record EpochRead (text rest : List ℕ) (n : ℕ) : Type 0 where
  digits : List ℕ
  read : epoch_at (text ++ rest) ≡ (digits, rest)
  value : value_from 0 digits ≡ n
  starts : starts_digit (text ++ rest) ≡ true

epoch-read : (epoch release rest ns : List ℕ) (n : ℕ) → IsEpoch epoch n → Released release rest ns → EpochRead epoch (release ++ rest) n
epoch-read epoch release rest ns n (inl p) r =
    let none : epoch ++ (release ++ rest) ≡ release ++ rest = ap (λ (x : List ℕ). x ++ (release ++ rest)) p.0 in
    record {
      digits = [];
      read = ap epoch_at none ∙ rw r.starts (r.no_epoch (release ++ rest) (digits_of (release ++ rest)));
      value = sym p.1;
      starts = ap starts_digit none ∙ r.starts;
    }
epoch-read epoch release rest ns n (inr (digits, whole, numeral)) r =
    let some : epoch ++ (release ++ rest) ≡ digits ++ (33 ∷ (release ++ rest)) = ap (λ (x : List ℕ). x ++ (release ++ rest)) whole ∙ append_assoc digits (33 ∷ []) (release ++ rest) in
    let d = digits-read digits (33 ∷ (release ++ rest)) numeral.digits refl in
    let s = digits-start digits (33 ∷ (release ++ rest)) numeral.some numeral.digits in
    record {
      digits = digits;
      read = ap epoch_at some ∙ rw (s, d.0, d.1) refl;
      value = numeral.value;
      starts = ap starts_digit some ∙ s;
    }

lead-read : (lead rest : List ℕ) → IsLead lead → starts_digit rest ≡ true → after_lead (lead ++ rest) ≡ rest
lead-read lead [] h s = absurd cc
lead-read lead (d ∷ rest) (inl none) s = ap (λ (x : List ℕ). after_lead (x ++ (d ∷ rest))) none ∙ rw (digit-no_lead d s) refl
lead-read [] rest (inr says) s = absurd (let no : [] ≡ codes "v" = says in cc)
lead-read (b ∷ []) rest (inr says) s = let e : to_ascii_lowercase b ≡ 118 = cc in rw e refl
lead-read (b ∷ c ∷ more) rest (inr says) s = absurd (let no : (to_ascii_lowercase b ∷ map to_ascii_lowercase (c ∷ more)) ≡ codes "v" = says in cc)

-- ---- the whole

-- what the grammar spells is read
pub spells-read : (text : List ℕ) (v : VersionParts) → IsVersionText text v → bare_parts text ≡ Some v
unfolding spans_of
spells-read text v h =
    let tail = h.pre ++ (h.post ++ (h.dev ++ h.local)) in
    let t = release-tail h.pre h.post h.dev h.local v.pre v.post v.dev v.local h.is_pre h.is_post h.is_dev h.is_local in
    let r = released v.release h.release tail h.is_release t in
    let e = epoch-read h.epoch h.release tail v.release v.epoch h.is_epoch r in
    let p = tail-part h.pre h.post h.dev h.local v.pre v.post v.dev v.local h.is_pre h.is_post h.is_dev h.is_local in
    let lead : after_lead text ≡ h.epoch ++ (h.release ++ tail) = ap after_lead h.whole ∙ lead-read h.lead (h.epoch ++ (h.release ++ tail)) h.is_lead e.starts in
    let cut : epoch_at (after_lead text) ≡ (e.digits, h.release ++ tail) = ap epoch_at lead ∙ e.read in
    let s : Spans = record { epoch = e.digits; release = h.release; pre = p.pre_digits; post = p.post_digits; dev = p.dev_digits; local = p.body } in
    let read : release_spans e.digits (h.release ++ tail) ≡ Some s = rw (r.starts, r.release, r.after) (p.read e.digits h.release) in
    let spans : spans_of text ≡ Some s = ap (λ (c : List ℕ × List ℕ). release_spans c.0 c.1) cut ∙ read in
    ap (option_map parts_in) spans
    ∙ (λ i. Some (record { epoch = e.value i; release = r.numbers i; pre = p.pre i; post = p.post i; dev = p.dev i; local = p.parts i }))

-- a version begins with a digit or a `v`
abbrev pub is_start : ℕ → Bool
is_start b = is_ascii_digit b || eqb (to_ascii_lowercase b) 118

abbrev pub starts_version : List ℕ → Bool
starts_version [] = false
starts_version (b ∷ rest) = is_start b

digit-start : (text : List ℕ) → starts_digit text ≡ true → starts_version text ≡ true
digit-start [] h = absurd cc
digit-start (b ∷ rest) h = rw h refl

lead-start : (lead rest : List ℕ) → IsLead lead → starts_digit rest ≡ true → starts_version (lead ++ rest) ≡ true
lead-start lead rest (inl none) s = ap (λ (x : List ℕ). starts_version (x ++ rest)) none ∙ digit-start rest s
lead-start [] rest (inr says) s = digit-start rest s
lead-start (b ∷ lead) rest (inr says) s = let e : to_ascii_lowercase b ≡ 118 = cc in or-true (is_ascii_digit b) (eqb (to_ascii_lowercase b) 118) (rw e refl)
  where
    or-true : (a b : Bool) → b ≡ true → (a || b) ≡ true
    or-true true b h = refl
    or-true false b h = h

pub version-start : (text : List ℕ) (v : VersionParts) → IsVersionText text v → starts_version text ≡ true
version-start text v h =
    let tail = h.pre ++ (h.post ++ (h.dev ++ h.local)) in
    let t = release-tail h.pre h.post h.dev h.local v.pre v.post v.dev v.local h.is_pre h.is_post h.is_dev h.is_local in
    let r = released v.release h.release tail h.is_release t in
    let e = epoch-read h.epoch h.release tail v.release v.epoch h.is_epoch r in
    ap starts_version h.whole ∙ lead-start h.lead (h.epoch ++ (h.release ++ tail)) h.is_lead e.starts
