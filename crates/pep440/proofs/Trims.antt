-- White space around a version.
use Rattle.std.proofs.Common.{◌≡◌, ℕ, ◌<◌, Bool, true, false, not, ◌&&◌, List, [], ◌∷◌, ◌++◌, length, Option, Some, None, refl, ap, subst, ◌∙◌, arith, inl, inr}
use Rattle.std.specs.List.{list_all}
use Rattle.std.specs.Option.{option_map}
use Rattle.std.specs.Cmp.{first_so, second_so}
use Rattle.std.proofs.lemmas.Bool.{cases_Bool}
use Rattle.std.proofs.lemmas.Bool.Decides.{nat_tests}
use Rattle.pep440.specs.Version.{VersionParts}
use Rattle.pep440.specs.Grammar.{IsVersionText, Spells, is_space}
use Rattle.pep440.specs.Text.{trim_end, trim_front}
use Rattle.pep440.specs.Tied.Reading.{Spans, parts_of, trim_space, bare_parts, parts_in, spans_of}
use Rattle.pep440.proofs.ByteFacts.{Covers, version-pass}
use Rattle.pep440.proofs.ReleaseReads.{spells-read}
use Rattle.pep440.proofs.ReadIsSpelled.{read-spells}

abbrev clear : List ℕ → Bool
clear text = list_all (λ b. not (is_space b)) text

no_space : Covers (λ b. not (is_space b))
no_space = record {
  byte = λ b h. grind (arith, nat_tests);
  separator = λ b h. grind (arith, nat_tests);
  lower = λ b. grind (arith, nat_tests);
  bang = refl;
  plus = refl;
}

-- no white space stands within a version
version-clear : (text : List ℕ) (v : VersionParts) → IsVersionText text v → clear text ≡ true
version-clear text v h = version-pass (λ b. not (is_space b)) no_space text v h

-- ---- white space around a text

front-run : (before text : List ℕ) → list_all is_space before ≡ true → trim_front is_space (before ++ text) ≡ trim_front is_space text
front-run [] text h = refl
front-run (b ∷ before) text h = rw (first_so (is_space b) (list_all is_space before) h) (front-run before text (second_so (is_space b) (list_all is_space before) h))

not-space : (b : Bool) → not b ≡ true → b ≡ false
not-space true h = absurd cc
not-space false h = refl

front-stays : (text rest : List ℕ) → 0 < length text → clear text ≡ true → trim_front is_space (text ++ rest) ≡ text ++ rest
front-stays [] rest some h = absurd (omega arith)
front-stays (b ∷ text) rest some h = rw (not-space (is_space b) (first_so (not (is_space b)) (clear text) h)) refl

all-more : (text after : List ℕ) → list_all is_space after ≡ true → list_all is_space (text ++ after) ≡ list_all is_space text
all-more [] after h = h
all-more (b ∷ text) after h = ap (λ c. is_space b && c) (all-more text after h)

all-trimmed : (text : List ℕ) → list_all is_space text ≡ true → trim_end is_space text ≡ []
all-trimmed [] h = refl
all-trimmed (b ∷ text) h = rw h refl

end-run : (text after : List ℕ) → list_all is_space after ≡ true → trim_end is_space (text ++ after) ≡ trim_end is_space text
end-run [] after h = all-trimmed after h
end-run (b ∷ text) after h = rw (all-more text after h, end-run text after h) refl

end-stays : (text : List ℕ) → clear text ≡ true → trim_end is_space text ≡ text
end-stays [] h = refl
end-stays (b ∷ text) h =
    rw (not-space (is_space b) (first_so (not (is_space b)) (clear text) h)) (ap (λ (t : List ℕ). b ∷ t) (end-stays text (second_so (not (is_space b)) (clear text) h)))

record FrontCut (text : List ℕ) : Type 0 where
  before : List ℕ
  whole : text ≡ before ++ trim_front is_space text
  spaces : list_all is_space before ≡ true

front-cut : (text : List ℕ) → FrontCut text
front-cut [] = record { before = []; whole = refl; spaces = refl }
front-cut (b ∷ text) = elim (cases_Bool (is_space b)) [
  | inl space ↦ let r = front-cut text in record { before = b ∷ r.before; whole = rw space (ap (λ (t : List ℕ). b ∷ t) r.whole); spaces = rw (space, r.spaces) refl }
  | inr other ↦ record { before = []; whole = rw other refl; spaces = refl }
]

record EndCut (text : List ℕ) : Type 0 where
  after : List ℕ
  whole : text ≡ trim_end is_space text ++ after
  spaces : list_all is_space after ≡ true

end-cut : (text : List ℕ) → EndCut text
end-cut [] = record { after = []; whole = refl; spaces = refl }
end-cut (b ∷ text) = elim (cases_Bool (list_all is_space (b ∷ text))) [
  | inl space ↦ record { after = b ∷ text; whole = rw space refl; spaces = space }
  | inr other ↦ let r = end-cut text in record { after = r.after; whole = rw other (ap (λ (t : List ℕ). b ∷ t) r.whole); spaces = r.spaces }
]

-- ---- the law

no_text : (v : VersionParts) → IsVersionText [] v → ⊥
unfolding spans_of
no_text v h = let e = spells-read [] v h in cc

version-some : (text : List ℕ) (v : VersionParts) → IsVersionText text v → 0 < length text
version-some [] v h = absurd (no_text v h)
version-some (b ∷ text) v h = omega arith

pub spells-parts : (text : List ℕ) (v : VersionParts) → Spells text v → parts_of text ≡ Some v
spells-parts text v h =
    let c = version-clear h.inner v h.version in
    let some = version-some h.inner v h.version in
    let trimmed : trim_space text ≡ h.inner =
    ap (λ (t : List ℕ). trim_end is_space (trim_front is_space t)) h.whole
    ∙ ap (trim_end is_space) (front-run h.before (h.inner ++ h.after) h.spaces_before ∙ front-stays h.inner h.after some c)
    ∙ end-run h.inner h.after h.spaces_after ∙ end-stays h.inner c in
    ap bare_parts trimmed ∙ spells-read h.inner v h.version

map-some : (o : Option Spans) (v : VersionParts) → option_map parts_in o ≡ Some v → (s : Spans) × (o ≡ Some s) × (parts_in s ≡ v)
map-some None v h = absurd cc
map-some (Some s) v h = (s, refl, cc)

pub parts-spell : (text : List ℕ) (v : VersionParts) → parts_of text ≡ Some v → Spells text v
parts-spell text v h =
    let m = map-some (spans_of (trim_space text)) v h in
    let f = front-cut text in
    let e = end-cut (trim_front is_space text) in
    record {
      before = f.before;
      inner = trim_space text;
      after = e.after;
      whole = f.whole ∙ ap (λ (t : List ℕ). f.before ++ t) e.whole;
      spaces_before = f.spaces;
      spaces_after = e.spaces;
      version = subst (λ (w : VersionParts). IsVersionText (trim_space text) w) m.2 (read-spells (trim_space text) m.0 m.1);
    }
