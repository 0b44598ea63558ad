-- A line that gets specifiers reads as before, but for its set.
use Rattle.std.proofs.Common.{◌≡◌, ℕ, ◌<◌, ◌∙◌, ◌⊎◌, Bool, true, false, eqb, List, [], ◌∷◌, ◌++◌, length, Option, Some, None, Ok, refl, ap, sym, inl, inr, arith}
use Rattle.std.proofs.lemmas.Bool.{cases_Bool, eqb-true}
use Rattle.std.proofs.lemmas.Bool.Decides.{nat_tests}
use Rattle.std.proofs.lemmas.List.{append-nil, append_assoc, length-append}
use Rattle.std.proofs.lemmas.List.Folds.{list_all-append}
use Rattle.std.specs.Cmp.{first_so}
use Rattle.std.specs.List.{list_all}
use Rattle.pep440.specs.Tied.Sets.{set_of}
use Rattle.pep440.specs.declared.specifier.Clause.{Clause}
use Rattle.markers.specs.Names.{is_name_byte}
use Rattle.pep508.specs.Parts.{IsEnding, begins_with, comment_of, content_of, ending_of, ends_with, has_odd, is_marked, is_space_or_tab, trim_start}
use Rattle.pep508.specs.Requirement.{ReadsWith, RequirementParts, asked_in, clauses_of, requirement_of, wanted_by, wanted_in}
use Rattle.pep508.specs.Slices.{IsCut, IsExtrasSlice, IsMarkerSlice, IsVersionSlice, Slices, asking, behind, joined, slices_of, slices_with, with_version}
use Rattle.pep508.proofs.Comments.{Opens, comment_is, opened}
use Rattle.pep508.proofs.Endings.{ending_of-ended}
use Rattle.pep508.proofs.LineCut.{all_gaps}
use Rattle.pep508.proofs.OddFacts.{ending_cases, ending_none}
use Rattle.pep508.proofs.OneCut.{content_is, head_is, name_space, one_cut}
use Rattle.pep508.proofs.Runs.{Stops, behind_front, front_is}
use Rattle.pep508.proofs.SetText.{IsSetText, set_first, set_no_hash, set_stops_name, set_text_is, set_version}
use Rattle.pep508.proofs.Slicewise.{AreRead, are_read, asks, line_asks, wanted_from}
use Rattle.pep508.proofs.AroundSet.{Facts, before_closes, before_set, begins_name, behind_set, closed_end, content_with, ends_with_set, extras_last, facts, first_no_hash, joined_with, marked_front, odd_with, opens_with}

-- ---- the tests of a line

record Passes (content : List ℕ) : Type 0 where
  marked : is_marked content ≡ false
  plain : has_odd content ≡ false
  ends : ends_with 92 content ≡ false
  option : begins_with 45 (trim_start content) ≡ false

passes : (content : List ℕ) (wanted : Option RequirementParts) → wanted_by content ≡ Ok wanted → Passes content
unfolding wanted_by
passes content wanted reads = elim (cases_Bool (is_marked content)) [
  | inl marked ↦ cc (rw marked at reads)
  | inr bare ↦ elim (cases_Bool (has_odd content)) [
    | inl odd ↦ cc (rw (bare, odd) at reads)
    | inr plain ↦ elim (cases_Bool (ends_with 92 content)) [
      | inl continued ↦ cc (rw (bare, plain, continued) at reads)
      | inr whole ↦ elim (cases_Bool (begins_with 45 (trim_start content))) [
        | inl option ↦ cc (rw (bare, plain, whole, option) at reads)
        | inr own ↦ record { marked = bare; plain = plain; ends = whole; option = own }
      ]
    ]
  ]
]

nothing_asked : (found : RequirementParts) → asked_in [] ≡ Ok found → ⊥
unfolding asked_in slices_with
nothing_asked found reads = cc

some_asked : (text : List ℕ) (found : RequirementParts) → asked_in text ≡ Ok found → eqb (length text) 0 ≡ false
some_asked [] found reads = absurd (nothing_asked found reads)
some_asked (b ∷ text) found reads = grind (arith, nat_tests)

passed : (content : List ℕ) (found : RequirementParts) → Passes content → asked_in (asking content) ≡ Ok found → wanted_by content ≡ Ok (Some found)
unfolding wanted_by
passed content found p reads = rw (p.marked, p.plain, p.ends, p.option, some_asked (asking content) found reads, reads) refl

-- ---- the cut of the new line

stops_join : (p : ℕ → Bool) (xs ys : List ℕ) → Stops p xs → Stops p ys → Stops p (xs ++ ys)
stops_join p [] ys one other = other
stops_join p (x ∷ xs) ys one other = one

space_no_name : (b : ℕ) → is_space_or_tab b ≡ true → is_name_byte b ≡ false
space_no_name b h = grind (arith, nat_tests)

space_stops : (xs : List ℕ) → list_all is_space_or_tab xs ≡ true → Stops is_name_byte xs
space_stops [] all = tt
space_stops (x ∷ xs) all = space_no_name x (first_so (is_space_or_tab x) (list_all is_space_or_tab xs) all)

extras_stop : (extras : List ℕ) → IsExtrasSlice extras → Stops is_name_byte extras
extras_stop [] h = tt
extras_stop (e ∷ extras) (inl empty) = absurd (omega (arith, ap length empty))
extras_stop (e ∷ extras) (inr some) = rw (eqb-true e 91 some.0) refl

marker_stops : (marker : List ℕ) → IsMarkerSlice marker → Stops is_name_byte marker
marker_stops [] h = tt
marker_stops (m ∷ marker) (inl empty) = absurd (omega (arith, ap length empty))
marker_stops (m ∷ marker) (inr some) = rw (eqb-true m 59 some.0) refl

-- the slices with other space and another version part
abbrev other : Slices → List ℕ → List ℕ → List ℕ → List ℕ → Slices
other s gap2 version gap3 gap4 = record s { gap2 = gap2; version = version; gap3 = gap3; gap4 = gap4 }

-- that these may be slices
record MayBe (s : Slices) (gap2 version gap3 gap4 : List ℕ) : Type 0 where
  space2 : list_all is_space_or_tab gap2 ≡ true
  space3 : list_all is_space_or_tab gap3 ≡ true
  space4 : list_all is_space_or_tab gap4 ≡ true
  is : IsVersionSlice s.extras version
  stops : Stops is_name_byte version
  no_version : version ≡ [] → gap2 ≡ []
  no_marker : s.marker ≡ [] → gap3 ≡ []

-- the ending stays
ending_kept : (content end : List ℕ) → has_odd content ≡ false → (end ≡ []) ⊎ IsEnding end → ending_of (content ++ end) ≡ end
ending_kept content end plain (inl none) = rw (none, append-nil content) (ending_none content plain)
ending_kept content end plain (inr is) = ending_of-ended content end plain is

-- the content from its name on
abbrev from_name : List ℕ → Slices → List ℕ
from_name version s = s.gap1 ++ (s.extras ++ (s.gap2 ++ (version ++ (behind_set s ++ s.comment))))

content_named : (version : List ℕ) (s : Slices) → content_with version s ≡ s.lead ++ (s.name ++ from_name version s)
content_named version s = simp append_assoc

name_first : (s : Slices) (version : List ℕ) → Facts s → trim_start (content_with version s) ≡ s.name ++ from_name version s
name_first s version f =
    ap trim_start (content_named version s)
    ∙ behind_front is_space_or_tab s.lead (s.name ++ from_name version s) f.spaces.lead (name_space s.name (from_name version s) f.named (λ none. absurd (omega (arith, ap length none, f.some))))

-- the new content passes where the old one does
passes_with : (s : Slices) (version : List ℕ) → IsCut (joined s) s → Facts s → IsSetText version → Passes (content_with s.version s) → Passes (content_with version s)
passes_with s version c f v p = record {
  marked = rw (content_named version s) (marked_front s.lead s.name (from_name version s) f.spaces.lead f.named f.some);
  plain = odd_with s version c f v p.plain;
  ends = ends_with_set (before_set s) s.version version (behind_set s ++ s.comment) (before_closes s c f) v p.ends;
  option = ap (begins_with 45) (name_first s version f) ∙ begins_name 45 s.name (from_name s.version s) (from_name version s) f.some (sym (ap (begins_with 45) (name_first s s.version f)) ∙ p.option);
}

-- ---- the new line

old_content : (s : Slices) → IsCut (joined s) s → content_of (joined s) ≡ content_with s.version s
old_content s c = content_is (content_with s.version s) s.end (joined s) (sym (joined_with s.version s)) c.end

head_with : (version : List ℕ) (s : Slices) → (before_set s ++ (version ++ behind_set s)) ++ s.comment ≡ content_with version s
head_with version s = simp append_assoc

old_opens : (s : Slices) → IsCut (joined s) s → Opens (before_set s ++ (s.version ++ behind_set s)) s.comment
old_opens s c =
    let head = before_set s ++ (s.version ++ behind_set s) in
    let content = content_with s.version s in
    let is : s.comment ≡ comment_of content = rw (old_content s c) at c.comment in
    opened head s.comment content (head_with s.version s) is (head_is head s.comment content (head_with s.version s) is)

new_comment : (s : Slices) (version : List ℕ) → IsCut (joined s) s → Facts s → IsSetText version → comment_of (content_with version s) ≡ s.comment
new_comment s version c f v =
    let first = first_no_hash s.gap3 s.marker s.gap4 f.spaces.gap3 c.marker f.spaces.gap4 in
    let some : 0 < length (before_set s ++ s.version) =
    omega (arith, f.some, length-append (before_set s) s.version, length-append s.lead (s.name ++ (s.gap1 ++ (s.extras ++ s.gap2))), length-append s.name (s.gap1 ++ (s.extras ++ s.gap2))) in
    let closed = closed_end s.lead s.name s.gap1 s.extras s.gap2 s.version f.named f.some (extras_last s.extras c.extras) c.version.last c.no_extras c.no_version in
    let opens = opens_with (before_set s) s.version version (behind_set s) s.comment first (set_no_hash version v) some closed (old_opens s c) in
    ap comment_of (sym (head_with version s)) ∙ comment_is (before_set s ++ (version ++ behind_set s)) s.comment opens

-- the new line is cut into the new slices
new_cut : (s : Slices) (text gap2 version gap3 gap4 : List ℕ) → IsCut (joined s) s → Facts s → IsSetText text → has_odd (content_with text s) ≡ false
    → joined (other s gap2 version gap3 gap4) ≡ content_with text s ++ s.end → MayBe s gap2 version gap3 gap4 → IsCut (joined (other s gap2 version gap3 gap4)) (other s gap2 version gap3 gap4)
new_cut s text gap2 version gap3 gap4 c f v plain whole m =
    let line = joined (other s gap2 version gap3 gap4) in
    let three : (s.end ≡ []) ⊎ IsEnding s.end = rw (← c.end) at (ending_cases (joined s)) in
    let ends : s.end ≡ ending_of line = sym (ap ending_of whole ∙ ending_kept (content_with text s) s.end plain three) in
    let content = content_is (content_with text s) s.end line (sym whole) ends in
    record {
      joins = refl;
      end = ends;
      comment = sym (ap comment_of content ∙ new_comment s text c f v);
      gaps = all_gaps s.lead s.gap1 gap2 gap3 gap4 f.spaces.lead f.spaces.gap1 m.space2 m.space3 m.space4;
      name = sym (front_is is_name_byte s.name (behind (other s gap2 version gap3 gap4)) f.named
          (stops_join is_name_byte s.gap1 (s.extras ++ (gap2 ++ (version ++ (gap3 ++ (s.marker ++ gap4))))) (space_stops s.gap1 f.spaces.gap1)
          (stops_join is_name_byte s.extras (gap2 ++ (version ++ (gap3 ++ (s.marker ++ gap4)))) (extras_stop s.extras c.extras)
          (stops_join is_name_byte gap2 (version ++ (gap3 ++ (s.marker ++ gap4))) (space_stops gap2 m.space2)
          (stops_join is_name_byte version (gap3 ++ (s.marker ++ gap4)) m.stops
          (stops_join is_name_byte gap3 (s.marker ++ gap4) (space_stops gap3 m.space3)
          (stops_join is_name_byte s.marker gap4 (marker_stops s.marker c.marker) (space_stops gap4 m.space4))))))));
      extras = c.extras;
      version = m.is;
      marker = c.marker;
      no_name = λ none. absurd (omega (arith, ap length none, f.some));
      no_extras = c.no_extras;
      no_version = m.no_version;
      no_marker = m.no_marker;
    }

-- the slices of a line ask for what its text does
slices_ask : (line : List ℕ) → asked_in (asking (content_of line)) ≡ wanted_in (slices_of line)
unfolding asked_in slices_of slices_with
slices_ask line = refl

-- what a line of these slices asks for
some_is : (one other : RequirementParts) → Some one ≡ Some other → one ≡ other
some_is one other same = cc

pub old_read : (s : Slices) (wanted : RequirementParts) → IsCut (joined s) s → requirement_of (joined s) ≡ Ok (Some wanted) → AreRead s wanted
old_read s wanted c reads = elim (asks (joined s) (Some wanted) reads) [
  | inl blank ↦ absurd (let nothing : Some wanted ≡ None = blank.1 in cc)
  | inr some ↦
      let same = some_is wanted some.0 some.1 in
      are_read s wanted (ap wanted_in (sym (one_cut (joined s) s c)) ∙ sym (slices_ask (joined s)) ∙ some.2 ∙ ap (λ (w : RequirementParts). Ok w) (sym same))
]

-- the text is a clause list of its own
set_clauses : (text : List ℕ) (clauses : List Clause) → IsSetText text → set_of text ≡ Ok clauses → clauses_of text ≡ Ok clauses
set_clauses text clauses v reads = rw (set_first 64 text v refl refl, set_text_is text v, reads) refl

new_reads : (s : Slices) (text gap2 version gap3 gap4 : List ℕ) (wanted : RequirementParts) (clauses : List Clause) → IsCut (joined s) s → Facts s → IsSetText text
    → joined (other s gap2 version gap3 gap4) ≡ content_with text s ++ s.end → MayBe s gap2 version gap3 gap4 → clauses_of version ≡ Ok clauses
    → requirement_of (joined s) ≡ Ok (Some wanted) → ReadsWith s wanted clauses (joined (other s gap2 version gap3 gap4))
new_reads s text gap2 version gap3 gap4 wanted clauses c f v whole m set reads =
    let new = other s gap2 version gap3 gap4 in
    let line = joined new in
    let p = passes_with s text c f v (passes (content_with s.version s) (Some wanted) (rw (line_asks (joined s), old_content s c) at reads)) in
    let cut = new_cut s text gap2 version gap3 gap4 c f v p.plain whole m in
    let content : content_of line ≡ content_with text s = content_is (content_with text s) s.end line (sym whole) cut.end in
    let slices = one_cut line new cut in
    let read = old_read s wanted c reads in
    let found : RequirementParts = record wanted { clauses = clauses } in
    let asked : asked_in (asking (content_of line)) ≡ Ok found =
    slices_ask line ∙ ap wanted_in slices ∙ wanted_from new found (record { name = read.name; extras = read.extras; clauses = set; marker = read.marker }) in
    let pass : Passes (content_of line) = rw content p in
    record {
      requirement = line_asks line ∙ passed (content_of line) found pass asked;
      name = ap (λ (x : Slices). x.name) slices;
      extras = ap (λ (x : Slices). x.extras) slices;
      marker = ap (λ (x : Slices). x.marker) slices;
      comment = ap (λ (x : Slices). x.comment) slices;
      end = ap (λ (x : Slices). x.end) slices;
    }

-- a line without its set: the space before it goes to the next gap
no_set : (s : Slices) (wanted : RequirementParts) (clauses : List Clause) → IsCut (joined s) s → Facts s → IsSetText [] → set_of [] ≡ Ok clauses → requirement_of (joined s) ≡ Ok (Some wanted)
    → (s.marker ≡ []) ⊎ (0 < length s.marker) → ReadsWith s wanted clauses (joined (with_version [] s))
no_set s wanted clauses c f v set reads (inl none) =
    let whole : joined (other s [] [] [] (s.gap2 ++ s.gap4)) ≡ content_with [] s ++ s.end = rw (none, c.no_marker none) (simp append_assoc) in
    let same : joined (other s [] [] [] (s.gap2 ++ s.gap4)) ≡ joined (with_version [] s) = whole ∙ sym (joined_with [] s) in
    rw (← same) (new_reads s [] [] [] [] (s.gap2 ++ s.gap4) wanted clauses c f v whole
    (record {
      space2 = refl;
      space3 = refl;
      space4 = rw (list_all-append is_space_or_tab s.gap2 s.gap4, f.spaces.gap2, f.spaces.gap4) refl;
      is = set_version s.extras [] v;
      stops = tt;
      no_version = λ _. refl;
      no_marker = λ _. refl;
    }) (set_clauses [] clauses v set) reads)
no_set s wanted clauses c f v set reads (inr some) =
    let whole : joined (other s [] [] (s.gap2 ++ s.gap3) s.gap4) ≡ content_with [] s ++ s.end = simp append_assoc in
    let same : joined (other s [] [] (s.gap2 ++ s.gap3) s.gap4) ≡ joined (with_version [] s) = whole ∙ sym (joined_with [] s) in
    rw (← same) (new_reads s [] [] [] (s.gap2 ++ s.gap3) s.gap4 wanted clauses c f v whole
    (record {
      space2 = refl;
      space3 = rw (list_all-append is_space_or_tab s.gap2 s.gap3, f.spaces.gap2, f.spaces.gap3) refl;
      space4 = f.spaces.gap4;
      is = set_version s.extras [] v;
      stops = tt;
      no_version = λ _. refl;
      no_marker = λ none. absurd (omega (arith, ap length none, some));
    }) (set_clauses [] clauses v set) reads)

marker_cases : (marker : List ℕ) → (marker ≡ []) ⊎ (0 < length marker)
marker_cases [] = inl refl
marker_cases (m ∷ marker) = inr (omega arith)

-- a requirement line with other specifiers reads as it did, but for these
pub reads_with : (s : Slices) (text : List ℕ) (wanted : RequirementParts) (clauses : List Clause) → IsCut (joined s) s → 0 < length s.name → IsSetText text → requirement_of (joined s) ≡ Ok (Some wanted)
    → set_of text ≡ Ok clauses → ReadsWith s wanted clauses (joined (with_version text s))
reads_with s [] wanted clauses c some v reads set = no_set s wanted clauses c (facts s c some) v set reads (marker_cases s.marker)
reads_with s (b ∷ text) wanted clauses c some v reads set =
    let f = facts s c some in
    new_reads s (b ∷ text) s.gap2 (b ∷ text) s.gap3 s.gap4 wanted clauses c f v (joined_with (b ∷ text) s)
    (record {
      space2 = f.spaces.gap2;
      space3 = f.spaces.gap3;
      space4 = f.spaces.gap4;
      is = set_version s.extras (b ∷ text) v;
      stops = set_stops_name (b ∷ text) v;
      no_version = λ none. absurd (omega (arith, ap length none));
      no_marker = c.no_marker;
    }) (set_clauses (b ∷ text) clauses v set) reads
