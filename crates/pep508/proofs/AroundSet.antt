-- What stands around the set of a line.
use Rattle.std.proofs.Common.{◌≡◌, ℕ, ◌-◌, ◌<◌, ◌∙◌, ◌==◌, ◌⊎◌, not, Bool, true, false, eqb, List, [], ◌∷◌, ◌++◌, length, get_or, refl, ap, sym, inl, inr, arith}
use Rattle.std.proofs.lemmas.Bool.{eqb-true}
use Rattle.std.proofs.lemmas.Bool.Decides.{nat_tests}
use Rattle.std.proofs.lemmas.List.{append-nil, append_assoc, length-append}
use Rattle.std.proofs.lemmas.List.Sums.{passes_at_first}
use Rattle.std.specs.Cmp.{first_so}
use Rattle.std.specs.List.{list_all}
use Rattle.markers.specs.Names.{is_name_byte}
use Rattle.pep508.specs.Parts.{begins_with, comment_place, ends_with, has_odd, is_marked, is_space_or_tab, place_of}
use Rattle.pep508.specs.Slices.{IsCut, IsExtrasSlice, IsMarkerSlice, Slices, behind, joined, with_version}
use Rattle.pep508.proofs.Comments.{Opens, clear_append, clear_parts, clear_plain, clear_same, opens_append, opens_behind, opens_last}
use Rattle.pep508.proofs.LineCut.{all_at}
use Rattle.pep508.proofs.OddFacts.{odd_append, odd_behind, odd_front, odd_plain}
use Rattle.pep508.proofs.OneCut.{AreSpace, are_space, last_behind}
use Rattle.pep508.proofs.Runs.{front_passes}
use Rattle.pep508.proofs.SetText.{IsSetText, set_last, set_plain}

-- ---- the parts of a line around its set

-- what stands before the set, and what stands behind it up to the comment
abbrev pub before_set : Slices → List ℕ
before_set s = s.lead ++ (s.name ++ (s.gap1 ++ (s.extras ++ s.gap2)))

abbrev pub behind_set : Slices → List ℕ
behind_set s = s.gap3 ++ (s.marker ++ s.gap4)

-- the content with a version part
abbrev pub content_with : List ℕ → Slices → List ℕ
content_with version s = before_set s ++ (version ++ (behind_set s ++ s.comment))

pub joined_with : (version : List ℕ) (s : Slices) → joined (with_version version s) ≡ content_with version s ++ s.end
joined_with version s = simp append_assoc

-- ---- last bytes

-- ASCII, and no backslash
pub record Closes (b : ℕ) : Type 0 where
  pub ascii : b < 128
  pub whole : eqb b 92 ≡ false

pub space_closes : (b : ℕ) → is_space_or_tab b ≡ true → Closes b
space_closes b h = record { ascii = grind (arith, nat_tests); whole = grind (arith, nat_tests) }

pub name_closes : (b : ℕ) → is_name_byte b ≡ true → Closes b
name_closes b h = record { ascii = grind (arith, nat_tests); whole = grind (arith, nat_tests) }

run_closes : (p : ℕ → Bool) (xs : List ℕ) → ((b : ℕ) → p b ≡ true → Closes b) → list_all p xs ≡ true → Closes (get_or xs (length xs - 1) 0)
run_closes p [] each all = record { ascii = omega arith; whole = refl }
run_closes p (x ∷ xs) each all = each _ (all_at p (x ∷ xs) (length (x ∷ xs) - 1) (omega arith) all)

join_closes : (xs ys : List ℕ) → Closes (get_or xs (length xs - 1) 0) → Closes (get_or ys (length ys - 1) 0) → Closes (get_or (xs ++ ys) (length (xs ++ ys) - 1) 0)
join_closes xs [] one other = rw (append-nil xs) one
join_closes xs (y ∷ ys) one other = rw (last_behind xs (y ∷ ys) (omega arith)) other

-- extras end with `]`
pub extras_last : (extras : List ℕ) → IsExtrasSlice extras → (extras ≡ []) ⊎ (get_or extras (length extras - 1) 0 ≡ 93)
extras_last extras (inl none) = inl none
extras_last extras (inr some) =
    let place : place_of 93 extras ≡ length extras - 1 = omega (arith, some.1) in
    inr (rw place at (eqb-true _ _ (passes_at_first (λ b. b == 93) extras 0 (omega (arith, some.1)))))

extras_closes : (extras : List ℕ) → (extras ≡ []) ⊎ (get_or extras (length extras - 1) 0 ≡ 93) → Closes (get_or extras (length extras - 1) 0)
extras_closes extras (inl none) = rw none (record { ascii = omega arith; whole = refl })
extras_closes extras (inr bracket) = rw bracket (record { ascii = omega arith; whole = refl })

-- what a line's cut says of its parts
pub record Facts (s : Slices) : Type 0 where
  pub spaces : AreSpace s
  pub named : list_all is_name_byte s.name ≡ true
  pub some : 0 < length s.name

pub facts : (s : Slices) → IsCut (joined s) s → 0 < length s.name → Facts s
facts s c some = record {
  spaces = are_space s c.gaps;
  named = rw (← c.name) at (front_passes is_name_byte (s.name ++ behind s));
  some = some;
}

pub before_closes : (s : Slices) → IsCut (joined s) s → Facts s → Closes (get_or (before_set s) (length (before_set s) - 1) 0)
before_closes s c f =
    join_closes s.lead (s.name ++ (s.gap1 ++ (s.extras ++ s.gap2))) (run_closes is_space_or_tab s.lead space_closes f.spaces.lead)
    (join_closes s.name (s.gap1 ++ (s.extras ++ s.gap2)) (run_closes is_name_byte s.name name_closes f.named)
    (join_closes s.gap1 (s.extras ++ s.gap2) (run_closes is_space_or_tab s.gap1 space_closes f.spaces.gap1)
    (join_closes s.extras s.gap2 (extras_closes s.extras (extras_last s.extras c.extras)) (run_closes is_space_or_tab s.gap2 space_closes f.spaces.gap2))))

-- ---- odd characters

odd_set : (version rest : List ℕ) → IsSetText version → has_odd rest ≡ false → has_odd (version ++ rest) ≡ false
odd_set [] rest v plain = plain
odd_set (b ∷ version) rest v plain = odd_append (b ∷ version) rest (set_last (b ∷ version) (omega arith) v).0 (odd_plain (b ∷ version) (set_plain (b ∷ version) v)) plain

pub odd_with : (s : Slices) (version : List ℕ) → IsCut (joined s) s → Facts s → IsSetText version → has_odd (content_with s.version s) ≡ false → has_odd (content_with version s) ≡ false
odd_with s version c f v plain =
    let closes = before_closes s c f in
    let front = odd_front (before_set s) (s.version ++ (behind_set s ++ s.comment)) closes.ascii plain in
    let rest = odd_behind s.version (behind_set s ++ s.comment) (odd_behind (before_set s) (s.version ++ (behind_set s ++ s.comment)) plain) in
    odd_append (before_set s) (version ++ (behind_set s ++ s.comment)) closes.ascii front (odd_set version (behind_set s ++ s.comment) v rest)

-- ---- the first byte

marked_ascii : (b : ℕ) (rest : List ℕ) → b < 128 → is_marked (b ∷ rest) ≡ false
marked_ascii b rest ascii = grind (arith, nat_tests)

pub marked_front : (lead name rest : List ℕ) → list_all is_space_or_tab lead ≡ true → list_all is_name_byte name ≡ true → 0 < length name → is_marked (lead ++ (name ++ rest)) ≡ false
marked_front [] [] rest space named some = absurd (omega arith)
marked_front [] (b ∷ name) rest space named some = marked_ascii b (name ++ rest) (name_closes b (first_so (is_name_byte b) (list_all is_name_byte name) named)).ascii
marked_front (b ∷ lead) name rest space named some = marked_ascii b (lead ++ (name ++ rest)) (space_closes b (first_so (is_space_or_tab b) (list_all is_space_or_tab lead) space)).ascii

-- the text behind the lead begins with the name
pub begins_name : (byte : ℕ) (name one other : List ℕ) → 0 < length name → begins_with byte (name ++ one) ≡ false → begins_with byte (name ++ other) ≡ false
begins_name byte [] one other some begins = absurd (omega arith)
begins_name byte (b ∷ name) one other some begins = begins

-- ---- the last byte

ends_behind : (xs ys : List ℕ) → 0 < length ys → ends_with 92 (xs ++ ys) ≡ ends_with 92 ys
ends_behind xs ys some = ap (λ n. eqb n 92) (last_behind xs ys some)

pub ends_with_set : (front one other rest : List ℕ) → Closes (get_or front (length front - 1) 0) → IsSetText other → ends_with 92 (front ++ (one ++ rest)) ≡ false → ends_with 92 (front ++ (other ++ rest)) ≡ false
ends_with_set front one other (b ∷ rest) closes v ends =
    let n : 0 < length (one ++ (b ∷ rest)) = omega (arith, length-append one (b ∷ rest)) in
    let m : 0 < length (other ++ (b ∷ rest)) = omega (arith, length-append other (b ∷ rest)) in
    let old : ends_with 92 (b ∷ rest) ≡ false = sym (ends_behind front (one ++ (b ∷ rest)) n ∙ ends_behind one (b ∷ rest) (omega arith)) ∙ ends in
    ends_behind front (other ++ (b ∷ rest)) m ∙ ends_behind other (b ∷ rest) (omega arith) ∙ old
ends_with_set front one [] [] closes v ends = rw (append-nil front) closes.whole
ends_with_set front one (b ∷ other) [] closes v ends =
    rw (append-nil (b ∷ other)) (ends_behind front (b ∷ other) (omega arith) ∙ (set_last (b ∷ other) (omega arith) v).1)

-- ---- the comment

space_no_hash : (b : ℕ) → is_space_or_tab b ≡ true → eqb b 35 ≡ false
space_no_hash b h = grind (arith, nat_tests)

pub first_no_hash : (gap marker tail : List ℕ) → list_all is_space_or_tab gap ≡ true → IsMarkerSlice marker → list_all is_space_or_tab tail ≡ true → eqb (get_or (gap ++ (marker ++ tail)) 0 0) 35 ≡ false
first_no_hash (b ∷ gap) marker tail space m more = space_no_hash b (first_so (is_space_or_tab b) (list_all is_space_or_tab gap) space)
first_no_hash [] [] [] space m more = refl
first_no_hash [] [] (b ∷ tail) space m more = space_no_hash b (first_so (is_space_or_tab b) (list_all is_space_or_tab tail) more)
first_no_hash [] (b ∷ marker) tail space (inl empty) more = absurd (omega (arith, ap length empty))
first_no_hash [] (b ∷ marker) tail space (inr begins) more = rw (eqb-true b 59 begins.0) refl

name_no_space : (b : ℕ) → is_name_byte b ≡ true → is_space_or_tab b ≡ false
name_no_space b h = grind (arith, nat_tests)

-- no space ends what stands up to the version part
pub closed_end : (lead name gap1 extras gap2 version : List ℕ) → list_all is_name_byte name ≡ true → 0 < length name → (extras ≡ []) ⊎ (get_or extras (length extras - 1) 0 ≡ 93)
    → is_space_or_tab (get_or version (length version - 1) 0) ≡ false → (extras ≡ [] → gap1 ≡ []) → (version ≡ [] → gap2 ≡ [])
    → is_space_or_tab (get_or ((lead ++ (name ++ (gap1 ++ (extras ++ gap2)))) ++ version) (length ((lead ++ (name ++ (gap1 ++ (extras ++ gap2)))) ++ version) - 1) 0) ≡ false
closed_end lead name gap1 extras gap2 (v ∷ version) named some ends last no_extras no_version =
    rw (last_behind (lead ++ (name ++ (gap1 ++ (extras ++ gap2)))) (v ∷ version) (omega arith)) last
closed_end lead name gap1 [] gap2 [] named some ends last no_extras no_version =
    let whole : (lead ++ (name ++ (gap1 ++ ([] ++ gap2)))) ++ [] ≡ lead ++ name = rw (no_version refl, no_extras refl) (simp append-nil) in
    let byte = all_at is_name_byte name (length name - 1) (omega arith) named in
    rw (whole, last_behind lead name some) (name_no_space (get_or name (length name - 1) 0) byte)
closed_end lead name gap1 (e ∷ extras) gap2 [] named some (inl empty) last no_extras no_version = absurd (omega (arith, ap length empty))
closed_end lead name gap1 (e ∷ extras) gap2 [] named some (inr bracket) last no_extras no_version =
    let whole : (lead ++ (name ++ (gap1 ++ ((e ∷ extras) ++ gap2)))) ++ [] ≡ (lead ++ (name ++ gap1)) ++ (e ∷ extras) = rw (no_version refl, append-nil extras) (simp (append-nil, append_assoc)) in
    rw (whole, last_behind (lead ++ (name ++ gap1)) (e ∷ extras) (omega arith), bracket) refl

closed_comment : (comment : List ℕ) → comment_place false comment ≡ 0 → comment ≡ []
unfolding comment_place
closed_comment [] none = refl
closed_comment (c ∷ comment) none = absurd (omega (arith, none))

still_opens : (before old new rest comment : List ℕ) → 0 < length (before ++ old) → is_space_or_tab (get_or (before ++ old) (length (before ++ old) - 1) 0) ≡ false
    → comment_place (opens_behind true (before ++ (old ++ rest))) comment ≡ 0 → comment_place (opens_behind true (before ++ (new ++ rest))) comment ≡ 0
unfolding comment_place
still_opens before old new [] comment some closed opens =
    let shut : opens_behind true (before ++ old) ≡ false = opens_last true (before ++ old) some closed in
    let none = closed_comment comment (rw (append-nil old, shut) at opens) in
    rw none refl
still_opens before old new (b ∷ rest) comment some closed opens =
    rw (opens_append true before (new ++ b ∷ rest), opens_append (opens_behind true before) new (b ∷ rest))
    (rw (opens_append true before (old ++ b ∷ rest), opens_append (opens_behind true before) old (b ∷ rest)) at opens)

-- a comment opens behind a new version part as behind the old one
pub opens_with : (before old new rest comment : List ℕ) → eqb (get_or rest 0 0) 35 ≡ false → list_all (λ b. not (b == 35)) new ≡ true → 0 < length (before ++ old)
    → is_space_or_tab (get_or (before ++ old) (length (before ++ old) - 1) 0) ≡ false → Opens (before ++ (old ++ rest)) comment → Opens (before ++ (new ++ rest)) comment
opens_with before old new rest comment first plain some closed o =
    let front = clear_parts true before (old ++ rest) o.plain in
    let back = clear_parts (opens_behind true before) old rest front.1 in
    record {
      plain = clear_append true before (new ++ rest) front.0
          (clear_append (opens_behind true before) new rest (clear_plain (opens_behind true before) new plain) (clear_same (opens_behind (opens_behind true before) old) (opens_behind (opens_behind true before) new) rest first back.1));
      opens = still_opens before old new rest comment some closed o.opens;
    }
