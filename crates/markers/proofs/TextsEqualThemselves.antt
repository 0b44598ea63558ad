-- A text compares as equal with itself.
use Rattle.std.proofs.Common.{◌≡◌, ℕ, ◌==◌, Bool, true, false, cond, List, [], ◌∷◌, length, Option, Some, None, Result, Ok, Err, refl, sym, ap, arith, inl, inr}
use Rattle.std.proofs.lemmas.Bool.{cases_Bool}
use Rattle.std.proofs.lemmas.Bool.Decides.{nat_tests}
use Rattle.std.proofs.lemmas.List.{append-nil}
use Rattle.std.specs.Cmp.{eq_by_cmp_equiv}
use Rattle.std.specs.Cmp.Lexicographic.{nat_list_cmp_total}
use Rattle.std.specs.List.{list_all}
use Rattle.std.specs.Ordering.{is_eq}
use Rattle.std.specs.Result.{result_ok}
use Rattle.pep440.specs.Grammar.{IsVersionText, is_space}
use Rattle.pep440.specs.Matching.{equals, matches}
use Rattle.pep440.specs.Tied.OrderLaws.{public_total, version_total}
use Rattle.pep440.specs.Tied.Reading.{bare_parts, fitting, trim_space, version_of}
use Rattle.pep440.specs.SetGrammar.{IsClause}
use Rattle.pep440.specs.Tied.Sets.{◌>>=◌, clause_of, clause_text, clauses_from, is_arbitrary, set_of}
use Rattle.lists.specs.Spaces.{is_space_or_tab}
use Rattle.pep440.specs.Text.{pieces, trim_blank, trim_end, trim_front}
use Rattle.pep440.specs.Version.{VersionParts, fits}
use Rattle.pep440.specs.declared.fault.Fault.{Fault}
use Rattle.pep440.specs.declared.fault.Fault.TheVariants.{ArbitraryEquality}
use Rattle.pep440.specs.declared.specifier.Clause.{Clause}
use Rattle.pep440.specs.declared.specifier.Operator.TheVariants as operators
use Rattle.markers.specs.Comparisons.{clauses_read, compares, decides, has_comma, text_cmp, version_read}
use Rattle.markers.specs.Environment.{IsEnvironment, Texts, is_lawful, is_unescaped, is_printable, text_of}
use Rattle.markers.specs.declared.comparison.Comparison.TheVariants as comparisons
use Rattle.markers.specs.declared.variable.Variable.{Variable}

-- ---- printable texts have no white space but blanks

space_blank : (b : ℕ) → is_printable b ≡ true → is_space b ≡ is_space_or_tab b
space_blank b h = grind (arith, nat_tests)

test_head : (test : ℕ → Bool) (b : ℕ) (text : List ℕ) → list_all test (b ∷ text) ≡ true → (test b ≡ true) × (list_all test text ≡ true)
test_head test b text h = elim (cases_Bool (test b)) [
  | inl good ↦ (good, rw good at h)
  | inr bad ↦ let e = rw bad at h in cc
]

all_blank : (text : List ℕ) → list_all is_printable text ≡ true → list_all is_space text ≡ list_all is_space_or_tab text
all_blank [] h = refl
all_blank (b ∷ text) h =
    let p = test_head is_printable b text h in
    rw (space_blank b p.0, all_blank text p.1) refl

front_blank : (text : List ℕ) → list_all is_printable text ≡ true → trim_front is_space text ≡ trim_front is_space_or_tab text
front_blank [] h = refl
front_blank (b ∷ text) h =
    let p = test_head is_printable b text h in
    rw (space_blank b p.0, front_blank text p.1) refl

end_blank : (text : List ℕ) → list_all is_printable text ≡ true → trim_end is_space text ≡ trim_end is_space_or_tab text
end_blank [] h = refl
end_blank (b ∷ text) h =
    let p = test_head is_printable b text h in
    rw (all_blank (b ∷ text) h, end_blank text p.1) refl

front_printable : (text : List ℕ) → list_all is_printable text ≡ true → list_all is_printable (trim_front is_space_or_tab text) ≡ true
front_printable [] h = refl
front_printable (b ∷ text) h = elim (cases_Bool (is_space_or_tab b)) [
  | inl blank ↦ rw blank (front_printable text (test_head is_printable b text h).1)
  | inr other ↦ rw other h
]

trim_blank-space : (text : List ℕ) → list_all is_printable text ≡ true → trim_space text ≡ trim_blank text
trim_blank-space text h = rw (front_blank text h) (end_blank (trim_front is_space_or_tab text) (front_printable text h))

-- ---- trimming

front_all : (text : List ℕ) → list_all is_space_or_tab text ≡ true → trim_front is_space_or_tab text ≡ []
front_all [] h = refl
front_all (b ∷ text) h = elim (cases_Bool (is_space_or_tab b)) [
  | inl blank ↦ rw blank (front_all text (rw blank at h))
  | inr other ↦ let e = rw other at h in cc
]

-- a text is trimmed at its end and then at its front, or the other way round
trims_swap : (text : List ℕ) → trim_front is_space_or_tab (trim_end is_space_or_tab text) ≡ trim_blank text
trims_swap [] = refl
trims_swap (b ∷ text) = elim (cases_Bool (list_all is_space_or_tab (b ∷ text))) [
  | inl blank ↦ rw (blank, front_all (b ∷ text) blank) refl
  | inr other ↦ elim (cases_Bool (is_space_or_tab b)) [
    | inl blank ↦ rw (other, blank) (trims_swap text)
    | inr first ↦ rw (other, first, other) refl
  ]
]

front_twice : (text : List ℕ) → trim_front is_space_or_tab (trim_front is_space_or_tab text) ≡ trim_front is_space_or_tab text
front_twice [] = refl
front_twice (b ∷ text) = elim (cases_Bool (is_space_or_tab b)) [
  | inl blank ↦ rw blank (front_twice text)
  | inr other ↦ rw (other, other) refl
]

front_trimmed : (text : List ℕ) → trim_front is_space_or_tab (trim_blank text) ≡ trim_blank text
front_trimmed text = rw (← trims_swap text) (front_twice (trim_end is_space_or_tab text))

-- ---- the clause of a text

one_piece : (text : List ℕ) → has_comma text ≡ false → pieces text ≡ text ∷ []
one_piece [] h = refl
one_piece (b ∷ text) h = elim (cases_Bool (b == 44)) [
  | inl comma ↦ let e = rw comma at h in cc
  | inr other ↦ rw (other, one_piece text (rw other at h)) refl
]

ok_from_some : {A : Type 0} (r : Result A Fault) (x : A) → result_ok r ≡ Some x → r ≡ Ok x
ok_from_some (Ok y) x h = let e : y ≡ x = cc in ap Ok e
ok_from_some (Err e) x h = cc

unless_ok : {A : Type 0} (b : Bool) (e : Fault) (r : Result A Fault) (x : A) → cond b (Err e) r ≡ Ok x → r ≡ Ok x
unless_ok true e r x h = cc
unless_ok false e r x h = h

-- `==` and a text without `===`: the text behind is that of a clause
equal_clause : (text : List ℕ) (c : Clause) → clause_of 1 (61 ∷ 61 ∷ text) ≡ Ok c → clause_text 1 operators.Equal (trim_front is_space_or_tab text) ≡ Ok c
equal_clause text c h = unless_ok (is_arbitrary (61 ∷ 61 ∷ text)) ArbitraryEquality (clause_text 1 operators.Equal (trim_front is_space_or_tab text)) c h

fitting_ok : (o : Option VersionParts) (v : VersionParts) → fitting o ≡ Ok v → (o ≡ Some v) × (fits v ≡ true)
fitting_ok None v h = cc
fitting_ok (Some w) v h = elim (cases_Bool (fits w)) [
  | inl good ↦ let g = rw good at h in let e : w ≡ v = cc in (ap Some e, rw (← e) good)
  | inr bad ↦ let g = rw bad at h in cc
]

one_ok : (r : Result Clause Fault) (cs : List Clause) → (r >>= λ c. Ok (c ∷ [])) ≡ Ok cs → (c : Clause) × (r ≡ Ok c) × (cs ≡ c ∷ [])
one_ok (Ok c) cs h = let e : c ∷ [] ≡ cs = cc in (c, refl, sym e)
one_ok (Err e) cs h = cc

-- `==` and a text without a comma: one clause
set_one : (text : List ℕ) (cs : List Clause) → has_comma text ≡ false → set_of (61 ∷ 61 ∷ text) ≡ Ok cs
    → (c : Clause) × (clause_of 1 (61 ∷ 61 ∷ trim_end is_space_or_tab text) ≡ Ok c) × (cs ≡ c ∷ [])
unfolding clauses_from
set_one text cs none h = one_ok (clause_of 1 (61 ∷ 61 ∷ trim_end is_space_or_tab text)) cs (rw (one_piece text none) at h)

-- ---- what the laws of versions and of clauses say

abbrev pub FindsClauses : Type 0
FindsClauses = (place : ℕ) (piece : List ℕ) (c : Clause) → IsClause piece c → fits c.version ≡ true → clause_of place piece ≡ Ok c

abbrev pub ReadsVersions : Type 0
ReadsVersions = (text : List ℕ) (v : VersionParts) → bare_parts text ≡ Some v → IsVersionText text v

abbrev equal_to : VersionParts → Clause
equal_to v = record { operator = operators.Equal; version = v }

-- `==` and the text of a version: the clause of that version
bare_clause : FindsClauses → ReadsVersions → (text : List ℕ) (v : VersionParts) → bare_parts text ≡ Some v → fits v ≡ true → clause_of 1 (61 ∷ 61 ∷ text) ≡ Ok (equal_to v)
bare_clause finds reads text v h fine = finds 1 (61 ∷ 61 ∷ text) (equal_to v) (record {
  blanks = [];
  version = text;
  whole = ap (λ (t : List ℕ). 61 ∷ 61 ∷ t) (sym (append-nil text));
  are_blank = refl;
  spells = reads text v h;
  taken = refl;
}) fine

equals_itself : (v : VersionParts) → equals v v ≡ true
equals_itself v = elim (cases_Bool (length v.local == 0)) [
  | inl none ↦ rw none ((eq_by_cmp_equiv public_total).refl v)
  | inr some ↦ rw some ((eq_by_cmp_equiv version_total).refl v)
]

-- the clause that a text of a version reads as behind `==`
the_clause : FindsClauses → ReadsVersions → (text : List ℕ) (v : VersionParts) (c : Clause) → bare_parts (trim_blank text) ≡ Some v → fits v ≡ true
    → clause_of 1 (61 ∷ 61 ∷ trim_end is_space_or_tab text) ≡ Ok c → c ≡ equal_to v
the_clause finds reads text v c bare fine h =
    let read : clause_text 1 operators.Equal (trim_blank text) ≡ Ok c = rw (← trims_swap text) (equal_clause (trim_end is_space_or_tab text) c h) in
    let own = equal_clause (trim_blank text) (equal_to v) (bare_clause finds reads (trim_blank text) v bare fine) in
    let same : clause_text 1 operators.Equal (trim_blank text) ≡ Ok (equal_to v) = rw front_trimmed at own in
    cc

-- a text of a version matches its own clauses
matches_itself : FindsClauses → ReadsVersions → (text : List ℕ) → list_all is_printable text ≡ true → (v : VersionParts) (cs : List Clause)
    → version_read text ≡ Some v → clauses_read comparisons.Equal text ≡ Some cs → matches cs v ≡ true
unfolding version_read clauses_read
matches_itself finds reads text printable v cs version clauses =
    let p = fitting_ok (bare_parts (trim_space text)) v (ok_from_some (version_of text) v version) in
    let bare : bare_parts (trim_blank text) ≡ Some v = rw (← trim_blank-space text printable) p.0 in
    elim (cases_Bool (has_comma text)) [
      | inl comma ↦ let e = rw comma at clauses in cc
      | inr none ↦
          let one = set_one text cs none (ok_from_some (set_of (61 ∷ 61 ∷ text)) cs (rw none at clauses)) in
          let same = the_clause finds reads text v one.0 bare p.1 one.1 in
          rw (one.2, same, equals_itself v) refl
    ]

decides_true : (o : Option VersionParts) (cs : Option (List Clause)) (texts : Bool) → texts ≡ true
    → ((v : VersionParts) (ds : List Clause) → o ≡ Some v → cs ≡ Some ds → matches ds v ≡ true) → decides o cs texts ≡ true
decides_true (Some v) (Some ds) texts h clauses = clauses v ds refl refl
decides_true (Some v) None texts h clauses = h
decides_true None cs texts h clauses = h

-- a printable text compares as equal with itself
pub equal_itself : FindsClauses → ReadsVersions → (text : List ℕ) → list_all is_printable text ≡ true → compares comparisons.Equal text text ≡ true
equal_itself finds reads text printable =
    decides_true (version_read text) (clauses_read comparisons.Equal text) (is_eq (text_cmp text text))
    ((eq_by_cmp_equiv nat_list_cmp_total).refl text) (matches_itself finds reads text printable)

-- ---- the texts of an environment

plain_printable : (b : ℕ) → is_unescaped b ≡ true → is_printable b ≡ true
plain_printable b h = elim (cases_Bool (is_printable b)) [
  | inl good ↦ good
  | inr bad ↦ let e = rw bad at h in cc
]

all_printable : (text : List ℕ) → list_all is_unescaped text ≡ true → list_all is_printable text ≡ true
all_printable [] h = refl
all_printable (b ∷ text) h =
    let p = test_head is_unescaped b text h in
    rw (plain_printable b p.0, all_printable text p.1) refl

lawful_printable : (variable : Variable) (text : List ℕ) → is_lawful variable text ≡ true → list_all is_printable text ≡ true
lawful_printable variable text h = elim (cases_Bool (list_all is_unescaped text)) [
  | inl good ↦ all_printable text good
  | inr bad ↦ let e = rw bad at h in cc
]

-- each text of an environment compares as equal with itself
pub environment_itself : FindsClauses → ReadsVersions → (texts : Texts) (variable : Variable) → IsEnvironment texts
    → compares comparisons.Equal (text_of texts variable) (text_of texts variable) ≡ true
environment_itself finds reads texts variable h =
    equal_itself finds reads (text_of texts variable) (lawful_printable variable (text_of texts variable) (h.lawful variable))
