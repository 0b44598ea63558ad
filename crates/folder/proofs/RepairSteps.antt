-- Where the repair of a stopped save leads.
use Rattle.std.proofs.Common.{◌≡◌, ◌⊎◌, ◌-◌, ◌||◌, ℕ, zero, suc, Bool, true, false, List, [], ◌∷◌, Option, Some, None, IsSome, is_some, length, take, if◌then◌else◌, refl, sym, ap, ◌∙◌, subst, inl, inr, true≢false}
use Rattle.std.proofs.lemmas.Bool.{cases_Bool}
use Rattle.std.proofs.lemmas.Slice.Eq.{bytes_eq-Decides}
use Rattle.std.specs.Str.{bytes_eq}
use Rattle.folder.specs.Held.{Files, Held, in_turn, is_among, removed, renamed, with_file}
use Rattle.folder.specs.Saves.{AreApart, IsUnderWay, NewFileParts, all_staged, names_of, saved, with_all, without_all}
use Rattle.folder.specs.Repairs.{AreAmong, AreBeside, HasSamePlaces, IsBetween}
use Rattle.folder.proofs.Names.{same_name, with_all-miss, with_other, without_all-at}
use Rattle.folder.proofs.SaveSteps.{removed-is}

-- ---- names in lists

or_same : (a b : Bool) → a ≡ true → a || b ≡ true
or_same true b is = refl
or_same false b is = absurd (true≢false (sym is))

or_other : (a b : Bool) → a ≡ false → a || b ≡ true → b ≡ true
or_other true b differ is = absurd (true≢false differ)
or_other false b differ is = is

pub among_all : (names : List (List ℕ)) (n : ℕ) (x : List ℕ) → is_among (take n names) x ≡ true → is_among names x ≡ true
among_all [] zero x is = is
among_all [] (suc n) x is = is
among_all (y ∷ names) zero x is = absurd (true≢false (sym is))
among_all (y ∷ names) (suc n) x is = elim (cases_Bool (bytes_eq y x)) [
  | inl same ↦ or_same (bytes_eq y x) (is_among names x) same
  | inr differ ↦ ap (λ (t : Bool). t || is_among names x) differ ∙ among_all names n x (or_other (bytes_eq y x) (is_among (take n names) x) differ is)
]

-- what is among the first files of some is among them
among_files : (files : List NewFileParts) (n : ℕ) (x : List ℕ) → is_among (names_of (take n files)) x ≡ true → is_among (names_of files) x ≡ true
among_files [] zero x is = is
among_files [] (suc n) x is = is
among_files (f ∷ files) zero x is = absurd (true≢false (sym is))
among_files (f ∷ files) (suc n) x is = elim (cases_Bool (bytes_eq f.name x)) [
  | inl same ↦ or_same (bytes_eq f.name x) (is_among (names_of files) x) same
  | inr differ ↦ ap (λ (t : Bool). t || is_among (names_of files) x) differ ∙ among_files files n x (or_other (bytes_eq f.name x) (is_among (names_of (take n files)) x) differ is)
]

pub are_among_first : (some names : List (List ℕ)) (n : ℕ) → AreAmong some names → AreAmong (take n some) names
are_among_first some names n all x is = all x (among_all some n x is)

-- ---- files without some, and with some

gone_at : (names : List (List ℕ)) (b : Files) (x : List ℕ) → is_among names x ≡ true → without_all names b x ≡ None
gone_at names b x is = without_all-at names b x ∙ ap (λ (t : Bool). if t then None else b x) is

still_at : (names : List (List ℕ)) (b : Files) (x : List ℕ) → is_among names x ≡ false → without_all names b x ≡ b x
still_at names b x other = without_all-at names b x ∙ ap (λ (t : Bool). if t then None else b x) other

with_this_one : (b : Files) (name : List ℕ) (bytes : Option (List ℕ)) (x : List ℕ) → bytes_eq name x ≡ true → with_file b name bytes x ≡ bytes
with_this_one b name bytes x same = ap (λ (t : Bool). if t then bytes else b x) same

-- what is written doesn't rest on what stood there
with_all-hit : (files : List NewFileParts) (b c : Files) (x : List ℕ) → is_among (names_of files) x ≡ true → with_all files b x ≡ with_all files c x
with_all-hit [] b c x is = absurd (true≢false (sym is))
with_all-hit (f ∷ files) b c x is = elim (cases_Bool (is_among (names_of files) x)) [
  | inl later ↦ with_all-hit files (with_file b f.name (Some f.bytes)) (with_file c f.name (Some f.bytes)) x later
  | inr last ↦ with_all-miss files (with_file b f.name (Some f.bytes)) x last
      ∙ with_this_one b f.name (Some f.bytes) x (this last) ∙ sym (with_this_one c f.name (Some f.bytes) x (this last))
      ∙ sym (with_all-miss files (with_file c f.name (Some f.bytes)) x last)
]
  where
    this : is_among (names_of files) x ≡ false → bytes_eq f.name x ≡ true
    this last = elim (cases_Bool (bytes_eq f.name x)) [
      | inl same ↦ same
      | inr differ ↦ absurd (true≢false (sym (or_other (bytes_eq f.name x) (is_among (names_of files) x) differ is) ∙ last))
    ]

-- the first of some files have what all of them have
with_first : (files : List NewFileParts) (n : ℕ) (b : Files) (x : List ℕ) → AreApart files → is_among (names_of (take n files)) x ≡ true → with_all (take n files) b x ≡ with_all files b x
with_first [] zero b x apart is = refl
with_first [] (suc n) b x apart is = refl
with_first (f ∷ files) zero b x apart is = absurd (true≢false (sym is))
with_first (f ∷ files) (suc n) b x apart is = elim (cases_Bool (is_among (names_of (take n files)) x)) [
  | inl later ↦ with_first files n (with_file b f.name (Some f.bytes)) x apart.1 later
  | inr last ↦ with_all-miss (take n files) (with_file b f.name (Some f.bytes)) x last ∙ sym (with_all-miss files (with_file b f.name (Some f.bytes)) x (none last))
]
  where
    none : is_among (names_of (take n files)) x ≡ false → is_among (names_of files) x ≡ false
    none last = elim (cases_Bool (bytes_eq f.name x)) [
      | inl same ↦ ap (λ (y : List ℕ). is_among (names_of files) y) (sym ((bytes_eq-Decides f.name x).0 same)) ∙ apart.0
      | inr differ ↦ absurd (true≢false (sym (or_other (bytes_eq f.name x) (is_among (names_of (take n files)) x) differ is) ∙ last))
    ]

some_none : (o : Option (List ℕ)) → IsSome o → o ≡ None → ⊥
some_none None is none = absurd (cc is)
some_none (Some x) is none = absurd (cc none)

-- ---- one save

module _ (files : List NewFileParts) (going : List (List ℕ)) (others : (name : List ℕ) → is_among going name ≡ true → is_among (names_of files) name ≡ false) (old : Held) where
  abbrev names : List (List ℕ)
  names = names_of files

  abbrev last : Held
  last = saved files going old

  abbrev At : Held → List ℕ → Type 0
  At h x = ((h.placed x ≡ old.placed x) × (h.beside x ≡ (all_staged files old).beside x)) ⊎ ((h.placed x ≡ last.placed x) × (h.beside x ≡ last.beside x))

  -- a place that isn't written and doesn't go stays as it is
  idle : (x : List ℕ) → is_among names x ≡ false → last.beside x ≡ (all_staged files old).beside x
  idle x other = still_at names old.beside x other ∙ sym (with_all-miss files old.beside x other)

  gone : (x : List ℕ) → is_among going x ≡ true → last.placed x ≡ None
  gone x is = with_all-miss files (without_all going old.placed) x (others x is) ∙ gone_at going old.placed x is

  -- ---- what a save leaves

  module _ (apart : AreApart files) where
    way_at : (n k : ℕ) (x : List ℕ) → At (record { placed = with_all (take k files) (without_all (take n going) old.placed); beside = without_all (names_of (take k files)) (with_all files old.beside) }) x
    way_at n k x = elim (cases_Bool (is_among (names_of (take k files)) x)) [
      | inl done ↦ inr (
        with_first files k (without_all (take n going) old.placed) x apart done ∙ with_all-hit files (without_all (take n going) old.placed) (without_all going old.placed) x (among_files files k x done),
        gone_at (names_of (take k files)) (with_all files old.beside) x done ∙ sym (gone_at names old.beside x (among_files files k x done)),
      )
      | inr later ↦ elim (cases_Bool (is_among (take n going) x)) [
        | inl went ↦ inr (
          with_all-miss (take k files) (without_all (take n going) old.placed) x later ∙ gone_at (take n going) old.placed x went ∙ sym (gone x (among_all going n x went)),
          still_at (names_of (take k files)) (with_all files old.beside) x later ∙ sym (idle x (others x (among_all going n x went))),
        )
        | inr stays ↦ inl (
          with_all-miss (take k files) (without_all (take n going) old.placed) x later ∙ still_at (take n going) old.placed x stays,
          still_at (names_of (take k files)) (with_all files old.beside) x later,
        )
      ]
    ]

    pub left_by_save : (h : Held) → IsUnderWay files going old h → HasSamePlaces old h ⊎ IsBetween files going old h
    left_by_save h (inl same) = inl same.placed
    left_by_save h (inr way) = inr (λ x. subst (λ (y : Held). At y x) (sym way.2) (way_at way.0 (way.0 - length going) x))

  -- ---- what a repair leaves

  one_removed : (name : List ℕ) (h : Held) → is_among going name ≡ true → IsBetween files going old h → IsBetween files going old (removed name h)
  one_removed name h is between x = elim (cases_Bool (bytes_eq name x)) [
    | inl same ↦ inr (
      with_this_one h.placed name None x same ∙ sym (gone x (here same)),
      elim (between x) [ inl before ↦ before.1 ∙ sym (idle x (others x (here same))) | inr after ↦ after.1 ],
    )
    | inr differ ↦ elim (between x) [
      | inl before ↦ inl (with_other h.placed name None x differ ∙ before.0, before.1)
      | inr after ↦ inr (with_other h.placed name None x differ ∙ after.0, after.1)
    ]
  ]
    where
      here : bytes_eq name x ≡ true → is_among going x ≡ true
      here same = ap (λ (y : List ℕ). is_among going y) (sym ((bytes_eq-Decides name x).0 same)) ∙ is

  pub all_removed : (gone : List (List ℕ)) (h : Held) → AreAmong gone going → IsBetween files going old h → IsBetween files going old (in_turn removed gone h)
  all_removed [] h all between = between
  all_removed (name ∷ gone) h all between =
      all_removed gone (removed name h) (λ x is. all x (later x is)) (one_removed name h (all name (or_same (bytes_eq name name) (is_among gone name) (same_name name))) between)
    where
      later : (x : List ℕ) → is_among gone x ≡ true → bytes_eq name x || is_among gone x ≡ true
      later x is = elim (cases_Bool (bytes_eq name x)) [ inl same ↦ or_same (bytes_eq name x) (is_among gone x) same | inr differ ↦ ap (λ (t : Bool). t || is_among gone x) differ ∙ is ]

  one_renamed : (name : List ℕ) (h : Held) → is_among names name ≡ true → IsSome (h.beside name) → IsBetween files going old h → IsBetween files going old (renamed name h)
  one_renamed name h is stands between x = elim (cases_Bool (bytes_eq name x)) [
    | inl same ↦ inr (
      with_this_one h.placed name (h.beside name) x same ∙ bytes ∙ ap (λ (y : List ℕ). last.placed y) ((bytes_eq-Decides name x).0 same),
      with_this_one h.beside name None x same ∙ sym (gone_at names old.beside x (ap (λ (y : List ℕ). is_among names y) (sym ((bytes_eq-Decides name x).0 same)) ∙ is)),
    )
    | inr differ ↦ elim (between x) [
      | inl before ↦ inl (with_other h.placed name (h.beside name) x differ ∙ before.0, with_other h.beside name None x differ ∙ before.1)
      | inr after ↦ inr (with_other h.placed name (h.beside name) x differ ∙ after.0, with_other h.beside name None x differ ∙ after.1)
    ]
  ]
    where
      bytes : h.beside name ≡ last.placed name
      bytes = elim (between name) [
        | inl before ↦ before.1 ∙ with_all-hit files old.beside (without_all going old.placed) name is
        | inr after ↦ absurd (some_none (h.beside name) stands (after.1 ∙ gone_at names old.beside name is))
      ]

  pub all_renamed : (some : List (List ℕ)) (h : Held) → AreAmong some names → AreBeside some h → IsBetween files going old h → IsBetween files going old (in_turn renamed some h)
  all_renamed [] h all stand between = between
  all_renamed (name ∷ some) h all stand between =
      all_renamed some (renamed name h) (λ x is. all x (later x is)) stand.1 (one_renamed name h (all name (or_same (bytes_eq name name) (is_among some name) (same_name name))) stand.0 between)
    where
      later : (x : List ℕ) → is_among some x ≡ true → bytes_eq name x || is_among some x ≡ true
      later x is = elim (cases_Bool (bytes_eq name x)) [ inl same ↦ or_same (bytes_eq name x) (is_among some x) same | inr differ ↦ ap (λ (t : Bool). t || is_among some x) differ ∙ is ]

-- ---- what stands beside its place still does

pub beside_first_of : (some : List (List ℕ)) (n : ℕ) (h : Held) → AreBeside some h → AreBeside (take n some) h
beside_first_of [] zero h all = tt
beside_first_of [] (suc n) h all = tt
beside_first_of (x ∷ some) zero h all = tt
beside_first_of (x ∷ some) (suc n) h all = (all.0, beside_first_of some n (renamed x h) all.1)

beside_as : (some : List (List ℕ)) (h k : Held) → k.beside ≡ h.beside → AreBeside some h → AreBeside some k
beside_as [] h k same all = tt
beside_as (x ∷ some) h k same all = (ap (λ (b : Files). is_some (b x)) same ∙ all.0, beside_as some (renamed x h) (renamed x k) (λ i. with_file (same i) x None) all.1)

pub beside_removed : (some gone : List (List ℕ)) (h : Held) → AreBeside some h → AreBeside some (in_turn removed gone h)
beside_removed some gone h all = beside_as some h (in_turn removed gone h) (ap (λ (k : Held). k.beside) (removed-is gone h)) all

-- ---- what stands in a place

-- a place holds what it held, or what stood beside it, or nothing; and beside it stands what did, or nothing
abbrev Comes : Held → Held → List ℕ → Type 0
Comes h k x = ((k.placed x ≡ h.placed x) ⊎ ((k.placed x ≡ h.beside x) ⊎ (k.placed x ≡ None))) × ((k.beside x ≡ h.beside x) ⊎ (k.beside x ≡ None))

pub comes_removed : (name : List ℕ) (h k : Held) → ((x : List ℕ) → Comes h k x) → (x : List ℕ) → Comes h (removed name k) x
comes_removed name h k come x = elim (cases_Bool (bytes_eq name x)) [
  | inl same ↦ (inr (inr (with_this_one k.placed name None x same)), (come x).1)
  | inr differ ↦ (subst (λ (y : Option (List ℕ)). (y ≡ h.placed x) ⊎ ((y ≡ h.beside x) ⊎ (y ≡ None))) (sym (with_other k.placed name None x differ)) (come x).0, (come x).1)
]

pub comes_renamed : (name : List ℕ) (h k : Held) → ((x : List ℕ) → Comes h k x) → (x : List ℕ) → Comes h (renamed name k) x
comes_renamed name h k come x = elim (cases_Bool (bytes_eq name x)) [
  | inl same ↦ (put same, inr (with_this_one k.beside name None x same))
  | inr differ ↦ (
    subst (λ (y : Option (List ℕ)). (y ≡ h.placed x) ⊎ ((y ≡ h.beside x) ⊎ (y ≡ None))) (sym (with_other k.placed name (k.beside name) x differ)) (come x).0,
    subst (λ (y : Option (List ℕ)). (y ≡ h.beside x) ⊎ (y ≡ None)) (sym (with_other k.beside name None x differ)) (come x).1,
  )
]
  where
    put : bytes_eq name x ≡ true → ((renamed name k).placed x ≡ h.placed x) ⊎ (((renamed name k).placed x ≡ h.beside x) ⊎ ((renamed name k).placed x ≡ None))
    put same =
        let is : (renamed name k).placed x ≡ k.beside x = with_this_one k.placed name (k.beside name) x same ∙ ap (λ (y : List ℕ). k.beside y) ((bytes_eq-Decides name x).0 same) in
        elim (come x).1 [ inl stood ↦ inr (inl (is ∙ stood)) | inr none ↦ inr (inr (is ∙ none)) ]

pub all_come : (step : List ℕ → Held → Held) → ((name : List ℕ) (h k : Held) → ((x : List ℕ) → Comes h k x) → (x : List ℕ) → Comes h (step name k) x)
    → (names : List (List ℕ)) (h k : Held) → ((x : List ℕ) → Comes h k x) → (x : List ℕ) → Comes h (in_turn step names k) x
all_come step one [] h k come = come
all_come step one (name ∷ names) h k come = all_come step one names h (step name k) (one name h k come)
