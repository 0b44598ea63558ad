-- The locks that are taken from beside their places one after the other, of those that a journal names.
use Rattle.std.proofs.Common.{◌≡◌, ◌⊎◌, ◌∙◌, ◌+◌, ◌≤◌, ◌||◌, ℕ, zero, suc, Bool, true, false, List, [], ◌∷◌, Some, ap, arith, if◌then◌else◌, inl, inr, is_some, length, refl, subst, sym, true≢false}
use Rattle.std.specs.Prelude.{not}
use Rattle.std.proofs.lemmas.Bool.{cases_Bool}
use Rattle.std.proofs.lemmas.Slice.Eq.{bytes_eq-Decides}
use Rattle.std.specs.Str.{bytes_eq}
use Rattle.folder.specs.Held.{Held}
use Rattle.inputs.specs.declared.input_files.InputFile.{InputFile}
use Rattle.inputs.specs.declared.input_files.InputFile.TheVariants.{Lock, Journal}
use Rattle.journal.specs.Locks.{lock_at}
use Rattle.files.specs.Beside.{has}
use Rattle.files.specs.Completed.{AreLocksToldApart, Completes}
use Rattle.files.specs.JournalLocks.{AreOfJournal, Names}
use Rattle.files.specs.NextLocks.{IsCounted, IsNext, IsNextOf, NoneTakesMore, Takes, TakesMore, is_left_lock}
use Rattle.files.specs.Places.{standing}
use Rattle.files.specs.TargetLocks.{is_among}
use Rattle.files.specs.declared.beside.Beside.{Beside}
use Rattle.files.proofs.JournalNames.{named-once, opens-named}

-- how many of these names have locks that aren't taken from beside their places
abbrev pub names_left : Beside → List (List ℕ) → ℕ
names_left beside [] = 0
names_left beside (name ∷ names) = (if has beside (Lock name) then 0 else 1) + names_left beside names

-- a way that takes more than some files takes more than these too; and so many more locks may be tried
pub record HasTried (beside : Beside) (way : InputFile → Bool) (held : Held) (whole : Completes way held) (tried count : ℕ) : Type 0 where
  pub more : TakesMore beside way
  pub few : (names : List (List ℕ)) → Names whole.files.journal names → names_left beside names + tried ≤ count

-- each way that takes more than the first of these files, and completes the folder, takes more than the second too
abbrev pub AreTried : Beside → Beside → ℕ → ℕ → Held → Type 0
AreTried first beside tried count held = AreLocksToldApart held → (way : InputFile → Bool) (whole : Completes way held) → TakesMore first way → HasTried beside way held whole tried count

-- ---- how many are left

left-all : (beside : Beside) (names : List (List ℕ)) → names_left beside names ≤ length names
left-all beside [] = omega arith
left-all beside (name ∷ names) = one (has beside (Lock name)) (left-all beside names)
  where
    one : (had : Bool) → names_left beside names ≤ length names → (if had then 0 else 1) + names_left beside names ≤ length (name ∷ names)
    one true less = omega arith
    one false less = omega arith

module _ (old new : Beside) (keeps : (name : List ℕ) → has old (Lock name) ≡ true → has new (Lock name) ≡ true) where
  no-more : (a b : Bool) (m n : ℕ) → (a ≡ true → b ≡ true) → m ≤ n → (if b then 0 else 1) + m ≤ (if a then 0 else 1) + n
  no-more true true m n so less = omega arith
  no-more true false m n so less = absurd (true≢false (sym (so refl)))
  no-more false true m n so less = omega arith
  no-more false false m n so less = omega arith

  left-less : (names : List (List ℕ)) → names_left new names ≤ names_left old names
  left-less [] = omega arith
  left-less (name ∷ names) = no-more (has old (Lock name)) (has new (Lock name)) (names_left new names) (names_left old names) (keeps name) (left-less names)

  one-less : (a b : Bool) (m n : ℕ) → a ≡ false → b ≡ true → m ≤ n → suc ((if b then 0 else 1) + m) ≤ (if a then 0 else 1) + n
  one-less true b m n had now less = absurd (true≢false had)
  one-less false true m n had now less = omega arith
  one-less false false m n had now less = absurd (true≢false (sym now))

  later : (a b : Bool) (m n : ℕ) → (a ≡ true → b ≡ true) → suc m ≤ n → suc ((if b then 0 else 1) + m) ≤ (if a then 0 else 1) + n
  later true true m n so less = omega arith
  later true false m n so less = absurd (true≢false (sym (so refl)))
  later false true m n so less = omega arith
  later false false m n so less = omega arith

  -- where one of the names is taken too, one less is left
  left-one_less : (names : List (List ℕ)) (name : List ℕ) → is_among names name ≡ true → has old (Lock name) ≡ false → has new (Lock name) ≡ true → suc (names_left new names) ≤ names_left old names
  left-one_less [] name among had now = absurd (true≢false (sym among))
  left-one_less (other ∷ names) name among had now = elim (cases_Bool (bytes_eq other name)) [
    | inl same ↦
        let is : name ≡ other = sym ((bytes_eq-Decides other name).0 same) in
        one-less (has old (Lock other)) (has new (Lock other)) (names_left new names) (names_left old names) (subst (λ (n : List ℕ). has old (Lock n) ≡ false) is had) (subst (λ (n : List ℕ). has new (Lock n) ≡ true) is now) (left-less names)
    | inr differ ↦
        later (has old (Lock other)) (has new (Lock other)) (names_left new names) (names_left old names) (keeps other)
        (left-one_less names name (sym (ap (λ (b : Bool). b || is_among names name) differ) ∙ among) had now)
  ]

-- one is left
some-left : (beside : Beside) (names : List (List ℕ)) (name : List ℕ) → is_among names name ≡ true → has beside (Lock name) ≡ false → 1 ≤ names_left beside names
some-left beside [] name among had = absurd (true≢false (sym among))
some-left beside (other ∷ names) name among had = elim (cases_Bool (bytes_eq other name)) [
  | inl same ↦ here (has beside (Lock other)) (names_left beside names) (subst (λ (n : List ℕ). has beside (Lock n) ≡ false) (sym ((bytes_eq-Decides other name).0 same)) had)
  | inr differ ↦ there (has beside (Lock other)) (names_left beside names) (some-left beside names name (sym (ap (λ (b : Bool). b || is_among names name) differ) ∙ among) had)
]
  where
    here : (a : Bool) (n : ℕ) → a ≡ false → 1 ≤ (if a then 0 else 1) + n
    here true n had = absurd (true≢false had)
    here false n had = omega arith

    there : (a : Bool) (n : ℕ) → 1 ≤ n → 1 ≤ (if a then 0 else 1) + n
    there true n some = omega arith
    there false n some = omega arith

-- ---- the next one

module _ (beside : Beside) (way : InputFile → Bool) (h : Held) (whole : Completes way h) where
  -- the next lock is one that the journal names
  next-named : (file : InputFile) (next : IsNextOf beside way h whole file) (of_journal : AreOfJournal whole.files.journal whole.files.locks) → is_among of_journal.names next.name ≡ true
  next-named file next of_journal = sym (of_journal.have next.name) ∙ next.there

  next-left : (file : InputFile) (next : IsNextOf beside way h whole file) → has beside (Lock next.name) ≡ false
  next-left file next = subst (λ (f : InputFile). has beside f ≡ false) next.is next.left

-- at first
pub none-tried : (beside : Beside) (count : ℕ) (h : Held) → IsCounted beside count h → AreTried beside beside 0 count h
none-tried beside count h counted apart way whole more = record {
  more = more;
  few = λ names named.
      let is : count ≡ length names = counted whole.files.journal names (subst (λ (b : Bool). standing b h Journal ≡ Some whole.files.journal) more.journal whole.stand.journal) named in
      let all = left-all beside names in
      omega arith;
}

-- when the next one is taken too
pub one-tried : (first old new : Beside) (tried count : ℕ) (file : InputFile) (h : Held) → AreTried first old tried count h → IsNext old file h → Takes file old new → AreTried first new (tried + 1) count h
one-tried first old new tried count file h are next takes apart way whole more =
    let so = are apart way whole more in
    let one = next apart way whole so.more in
    record {
      more = record {
        requirements = so.more.requirements ∙ sym takes.requirements;
        journal = so.more.journal ∙ sym takes.journal;
        locks = λ name had. elim (takes.locks name had) [ inl before ↦ so.more.locks name before | inr is ↦ subst (λ (f : InputFile). way f ≡ true) is one.taken ];
      };
      few = λ names named.
          let less = left-one_less old new (λ name had. takes.keeps name (inl had)) names one.name (among names named one) (next-left old way h whole file one) (takes.keeps one.name (inr one.is)) in
          let before = so.few names named in
          omega arith;
    }
  where
    among : (names : List (List ℕ)) → Names whole.files.journal names → (one : IsNextOf old way h whole file) → is_among names one.name ≡ true
    among names named one =
        let of_journal = opens-named whole.files.requirements whole.files.locks whole.files.journal whole.history whole.opens in
        ap (λ (n : List (List ℕ)). is_among n one.name) (named-once whole.files.journal names of_journal.names named of_journal.named) ∙ next-named old way h whole file one of_journal

left-lock : (beside : Beside) (file : InputFile) (name : List ℕ) → file ≡ Lock name → has beside file ≡ false → is_left_lock beside file ≡ true
left-lock beside file name is had = ap (λ (f : InputFile). is_left_lock beside f) is ∙ ap (λ (b : Bool). not b) (sym (ap (λ (f : InputFile). has beside f) is) ∙ had)

-- where the next one is no lock, or is taken already, there is no such way
pub none-left : (first beside : Beside) (tried count : ℕ) (file : InputFile) (h : Held) → AreTried first beside tried count h → IsNext beside file h → is_left_lock beside file ≡ false → NoneTakesMore first h
none-left first beside tried count file h are next none apart way whole more =
    let one = next apart way whole (are apart way whole more).more in
    true≢false (sym (left-lock beside file one.name one.is one.left) ∙ none)

-- where all were tried, there is none
pub all-tried : (first beside : Beside) (tried count : ℕ) (file : InputFile) (h : Held) → count ≤ tried → AreTried first beside tried count h → IsNext beside file h → NoneTakesMore first h
all-tried first beside tried count file h past are next apart way whole more =
    let so = are apart way whole more in
    let one = next apart way whole so.more in
    let of_journal = opens-named whole.files.requirements whole.files.locks whole.files.journal whole.history whole.opens in
    let some = some-left beside of_journal.names one.name (next-named beside way h whole file one of_journal) (next-left beside way h whole file one) in
    let few = so.few of_journal.names of_journal.named in
    omega arith
