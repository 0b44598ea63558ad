-- A journal that was cut off.
use Rattle.std.proofs.Common.{◌≡◌, ◌<◌, ◌≤◌, ◌+◌, ◌==◌, ◌++◌, ℕ, zero, suc, Bool, List, [], ◌∷◌, Option, Some, None, Ok, append-nil, arith, length, take, drop, refl, sym, ap, subst, ◌∙◌, inl, inr}
use Rattle.std.proofs.lemmas.Bool.{cases_Bool}
use Rattle.std.proofs.lemmas.Grind.{common_steps}
use Rattle.std.proofs.lemmas.List.{drop-append-le, take-append-le}
use Rattle.std.proofs.lemmas.List.Folds.{prefix_len-append}
use Rattle.std.proofs.lemmas.Slice.Eq.{bytes_eq-Decides}
use Rattle.std.specs.Prelude.{not, position}
use Rattle.std.specs.Str.{bytes_eq}
use Rattle.changes.specs.Changes.{ChangeParts}
use Rattle.states.specs.declared.refusal.Refusal.TheVariants.{JournalBroken}
use Rattle.journal.specs.Changes.{HistoryParts, parts_of}
use Rattle.journal.specs.Locks.{LockTexts}
use Rattle.journal.specs.Opens.{BeginsWith, IsAnswer, Opens, PastOf, Present, StepAt, StepLines, Then}
use Rattle.journal.specs.Values.{State}
use Rattle.journal_format.specs.Lines.{cut_line}
use Rattle.journal_format.specs.declared.header.Header.{Header}
use Rattle.files.proofs.Answers.{checked, found, went-on}
use Rattle.files.proofs.OtherLocks.{has-header, one-header}
use Rattle.power_cuts.specs.Journals.{IsWholeOrNone}

-- ---- lines

-- the first byte that passes stays the first with more behind it
still-first : (test : ℕ → Bool) (bytes more : List ℕ) (i : ℕ) → position test bytes ≡ Some i → (i < length bytes) × (position test (bytes ++ more) ≡ Some i)
still-first test bytes more i is = (grind (arith, common_steps), grind (arith, common_steps, prefix_len-append (λ x. not (test x)) bytes more))

cut-longer_at : (place : Option ℕ) (bytes more line behind : List ℕ) → position (λ b. b == 10) bytes ≡ place → cut_line bytes ≡ Some (line, behind) → cut_line (bytes ++ more) ≡ Some (line, behind ++ more)
cut-longer_at None bytes more line behind is cut = absurd (let none = (rw is at cut) in cc)
cut-longer_at (Some i) bytes more line behind is cut =
    let same : Some (take i bytes, drop (i + 1) bytes) ≡ Some (line, behind) = (rw is at cut) in
    let pairs : (take i bytes, drop (i + 1) bytes) ≡ (line, behind) = cc in
    let still = still-first (λ b. b == 10) bytes more i is in
    let first : take i (bytes ++ more) ≡ line = take-append-le i bytes more (up-to i (length bytes) still.0) ∙ ap (λ (pair : List ℕ × List ℕ). pair.0) pairs in
    let rest : drop (i + 1) (bytes ++ more) ≡ behind ++ more = drop-append-le (i + 1) bytes more (behind-it i (length bytes) still.0) ∙ ap (λ (pair : List ℕ × List ℕ). pair.1 ++ more) pairs in
    rw still.1 (λ j. Some (first j, rest j))
  where
    up-to : (n m : ℕ) → n < m → n ≤ m
    up-to n m less = omega arith

    behind-it : (n m : ℕ) → n < m → n + 1 ≤ m
    behind-it n m less = omega arith

-- the first line stays the first with more behind it
cut-longer : (bytes more line behind : List ℕ) → cut_line bytes ≡ Some (line, behind) → cut_line (bytes ++ more) ≡ Some (line, behind ++ more)
cut-longer bytes more line behind cut = cut-longer_at (position (λ b. b == 10) bytes) bytes more line behind refl cut

one-cut : (cut : Option (List ℕ × List ℕ)) (x y : List ℕ × List ℕ) → cut ≡ Some x → cut ≡ Some y → x ≡ y
one-cut cut x y p q = let same : Some x ≡ Some y = sym p ∙ q in cc

-- ---- steps

-- nothing stands behind the steps of a journal
no-more : (header : Header) (steps number : ℕ) (bytes more : List ℕ) (changes others : List ChangeParts) → StepLines header steps number bytes (Ok changes) → StepLines header steps number (bytes ++ more) (Ok others) → more ≡ []
no-more header zero number bytes more changes others lines longer =
    let none : bytes ≡ [] = (checked (bytes ≡ []) (JournalBroken number) (IsAnswer []) changes lines).0 in
    ap (λ (b : List ℕ). b ++ more) (sym none) ∙ (checked (bytes ++ more ≡ []) (JournalBroken number) (IsAnswer []) others longer).0
no-more header (suc steps) number bytes more changes others lines longer =
    let one = found (StepAt header bytes) (JournalBroken number) (λ step. Then (StepLines header steps (number + 1) step.1) (λ behind. IsAnswer (step.0 ∷ behind))) changes lines in
    let two = found (StepAt header (bytes ++ more)) (JournalBroken number) (λ step. Then (StepLines header steps (number + 1) step.1) (λ behind. IsAnswer (step.0 ∷ behind))) others longer in
    let rest = went-on (StepLines header steps (number + 1) one.0.1) (λ behind. IsAnswer (one.0.0 ∷ behind)) changes one.2 in
    let far = went-on (StepLines header steps (number + 1) two.0.1) (λ behind. IsAnswer (two.0.0 ∷ behind)) others two.2 in
    let cuts = one-cut (cut_line (bytes ++ more)) (two.1.line, two.0.1) (one.1.line, one.0.1 ++ more) two.1.cut (cut-longer bytes more one.1.line one.0.1 one.1.cut) in
    let on : StepLines header steps (number + 1) (one.0.1 ++ more) (Ok far.0) = subst (λ (p : List ℕ × List ℕ). StepLines header steps (number + 1) p.1 (Ok far.0)) cuts far.1 in
    no-more header steps (number + 1) one.0.1 more rest.0 far.0 rest.1 on

-- ---- journals

-- a journal that files open with begins with a header, and has its steps behind it
record HasSteps (journal : List ℕ) : Type 0 where
  begin : Header × List ℕ
  begins : BeginsWith journal begin
  changes : List ChangeParts
  lines : StepLines begin.0 begin.0.steps 2 begin.1 (Ok changes)

has-steps : (requirements : List ℕ) (locks : LockTexts) (journal : List ℕ) (history : HistoryParts) → Opens requirements locks journal (Ok history) → HasSteps journal
has-steps requirements locks journal history opens =
    let h = has-header requirements locks journal history opens in
    let header = h.begin.0 in
    let go_on : State → List ChangeParts → _ = λ state changes. Then (PastOf header.cursor changes state) (λ past. IsAnswer (parts_of past changes)) in
    let now = went-on (Present header requirements locks) (λ state. Then (StepLines header header.steps 2 h.begin.1) (go_on state)) history h.opens in
    let steps = went-on (StepLines header header.steps 2 h.begin.1) (go_on now.0) history now.2 in
    record { begin = h.begin; begins = h.begins; changes = steps.0; lines = steps.1 }

-- a beginning that files open with too is all of the journal
none-left : (part rest : List ℕ) → HasSteps part → HasSteps (part ++ rest) → rest ≡ []
none-left part rest a b =
    let longer : BeginsWith (part ++ rest) (a.begin.0, a.begin.1 ++ rest) = record { line = a.begins.line; cut = cut-longer part rest a.begins.line a.begin.1 a.begins.cut; header = a.begins.header } in
    let same = one-header (part ++ rest) b.begin (a.begin.0, a.begin.1 ++ rest) b.begins longer in
    let lines : StepLines a.begin.0 a.begin.0.steps 2 (a.begin.1 ++ rest) (Ok b.changes) = subst (λ (x : Header × List ℕ). StepLines x.0 x.0.steps 2 x.1 (Ok b.changes)) same b.lines in
    no-more a.begin.0 a.begin.0.steps 2 a.begin.1 rest a.changes b.changes a.lines lines

pub cut-is_none : (requirements part rest : List ℕ) (locks : LockTexts) (history : HistoryParts) → Opens requirements locks (part ++ rest) (Ok history) → IsWholeOrNone (part ++ rest) (Some part)
cut-is_none requirements part rest locks history opens = elim (cases_Bool (bytes_eq part (part ++ rest))) [
  | inl same ↦ inl (ap (λ (b : List ℕ). Some b) ((bytes_eq-Decides part (part ++ rest)).0 same))
  | inr other ↦ inr (λ others more another opens_too.
      let none = none-left part rest (has-steps others more part another opens_too) (has-steps requirements locks (part ++ rest) history opens) in
      let whole : part ≡ part ++ rest = sym (append-nil part) ∙ ap (λ (b : List ℕ). part ++ b) (sym none) in
      let is = (bytes_eq-Decides part (part ++ rest)).1 whole in
      absurd (cc (is, other)))
]
