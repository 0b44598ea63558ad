-- The place behind the first line of a journal.
use Rattle.std.proofs.Common.{◌≡◌, ℕ, ◌+◌, ◌-◌, ◌≤◌, List, drop, length, take, Option, Some, None, Ok, Err, refl, sym, ap, subst, ◌∙◌, inl, inr, arith}
use Rattle.std.specs.Prelude.{◌==◌, position}
use Rattle.std.proofs.lemmas.Bool.{cases_lt}
use Rattle.std.proofs.lemmas.List.{drop_all, length-drop, take_rest}
use Rattle.journal_format.specs.Lines.{cut_line, header_of_line}
use Rattle.journal_format.specs.declared.header.Header.{Header}
use Rattle.pylock.specs.declared.flaw.Flaw.{Flaw}
use Rattle.journal.specs.Tied.{IsBegun}
use Rattle.journal.specs.declared.journal.FirstLine.{FirstLine}

-- what is left behind a place of a list begins at the place that its length tells
left-at : (n : ℕ) (xs : List ℕ) → drop (length xs - length (drop n xs)) xs ≡ drop n xs
left-at n xs =
    let left = length-drop n xs in
    elim (cases_lt n (length xs)) [
      | inl below ↦
          (let place : length xs - length (drop n xs) ≡ n = omega (arith, left, below) in
          ap (λ k. drop k xs) place)
      | inr past ↦
          (let place : length xs ≤ length xs - length (drop n xs) = omega (arith, left, past) in
          drop_all (length xs - length (drop n xs)) xs place ∙ sym (drop_all n xs past))
    ]

-- the bytes behind a line that is cut off
pub record IsBehind (bytes behind : List ℕ) : Type 0 where
  pub within : length behind ≤ length bytes
  pub at : drop (length bytes - length behind) bytes ≡ behind

left-behind : (n : ℕ) (bytes behind : List ℕ) → drop n bytes ≡ behind → IsBehind bytes behind
left-behind n bytes behind is =
    let left : length behind ≡ length bytes - n = sym (ap length is) ∙ length-drop n bytes in
    record { within = omega (arith, left); at = ap (λ (b : List ℕ). drop (length bytes - length b) bytes) (sym is) ∙ left-at n bytes ∙ is }

behind_by : (place : Option ℕ) (bytes line behind : List ℕ) → position (λ b. b == 10) bytes ≡ place → cut_line bytes ≡ Some (line, behind) → IsBehind bytes behind
behind_by None bytes line behind is cut = absurd (let none = (rw is at cut) in cc)
behind_by (Some i) bytes line behind is cut =
    let same : Some (take i bytes, drop (i + 1) bytes) ≡ Some (line, behind) = (rw is at cut) in
    let pairs : (take i bytes, drop (i + 1) bytes) ≡ (line, behind) = cc in
    let rest : drop (i + 1) bytes ≡ behind = ap (λ (pair : List ℕ × List ℕ). pair.1) pairs in
    left-behind (i + 1) bytes behind rest

is-behind : (bytes line behind : List ℕ) → cut_line bytes ≡ Some (line, behind) → IsBehind bytes behind
is-behind bytes line behind cut = behind_by (position (λ b. b == 10) bytes) bytes line behind refl cut

-- bytes whose first line is a header begin with it
pub begun : (bytes line behind : List ℕ) (header : Header) → cut_line bytes ≡ Some (line, behind) → header_of_line line ≡ Ok header
    → IsBegun bytes (Some (record { header = header; behind = length bytes - length behind }))
begun bytes line behind header cut read =
    let is = is-behind bytes line behind cut in
    (omega arith, record { line = line; cut = cut ∙ ap (λ (b : List ℕ). Some (line, b)) (sym is.at); header = read })

-- bytes without a line begin with none
pub no-line : (bytes : List ℕ) → cut_line bytes ≡ None → IsBegun bytes None
no-line bytes none begin is = absurd (let same : None ≡ Some (is.line, begin.1) = sym none ∙ is.cut in cc)

-- neither do those whose first line is no header
other_line : (line other : List ℕ) (header : Header) (flaw : Flaw) → line ≡ other → header_of_line line ≡ Err flaw → header_of_line other ≡ Ok header → ⊥
other_line line other header flaw same none read = absurd (let both : Err flaw ≡ Ok header = sym none ∙ ap header_of_line same ∙ read in cc)

pub no-header : (bytes line behind : List ℕ) (flaw : Flaw) → cut_line bytes ≡ Some (line, behind) → header_of_line line ≡ Err flaw → IsBegun bytes None
no-header bytes line behind flaw cut none begin is =
    let cuts : Some (line, behind) ≡ Some (is.line, begin.1) = sym cut ∙ is.cut in
    let pairs : (line, behind) ≡ (is.line, begin.1) = cc in
    let lines : line ≡ is.line = ap (λ (pair : List ℕ × List ℕ). pair.0) pairs in
    other_line line is.line begin.0 flaw lines none is.header

-- what holds of bytes and the first line that was found of them, by cases
pub with-first : (bytes : List ℕ) (o : Option FirstLine) (first : FirstLine) → o ≡ Some first → IsBegun bytes o → IsBegun bytes (Some first)
with-first bytes o first is begun = subst (IsBegun bytes) is begun

pub with-none : (bytes : List ℕ) (o : Option FirstLine) → o ≡ None → IsBegun bytes o → IsBegun bytes None
with-none bytes o is begun = subst (IsBegun bytes) is begun

pub all_behind : (n : ℕ) (xs : List ℕ) → take (length xs - n) (drop n xs) ≡ drop n xs
all_behind n xs = take_rest xs n
