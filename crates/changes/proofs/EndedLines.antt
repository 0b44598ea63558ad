-- Lines that all have an ending.
use Rattle.std.proofs.Common.{◌≡◌, ◌-◌, ◌∙◌, ℕ, true, suc, List, [], ◌∷◌, Contains, Ok, length, refl, sym, ap, inl, inr, subst, arith}
use Rattle.std.specs.Prelude.{slice_get}
use Rattle.std.proofs.lemmas.Bool.{and_from, and_parts}
use Rattle.std.specs.List.{AllByRecursion, concat, list_all}
use Rattle.pep508.specs.Lines.{AreLines}
use Rattle.pep508.specs.Requirement.{IsLine, file_of}
use Rattle.pep508.proofs.Files.{file_of-joined}
use Rattle.pep508.proofs.LinesAreCut.{cut-AreLines}
use Rattle.pep508.proofs.OneLineMore.{AreLines-file_of}
use Rattle.states.specs.State.{IsState}
use Rattle.states.specs.StateParts.{StateParts}
use Rattle.changes.specs.Changes.{ChangeParts}
use Rattle.changes.specs.Tied.Outcome.{IsMade}
use Rattle.changes.specs.Tied.Whole.{LastIsEnded, are_whole, is_ended, is_whole}
use Rattle.changes.specs.declared.change.outcome.Outcome.{Outcome}
use Rattle.states.proofs.PartFacts.{All-member, All-of}
use Rattle.changes.proofs.LinesCarried.{old-or-put}
use Rattle.changes.proofs.WholeLines.{ended-some, whole-lines, whole-of}

all-ended : (lines : List (List ℕ)) → are_whole lines ≡ true → LastIsEnded lines → AllByRecursion (λ l. is_ended l ≡ true) lines
all-ended [] whole last = tt
all-ended (line ∷ []) whole last = (last line refl, tt)
all-ended (line ∷ next ∷ rest) whole last =
    let parts = and_parts (is_ended line) (are_whole (next ∷ rest)) whole in
    let place : length (line ∷ next ∷ rest) - 1 ≡ suc (length (next ∷ rest) - 1) = omega arith in
    (parts.0, all-ended (next ∷ rest) parts.1 (λ l at. last l (ap (slice_get (line ∷ next ∷ rest)) place ∙ at)))

whole-ended : (lines : List (List ℕ)) → AllByRecursion (λ l. is_ended l ≡ true) lines → are_whole lines ≡ true
whole-ended [] all = refl
whole-ended (line ∷ []) all = and_from (is_whole line []) true (ended-some line all.0) refl
whole-ended (line ∷ next ∷ rest) all = and_from (is_ended line) (are_whole (next ∷ rest)) all.0 (whole-ended (next ∷ rest) all.1)

each-ended : (lines : List (List ℕ)) → list_all is_ended lines ≡ true → AllByRecursion (λ l. is_ended l ≡ true) lines
each-ended [] all = tt
each-ended (line ∷ rest) all = let parts = and_parts (is_ended line) (list_all is_ended rest) all in (parts.0, each-ended rest parts.1)

-- of a state whose lines all have an ending, lines that have one too make lines of a file
module _ (change : ChangeParts) (old : StateParts) (made : Outcome) (before : IsState old) (is : IsMade old change made) (last : LastIsEnded old.lines) (put : list_all is_ended made.put ≡ true)
    (each : AllByRecursion IsLine made.lines) where
  new-ended : AllByRecursion (λ l. is_ended l ≡ true) made.lines
  new-ended =
      let olds = all-ended old.lines (whole-of old.lines (AreLines-file_of (concat old.lines) old.lines before.lines)) last in
      let puts = each-ended made.put put in
      All-of (λ (l : List ℕ). is_ended l ≡ true) made.lines (λ line there. elim (old-or-put 0 change.splices old.lines made.lines is.after.lines line there) [
        | inl kept ↦ All-member (λ (l : List ℕ). is_ended l ≡ true) old.lines line olds kept
        | inr new ↦ All-member (λ (l : List ℕ). is_ended l ≡ true) made.put line puts (subst (λ (l : List (List ℕ)). Contains l line) (sym is.put_is) new)
      ])

  pub lines-still : AreLines made.lines
  lines-still = (whole-lines made.lines each).0 (whole-ended made.lines new-ended)

  pub lines-read : file_of (concat made.lines) ≡ Ok made.lines
  lines-read = file_of-joined made.lines each (cut-AreLines made.lines lines-still)
