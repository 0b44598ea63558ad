use Rattle.std.proofs.Common.{ℕ, List, Some, subst, sym}
use Rattle.problems.specs.Problem.{ProblemParts}
use Rattle.edits.specs.Edits.{Locks}
use Rattle.edits.proofs.MergesAgree.{replaced-by-itself}
use Rattle.edits.proofs.replace_laws.replacing_lines_by_themselves_is_a_relock.Goals as goal

pub returns : goal.returns
returns c = λ state pool answer is.
    let same = replaced-by-itself state pool is in (
      subst (λ (givens : List (List ℕ × ProblemParts)). Locks (Some state) givens state.lines answer) same,
      subst (λ (givens : List (List ℕ × ProblemParts)). Locks (Some state) givens state.lines answer) (sym same),
    )
