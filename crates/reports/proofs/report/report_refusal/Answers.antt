use Rattle.reports.proofs.Refusals.{IsByWord, either, told-by-word}
use Rattle.reports.proofs.report.report_refusal.Goals as goal

pub returns-in-NoSolution : goal.returns-in-NoSolution
returns-in-NoSolution g c = rw c.in-NoSolution.is (rw c.in-NoSolution.is at c.report_word.ensures)

pub returns-in-BadText : goal.returns-in-BadText
returns-in-BadText g c =
    let refusal = c.args.refusal.now in
    let is : IsByWord refusal =
    either (λ p. rw p tt) (either (λ s. rw s.1 tt) (either (λ p. rw p tt) (either (λ s. rw s.1 tt) (either (λ s. rw s.1 tt) (either (λ p. rw p tt)
    (either (λ p. rw p tt) (either (λ p. rw p tt) (either (λ p. rw p tt) (either (λ s. rw s.1 tt) (either (λ s. rw s.1 tt) (λ p. rw p tt))))))))))) c.in-BadText.is
    in
    told-by-word refusal _ _ _ is c.report_word-in-BadText.ensures
