use Rattle.std.proofs.Common.{◌≡◌, ◌&&◌, ◌∙◌, Bool, List, IfOk, sym, ap, subst}
use Rattle.std.specs.List.{list_any}
use Rattle.pep440.specs.Version.{is_pre}
use Rattle.problems.specs.Admission.{takes_pre, takes_yanked}
use Rattle.problems.specs.Problem.{ProblemParts, releases_on}
use Rattle.problems.proofs.Admitting.{admitted-all, and-else, and-then}
use Rattle.problems.proofs.admission.admissions.Goals as goal
use Rattle.problems.proofs.admission.admissions.Goals.{then-has_pre, else-has_pre, then-has_yanked, else-has_yanked}

pub returns : goal.returns
returns c =
    let releases = c.releases-releases.result.now in
    let pre : c.if-has_pre.pre ≡ (list_any (λ release. is_pre release.version) releases && takes_pre c.args.problem.now c.args.wanted.now) = elim c.if-has_pre.branch [
      | then-has_pre w ↦ rw w.pre-is (and-then _ _ _ (sym c.has_pre.ensures ∙ w.if-has_pre.true) w.takes_pre-pre.ensures)
      | else-has_pre w ↦ and-else _ _ _ (sym c.has_pre.ensures ∙ w.if-has_pre.false) (w.pre-is ∙ w.if-has_pre.false)
    ] in
    let yanked : c.if-has_yanked.yanked ≡ (list_any (λ release. release.yanked) releases && takes_yanked c.args.problem.now c.args.wanted.now) = elim c.if-has_yanked.branch [
      | then-has_yanked w ↦ rw w.yanked-is (and-then _ _ _ (sym c.has_yanked.ensures ∙ w.if-has_yanked.true) w.takes_yanked-yanked.ensures)
      | else-has_yanked w ↦ and-else _ _ _ (sym c.has_yanked.ensures ∙ w.if-has_yanked.false) (w.yanked-is ∙ w.if-has_yanked.false)
    ] in
    let environment = ap (λ (given : ProblemParts). given.environment) c.problem.view_is in
    let same = admitted-all c.args.problem.now c.args.wanted.now _ _ _ releases environment (c.releases-releases.ensures.listed ∙ ap (releases_on c.args.problem.now) c.name.ensures) pre yanked in
    subst (λ (admitted : List Bool). IfOk c.admitted.result (λ admits. admits ≡ admitted)) same c.admitted.ensures
