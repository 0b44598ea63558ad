use Rattle.std.proofs.Common.{◌≡◌, ◌∙◌, false, sym, subst}
use Rattle.std.specs.List.{list_all}
use Rattle.search.specs.FirstWalk.{IsFirst}
use Rattle.problems.specs.Admission.{admits}
use Rattle.problems.specs.Rules.{rules_of}
use Rattle.resolve.specs.Tied.Choosing.{IsRefusedBy}
use Rattle.resolve.proofs.FirstAdmitted.{first-behind, first-kept, some-more}
use Rattle.resolve.proofs.first_candidate.first_admitted.Goals as goal

pub returns-then-all_admit : goal.returns-then-all_admit
returns-then-all_admit c =
    let kept = rw c.in-Some.is at c.kept.ensures in
    subst (IsFirst (rules_of c.args.problem.now) (IsRefusedBy c.args.problem.now c.args.asks.now) c.args.name.now) (sym c.version-then-all_admit.ensures)
    (first-kept c.args.problem.now c.args.name.now c.args.asks.now c.in-Some.release.now.version (sym kept))

pub returns-else-all_admit : goal.returns-else-all_admit
returns-else-all_admit c =
    let kept = rw c.in-Some.is at c.kept.ensures in
    let refused = subst (λ v. list_all (λ wanted. admits c.args.problem.now wanted v) c.args.asks.now ≡ false) c.version.ensures (sym c.all_admit.ensures ∙ c.if-all_admit.false) in
    some-more _ _ c.newest_admitted-else-all_admit.result (λ v newest. first-behind c.args.problem.now (c.equal_versions_are_alike.ensures c.args.problem.now) c.args.name.now c.args.asks.now c.in-Some.release.now.version v.now (sym kept) refused newest.0 newest.1) c.newest_admitted-else-all_admit.ensures
