use Rattle.std.proofs.Common.{◌<◌, inl, inr, length, subst}
use Rattle.std.proofs.lemmas.List.Elements.{Contains-push_cases}
use Rattle.explain.proofs.grounds.marked.Goals.{then-unwrap_or+in_ok-push, else-unwrap_or}
use Rattle.explain.proofs.grounds.marked.Goals as goal

pub loop-at-preserved : goal.loop-at-preserved
loop-at-preserved c = elim c.if-unwrap_or.branch [
  | then-unwrap_or+in_ok-push w ↦ λ place there. elim (Contains-push_cases c.loop-at.found.items c.loop-at.at place (rw (w.found-is, w.in_ok-push.ensures.items) at there)) [
    | inl old ↦ c.loop-at.invariant place old
    | inr is ↦ subst (λ n. n < length c.args.earlier.now) is c.loop-at-test.true
  ]
  | else-unwrap_or w ↦ λ place there. c.loop-at.invariant place (rw w.found-is at there)
]
