use Rattle.std.proofs.Common.{sym, ◌∙◌}
use Rattle.problems.specs.Problem.{releases_on}
use Rattle.resolve.proofs.Preferring.{held-place, preferring-all, preferring-kept, preferring-other, preferring-start}
use Rattle.resolve.proofs.candidates.candidates.Goals as goal
use Rattle.resolve.proofs.candidates.candidates.Goals.{then-ne+in_ok-push, else-ne}

pub loop-place-init : goal.loop-place-init
loop-place-init c = rw c.in_ok-places.ensures (preferring-start (releases_on c.args.problem.now c.args.name.now) c.kept_place-kept.result c.kept_place-kept.ensures.within)

pub loop-place-preserved : goal.loop-place-preserved
loop-place-preserved c =
    let fall = rw c.releases-releases.ensures.listed at c.releases-releases.ensures.fall in
    let within = rw c.releases-releases.ensures.listed at c.loop-place-test.true in
    elim c.if-ne.branch [
      | then-ne+in_ok-push w ↦
          rw (w.places-is, w.in_ok-push.ensures.items)
          (preferring-other _ _ _ _ fall c.kept_place-kept.ensures.within within (sym c.ne.ensures ∙ w.if-ne.true) c.loop-place.invariant)
      | else-ne w ↦ rw w.places-is (preferring-kept _ _ _ _ within (sym c.ne.ensures ∙ w.if-ne.false) c.loop-place.invariant)
    ]

pub returns-then-is_held : goal.returns-then-is_held
returns-then-is_held c =
    rw (c.from_vec.ensures, c.in_ok-first_place.ensures)
    (held-place c.args.problem.now c.args.name.now _ (sym c.is_held.ensures ∙ c.if-is_held.true) c.kept_place-kept.ensures.version c.kept_place-kept.ensures.within)

pub returns : goal.returns
returns c =
    let past = rw c.releases-releases.ensures.listed at c.loop-place-test.false in
    rw c.from_vec-2.ensures (preferring-all c.args.problem.now c.args.name.now _ _ _ (sym c.is_held.ensures ∙ c.if-is_held.false) c.kept_place-kept.ensures.version past c.loop-place.invariant)
