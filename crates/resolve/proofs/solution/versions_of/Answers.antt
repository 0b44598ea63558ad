use Rattle.std.proofs.Common.{◌≡◌, ◌<◌, ◌-◌, ℕ, suc, List, get_or, drop, length, subst, arith}
use Rattle.search.specs.declared.parts.TableChoice.{TableChoice}
use Rattle.problems.specs.Solutions.{version_for}
use Rattle.resolve.specs.Tied.Pictured.{chosen}
use Rattle.resolve.proofs.Solving.{get_or-any, put-more}
use Rattle.resolve.proofs.solution.versions_of.Goals as goal

pub insert_version-requires : goal.insert_version-requires
insert_version-requires c =
    let within : c.loop-left.left - 1 < length c.args.choices.now = omega (arith, c.loop-left-test.true, c.loop-left.invariant.0) in
    let choice : TableChoice = get_or c.args.choices.now (c.loop-left.left - 1) (record { name = 0; place = 0 }) in
    c.requires choice (c.loop-left.left - 1, within, get_or-any c.args.choices.now (c.loop-left.left - 1) choice (record { name = 0; place = 0 }) within)

pub loop-left-preserved : goal.loop-left-preserved
loop-left-preserved c =
    let within : c.loop-left.left - 1 < length c.args.choices.now = omega (arith, c.loop-left-test.true, c.loop-left.invariant.0) in
    let choice : TableChoice = get_or c.args.choices.now (c.loop-left.left - 1) (record { name = 0; place = 0 }) in
    let next : c.loop-left.left ≡ suc (c.loop-left.left - 1) = omega (arith, c.loop-left-test.true) in (
      omega (arith, c.loop-left-test.true, c.loop-left.invariant.0),
      put-more c.args.problem.now c.args.names.now c.args.choices.now (c.loop-left.left - 1) choice c.loop-left.versions c.insert_version.new.versions within (get_or-any c.args.choices.now (c.loop-left.left - 1) (record { name = 0; place = 0 }) choice within)
          (subst (λ n. (name : List ℕ) → version_for c.loop-left.versions.entries name ≡ chosen c.args.problem.now c.args.names.now (drop n c.args.choices.now) name) next c.loop-left.invariant.1) c.in_ok-insert_version.ensures,
    )
