use Rattle.std.proofs.Common.{◌≡◌, ◌∙◌}
use Rattle.std.specs.BTreeMap.{insert_entry}
use Rattle.std.specs.Cmp.Lexicographic.{slice_cmp}
use Rattle.std.specs.Ordering.{nat_cmp}
use Rattle.states.specs.Locks.{given_of, versions_of}
use Rattle.states.specs.Pool.{whole}
use Rattle.edits.proofs.questions.problem_keeping.Goals as goal

pub returns-clause-ok : goal.returns-clause-ok
returns-clause-ok c =
    let kept : c.insert.new.self.entries ≡ insert_entry (slice_cmp nat_cmp) (versions_of c.args.target.now.lock.entries) c.args.name.now c.args.version.now =
    c.in_ok-insert.ensures.entries ∙ (λ i. insert_entry (slice_cmp nat_cmp) (c.in_ok-kept.ensures i) (c.in_ok-own.ensures.cases i) (c.in_ok-clone.ensures.cases i)) in
    c.in_ok-problem.ensures ∙ (λ i. given_of (c.lines.ensures i) c.args.target.now.environment (whole c.args.snapshot.now) (kept i))
