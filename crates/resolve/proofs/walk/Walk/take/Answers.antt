use Rattle.std.proofs.Common.{◌∙◌, ◌≡◌, ◌+◌, ℕ, List, Some, ap, length, subst}
use Rattle.std.specs.BTreeMap.{BTreeMap, Updates}
use Rattle.std.specs.Cmp.Lexicographic.{slice_cmp}
use Rattle.std.specs.Ordering.{nat_cmp}
use Rattle.pep440.specs.Version.{VersionParts}
use Rattle.resolve.proofs.OnWay.{longer-by_one, ok-settled, turn-free, turn-taken}
use Rattle.resolve.proofs.walk.Walk.take.Goals as goal

pub settle-requires : goal.settle-requires
settle-requires c =
    let first = rw (c.in-Some.is, c.problem-problem.ensures) at c.first_admitted.ensures in
    let updates = subst (λ (v : VersionParts). Updates (slice_cmp nat_cmp) c.args.self.now.taken c.insert.new.self c.args.name (Some v)) c.in_ok-version.ensures.cases c.in_ok-insert.ensures.updates in
    turn-taken c.args.self.now.following.wants (c.own_needs_are_enough.ensures.lawful c.args.self.now.following.wants) c.args.self.now.taken c.insert.new.self c.args.self.now.waiting.entries c.args.self.now.following.nodes c.args.name c.args.asks c.in-Some.version.now c.requires first updates

pub returns-clause-longer : goal.returns-clause-longer
returns-clause-longer c =
    let free = turn-free c.args.self.now.following.wants c.args.self.now.taken.entries c.args.self.now.waiting.entries c.args.self.now.following.nodes c.args.name c.args.asks c.requires in
    ok-settled (length c.settle.new.self.taken.entries ≡ length c.args.self.now.taken.entries + 1) c.settle.result
    (ap (λ (taken : BTreeMap (List ℕ) VersionParts). length taken.entries) c.settle.ensures.same.1 ∙ longer-by_one c.in_ok-insert.field-0 (length c.args.self.now.taken.entries) (length c.insert.new.self.entries) c.in_ok-insert.ensures.len (c.in_ok-insert.ensures.old ∙ free))
