use Rattle.std.proofs.Common.{◌≡◌, Some, rules}
use Rattle.std.specs.List.{slice_get}
use Rattle.std.proofs.lemmas.Option.{slice_get_read}
use Rattle.snapshot.proofs.KnownFacts.{known-there}
use Rattle.snapshot.proofs.known.Known.at.Goals as goal

pub returns-then-eq : goal.returns-then-eq
returns-then-eq c =
    let known : slice_get c.self.inside.texts c.args.place ≡ Some c.in_ok-known.known.now = search (rules, slice_get_read) in
    let there : slice_get c.self.inside.requirements c.args.place ≡ Some c.in_ok-requirement.requirement.now = search (rules, slice_get_read) in
    let text : c.in_ok-known.known.now ≡ c.args.text.now = search rules in
    rw (← text) (known-there 0 c.self.inside.texts c.self.inside.requirements c.args.place c.in_ok-known.known.now c.in_ok-requirement.requirement.now c.self.invariant known there)
