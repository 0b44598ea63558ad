use Rattle.std.proofs.Common.{◌∙◌, ap}
use Rattle.std.specs.Option.{option_map}
use Rattle.pylock.specs.Packages.{EntryParts}
use Rattle.states.proofs.VersionsFacts.{version-at}
use Rattle.states.proofs.target.Target.locked.Goals as goal

pub returns-in_default : goal.returns-in_default
returns-in_default c =
    let none = rw c.entries.ensures at c.in_default.ensures in
    ap (option_map (λ (e : EntryParts). e.version)) none ∙ version-at c.args.self.now.lock.entries c.args.name.now

pub returns : goal.returns
returns c =
    let found = rw c.entries.ensures at c.in-Some.ensures in
    rw c.version.ensures (ap (option_map (λ (e : EntryParts). e.version)) found ∙ version-at c.args.self.now.lock.entries c.args.name.now)
