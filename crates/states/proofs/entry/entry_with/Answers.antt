use Rattle.std.proofs.Common.{◌≡◌, ◌∙◌, Some}
use Rattle.states.specs.Tied.Entries.{entry_with}
use Rattle.states.proofs.LawfulFiles.{entry-made}
use Rattle.states.proofs.entry.entry_with.Goals as goal

pub unreachable-requires : goal.unreachable-requires
unreachable-requires c =
    let made : c.in_ok-entry.field-0 ≡ Some (entry_with (c.args.name, c.args.version) c.args.dependencies (Some c.args.release.now)) =
    rw (c.in_ok-python.ensures, c.in_ok-sdist.ensures, c.in_ok-wheels.ensures) at c.in_ok-entry.ensures
    ∙ entry-made c.args.name c.args.version c.args.dependencies c.args.release.now c.recall_invariant.ensures c.requires c.recall_invariant-2.ensures in
    let none = c.in-None.is in
    cc

pub returns-clause-entry : goal.returns-clause-entry
returns-clause-entry c =
    let made : c.in_ok-entry.field-0 ≡ Some (entry_with (c.args.name, c.args.version) c.args.dependencies (Some c.args.release.now)) =
    rw (c.in_ok-python.ensures, c.in_ok-sdist.ensures, c.in_ok-wheels.ensures) at c.in_ok-entry.ensures
    ∙ entry-made c.args.name c.args.version c.args.dependencies c.args.release.now c.recall_invariant.ensures c.requires c.recall_invariant-2.ensures in
    let some = c.in-Some.is in
    cc
