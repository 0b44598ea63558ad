use Rattle.std.proofs.Common.{sym}
use Rattle.states.proofs.LockForLines.{met-found, met-none}
use Rattle.states.proofs.PartFacts.{not-so}
use Rattle.states.proofs.EntryFacts.{entry-from}
use Rattle.states.proofs.state.lock_for_lines.is_met.Goals as goal

pub meets-requires : goal.meets-requires
meets-requires c =
    let found = sym (rw c.name.ensures at c.in-Some.ensures) in
    (entry-from c.args.entries.now c.args.requirement.now.name c.in-Some.entry.now found).1

pub returns-in-Some : goal.returns-in-Some
returns-in-Some c =
    let found = sym (rw c.name.ensures at c.in-Some.ensures) in
    let k = met-found c.args.environment.now c.args.entries.now c.args.requirement.now c.in-Some.entry.now c.requires found in
    ((λ h. k.0 (c.meets.ensures.0 h)), (λ h. c.meets.ensures.1 (k.1 h)))

pub returns-in-None : goal.returns-in-None
returns-in-None c =
    let found = sym (rw c.name.ensures at c.in-None.ensures) in
    (λ h. absurd (not-so h), λ met. absurd (met-none c.args.environment.now c.args.entries.now c.args.requirement.now c.requires found met))
