use Rattle.std.proofs.Common.{◌≡◌, inr, rules}
use Rattle.std.specs.List.{AllByRecursion}
use Rattle.states.specs.State.{Fits, IsFirstUnfit}
use Rattle.states.specs.StateParts.{digest_of}
use Rattle.journal.proofs.PresentFacts.{present-found, present-state, present-unfit}
use Rattle.journal.proofs.history_reader.present.present_of.Goals as goal

pub returns-in_ok-name-in-Some : goal.returns-in_ok-name-in-Some
returns-in_ok-name-in-Some c =
    let lines = c.in_ok-lines.lines in
    let targets = c.in_ok-lines.targets in
    let same : c.in_ok-name-in-Some.name ≡ c.in-Some.name.now = search rules in
    let unfit : IsFirstUnfit lines (digest_of targets) targets c.in-Some.name.now = search rules in
    rw same (inr (present-unfit c.args.header.now c.args.requirements.now c.args.locks.now.entries (record { lines = lines; targets = targets }) c.in-Some.name.now c.in_ok-lines.ensures unfit))

pub from_lawful-requires : goal.from_lawful-requires
from_lawful-requires c =
    let lines = c.in_ok-lines.lines in
    let targets = c.in_ok-lines.targets in
    let fits : AllByRecursion (Fits lines (digest_of targets)) targets = search rules in
    present-state c.args.header.now c.args.requirements.now c.args.locks.now.entries (record { lines = lines; targets = targets }) c.requires.targets c.in_ok-lines.ensures c.recall_invariant.ensures fits

pub returns-in-None : goal.returns-in-None
returns-in-None c =
    let lines = c.in_ok-lines.lines in
    let targets = c.in_ok-lines.targets in
    let fits : AllByRecursion (Fits lines (digest_of targets)) targets = search rules in
    rw c.from_lawful.ensures (present-found c.args.header.now c.args.requirements.now c.args.locks.now.entries (record { lines = lines; targets = targets }) c.in_ok-lines.ensures fits)
