use Rattle.std.proofs.Common.{◌≡◌, rules, Some, None}
use Rattle.std.specs.BTreeMap.{is_at}
use Rattle.std.specs.Cmp.Lexicographic.{slice_cmp}
use Rattle.std.specs.Map.{lookup}
use Rattle.std.specs.Ordering.{nat_cmp}
use Rattle.journal.proofs.LocksFacts.{kept-not, kept-there}
use Rattle.journal.proofs.history_reader.locks.is_kept.Goals as goal

pub returns-in-Some : goal.returns-in-Some
returns-in-Some c =
    let there : lookup (is_at (slice_cmp nat_cmp c.args.target.now.name)) c.args.locks.now.entries ≡ Some c.in-Some.bytes.now = search rules in
    let known = kept-there c.args.locks.now.entries c.args.target.now c.in-Some.bytes.now there in
    search (rules, known)

pub returns-in-None : goal.returns-in-None
returns-in-None c =
    let none : lookup (is_at (slice_cmp nat_cmp c.args.target.now.name)) c.args.locks.now.entries ≡ None = search rules in
    kept-not c.args.locks.now.entries c.args.target.now none
