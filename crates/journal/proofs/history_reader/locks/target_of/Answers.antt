use Rattle.std.proofs.Common.{◌≡◌, rules, Some, None, Ok, inr}
use Rattle.std.proofs.lemmas.Result.{err_from_is_err_and}
use Rattle.std.specs.BTreeMap.{is_at}
use Rattle.std.specs.Cmp.Lexicographic.{slice_cmp}
use Rattle.std.specs.Map.{lookup}
use Rattle.std.specs.Ordering.{nat_cmp}
use Rattle.pylock.specs.LockOfTable.{lock_in_text}
use Rattle.journal.proofs.LocksFacts.{is-read, none-read, not-read}
use Rattle.journal.proofs.history_reader.locks.target_of.Goals as goal

pub returns-in_default : goal.returns-in_default
returns-in_default c =
    let none : lookup (is_at (slice_cmp nat_cmp c.args.given.now.name)) c.args.locks.now.entries ≡ None = search rules in
    inr (search rules, none-read c.args.locks.now.entries c.args.given.now none)

pub returns-in_err-lock : goal.returns-in_err-lock
returns-in_err-lock c =
    let p = err_from_is_err_and c.from_residual-in_err-lock.result c.from_residual-in_err-lock.ensures.1 in
    let there : lookup (is_at (slice_cmp nat_cmp c.args.given.now.name)) c.args.locks.now.entries ≡ Some c.in-Some.text.now = search rules in
    let read = rw c.as_slice.ensures at c.in_err-lock.ensures in
    rw (p.1, p.2) (not-read c.args.locks.now.entries c.args.given.now c.in-Some.text.now there c.in_err-lock.field-0.0 _ read)

pub returns : goal.returns
returns c =
    let there : lookup (is_at (slice_cmp nat_cmp c.args.given.now.name)) c.args.locks.now.entries ≡ Some c.in-Some.text.now = search rules in
    let read : lock_in_text c.in-Some.text.now ≡ Ok c.in_ok-lock.lock = search rules in
    is-read c.args.locks.now.entries c.args.given.now c.in-Some.text.now there _ (search rules) (search rules) read
