use Rattle.std.proofs.Common.{◌≡◌, ◌∙◌, ◌≤◌, Some, Err, ap, arith, codes, subst, sym, true≢false}
use Rattle.toml.specs.Data.{Members, members_depth, members_have_valid_dates}
use Rattle.toml.specs.View.{table_view}
use Rattle.pylock.specs.Tables.{table_of}
use Rattle.pylock.proofs.DateFacts.{lock-valid}
use Rattle.pylock.proofs.DepthFacts.{lock-depth}
use Rattle.exports.specs.WithoutMember.{without_member}
use Rattle.exports.proofs.RemovedMember.{unbound, without-depth, without-valid}
use Rattle.exports.proofs.portable_lock.unbound_text.Goals as goal

pub returns-in-Ok : goal.returns-in-Ok
returns-in-Ok c =
    let left : table_view c.remove.new.self ≡ without_member (codes "environments") (table_of c.args.lock.now) =
    unbound (table_of c.args.lock.now) c.in_ok-table.table.entries c.remove.new.self.entries c.in_ok-table.ensures.table c.remove.ensures.entries in
    let less = without-depth (codes "environments") (table_of c.args.lock.now) in
    let most = lock-depth c.args.lock.now in
    let depth : members_depth (without_member (codes "environments") (table_of c.args.lock.now)) ≤ 80 = omega arith in
    record { table = c.in-Ok.ensures.reads_back (subst (λ (ms : Members). members_depth ms ≤ 80) (sym left) depth) ∙ ap Some left }

-- `toml` refuses no date of a lock, which has none
pub unreachable-requires : goal.unreachable-requires
unreachable-requires c =
    let left : table_view c.remove.new.self ≡ without_member (codes "environments") (table_of c.args.lock.now) =
    unbound (table_of c.args.lock.now) c.in_ok-table.table.entries c.remove.new.self.entries c.in_ok-table.ensures.table c.remove.ensures.entries in
    true≢false
    (sym (without-valid (codes "environments") (table_of c.args.lock.now) (lock-valid c.args.lock.now)) ∙ sym (ap members_have_valid_dates left)
    ∙ c.table_to_string.ensures.dates.0 (c.in-Err-DateInvalid.is ∙ ap Err c.in-Err-DateInvalid.field-0-is))
