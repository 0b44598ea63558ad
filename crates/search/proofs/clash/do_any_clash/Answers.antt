use Rattle.std.proofs.Common.{sym, ◌∙◌}
use Rattle.search.proofs.Clashes.{any-more, any-found, any-none}
use Rattle.search.proofs.Ranges.{at-member}
use Rattle.search.specs.Tied.Search.{clash_in, taken_at}
use Rattle.search.specs.Table.{rules_of}
use Rattle.search.proofs.clash.do_any_clash.Goals as goal

pub does_now_clash-requires-clause-known : goal.does_now_clash-requires-clause-known
does_now_clash-requires-clause-known c = c.requires.known _ (at-member c.args.required.now c.loop-at.at 0 c.loop-at-test.true)

pub returns-then-does_now_clash : goal.returns-then-does_now_clash
returns-then-does_now_clash c = sym (any-found (clash_in (rules_of c.args.table.now) (taken_at c.args.taken.now)) c.args.required.now c.loop-at.at c.loop-at-test.true (sym c.does_now_clash.ensures ∙ c.if-does_now_clash.true))

pub loop-at-preserved : goal.loop-at-preserved
loop-at-preserved c = any-more (clash_in (rules_of c.args.table.now) (taken_at c.args.taken.now)) c.args.required.now c.loop-at.at c.loop-at-test.true c.loop-at.invariant (sym c.does_now_clash.ensures ∙ c.if-does_now_clash.false)

pub returns : goal.returns
returns c = sym (any-none (clash_in (rules_of c.args.table.now) (taken_at c.args.taken.now)) c.args.required.now c.loop-at.at c.loop-at-test.false c.loop-at.invariant)
