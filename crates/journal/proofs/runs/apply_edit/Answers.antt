use Rattle.std.proofs.Common.{◌≡◌, rules}
use Rattle.journal.specs.Past.{pushed}
use Rattle.journal.specs.Changes.{with_change}
use Rattle.journal.proofs.Histories.{edit-changes}
use Rattle.journal.proofs.runs.apply_edit.Goals as goal

pub returns-in-Ok-push-clause-changes : goal.returns-in-Ok-push-clause-changes
returns-in-Ok-push-clause-changes g c =
    let old = g.H.History.past c.args.history.now in
    let new = g.H.History.past c.push.new.self in
    let edited = c.in-Ok.edited in
    let past : new ≡ pushed old edited.state = search rules in
    let changes : g.H.History.changes c.push.new.self ≡ with_change old.cursor (g.H.History.changes c.args.history.now) edited.change = search rules in
    edit-changes old new (g.H.History.changes c.args.history.now) (g.H.History.changes c.push.new.self) c.state.result.now edited.state edited.change c.cursor.result
    c.state.ensures.present (record { minimal = c.in-Ok.ensures.minimal; leads = c.in-Ok.ensures.change }) past changes c.cursor.ensures.cursor c.in-Ok.ensures.one_splice
