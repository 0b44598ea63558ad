use Rattle.std.proofs.Common.{◌+◌, List, Ok, drop}
use Rattle.std.proofs.lemmas.List.{take_rest}
use Rattle.journal.specs.Values.{State}
use Rattle.journal.specs.Opens.{StatesBehind}
use Rattle.journal.proofs.HistoryFound.{is-history, is-past}
use Rattle.journal.proofs.history_reader.walk.walk.Goals as goal

pub returns : goal.returns
returns c =
    let n = c.args.cursor in
    let changes = c.args.changes.now in
    let on : (states : List State) × StatesBehind (n + 2) (drop n changes) c.args.present.now (Ok states) = rw (take_rest changes n) at c.in_ok-walk_on.ensures in
    record {
      history = is-history n changes c.args.present.now c.requires c.recall_invariants.ensures c.recall_invariant.ensures c.in_ok-walk_back.ensures on;
      past = is-past n changes c.args.present.now c.requires c.recall_invariants.ensures c.recall_invariant.ensures c.in_ok-walk_back.ensures on;
    }
