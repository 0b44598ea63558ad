use Rattle.std.proofs.Common.{◌≡◌, arith, length, rules}
use Rattle.std.specs.List.{AllByRecursion}
use Rattle.journal.specs.Changes.{parts_of}
use Rattle.journal.specs.Tied.LocksWritten.{AreLocked, IsLawfulTarget}
use Rattle.journal.specs.Saved.{IsSaved, header_for}
use Rattle.journal.specs.declared.saved.Saved.{Saved}
use Rattle.journal.proofs.Histories.{AreSteps-count}
use Rattle.journal.proofs.LocksInserted.{files-are}
use Rattle.journal.proofs.OpensAgain.{opens-as}
use Rattle.journal.proofs.saved.files_of.Goals as goal

pub returns : goal.returns
returns g c =
    let past = g.H.History.past c.args.history.now in
    let changes = g.H.History.changes c.args.history.now in
    let state = c.state-state.result.now in
    let counted = AreSteps-count _ _ c.steps.ensures.lead in
    let count : c.steps.result ≡ length changes = omega (arith, counted, c.steps.ensures.steps) in
    let given = c.targets-given.ensures in
    let lawful : AllByRecursion IsLawfulTarget state.targets = rw given at c.recall_invariants.ensures in
    let locked : AreLocked state.targets c.in_ok-locks.field-0 = rw given at c.in_ok-locks.ensures in
    let saved : Saved = record { requirements = c.in_ok-requirements.requirements; locks = c.in_ok-locks.field-0.locks; journal = c.from_string-journal.result } in
    let header = header_for state past.cursor changes saved.requirements saved.locks.entries in
    let is : IsSaved (parts_of past changes) saved = record {
      state = state;
      state_is = c.state-state.ensures.present;
      steps = c.steps.ensures.lead;
      requirements = search rules;
      locks = files-are _ _ locked.files;
      journal = search (rules, count, locked);
    } in
    record {
      saved = is;
      opens = opens-as c.a_change_leads_to_one_state.ensures c.a_canonical_text_is_read.ensures (parts_of past changes) saved is c.steps.ensures.lawful lawful c.recall_steps.ensures locked.files (search (rules, count, locked));
    }
