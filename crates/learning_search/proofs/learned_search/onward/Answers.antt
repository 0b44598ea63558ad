use Rattle.std.proofs.Common.{List, [], sym, ap, subst}
use Rattle.learning_search.proofs.LearnedSearch.{learned-best}
use Rattle.search.proofs.WhatIsLeft.{table-lawful}
use Rattle.learning_search.specs.declared.assignment.Assignment.{Assignment}
use Rattle.learning_search.specs.Tied.Learned.{IsLearning, IsCandidateQueue, chosen_assigned}
use Rattle.search.specs.Solutions.{IsBest}
use Rattle.search.specs.Table.{rules_of}
use Rattle.learning_search.proofs.learned_search.onward.Goals as goal

pub returns-in-None-clause-stands : goal.returns-in-None-clause-stands
returns-in-None-clause-stands c = (
  c.in-None.ensures.partial,
  subst (λ (hs : List Assignment). IsBest (rules_of c.args.table.now) (chosen_assigned (rules_of c.args.table.now) hs)) (sym (ap (λ v. v.items) c.in-None.ensures.assignments))
      (learned-best (rules_of c.args.table.now) (table-lawful c.args.table.now c.requires.table) c.args.conflicts.now.list.items c.args.partial.now.assignments.items c.requires.learned.follows c.requires.learned.learning c.in-None.ensures.next),
)

pub returns-in-Some-clause-stands : goal.returns-in-Some-clause-stands
returns-in-Some-clause-stands c = (
  record {
    partial = c.in-Some.ensures.partial;
    follows = c.requires.learned.follows;
    known = c.requires.learned.known;
    learning = subst (λ (hs : List Assignment). IsLearning (rules_of c.args.table.now) c.args.conflicts.now.list.items [] hs) (sym (ap (λ v. v.items) c.in-Some.ensures.assignments)) c.requires.learned.learning;
  },
  subst (λ (hs : List Assignment). IsCandidateQueue (rules_of c.args.table.now) c.args.conflicts.now.list.items hs c.in-Some.queue) (sym (ap (λ v. v.items) c.in-Some.ensures.assignments)) (c.in-Some.ensures.next.1 c.args.conflicts.now.list.items),
)
