use Rattle.std.proofs.Common.{ℕ, List, [], ◌≡◌, ◌∙◌, Contains, length, get_or, sym, subst, arith}
use Rattle.std.proofs.lemmas.Grind.{common_steps}
use Rattle.std.proofs.lemmas.Option.{MatchOption-at_none}
use Rattle.learning_search.proofs.Learns.{exhausted-learned, exhausted-within, last-recorded, recorded-refutation}
use Rattle.search.specs.declared.conflict.NodeChoice.{NodeChoice}
use Rattle.learning_search.specs.Tied.Learning.{IsLearned}
use Rattle.search.specs.Table.{rules_of}
use Rattle.learning_search.proofs.learned_search.learn.Goals as goal

pub cut_back-requires-clause-learned : goal.cut_back-requires-clause-learned
cut_back-requires-clause-learned c = exhausted-learned c.args.table.now c.requires.table c.args.partial.now c.args.conflicts.now.list.items c.record.new.self.list.items c.args.queue c.in_ok-conflict.conflict.items c.requires.learned c.requires.queue c.in_ok-conflict.ensures c.requires.none c.in_ok-record.ensures

pub cut_back-requires-clause-within : goal.cut_back-requires-clause-within
cut_back-requires-clause-within c d i =
    let cs : List (List (NodeChoice ℕ ℕ)) = c.args.conflicts.now.list.items in
    let conflict : List (NodeChoice ℕ ℕ) = c.in_ok-conflict.conflict.items in
    let size : c.len-at.result ≡ length cs = (let e = c.len-at.ensures in omega arith) in
    exhausted-within (rules_of c.args.table.now) cs c.args.partial.now.assignments.items c.args.queue conflict c.requires.queue c.in_ok-conflict.ensures d
    (subst (λ (xs : List (NodeChoice ℕ ℕ)). Contains xs d) (last-recorded cs c.record.new.self.list.items conflict c.len-at.result c.in_ok-record.ensures size) i)

pub returns-in-None-clause-stands : goal.returns-in-None-clause-stands
returns-in-None-clause-stands c =
    let cs : List (List (NodeChoice ℕ ℕ)) = c.args.conflicts.now.list.items in
    let conflict : List (NodeChoice ℕ ℕ) = c.in_ok-conflict.conflict.items in
    let size : c.len-at.result ≡ length cs = (let e = c.len-at.ensures in omega arith) in
    let last : get_or c.record.new.self.list.items c.len-at.result [] ≡ conflict = last-recorded cs c.record.new.self.list.items conflict c.len-at.result c.in_ok-record.ensures size in
    let learned : IsLearned c.args.table.now c.args.partial.now c.record.new.self.list.items = exhausted-learned c.args.table.now c.requires.table c.args.partial.now cs c.record.new.self.list.items c.args.queue conflict c.requires.learned c.requires.queue c.in_ok-conflict.ensures c.requires.none c.in_ok-record.ensures in
    (recorded-refutation (rules_of c.args.table.now) cs c.record.new.self.list.items conflict learned.follows c.in_ok-record.ensures (sym last ∙ MatchOption-at_none _ _ c.in-None.is c.in_ok-cut_back.ensures.none), learned.known)

pub cut_back-requires-clause-at : goal.cut_back-requires-clause-at
cut_back-requires-clause-at c = grind (arith, common_steps)
