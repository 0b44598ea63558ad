use Rattle.std.proofs.Common.{ℕ, List, [], ◌∷◌, ◌++◌, ◌<◌, ◌∙◌, get_or, map, sym, ap, subst}
use Rattle.std.proofs.lemmas.List.Elements.{Contains-get_or, Contains-push}
use Rattle.learning_search.proofs.Entries.{entries-decisions}
use Rattle.learning_search.proofs.LearnedSearch.{queue-more}
use Rattle.learning_search.proofs.Learns.{queue-refused, queue-known, candidate-known, within-known, learned-more, clash-within}
use Rattle.search.specs.declared.conflict.NodeChoice.{NodeChoice}
use Rattle.learning_search.specs.declared.assignment.Assignment.{Assignment}
use Rattle.learning_search.specs.declared.candidate_queue.CandidateQueue.{CandidateQueue}
use Rattle.learning_search.specs.Tied.Gathering.{IsWithin, choice_at, decision}
use Rattle.search.specs.Known.{IsKnown}
use Rattle.learning_search.specs.Tied.Learned.{IsCandidateQueue}
use Rattle.learning_search.specs.Tied.Learning.{IsLearned, IsRefusedFor}
use Rattle.search.specs.Table.{TableParts, rules_of}
use Rattle.learning_search.specs.Tied.Refusals.{RefusesOneMore}
use Rattle.learning_search.proofs.learned_search.refuse.Goals as goal

pub name_of-requires : goal.name_of-requires
name_of-requires c = queue-known c.args.table.now c.requires.table c.args.conflicts.now.list.items c.args.partial.now.assignments.items c.args.queue.now c.requires.queue

pub clash-requires-clause-node : goal.clash-requires-clause-node
clash-requires-clause-node c = queue-known c.args.table.now c.requires.table c.args.conflicts.now.list.items c.args.partial.now.assignments.items c.args.queue.now c.requires.queue

pub returns-in-Some-clause-queue : goal.returns-in-Some-clause-queue
returns-in-Some-clause-queue c =
    let t : TableParts = c.args.table.now in
    let cs : List (List (NodeChoice ℕ ℕ)) = c.args.conflicts.now.list.items in
    let hs : List Assignment = c.args.partial.now.assignments.items in
    let old : CandidateQueue = c.args.queue.now in
    let conflict : List (NodeChoice ℕ ℕ) = get_or cs c.in-Some.found [] in
    queue-refused (rules_of t) cs hs old c.refuse.new.self c.args.place conflict c.requires.queue
    (subst (λ (xs : List (NodeChoice ℕ ℕ)). RefusesOneMore old c.refuse.new.self xs (decision old.node c.args.place)) c.at.ensures c.in_ok-refuse.ensures)
    (Contains-get_or cs c.in-Some.found [] c.in-Some.ensures.0)
    (subst (λ (ds : List (NodeChoice ℕ ℕ)). IsWithin conflict ds (decision old.node c.args.place)) (ap (map choice_at) c.requires.learned.partial.choices ∙ entries-decisions hs) c.in-Some.ensures.1)
    c.requires.turn c.requires.place

pub returns-in_ok-refuse_for-in-Some-clash-clause-learned :
    goal.returns-in_ok-refuse_for-in-Some-clash-clause-learned
returns-in_ok-refuse_for-in-Some-clash-clause-learned c =
    let t : TableParts = c.args.table.now in
    let cs : List (List (NodeChoice ℕ ℕ)) = c.args.conflicts.now.list.items in
    let hs : List Assignment = c.args.partial.now.assignments.items in
    let old : CandidateQueue = c.args.queue.now in
    let candidate : NodeChoice ℕ ℕ = decision old.node c.args.place in
    let h : IsRefusedFor old c.refuse_for.new.queue cs c.refuse_for.new.conflicts.list.items candidate c.in-Some-clash.other = c.in_ok-refuse_for-in-Some-clash.ensures in
    let own : IsKnown t candidate = candidate-known t old c.args.place (queue-known t c.requires.table cs hs old c.requires.queue) c.requires.turn c.requires.place in
    subst (λ (xs : List (List (NodeChoice ℕ ℕ))). IsLearned t c.args.partial.now xs) (sym h.recorded)
    (learned-more t c.args.partial.now cs h.conflict c.requires.learned (c.in-Some-clash.ensures.follows cs h.conflict h.one h.two)
    (within-known t c.requires.table cs hs h.conflict candidate c.requires.learned.learning (clash-within (rules_of t) hs candidate c.in-Some-clash.other h.conflict c.in-Some-clash.ensures h.only) own))

pub returns-in_ok-refuse_for-in-Some-clash-clause-queue :
    goal.returns-in_ok-refuse_for-in-Some-clash-clause-queue
returns-in_ok-refuse_for-in-Some-clash-clause-queue c =
    let t : TableParts = c.args.table.now in
    let cs : List (List (NodeChoice ℕ ℕ)) = c.args.conflicts.now.list.items in
    let hs : List Assignment = c.args.partial.now.assignments.items in
    let old : CandidateQueue = c.args.queue.now in
    let h : IsRefusedFor old c.refuse_for.new.queue cs c.refuse_for.new.conflicts.list.items (decision old.node c.args.place) c.in-Some-clash.other = c.in_ok-refuse_for-in-Some-clash.ensures in
    subst (λ (xs : List (List (NodeChoice ℕ ℕ))). IsCandidateQueue (rules_of t) xs hs c.refuse_for.new.queue) (sym h.recorded)
    (queue-refused (rules_of t) (cs ++ h.conflict ∷ []) hs old c.refuse_for.new.queue c.args.place h.conflict (queue-more (rules_of t) cs (h.conflict ∷ []) hs old c.requires.queue) h.refused (Contains-push cs h.conflict)
    (clash-within (rules_of t) hs (decision old.node c.args.place) c.in-Some-clash.other h.conflict c.in-Some-clash.ensures h.only)
    c.requires.turn c.requires.place)
