use Rattle.std.proofs.Common.{ℕ, List, ◌≡◌, ◌∙◌, ◌<◌, length, get_or, sym, ap, subst, arith, rules}
use Rattle.lists.proofs.Members.{get_or-any}
use Rattle.learning_search.proofs.Learns.{queue-known, leads-first, learned-push}
use Rattle.learning_search.specs.declared.candidate_queue.CandidateQueue.{CandidateQueue}
use Rattle.learning_search.specs.Tied.Gathering.{decision}
use Rattle.learning_search.specs.Tied.Learned.{FitsBefore}
use Rattle.search.specs.Table.{TableParts, rules_of, candidates_of, name_of}
use Rattle.learning_search.proofs.learned_search.step.Goals as goal

pub push-requires-clause-known : goal.push-requires-clause-known
push-requires-clause-known c = queue-known c.args.table.now c.requires.table c.refuse.new.conflicts.list.items c.args.partial.now.assignments.items c.refuse.new.queue c.in_ok-refuse.ensures.queue

pub push-requires-clause-first : goal.push-requires-clause-first
push-requires-clause-first c = leads-first c.args.table.now c.refuse.new.conflicts.list.items c.args.partial.now.assignments.items c.refuse.new.queue c.in_ok-refuse.ensures.queue

pub onward-requires-clause-learned : goal.onward-requires-clause-learned
onward-requires-clause-learned c =
    let t : TableParts = c.args.table.now in
    let old : CandidateQueue = c.args.queue in
    let place : ℕ = get_or c.candidates-candidates.result.now old.turn 0 in
    let both : (c.refuse.new.queue ≡ old) × FitsBefore (rules_of t) c.args.partial.now.assignments.items (decision old.node place) = c.in_ok-refuse.ensures.fits c.if-branch.false in
    let same : c.candidates-candidates.result.now ≡ candidates_of t (name_of t old.node) = c.candidates-candidates.ensures ∙ ap (candidates_of t) c.name_of.ensures.name in
    let within : old.turn < length c.candidates-candidates.result.now = (let k = c.if-queue-candidates.false in omega arith) in
    learned-push t c.args.partial.now c.push.new.self c.refuse.new.conflicts.list.items c.refuse.new.queue place c.in_ok-refuse.ensures.learned c.in_ok-push.ensures.partial c.in_ok-push.ensures.assignments c.in_ok-refuse.ensures.queue
    (subst (λ (x : CandidateQueue). x.turn < length (candidates_of t (name_of t x.node))) (sym both.0) (subst (λ (xs : List ℕ). old.turn < length xs) same within))
    (subst (λ (x : CandidateQueue). get_or (candidates_of t (name_of t x.node)) x.turn place ≡ place) (sym both.0) (subst (λ (xs : List ℕ). get_or xs old.turn place ≡ place) same (get_or-any c.candidates-candidates.result.now old.turn place 0 within)))
    (subst (λ (x : CandidateQueue). FitsBefore (rules_of t) c.args.partial.now.assignments.items (decision x.node place)) (sym both.0) both.1)

pub returns-then-branch-clause-stands : goal.returns-then-branch-clause-stands
returns-then-branch-clause-stands c = search rules
