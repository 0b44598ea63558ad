use Rattle.std.proofs.Common.{ℕ, List, get_or, refl, sym, ◌∙◌, ap, subst, ◌<◌, length}
use Rattle.lists.proofs.Members.{get_or-any}
use Rattle.search.specs.Solutions.{IsNext}
use Rattle.search.specs.Table.{TableParts, candidates_of, rules_of}
use Rattle.search.specs.Tied.Search.{pins_of}
use Rattle.set_conflicts.proofs.Replays.{replay-push}
use Rattle.set_conflicts.proofs.replay.Replay.push.Goals as goal

pub returns : goal.returns
returns c =
    let t : TableParts = c.args.table.now in
    let within : c.args.turn < length (candidates_of t c.name_of-name.result) = subst (λ n. c.args.turn < length (candidates_of t n)) (sym c.name_of-name.ensures.name) c.requires.turn.within in
    replay-push t c.requires.known c.args.self.now (record { frames = c.push.new.self; front = c.enter.new.self; domains = c.args.self.now.domains }) c.args.node _
    c.requires.replay c.requires.turn c.name_of-name.ensures.name
    (subst (λ n. IsNext (rules_of t) (pins_of c.args.self.now.frames.items) n) (sym c.name_of-name.ensures.name) c.requires.next)
    (get_or-any (candidates_of t c.name_of-name.result) c.args.turn _ 0 within ∙ ap (λ (xs : List ℕ). get_or xs c.args.turn 0) (sym c.candidates-candidates.ensures))
    c.in_ok-push.ensures.items refl c.in_ok-enter.ensures.front c.in_ok-enter.ensures.taken
