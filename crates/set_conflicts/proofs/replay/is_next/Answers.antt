use Rattle.std.proofs.Common.{◌∙◌, subst}
use Rattle.search.specs.Solutions.{IsNext}
use Rattle.search.specs.Table.{rules_of}
use Rattle.search.specs.Tied.Search.{pins_of}
use Rattle.set_conflicts.proofs.Replays.{front-next}
use Rattle.set_conflicts.proofs.replay.is_next.Goals as goal

pub returns : goal.returns
returns c = λ t frames h.
    subst (λ n. IsNext (rules_of c.args.table.now) (pins_of frames) n) (c.if-name-name_of.false ∙ c.name_of.ensures.name)
    (front-next c.args.table.now frames c.args.front.now c.in-Some.name h c.in-Some.ensures)
