use Rattle.std.proofs.Common.{sym, subst₂}
use Rattle.search.specs.Table.{rules_of}
use Rattle.search.specs.Tied.Search.{pins_of}
use Rattle.set_conflicts.specs.Tied.Domains.{Excludes}
use Rattle.set_conflicts.proofs.replay.Replay.cut.Goals as goal

pub returns : goal.returns
returns c =
    let excluded = subst₂ (λ node cut. Excludes (rules_of c.args.table.now) (pins_of c.args.self.now.frames.items) node cut) (sym c.node.ensures) (sym c.set.ensures) (c.in_ok-is_excluded.ensures c.if-not-branch.false) in
    record {
      search = c.requires.replay.search;
      front = c.requires.replay.front;
      keeps = c.cut.ensures (rules_of c.args.table.now) (pins_of c.args.self.now.frames.items) excluded c.requires.replay.keeps;
    }
