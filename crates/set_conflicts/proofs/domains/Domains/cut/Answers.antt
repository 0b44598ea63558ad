use Rattle.std.proofs.Common.{refl}
use Rattle.set_conflicts.proofs.Kept.{keeps-cut}
use Rattle.set_conflicts.proofs.domains.Domains.cut.Goals as goal

pub returns-then-node-len : goal.returns-then-node-len
returns-then-node-len c rules pins none k =
    keeps-cut rules pins c.args.self.now (record { sets = c.cut_set.new.sets; needed = c.args.self.now.needed }) c.args.node c.args.cut.now
    (record { room = c.cut_set.ensures.room; own = c.cut_set.ensures.own; others = c.cut_set.ensures.others; needed = refl }) none k
