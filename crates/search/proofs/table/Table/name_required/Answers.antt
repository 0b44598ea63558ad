use Rattle.std.proofs.Common.{◌<◌, length, subst, sym}
use Rattle.lists.proofs.Members.{Contains-here}
use Rattle.search.specs.declared.parts.TableRequirement.{TableRequirement}
use Rattle.search.proofs.table.Table.name_required.Goals as goal

pub name_of-requires : goal.name_of-requires
name_of-requires c = subst (λ (r : TableRequirement). r.node < length c.args.self.now.nodes) (sym c.requirement.ensures.requirement) (c.requirement.ensures.known _ (Contains-here _ _))
