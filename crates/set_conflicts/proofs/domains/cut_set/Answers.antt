use Rattle.std.proofs.Common.{[], ◌≡◌, ◌∙◌, sym, subst₂}
use Rattle.lists.proofs.Members.{get_or-any}
use Rattle.lists.specs.Bits.{IsDifference}
use Rattle.search.proofs.Marks.{set-same}
use Rattle.set_conflicts.specs.Tied.Domains.{set_at}
use Rattle.set_conflicts.proofs.domains.cut_set.Goals as goal

pub returns-clause-own : goal.returns-clause-own
returns-clause-own c =
    let was : c.index_mut.result.now ≡ set_at c.args.sets.now.items c.args.node = c.index_mut.ensures.value ∙ get_or-any c.args.sets.now.items c.args.node _ [] c.requires in
    subst₂ (λ new old. IsDifference new old c.args.cut.now) (sym (set-same c.args.sets.now.items c.args.node c.cut.new.self [] c.requires)) was c.cut.ensures
