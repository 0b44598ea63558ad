use Rattle.std.proofs.Common.{List, ℕ, Contains, ◌<◌, ◌∷◌, [], length, subst, sym, ◌∙◌}
use Rattle.lists.proofs.Members.{Contains-here, Contains-there}
use Rattle.search.proofs.Nodes.{grown-then}
use Rattle.search.specs.declared.parts.TableRequirement.{TableRequirement}
use Rattle.search.specs.Tied.Nodes.{IsGrown}
use Rattle.search.specs.Ranges.{EachBelow}
use Rattle.search.specs.Table.{required_nodes}
use Rattle.search.proofs.needed_nodes.add_nodes.Goals as goal

pub insert-requires : goal.insert-requires
insert-requires c =
    let known : EachBelow (length c.args.table.now.nodes) (required_nodes c.requirement-required.result.now) = subst (λ (r : TableRequirement). EachBelow (length c.args.table.now.nodes) (required_nodes r)) (sym c.requirement-required.ensures.requirement) c.requirement-required.ensures.known in
    subst (λ room. c.requirement-required.result.now.node < room) (sym c.requires.room) (known _ (Contains-here c.requirement-required.result.now.node c.requirement-required.result.now.more))

pub insert_all-requires : goal.insert_all-requires
insert_all-requires c n i =
    let known : EachBelow (length c.args.table.now.nodes) (required_nodes c.requirement-required.result.now) = subst (λ (r : TableRequirement). EachBelow (length c.args.table.now.nodes) (required_nodes r)) (sym c.requirement-required.ensures.requirement) c.requirement-required.ensures.known in
    let grown : IsGrown c.args.nodes.now c.insert.new.self (c.requirement-required.result.now.node ∷ []) = c.in_ok-insert.ensures in
    subst (λ room. n < room) (sym (grown.room ∙ c.requires.room))
    (known n (Contains-there c.requirement-required.result.now.node c.requirement-required.result.now.more n (subst (λ (xs : List ℕ). Contains xs n) c.as_slice.ensures i)))

pub returns : goal.returns
returns c = subst (λ (r : TableRequirement). IsGrown c.args.nodes.now c.insert_all.new.self (required_nodes r)) c.requirement-required.ensures.requirement
    (grown-then c.args.nodes.now c.insert.new.self c.insert_all.new.self (c.requirement-required.result.now.node ∷ []) c.requirement-required.result.now.more c.in_ok-insert.ensures
    (subst (λ xs. IsGrown c.insert.new.self c.insert_all.new.self xs) c.as_slice.ensures c.in_ok-insert_all.ensures))
