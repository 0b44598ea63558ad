use Rattle.std.proofs.Common.{List, ℕ, [], ◌∙◌, Contains, refl, sym, ap, subst}
use Rattle.lists.proofs.Members.{Contains-here, Contains-there}
use Rattle.search.specs.declared.parts.TableRequirement.{TableRequirement}
use Rattle.learning_search.specs.Tied.Learned.{first_at}
use Rattle.search.specs.Table.{required_nodes}
use Rattle.learning_search.proofs.cursor.extra_from.Goals as goal

pub returns : goal.returns
returns c = record {
  demand = c.args.demand;
  there = Contains-here c.args.demand [];
  by = refl;
  node = subst (λ (r : TableRequirement). Contains (required_nodes r) c.in_ok-at.node) c.requirement-required.ensures.requirement
      (Contains-there c.requirement-required.result.now.node c.requirement-required.result.now.more c.in_ok-at.node (subst (λ (xs : List ℕ). Contains xs c.in_ok-at.node) c.as_slice.ensures c.in_ok-at.ensures.0));
  one = c.in_ok-first_on.field-0;
  named = ap (first_at c.args.taken.now) (sym c.name_required.ensures) ∙ sym c.in_ok-first_on.ensures;
  free = c.in_ok-at.ensures.1;
}
