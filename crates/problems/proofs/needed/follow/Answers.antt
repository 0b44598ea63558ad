use Rattle.std.proofs.Common.{◌∙◌, ℕ, List, Option, ap, sym, subst}
use Rattle.problems.specs.Tied.OwnNeeds.{own_wants}
use Rattle.problems.specs.Tied.Growing.{Grows, nodes_asked}
use Rattle.problems.specs.declared.node.Node.{Node}
use Rattle.problems.proofs.Closing.{linked-chosen, linked-unchosen}
use Rattle.problems.proofs.Growing.{Grows-none}
use Rattle.problems.proofs.needed.follow.Goals as goal

pub returns-in_default-clause-grown : goal.returns-in_default-clause-grown
returns-in_default-clause-grown c =
    let value = rw c.in_default.is at c.get.ensures.value in
    let nowhere = linked-unchosen c.args.wants.now c.args.node.now c.args.versions.now.entries (sym value) in
    subst (λ (linked : List Node). Grows c.args.nodes.now c.args.nodes.now linked) nowhere (Grows-none c.args.nodes.now)

pub returns-clause-grown : goal.returns-clause-grown
returns-clause-grown c =
    let given = c.args.wants.now in
    let node = c.args.node.now in
    let version = c.in-Some.version.now in
    let value = rw c.in-Some.is at c.get.ensures.value in
    let at = ap (λ (extra : Option (List ℕ)). own_wants given (record { name = node.name; extra = extra }) version) c.as_ref.ensures.value in
    let linked = ap nodes_asked (c.as_slice.ensures ∙ c.in_ok-wanted.ensures.wanted ∙ at) ∙ linked-chosen given node c.args.versions.now.entries version (sym value) in
    subst (λ (nodes : List Node). Grows c.args.nodes.now c.add_wanted.new.nodes nodes) linked c.in_ok-add_wanted.ensures
