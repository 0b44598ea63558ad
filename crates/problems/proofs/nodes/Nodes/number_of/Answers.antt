use Rattle.std.proofs.Common.{◌∙◌, ◌≡◌, ◌++◌, ◌∷◌, [], Contains, Some, length, ap, option_copied, sym, subst, arith}
use Rattle.problems.specs.Tied.NodeNumbers.{AreListed, number_at}
use Rattle.problems.specs.Tied.Standing.{Stands}
use Rattle.problems.specs.declared.node.Node.{Node}
use Rattle.problems.proofs.NumbersFound.{listed-kept, listed-pushed, stands-last}
use Rattle.problems.proofs.nodes.Nodes.number_of.Goals as goal

pub invariant_of-self-in_err-copy_of : goal.invariant_of-self-in_err-copy_of
invariant_of-self-in_err-copy_of c =
    let node : Node = record { name = c.args.name.now; extra = option_copied c.args.extra } in
    let apart : Contains c.args.self.now node → ⊥ = rw c.in_default.is at c.find.ensures in
    listed-kept c.self.inside.by_name c.list.new.by_name c.self.inside.nodes.items node c.self.invariant (λ there. apart (subst (λ nodes. Contains nodes node) c.self.view_is there)) c.list.ensures.others

pub invariant_of-self-in_err-push : goal.invariant_of-self-in_err-push
invariant_of-self-in_err-push c =
    let node : Node = record { name = c.args.name.now; extra = option_copied c.args.extra } in
    let apart : Contains c.args.self.now node → ⊥ = rw c.in_default.is at c.find.ensures in
    subst (AreListed c.list.new.by_name) (sym c.in_err-push.ensures.items)
    (listed-kept c.self.inside.by_name c.list.new.by_name c.self.inside.nodes.items node c.self.invariant (λ there. apart (subst (λ nodes. Contains nodes node) c.self.view_is there)) c.list.ensures.others)

pub invariant_of-self-2 : goal.invariant_of-self-2
invariant_of-self-2 c =
    let node : Node = record { name = c.args.name.now; extra = option_copied c.args.extra } in
    let apart : Contains c.args.self.now node → ⊥ = rw c.in_default.is at c.find.ensures in
    let put : record { name = c.in_ok-clone.field-0; extra = c.in_ok-copy_of.field-0 } ≡ node = λ i. record { name = c.in_ok-clone.ensures.cases i; extra = c.in_ok-copy_of.ensures i } in
    let pushed : c.push.new.self.items ≡ c.self.inside.nodes.items ++ node ∷ [] = c.in_ok-push.ensures.items ∙ ap (λ (x : Node). c.self.inside.nodes.items ++ x ∷ []) put in
    let count : c.len-number.result ≡ length c.self.inside.nodes.items = omega arith in
    let here : number_at c.list.new.by_name node ≡ Some (length c.self.inside.nodes.items) = c.in_ok-list.ensures.listed ∙ ap (λ n. Some n) count in
    subst (AreListed c.list.new.by_name) (sym pushed)
    (listed-pushed c.self.inside.by_name c.list.new.by_name c.self.inside.nodes.items node c.self.invariant (λ there. apart (subst (λ nodes. Contains nodes node) c.self.view_is there)) c.list.ensures.others here)

pub returns-clause-number : goal.returns-clause-number
returns-clause-number c =
    let node : Node = record { name = c.args.name.now; extra = option_copied c.args.extra } in
    let put : record { name = c.in_ok-clone.field-0; extra = c.in_ok-copy_of.field-0 } ≡ node = λ i. record { name = c.in_ok-clone.ensures.cases i; extra = c.in_ok-copy_of.ensures i } in
    let pushed : c.push.new.self.items ≡ c.self.inside.nodes.items ++ node ∷ [] = c.in_ok-push.ensures.items ∙ ap (λ (x : Node). c.self.inside.nodes.items ++ x ∷ []) put in
    let count : length c.self.inside.nodes.items ≡ c.len-number.result = omega arith in
    subst (λ nodes. Stands nodes c.len-number.result node) (sym pushed) (subst (λ n. Stands (c.self.inside.nodes.items ++ node ∷ []) n node) count (stands-last c.self.inside.nodes.items node))
