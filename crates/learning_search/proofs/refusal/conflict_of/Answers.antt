use Rattle.std.proofs.Common.{ℕ, List, ◌∷◌, [], ◌++◌, Contains, inl, inr, sym, ap, ◌∙◌, subst}
use Rattle.lists.proofs.Members.{Contains-here, Contains-cons_cases, Contains-nil}
use Rattle.search.specs.declared.conflict.NodeChoice.{NodeChoice}
use Rattle.learning_search.proofs.refusal.conflict_of.Goals as goal

pub returns-clause-one : goal.returns-clause-one
returns-clause-one c = elim (c.in_ok-insert.ensures.added c.args.one (Contains-here c.args.one [])) [
  | inl a ↦ a
  | inr b ↦ absurd (Contains-nil c.args.one b)
]

pub returns-clause-only : goal.returns-clause-only
returns-clause-only c x i = elim (c.in_ok-insert.ensures.only x i) [
  | inl a ↦ inr (let k : Contains (c.args.other ∷ []) x = subst (λ (xs : List (NodeChoice ℕ ℕ)). Contains xs x) (c.in_ok-push.ensures.items ∙ ap (λ xs. xs ++ c.args.other ∷ []) c.new-conflict.ensures.items) a in elim (Contains-cons_cases c.args.other [] x k) [ inl e ↦ sym e | inr r ↦ absurd (Contains-nil x r) ])
  | inr b ↦ inl (elim (Contains-cons_cases c.args.one [] x b.0) [ inl e ↦ sym e | inr r ↦ absurd (Contains-nil x r) ])
]
