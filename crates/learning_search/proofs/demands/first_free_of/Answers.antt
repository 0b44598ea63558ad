use Rattle.std.proofs.Common.{ℕ, List, Option, Some, None, MatchOption, Contains, map, ◌≡◌, ◌∷◌, inl, inr, sym, subst}
use Rattle.lists.proofs.Members.{Contains-here, Contains-there, Contains-cons_cases}
use Rattle.search.specs.declared.conflict.NodeChoice.{NodeChoice}
use Rattle.search.specs.declared.parts.TableRequirement.{TableRequirement}
use Rattle.learning_search.specs.Tied.Gathering.{choice_at, decision}
use Rattle.learning_search.specs.Tied.Learned.{IsFree}
use Rattle.search.specs.Table.{required_nodes}
use Rattle.learning_search.proofs.demands.first_free_of.Goals as goal

pub returns-then-not-is_chosen : goal.returns-then-not-is_chosen
returns-then-not-is_chosen c = (
  subst (λ (r : TableRequirement). Contains (required_nodes r) c.requirement-required.result.now.node) c.requirement-required.ensures.requirement (Contains-here c.requirement-required.result.now.node c.requirement-required.result.now.more),
  c.is_chosen.ensures.free c.if-not-is_chosen.true,
)

abbrev Chosen : List (NodeChoice ℕ ℕ) → ℕ → Type 0
Chosen chosen node = (v : ℕ) × Contains chosen (decision node v)

first-or-more : (chosen : List (NodeChoice ℕ ℕ)) (node : ℕ) (more xs : List ℕ) → xs ≡ more → Chosen chosen node → (o : Option ℕ) → MatchOption o ((n : ℕ) → Contains xs n → Chosen chosen n) (λ n. Contains xs n × IsFree chosen n) → MatchOption o ((n : ℕ) → Contains (node ∷ more) n → Chosen chosen n) (λ n. Contains (node ∷ more) n × IsFree chosen n)
first-or-more chosen node more xs e h None k = λ n i. elim (Contains-cons_cases node more n i) [
  | inl f ↦ subst (λ m. Chosen chosen m) f h
  | inr r ↦ k n (subst (λ ys. Contains ys n) (sym e) r)
]
first-or-more chosen node more xs e h (Some n) k = (Contains-there node more n (subst (λ ys. Contains ys n) e k.0), k.1)

pub returns : goal.returns
returns c = subst (λ (r : TableRequirement). MatchOption c.first_free.result ((n : ℕ) → Contains (required_nodes r) n → Chosen (map choice_at c.args.choices.now.entries) n) (λ n. Contains (required_nodes r) n × IsFree (map choice_at c.args.choices.now.entries) n)) c.requirement-required.ensures.requirement
    (first-or-more (map choice_at c.args.choices.now.entries) c.requirement-required.result.now.node c.requirement-required.result.now.more c.as_slice.result.now c.as_slice.ensures (c.is_chosen.ensures.chosen c.if-not-is_chosen.false) c.first_free.result c.first_free.ensures)
