use Rattle.std.proofs.Common.{ℕ, ◌≡◌, ◌∙◌, Option, Bor, Some, None, is_some, refl, sym, ap}
use Rattle.std.specs.Option.{option_copied}
use Rattle.learning_search.proofs.Entries.{lookup-some, lookup-free}
use Rattle.learning_search.proofs.demands.is_chosen.Goals as goal

copied-some : (o : Option (Bor ℕ)) → is_some (option_copied {T = ℕ} o) ≡ is_some o
copied-some None = refl
copied-some (Some x) = refl

pub returns-clause-chosen : goal.returns-clause-chosen
returns-clause-chosen c = λ t. lookup-some c.args.choices.now.entries c.args.node (sym (ap is_some c.get.ensures.value) ∙ copied-some c.get.result ∙ sym c.is_some.ensures ∙ t)

pub returns-clause-free : goal.returns-clause-free
returns-clause-free c = λ t. lookup-free c.args.choices.now.entries c.args.node (sym (ap is_some c.get.ensures.value) ∙ copied-some c.get.result ∙ sym c.is_some.ensures ∙ t)
