-- Choices are equal by their order exactly where they are the same.
use Rattle.std.proofs.Common.{◌≡◌, ◌∙◌, ◌&&◌, ap}
use Rattle.std.specs.Cmp.{tied_then}
use Rattle.std.specs.Ordering.{eq_by_cmp}
use Rattle.pep440.specs.Order.{version_cmp}
use Rattle.refutations.specs.Tied.Cases.{is_same}
use Rattle.refutations.specs.Choices.{choice_cmp}
use Rattle.problems.specs.Nodes.{node_cmp}
use Rattle.problems.specs.Choices.{ChoiceParts}
use Rattle.problems.specs.Rules.{same_version}
use Rattle.problems.proofs.EqualNodes.{nodes-tied}

pub choices-tied : (choice other : ChoiceParts) → is_same choice other ≡ eq_by_cmp choice_cmp choice other
choices-tied choice other =
    ap (λ tied. tied && same_version choice.version other.version) (nodes-tied choice.node other.node)
    ∙ tied_then (node_cmp choice.node other.node) (version_cmp choice.version other.version)
