use Rattle.std.proofs.Common.{◌≡◌, ◌∙◌, ℕ, Bool, Contains, List, ap, false, subst, sym}
use Rattle.std.specs.List.{list_any}
use Rattle.std.specs.Option.{option_copied}
use Rattle.pep508.specs.Requirement.{RequirementParts}
use Rattle.refutations.specs.Tied.Cases.{none_left}
use Rattle.problems.specs.Choices.{ChoiceParts}
use Rattle.problems.specs.Rules.{nodes_of, wants}
use Rattle.problems.specs.declared.node.Node.{Node}
use Rattle.problems.proofs.Wants.{any-wanted}
use Rattle.refutations.proofs.Grounded.{choice-ground, wanted-counts}
use Rattle.refutations.proofs.grounds.exhaustion.exhausted_behind.Goals as goal

pub returns-in_err-wanted : goal.returns-in_err-wanted
returns-in_err-wanted c =
    let given = c.args.problem.now in
    let inside = c.one.inside in
    let test : RequirementParts → Bool = λ wanted. list_any (none_left given c.args.earlier.conflicts.now c.args.conflict.now) (nodes_of wanted) in
    let none = rw (c.dependencies-dependencies.ensures, c.as_ref-at.ensures.value) at c.in_err-wanted.ensures in
    rw c.from_residual.ensures (λ h. subst (λ (one : ChoiceParts). list_any test (wants given one.node one.version) ≡ false) c.one.view_is
    (sym (any-wanted test given (record { name = inside.name; extra = inside.extra }) inside.version) ∙ none h))

pub returns : goal.returns
returns c = λ there.
    let given = c.args.problem.now in
    let inside = c.one.inside in
    let wanted = c.in_ok-wanted.wanted.now in
    let extra = option_copied c.in_ok-wanted.extra in
    let found = rw (c.dependencies-dependencies.ensures, c.as_ref-at.ensures.value) at c.in_ok-wanted.ensures in
    let counts_there = subst (λ (one : ChoiceParts). Contains (wants given one.node one.version) wanted) c.one.view_is
    (wanted-counts given (record { name = inside.name; extra = inside.extra }) inside.version wanted found.0 found.1) in
    let k = choice-ground given c.args.earlier.conflicts.now c.args.conflict.now c.args.one.now wanted extra there counts_there found.2 in
    let node : List ℕ → Node = λ n. record { name = n; extra = extra } in
    (k.0, k.1 ∙ ap node (sym c.name.ensures), (k.2, k.3, k.4))
