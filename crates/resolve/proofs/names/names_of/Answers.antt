use Rattle.std.proofs.Common.{◌∙◌, Contains, List, ℕ, sym, subst}
use Rattle.std.proofs.lemmas.List.Filters.{dedup_is}
use Rattle.std.proofs.lemmas.List.Kept.{Contains-dedup, IsStrictlySortedBy-dedup}
use Rattle.std.proofs.lemmas.List.Sorted.{Contains-permutation}
use Rattle.std.proofs.lemmas.Map.Text.{is_eq-slice_cmp}
use Rattle.std.specs.Cmp.Lexicographic.{nat_list_cmp_total, nat_list_eq_equiv, slice_cmp}
use Rattle.std.specs.List.Sorted.{IsStrictlySortedBy}
use Rattle.std.specs.Ordering.{nat_cmp}
use Rattle.problems.specs.declared.node.Node.{Node}
use Rattle.resolve.proofs.Picturing.{same-bytes}
use Rattle.resolve.proofs.Standing.{Contains-mapped}
use Rattle.resolve.proofs.names.names_of.Goals as goal

pub returns-clause-rising : goal.returns-clause-rising
returns-clause-rising c =
    let left = dedup_is _ c.sort_unstable.new.self.items c.dedup.new.self.items c.dedup.ensures.filtered in
    subst (λ (names : List (List ℕ)). IsStrictlySortedBy (slice_cmp nat_cmp) names) (sym (c.from_vec.ensures ∙ left))
    (IsStrictlySortedBy-dedup nat_list_cmp_total (λ x y. sym (is_eq-slice_cmp x y)) c.sort_unstable.new.self.items c.sort_unstable.ensures.sorted)

pub returns-clause-whole : goal.returns-clause-whole
returns-clause-whole c node h =
    let left = dedup_is _ c.sort_unstable.new.self.items c.dedup.new.self.items c.dedup.ensures.filtered in
    let listed : Contains c.in_ok-names.names.items node.name = subst (λ (names : List (List ℕ)). Contains names node.name) (sym c.in_ok-names.ensures) (Contains-mapped (λ (n : Node). n.name) c.args.nodes.now node h) in
    subst (λ (names : List (List ℕ)). Contains names node.name) (sym (c.from_vec.ensures ∙ left))
    (Contains-dedup nat_list_eq_equiv same-bytes c.sort_unstable.new.self.items node.name
    (Contains-permutation c.in_ok-names.names.items c.sort_unstable.new.self.items node.name c.sort_unstable.ensures.permutation listed))
