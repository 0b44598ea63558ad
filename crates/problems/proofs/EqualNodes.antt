-- Nodes are the same by the bytes of their names, and by their order.
use Rattle.std.proofs.Common.{◌≡◌, ◌∙◌, ◌&&◌, ℕ, List, Option, Some, None, refl, sym, ap}
use Rattle.std.specs.Bool.{Decides}
use Rattle.std.specs.Cmp.{tied_then}
use Rattle.std.specs.Cmp.Lexicographic.{slice_cmp}
use Rattle.std.specs.Option.{option_cmp}
use Rattle.std.specs.Ordering.{eq_by_cmp, is_eq, nat_cmp}
use Rattle.std.specs.Str.{bytes_eq}
use Rattle.std.proofs.lemmas.Map.Text.{is_eq-slice_cmp}
use Rattle.std.proofs.lemmas.Slice.Eq.{bytes_eq-Decides}
use Rattle.problems.specs.Nodes.{node_cmp}
use Rattle.problems.specs.Tied.NodeEquality.{is_asked, is_node}
use Rattle.problems.specs.declared.node.Node.{Node}
use Rattle.problems.proofs.Deciding.{decides-both, decides-onto}

asked-decides : (extra asked : Option (List ℕ)) → Decides (is_asked extra asked) (extra ≡ asked)
asked-decides None None = ((λ h. refl), (λ e. refl))
asked-decides (Some extra) (Some asked) = decides-onto (bytes_eq extra asked) (bytes_eq-Decides extra asked) (λ e. ap Some e) (λ e. cc)
asked-decides None (Some asked) = ((λ h. absurd cc), (λ e. absurd cc))
asked-decides (Some extra) None = ((λ h. absurd cc), (λ e. absurd cc))

pub node-decides : (node other : Node) → Decides (is_node node other.name other.extra) (node ≡ other)
node-decides node other = decides-onto (is_node node other.name other.extra)
    (decides-both (bytes_eq node.name other.name) (is_asked node.extra other.extra) (bytes_eq-Decides node.name other.name) (asked-decides node.extra other.extra))
    (λ k. λ i. record { name = k.0 i; extra = k.1 i })
    (λ e. (ap (λ (n : Node). n.name) e, ap (λ (n : Node). n.extra) e))

extras-tied : (extra other : Option (List ℕ)) → is_asked extra other ≡ is_eq (option_cmp (slice_cmp nat_cmp) extra other)
extras-tied None None = refl
extras-tied None (Some other) = refl
extras-tied (Some extra) None = refl
extras-tied (Some extra) (Some other) = sym (is_eq-slice_cmp extra other)

pub nodes-tied : (node other : Node) → is_node node other.name other.extra ≡ eq_by_cmp node_cmp node other
nodes-tied node other =
    (λ i. sym (is_eq-slice_cmp node.name other.name) i && extras-tied node.extra other.extra i)
    ∙ tied_then (slice_cmp nat_cmp node.name other.name) (option_cmp (slice_cmp nat_cmp) node.extra other.extra)
