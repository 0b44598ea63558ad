-- Nodes that are found by their numbers.
use Rattle.std.proofs.Common.{◌≡◌, ◌≢◌, ◌⊎◌, ◌<◌, ℕ, zero, suc, inl, inr, cond, true, false, List, [], ◌∷◌, ◌++◌, Option, Some, None, Contains, length, get_or, arith, refl, ap, subst, sym, ◌∙◌}
use Rattle.std.specs.BTreeMap.{BTreeMap, Updates, UpdatesBy, get, is_at}
use Rattle.std.specs.Bool.{Decides}
use Rattle.std.specs.Cmp.{IsEquivalence, eq_by_cmp_equiv}
use Rattle.std.specs.Cmp.Lexicographic.{slice_cmp}
use Rattle.std.specs.List.{IsDistinct, slice_get}
use Rattle.std.specs.Option.{option_and_then, option_map_or}
use Rattle.std.specs.Ordering.{eq_by_cmp, nat_cmp}
use Rattle.std.proofs.lemmas.Bool.{cases_Bool}
use Rattle.std.proofs.lemmas.Map.Made.{IsDistinct-from_AllPairs, length-le_from_is_member}
use Rattle.std.proofs.lemmas.Map.Views.{Contains-from_any, list_any-from_Contains}
use Rattle.std.proofs.lemmas.Map.Text.{is_eq-slice_cmp}
use Rattle.std.proofs.lemmas.Slice.Eq.{bytes_eq-Decides}
use Rattle.problems.specs.Tied.NodeLaws.{node_total}
use Rattle.problems.specs.Nodes.{node_cmp}
use Rattle.problems.specs.Tied.NodeEquality.{is_node}
use Rattle.problems.specs.Tied.NodeNumbers.{AreListed, number_at, number_in}
use Rattle.problems.specs.Tied.Standing.{IsOnce, Stands}
use Rattle.problems.specs.declared.node.Node.{Node}
use Rattle.problems.specs.declared.nodes.Numbers.{Numbers}
use Rattle.problems.proofs.EqualNodes.{node-decides, nodes-tied}
use Rattle.problems.proofs.Growing.{Contains-standing}
use Rattle.lists.proofs.Members.{Contains-cons_cases, Contains-nil}

-- what is there stands at a place
stands-there : (nodes : List Node) (node : Node) → Contains nodes node → (place : ℕ) × Stands nodes place node
stands-there [] node there = absurd (Contains-nil node there)
stands-there (x ∷ nodes) node there = elim (Contains-cons_cases x nodes node there) [
  | inl e ↦ (zero, ap (λ y. Some y) e)
  | inr r ↦ let k : (place : ℕ) × Stands nodes place node = stands-there nodes node r in (suc k.0, k.1)
]

-- what is read at a place stands there
stands-at : (nodes : List Node) (place : ℕ) (d : Node) → place < length nodes → Stands nodes place (get_or nodes place d)
stands-at [] place d within = absurd (omega arith)
stands-at (x ∷ nodes) zero d within = refl
stands-at (x ∷ nodes) (suc place) d within = stands-at nodes place d (omega arith)

-- with one more node, a place is one of those before or the last one
stands-pushed : (nodes : List Node) (last : Node) (place : ℕ) (node : Node) → Stands (nodes ++ last ∷ []) place node → Stands nodes place node ⊎ ((place ≡ length nodes) × (last ≡ node))
stands-pushed [] last zero node stands = inr (refl, cc)
stands-pushed [] last (suc place) node stands = absurd cc
stands-pushed (x ∷ nodes) last zero node stands = inl stands
stands-pushed (x ∷ nodes) last (suc place) node stands = elim (stands-pushed nodes last place node stands) [
  | inl before ↦ inl before
  | inr end ↦ inr (let e = end.0 in omega arith, end.1)
]

pub stands-last : (nodes : List Node) (node : Node) → Stands (nodes ++ node ∷ []) (length nodes) node
stands-last [] node = refl
stands-last (x ∷ nodes) node = stands-last nodes node

-- where something else is listed, the nodes are found as before
pub listed-kept : (old new : BTreeMap (List ℕ) Numbers) (nodes : List Node) (node : Node) → AreListed old nodes → (Contains nodes node → ⊥) → ((other : Node) → other ≢ node → number_at new other ≡ number_at old other) → AreListed new nodes
listed-kept old new nodes node listed apart others = λ place other stands.
    others other (λ same. apart (subst (λ x. Contains nodes x) same (Contains-standing nodes place other stands))) ∙ listed place other stands

-- a node that is listed with the next place can be put behind the others
pub listed-pushed : (old new : BTreeMap (List ℕ) Numbers) (nodes : List Node) (node : Node) → AreListed old nodes → (Contains nodes node → ⊥) → ((other : Node) → other ≢ node → number_at new other ≡ number_at old other) → number_at new node ≡ Some (length nodes)
    → AreListed new (nodes ++ node ∷ [])
listed-pushed old new nodes node listed apart others here = λ place other stands. elim (stands-pushed nodes node place other stands) [
  | inl before ↦ listed-kept old new nodes node listed apart others place other before
  | inr end ↦ rw (sym end.0) at (subst (λ x. number_at new x ≡ Some (length nodes)) end.1 here)
]

-- a node for which nothing is listed isn't there
pub unlisted-apart : (by_name : BTreeMap (List ℕ) Numbers) (nodes : List Node) (node : Node) → AreListed by_name nodes → number_at by_name node ≡ None → Contains nodes node → ⊥
unlisted-apart by_name nodes node listed none there =
    let place : (place : ℕ) × Stands nodes place node = stands-there nodes node there in
    let e : Some place.0 ≡ None = sym (listed place.0 node place.1) ∙ none in
    absurd cc

-- nor is one at whose number something else stands
pub elsewhere-apart : (by_name : BTreeMap (List ℕ) Numbers) (nodes : List Node) (node : Node) (number : ℕ) → AreListed by_name nodes → number_at by_name node ≡ Some number
    → option_map_or (λ other. is_node other node.name node.extra) (slice_get nodes number) false ≡ false → Contains nodes node → ⊥
elsewhere-apart by_name nodes node number listed some other there =
    let place : (place : ℕ) × Stands nodes place node = stands-there nodes node there in
    let e : Some place.0 ≡ Some number = sym (listed place.0 node place.1) ∙ some in
    let same : place.0 ≡ number = cc in
    let stands : slice_get nodes number ≡ Some node = subst (λ n. Stands nodes n node) same place.1 in
    let is : is_node node node.name node.extra ≡ true = (node-decides node node).1 refl in
    let not : is_node node node.name node.extra ≡ false = rw stands at other in
    absurd (let k : true ≡ false = sym is ∙ not in cc)

-- nodes that are each listed with their place are listed once
pub listed-once : (by_name : BTreeMap (List ℕ) Numbers) (nodes : List Node) → AreListed by_name nodes → IsOnce nodes
listed-once by_name nodes listed = λ others within.
    let laws : IsEquivalence (eq_by_cmp node_cmp) = eq_by_cmp_equiv node_total in
    let distinct : IsDistinct (eq_by_cmp node_cmp) nodes = IsDistinct-from_AllPairs same nodes (λ i j d below end e. apart i j d below end e) in
    length-le_from_is_member laws nodes others distinct (λ node there. list_any-from_Contains laws node others (within node (Contains-from_any (λ x y h. (same x y).0 h) node nodes there)))
  where
    same : (x y : Node) → Decides (eq_by_cmp node_cmp x y) (x ≡ y)
    same x y = subst (λ b. Decides b (x ≡ y)) (nodes-tied x y) (node-decides x y)

    apart : (i j : ℕ) (d : Node) → i < j → j < length nodes → get_or nodes i d ≢ get_or nodes j d
    apart i j d below end e =
        let one : number_at by_name (get_or nodes i d) ≡ Some i = listed i (get_or nodes i d) (stands-at nodes i d (omega arith)) in
        let other : number_at by_name (get_or nodes j d) ≡ Some j = listed j (get_or nodes j d) (stands-at nodes j d end) in
        let k : Some i ≡ Some j = sym one ∙ ap (number_at by_name) e ∙ other in
        let m : i ≡ j = cc in
        omega arith

-- ---- numbers that are listed

-- names that differ are not found for one another
other-name : (name other : List ℕ) → name ≢ other → is_at (slice_cmp nat_cmp name) other ≡ false
other-name name other apart = elim (cases_Bool (is_at (slice_cmp nat_cmp name) other)) [
  | inl one ↦ absurd (apart ((bytes_eq-Decides name other).0 (sym (is_eq-slice_cmp name other) ∙ one)))
  | inr off ↦ off
]

-- the number of an extra
pub listed-extra : (numbers : Numbers) (by_extra : BTreeMap (List ℕ) ℕ) (extra : List ℕ) (number : ℕ) → Updates (slice_cmp nat_cmp) numbers.by_extra by_extra extra (Some number) → number_in (record { bare = numbers.bare; by_extra = by_extra }) (Some extra) ≡ Some number
listed-extra numbers by_extra extra number updates = updates.1

-- the others stay
pub listed-extra_others : (numbers : Numbers) (by_extra : BTreeMap (List ℕ) ℕ) (extra : List ℕ) (number : ℕ) → Updates (slice_cmp nat_cmp) numbers.by_extra by_extra extra (Some number) → (other : Option (List ℕ)) → other ≢ Some extra
    → number_in (record { bare = numbers.bare; by_extra = by_extra }) other ≡ number_in numbers other
listed-extra_others numbers by_extra extra number updates None apart = refl
listed-extra_others numbers by_extra extra number updates (Some other) apart = updates.2 other (other-name extra other (λ e. apart (ap (λ x. Some x) (sym e))))

-- where nothing is listed
pub nothing-listed : (by_extra : BTreeMap (List ℕ) ℕ) → by_extra.entries ≡ [] → (extra : Option (List ℕ)) → number_in (record { bare = None; by_extra = by_extra }) extra ≡ None
nothing-listed by_extra empty None = refl
nothing-listed by_extra empty (Some extra) = rw empty refl

-- numbers that are put at a name, and differ from those before at one extra: other nodes are found as before
pub listed-name_others : (old new : BTreeMap (List ℕ) Numbers) (name : List ℕ) (extra : Option (List ℕ)) (was : Option Numbers) (numbers : Numbers) → get (slice_cmp nat_cmp) old name ≡ was → UpdatesBy (slice_cmp nat_cmp) (slice_cmp nat_cmp name) old new (Some numbers)
    → ((other : Option (List ℕ)) → other ≢ extra → number_in numbers other ≡ option_and_then (λ (ns : Numbers). number_in ns other) was)
    → (other : Node) → other ≢ record { name = name; extra = extra } → number_at new other ≡ number_at old other
listed-name_others old new name extra was numbers before updates others other apart = elim (cases_Bool (is_at (slice_cmp nat_cmp name) other.name)) [
  | inl one ↦
      let same : name ≡ other.name = (bytes_eq-Decides name other.name).0 (sym (is_eq-slice_cmp name other.name) ∙ one) in
      let now : get (slice_cmp nat_cmp) new other.name ≡ Some numbers = updates.0 other.name ∙ ap (λ b. cond b (Some numbers) (get (slice_cmp nat_cmp) old other.name)) one in
      let then : get (slice_cmp nat_cmp) old other.name ≡ was = ap (get (slice_cmp nat_cmp) old) (sym same) ∙ before in
      let differs : other.extra ≢ extra = λ e. apart (λ i. record { name = sym same i; extra = e i }) in
      ap (option_and_then (λ (ns : Numbers). number_in ns other.extra)) now ∙ others other.extra differs ∙ sym (ap (option_and_then (λ (ns : Numbers). number_in ns other.extra)) then)
  | inr off ↦ ap (option_and_then (λ (ns : Numbers). number_in ns other.extra)) (updates.2 other.name off)
]
