-- Earlier conflicts of sets that a conflict contains with one version more, and how they are looked for.
use Rattle.std.proofs.Common.{◌≡◌, ◌∙◌, ◌⊎◌, inl, inr, ◌&&◌, ◌||◌, not, Bool, true, false, List, [], ◌∷◌, Contains, refl}
use Rattle.std.specs.Bool.{Decides}
use Rattle.std.specs.List.{list_all, list_any}
use Rattle.pep440.specs.Version.{VersionParts}
use Rattle.search.specs.SetConflicts.{BindsWithin, CompletesSet, EachVersion, HasVersion}
use Rattle.problems.specs.Tied.NodeEquality.{is_node}
use Rattle.problems.specs.Rules.{same_version}
use Rattle.set_refutations.specs.SetRefutations.{TermParts}
use Rattle.set_refutations.specs.Tied.SetCases.{completes, each_completes, fits_at, is_at, is_bound, is_bound_beside, is_listed, is_within}
use Rattle.problems.specs.declared.node.Node.{Node}
use Rattle.problems.proofs.EqualNodes.{node-decides}
use Rattle.problems.proofs.Deciding.{decides-all, decides-any, decides-both, decides-either, decides-itself, decides-onto}
use Rattle.problems.proofs.Equals.{same-onward}

pub listed-decides : (versions : List VersionParts) (v : VersionParts) → Decides (is_listed versions v) (HasVersion same_version versions v)
listed-decides versions v = decides-onto (is_listed versions v)
    (decides-any (λ w. same_version w v) (λ w. same_version w v ≡ true) versions (λ w. decides-itself (same_version w v)))
    (λ k. (k.item, k.there, k.is))
    (λ k. record { item = k.0; there = k.1; is = k.2 })

bound-decides : (conflict : List TermParts) (t : TermParts) → Decides (is_bound conflict t) (BindsWithin same_version conflict t)
bound-decides conflict t = decides-onto (is_bound conflict t)
    (decides-any (λ (c : TermParts). is_node c.node t.node.name t.node.extra && list_all (is_listed t.versions) c.versions) (λ (c : TermParts). (c.node ≡ t.node) × ((v : VersionParts) → Contains c.versions v → HasVersion same_version t.versions v)) conflict
    (λ c. decides-both (is_node c.node t.node.name t.node.extra) (list_all (is_listed t.versions) c.versions) (node-decides c.node t.node) (decides-all (is_listed t.versions) (HasVersion same_version t.versions) c.versions (listed-decides t.versions))))
    (λ k. (k.item, k.there, k.is.0, k.is.1))
    (λ k. record { item = k.0; there = k.1; is = (k.2, k.3) })

at-decides : (node : Node) (v : VersionParts) (t : TermParts) → Decides (is_at node v t) ((t.node ≡ node) × HasVersion same_version t.versions v)
at-decides node v t = decides-both (is_node t.node node.name node.extra) (is_listed t.versions v) (node-decides t.node node) (listed-decides t.versions v)

abbrev IsWithin : List TermParts → Node → VersionParts → TermParts → Type 0
IsWithin conflict node v t = BindsWithin same_version conflict t ⊎ ((t.node ≡ node) × HasVersion same_version t.versions v)

within-decides : (conflict : List TermParts) (node : Node) (v : VersionParts) (t : TermParts) → Decides (is_within conflict node v t) (IsWithin conflict node v t)
within-decides conflict node v t = decides-onto (is_within conflict node v t)
    (decides-either (is_at node v t) (is_bound conflict t) (at-decides node v t) (bound-decides conflict t))
    (λ k. elim k [ inl a ↦ inr a | inr b ↦ inl b ])
    (λ k. elim k [ inl b ↦ inr b | inr a ↦ inl a ])

pub completes-decides : (earlier : List (List TermParts)) (conflict : List TermParts) (node : Node) (v : VersionParts) → Decides (completes earlier conflict node v) (CompletesSet same_version earlier conflict node v)
completes-decides earlier conflict node v = decides-onto (completes earlier conflict node v)
    (decides-any (list_all (is_within conflict node v)) (λ old. (t : TermParts) → Contains old t → IsWithin conflict node v t) earlier
    (λ old. decides-all (is_within conflict node v) (IsWithin conflict node v) old (within-decides conflict node v)))
    (λ k. (k.item, k.there, k.is))
    (λ k. record { item = k.0; there = k.1; is = k.2 })

-- what is completed by a version is completed by one that equals it
pub completes-alike : (earlier : List (List TermParts)) (conflict : List TermParts) (node : Node) (v w : VersionParts) → same_version v w ≡ true
    → CompletesSet same_version earlier conflict node v → CompletesSet same_version earlier conflict node w
completes-alike earlier conflict node v w h k = (
  k.0,
  k.1,
  λ t there. elim (k.2 t there) [
    | inl a ↦ inl a
    | inr b ↦ inr (b.0, (b.1.0, b.1.1, same-onward b.1.0 v w b.1.2 h))
  ],
)

pub term-decides : (earlier : List (List TermParts)) (conflict : List TermParts) (t : TermParts)
    → Decides (each_completes earlier conflict t) ((v : VersionParts) → Contains t.versions v → CompletesSet same_version earlier conflict t.node v)
term-decides earlier conflict t = decides-all (completes earlier conflict t.node) (CompletesSet same_version earlier conflict t.node) t.versions (completes-decides earlier conflict t.node)

pub each-decides : (earlier : List (List TermParts)) (conflict : List TermParts) → Decides (list_any (each_completes earlier conflict) conflict) (EachVersion same_version earlier conflict)
each-decides earlier conflict = decides-onto (list_any (each_completes earlier conflict) conflict)
    (decides-any (each_completes earlier conflict) (λ (t : TermParts). (v : VersionParts) → Contains t.versions v → CompletesSet same_version earlier conflict t.node v) conflict (term-decides earlier conflict))
    (λ k. record { term = k.item; there = k.there; each = k.is })
    (λ e. record { item = e.term; there = e.there; is = e.each })

-- ---- terms at the node, and those beside it

parted : (on listed bound : Bool) → (((not on || listed) || bound) && (on || bound)) ≡ ((on && listed) || bound)
parted true true bound = refl
parted true false true = refl
parted true false false = refl
parted false listed true = refl
parted false listed false = refl

both-joined : (p q : Bool) (ps qs : Bool) → ((p && ps) && (q && qs)) ≡ ((p && q) && (ps && qs))
both-joined true true ps qs = refl
both-joined true false true qs = refl
both-joined true false false qs = refl
both-joined false q ps qs = refl

pub within-parted : (conflict : List TermParts) (node : Node) (v : VersionParts) (old : List TermParts)
    → (list_all (λ t. fits_at node v t || is_bound conflict t) old && list_all (is_bound_beside conflict node) old) ≡ list_all (is_within conflict node v) old
within-parted conflict node v [] = refl
within-parted conflict node v (t ∷ ts) =
    both-joined (fits_at node v t || is_bound conflict t) (is_bound_beside conflict node t) (list_all (λ s. fits_at node v s || is_bound conflict s) ts) (list_all (is_bound_beside conflict node) ts)
    ∙ (λ i. parted (is_node t.node node.name node.extra) (is_listed t.versions v) (is_bound conflict t) i && within-parted conflict node v ts i)
