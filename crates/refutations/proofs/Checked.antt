-- The tests of the checker decide the four cases by which a conflict follows.
use Rattle.std.proofs.Common.{◌≡◌, ◌⊎◌, inl, inr, ◌<◌, ℕ, zero, suc, true, List, [], ◌∷◌, ◌++◌, Contains, get_or, length, take, arith, sym, subst, append_assoc, append-nil}
use Rattle.std.specs.Bool.{Decides}
use Rattle.std.specs.List.{list_all, list_any}
use Rattle.pep440.specs.Version.{VersionParts}
use Rattle.pep508.specs.Requirement.{RequirementParts}
use Rattle.search.specs.Conflicts.{ChoicesClash, Completes, EachFollows, Follows, IsSameChoice, LineRefuses, NoneLeft, VersionsDiffer}
use Rattle.snapshot.specs.Release.{Release}
use Rattle.refutations.specs.Tied.Cases.{completes, is_same, is_within, none_left}
use Rattle.problems.specs.Tied.ChoiceTests.{differ, refuses}
use Rattle.problems.specs.Tied.Eligible.{eligible}
use Rattle.problems.specs.Tied.NodeEquality.{is_node}
use Rattle.problems.specs.Problem.{ProblemParts}
use Rattle.problems.specs.Choices.{ChoiceParts}
use Rattle.problems.specs.Rules.{candidates, nodes_of, rules_of, same_version, wants}
use Rattle.problems.specs.declared.node.Node.{Node}
use Rattle.problems.proofs.Deciding.{IsThere, decides-all, decides-any, decides-both, decides-either, decides-itself, decides-onto}
use Rattle.problems.proofs.Candidates.{IsReleased, candidate-eligible, eligible-all}
use Rattle.problems.proofs.ChoiceTests.{AreApart, IsRefused, differ-decides, refuses-decides}
use Rattle.problems.proofs.EqualNodes.{node-decides}
use Rattle.problems.proofs.Equals.{same-onward}

-- ---- two choices

pub same-decides : (one other : ChoiceParts) → Decides (is_same one other) (IsSameChoice same_version one other)
same-decides one other = decides-onto (is_same one other)
    (decides-both (is_node one.node other.node.name other.node.extra) (same_version one.version other.version) (node-decides one.node other.node) (decides-itself (same_version one.version other.version)))
    (λ k. record { nodes = k.0; versions = k.1 })
    (λ s. (s.nodes, s.versions))

-- ---- the first three cases

pub line-decides : (given : ProblemParts) (conflict : List ChoiceParts) → Decides (list_any (λ choice. list_any (λ line. refuses given line choice) given.active) conflict) (LineRefuses (rules_of given) conflict)
line-decides given conflict = decides-onto _
    (decides-any (λ choice. list_any (λ line. refuses given line choice) given.active) (λ choice. IsThere (λ line. IsRefused given line choice) given.active) conflict
    (λ choice. decides-any (λ line. refuses given line choice) (λ line. IsRefused given line choice) given.active (λ line. refuses-decides given line choice)))
    (λ k. record { choice = k.item; there = k.there; line = k.is.item; active = k.is.there; named = k.is.is.0; refused = k.is.is.1 })
    (λ r. record { item = r.choice; there = r.there; is = record { item = r.line; there = r.active; is = (r.named, r.refused) } })

pub clash-decides : (given : ProblemParts) (conflict : List ChoiceParts)
    → Decides (list_any (λ one. list_any (λ wanted. list_any (refuses given wanted) conflict) (wants given one.node one.version)) conflict) (ChoicesClash (rules_of given) conflict)
clash-decides given conflict = decides-onto _
    (decides-any (λ one. list_any (λ wanted. list_any (refuses given wanted) conflict) (wants given one.node one.version)) (λ one. IsThere (λ wanted. IsThere (IsRefused given wanted) conflict) (wants given one.node one.version)) conflict
    (λ one. decides-any (λ wanted. list_any (refuses given wanted) conflict) (λ wanted. IsThere (IsRefused given wanted) conflict) (wants given one.node one.version)
    (λ wanted. decides-any (refuses given wanted) (IsRefused given wanted) conflict (refuses-decides given wanted))))
    (λ k. record { one = k.item; other = k.is.is.item; there = k.there; there_too = k.is.is.there; wanted = k.is.item; counts = k.is.there; named = k.is.is.is.0; refused = k.is.is.is.1 })
    (λ r. record { item = r.one; there = r.there; is = record { item = r.wanted; there = r.counts; is = record { item = r.other; there = r.there_too; is = (r.named, r.refused) } } })

pub versions-decide : (given : ProblemParts) (conflict : List ChoiceParts) → Decides (list_any (λ one. list_any (differ one) conflict) conflict) (VersionsDiffer (rules_of given) same_version conflict)
versions-decide given conflict = decides-onto _
    (decides-any (λ one. list_any (differ one) conflict) (λ one. IsThere (AreApart one) conflict) conflict (λ one. decides-any (differ one) (AreApart one) conflict (differ-decides one)))
    (λ k. record { one = k.item; other = k.is.item; there = k.there; there_too = k.is.there; named = k.is.is.0; differ = k.is.is.1 })
    (λ r. record { item = r.one; there = r.there; is = record { item = r.other; there = r.there_too; is = (r.named, r.differ) } })

-- ---- none is left

pub within-decides : (conflict : List ChoiceParts) (choice member : ChoiceParts)
    → Decides (is_within conflict choice member) (((c : ChoiceParts) × Contains conflict c × IsSameChoice same_version member c) ⊎ IsSameChoice same_version member choice)
within-decides conflict choice member = decides-onto (is_within conflict choice member)
    (decides-either (list_any (is_same member) conflict) (is_same member choice) (decides-any (is_same member) (IsSameChoice same_version member) conflict (same-decides member)) (same-decides member choice))
    (λ k. elim k [ inl a ↦ inl (a.item, a.there, a.is) | inr b ↦ inr b ])
    (λ k. elim k [ inl a ↦ inl (record { item = a.0; there = a.1; is = a.2 }) | inr b ↦ inr b ])

pub completes-decides : (earlier : List (List ChoiceParts)) (conflict : List ChoiceParts) (choice : ChoiceParts) → Decides (completes earlier conflict choice) (Completes same_version earlier conflict choice)
completes-decides earlier conflict choice = decides-onto (completes earlier conflict choice)
    (decides-any (λ old. list_all (is_within conflict choice) old)
    (λ old. (member : ChoiceParts) → Contains old member → ((c : ChoiceParts) × Contains conflict c × IsSameChoice same_version member c) ⊎ IsSameChoice same_version member choice) earlier
    (λ old. decides-all (is_within conflict choice) (λ member. ((c : ChoiceParts) × Contains conflict c × IsSameChoice same_version member c) ⊎ IsSameChoice same_version member choice) old (within-decides conflict choice)))
    (λ k. (k.item, k.there, k.is))
    (λ k. record { item = k.0; there = k.1; is = k.2 })

-- what is completed by a version is completed by one that equals it
completes-alike : (earlier : List (List ChoiceParts)) (conflict : List ChoiceParts) (node : Node) (v w : VersionParts) → same_version v w ≡ true
    → Completes same_version earlier conflict (record { node = node; version = v }) → Completes same_version earlier conflict (record { node = node; version = w })
completes-alike earlier conflict node v w h k = (
  k.0,
  k.1,
  λ member there. elim (k.2 member there) [
    | inl a ↦ inl a
    | inr b ↦ inr (record { nodes = b.nodes; versions = same-onward member.version v w b.versions h })
  ],
)

-- with each candidate the conflict contains an earlier one
abbrev IsExhausted : ProblemParts → List (List ChoiceParts) → List ChoiceParts → Node → Type 0
IsExhausted given earlier conflict node = (v : VersionParts) → Contains (candidates given node.name) v → Completes same_version earlier conflict (record { node = node; version = v })

pub exhausted-decides : (given : ProblemParts) (earlier : List (List ChoiceParts)) (conflict : List ChoiceParts) (node : Node) → Decides (none_left given earlier conflict node) (IsExhausted given earlier conflict node)
exhausted-decides given earlier conflict node =
    let releases : List Release = eligible given node.name in
    let with : VersionParts → ChoiceParts = λ v. record { node = node; version = v } in
    decides-onto (none_left given earlier conflict node)
    (decides-all (λ release. completes earlier conflict (with release.version)) (λ release. Completes same_version earlier conflict (with release.version)) releases (λ release. completes-decides earlier conflict (with release.version)))
    (λ each v there.
    let k : IsReleased releases v = candidate-eligible given node.name v there in
    subst (λ w. Completes same_version earlier conflict (with w)) k.is (each k.item k.there))
    (eligible-all given node.name (λ v. Completes same_version earlier conflict (with v)) (completes-alike earlier conflict node))

-- a line needs a node with none left, or a choice of the conflict does
abbrev IsExhaustedFor : ProblemParts → List (List ChoiceParts) → List ChoiceParts → RequirementParts → Type 0
IsExhaustedFor given earlier conflict wanted = IsThere (IsExhausted given earlier conflict) (nodes_of wanted)

abbrev pub IsExhaustedLine : ProblemParts → List (List ChoiceParts) → List ChoiceParts → Type 0
IsExhaustedLine given earlier conflict = IsThere (IsExhaustedFor given earlier conflict) given.active

abbrev pub IsExhaustedChoice : ProblemParts → List (List ChoiceParts) → List ChoiceParts → Type 0
IsExhaustedChoice given earlier conflict = IsThere (λ (one : ChoiceParts). IsThere (IsExhaustedFor given earlier conflict) (wants given one.node one.version)) conflict

for-decides : (given : ProblemParts) (earlier : List (List ChoiceParts)) (conflict : List ChoiceParts) (wanted : RequirementParts) → Decides (list_any (none_left given earlier conflict) (nodes_of wanted)) (IsExhaustedFor given earlier conflict wanted)
for-decides given earlier conflict wanted = decides-any (none_left given earlier conflict) (IsExhausted given earlier conflict) (nodes_of wanted) (exhausted-decides given earlier conflict)

pub by_line-decides : (given : ProblemParts) (earlier : List (List ChoiceParts)) (conflict : List ChoiceParts)
    → Decides (list_any (λ line. list_any (none_left given earlier conflict) (nodes_of line)) given.active) (IsExhaustedLine given earlier conflict)
by_line-decides given earlier conflict = decides-any (λ line. list_any (none_left given earlier conflict) (nodes_of line)) (IsExhaustedFor given earlier conflict) given.active (for-decides given earlier conflict)

pub by_choice-decides : (given : ProblemParts) (earlier : List (List ChoiceParts)) (conflict : List ChoiceParts)
    → Decides (list_any (λ one. list_any (λ wanted. list_any (none_left given earlier conflict) (nodes_of wanted)) (wants given one.node one.version)) conflict) (IsExhaustedChoice given earlier conflict)
by_choice-decides given earlier conflict = decides-any (λ one. list_any (λ wanted. list_any (none_left given earlier conflict) (nodes_of wanted)) (wants given one.node one.version))
    (λ one. IsThere (IsExhaustedFor given earlier conflict) (wants given one.node one.version)) conflict
    (λ one. decides-any (λ wanted. list_any (none_left given earlier conflict) (nodes_of wanted)) (IsExhaustedFor given earlier conflict) (wants given one.node one.version) (for-decides given earlier conflict))

pub none-cases : (given : ProblemParts) (earlier : List (List ChoiceParts)) (conflict : List ChoiceParts) → NoneLeft (rules_of given) same_version earlier conflict
    → IsExhaustedLine given earlier conflict ⊎ IsExhaustedChoice given earlier conflict
none-cases given earlier conflict f = elim f.needs [
  | inl a ↦ inl (record { item = a.0; there = a.1; is = record { item = f.node; there = a.2; is = f.each } })
  | inr b ↦ inr (record { item = b.0; there = b.2; is = record { item = b.1; there = b.3; is = record { item = f.node; there = b.4; is = f.each } } })
]

-- ---- each follows

pub each-push : (given : ProblemParts) (earlier conflicts : List (List ChoiceParts)) (conflict : List ChoiceParts) → EachFollows (rules_of given) same_version earlier conflicts
    → Follows (rules_of given) same_version (earlier ++ conflicts) conflict → EachFollows (rules_of given) same_version earlier (conflicts ++ conflict ∷ [])
each-push given earlier [] conflict each f = (subst (λ old. Follows (rules_of given) same_version old conflict) (append-nil earlier) f, tt)
each-push given earlier (c ∷ cs) conflict each f =
    (each.0, each-push given (earlier ++ c ∷ []) cs conflict each.1 (subst (λ old. Follows (rules_of given) same_version old conflict) (sym (append_assoc earlier (c ∷ []) cs)) f))

pub each-at : (given : ProblemParts) (earlier conflicts : List (List ChoiceParts)) (place : ℕ) (d : List ChoiceParts) → place < length conflicts → EachFollows (rules_of given) same_version earlier conflicts
    → Follows (rules_of given) same_version (earlier ++ take place conflicts) (get_or conflicts place d)
each-at given earlier [] place d within each = absurd (omega arith)
each-at given earlier (c ∷ cs) zero d within each = subst (λ old. Follows (rules_of given) same_version old c) (sym (append-nil earlier)) each.0
each-at given earlier (c ∷ cs) (suc place) d within each =
    subst (λ old. Follows (rules_of given) same_version old (get_or cs place d)) (append_assoc earlier (c ∷ []) (take place cs)) (each-at given (earlier ++ c ∷ []) cs place d (omega arith) each.1)
