-- The tests of the checker decide the four cases by which a conflict of sets follows.
use Rattle.std.proofs.Common.{◌≡◌, ◌∙◌, ◌⊎◌, inl, inr, ◌<◌, ◌+◌, ◌||◌, not, ℕ, zero, suc, Bool, true, false, List, [], ◌∷◌, ◌++◌, Some, None, Contains, drop, get_or, length, take, ap, arith, refl, sym, subst, append_assoc, append-nil}
use Rattle.std.specs.Bool.{Decides}
use Rattle.std.specs.List.{list_all, list_any}
use Rattle.std.specs.Str.{bytes_eq}
use Rattle.std.proofs.lemmas.List.{at_drop_more}
use Rattle.std.proofs.lemmas.Slice.Eq.{bytes_eq-Decides}
use Rattle.pep440.specs.Version.{VersionParts}
use Rattle.pep508.specs.Requirement.{RequirementParts}
use Rattle.search.specs.SetConflicts.{CompletesSet, EachSetFollows, LineRefusesSet, NoCandidateLeft, PairClashes, Refuses, SetFollows, SetsClash}
use Rattle.snapshot.specs.Release.{Release}
use Rattle.problems.specs.Admission.{admits}
use Rattle.problems.specs.Tied.ChoiceTests.{differ, refuses}
use Rattle.problems.specs.Tied.Eligible.{eligible}
use Rattle.problems.specs.Tied.NodeEquality.{is_node}
use Rattle.problems.specs.Problem.{ProblemParts}
use Rattle.problems.specs.Rules.{candidates, nodes_of, rules_of, same_version, wants}
use Rattle.set_refutations.specs.SetRefutations.{TermParts}
use Rattle.set_refutations.specs.Tied.SetCases.{clash_onward, completes, each_needs, each_refuses_all, is_left_out, needs, none_left, none_left_behind, pair_clashes, refuses_all, refuses_at, terms_clash}
use Rattle.problems.specs.declared.node.Node.{Node}
use Rattle.problems.proofs.Candidates.{IsReleased, candidate-eligible, eligible-all}
use Rattle.problems.proofs.ChoiceTests.{differ-decides, refuses-decides}
use Rattle.problems.proofs.EqualNodes.{node-decides}
use Rattle.problems.proofs.Deciding.{IsThere, decides-all, decides-any, decides-both, decides-either, decides-itself, decides-not, decides-onto, never}
use Rattle.problems.proofs.Equals.{apart-back}
use Rattle.set_refutations.proofs.SetsCompleted.{completes-alike, completes-decides}
use Rattle.lists.proofs.Members.{Contains-cons_cases, Contains-here, Contains-nil}

-- ---- lines

abbrev RefusesAll : ProblemParts → RequirementParts → TermParts → Type 0
RefusesAll given wanted t = (wanted.name ≡ t.node.name) × ((v : VersionParts) → Contains t.versions v → admits given wanted v ≡ false)

pub refuses_all-decides : (given : ProblemParts) (wanted : RequirementParts) (t : TermParts) → Decides (refuses_all given wanted t) (RefusesAll given wanted t)
refuses_all-decides given wanted t = decides-both (bytes_eq wanted.name t.node.name) (list_all (λ v. not (admits given wanted v)) t.versions)
    (bytes_eq-Decides wanted.name t.node.name)
    (decides-all (λ v. not (admits given wanted v)) (λ v. admits given wanted v ≡ false) t.versions (λ v. decides-not (admits given wanted v)))

pub line-decides : (given : ProblemParts) (conflict : List TermParts) → Decides (list_any (λ t. list_any (λ line. refuses_all given line t) given.active) conflict) (LineRefusesSet (rules_of given) conflict)
line-decides given conflict = decides-onto _
    (decides-any (λ t. list_any (λ line. refuses_all given line t) given.active) (λ t. IsThere (λ line. RefusesAll given line t) given.active) conflict
    (λ t. decides-any (λ line. refuses_all given line t) (λ line. RefusesAll given line t) given.active (λ line. refuses_all-decides given line t)))
    (λ k. record { term = k.item; there = k.there; line = k.is.item; active = k.is.there; named = k.is.is.0; refused = k.is.is.1 })
    (λ r. record { item = r.term; there = r.there; is = record { item = r.line; there = r.active; is = (r.named, r.refused) } })

-- ---- clashes

refuses_at-decides : (given : ProblemParts) (node : Node) (v : VersionParts) (other : Node) (w : VersionParts) → Decides (refuses_at given node v other w) (Refuses (rules_of given) node v other w)
refuses_at-decides given node v other w = decides-onto (refuses_at given node v other w)
    (decides-any (λ wanted. refuses given wanted (record { node = other; version = w })) (λ (wanted : RequirementParts). (wanted.name ≡ other.name) × (admits given wanted w ≡ false)) (wants given node v)
    (λ wanted. refuses-decides given wanted (record { node = other; version = w })))
    (λ k. (k.item, k.there, k.is.0, k.is.1))
    (λ k. record { item = k.0; there = k.1; is = (k.2, k.3) })

pair-decides : (given : ProblemParts) (node : Node) (v : VersionParts) (other : Node) (w : VersionParts) → Decides (pair_clashes given node v other w) (PairClashes (rules_of given) same_version node v other w)
pair-decides given node v other w = decides-onto (pair_clashes given node v other w)
    (decides-either (differ (record { node = node; version = v }) (record { node = other; version = w })) (refuses_at given node v other w || refuses_at given other w node v)
    (differ-decides (record { node = node; version = v }) (record { node = other; version = w }))
    (decides-either (refuses_at given node v other w) (refuses_at given other w node v) (refuses_at-decides given node v other w) (refuses_at-decides given other w node v)))
    (λ k. elim k [ inl d ↦ inr (inr d) | inr (inl a) ↦ inl a | inr (inr b) ↦ inr (inl b) ])
    (λ k. elim k [ inl a ↦ inr (inl a) | inr (inl b) ↦ inr (inr b) | inr (inr d) ↦ inl d ])

abbrev TermsClash : ProblemParts → TermParts → TermParts → Type 0
TermsClash given one other = (v : VersionParts) → Contains one.versions v → (w : VersionParts) → Contains other.versions w → PairClashes (rules_of given) same_version one.node v other.node w

pub terms-decide : (given : ProblemParts) (one other : TermParts) → Decides (terms_clash given one other) (TermsClash given one other)
terms-decide given one other = decides-all (λ v. list_all (pair_clashes given one.node v other.node) other.versions)
    (λ v. (w : VersionParts) → Contains other.versions w → PairClashes (rules_of given) same_version one.node v other.node w) one.versions
    (λ v. decides-all (pair_clashes given one.node v other.node) (PairClashes (rules_of given) same_version one.node v other.node) other.versions (pair-decides given one.node v other.node))

-- what clashes does so whichever is named first
pair-back : (given : ProblemParts) (node : Node) (v : VersionParts) (other : Node) (w : VersionParts) → PairClashes (rules_of given) same_version other w node v → PairClashes (rules_of given) same_version node v other w
pair-back given node v other w k = elim k [ inl a ↦ inr (inl a) | inr (inl b) ↦ inl b | inr (inr d) ↦ inr (inr (sym d.0, apart-back w v d.1)) ]

terms-back : (given : ProblemParts) (one other : TermParts) → terms_clash given one other ≡ true → terms_clash given other one ≡ true
terms-back given one other h = (terms-decide given other one).1 (λ v i w j. pair-back given other.node v one.node w ((terms-decide given one other).0 h w j v i))

pub any-there : {X : Type 0} (p : X → Bool) (xs : List X) (x : X) → Contains xs x → p x ≡ true → list_any p xs ≡ true
any-there p xs x there h = (decides-any p (λ y. p y ≡ true) xs (λ y. decides-itself (p y))).1 (record { item = x; there = there; is = h })

either-first : (a b : Bool) → a ≡ true → (a || b) ≡ true
either-first true b h = refl
either-first false b h = absurd cc

either-second : (a b : Bool) → b ≡ true → (a || b) ≡ true
either-second true b h = refl
either-second false b h = h

onward-whole : (given : ProblemParts) (conflict : List TermParts) (one other : TermParts) → Contains conflict one → Contains conflict other → terms_clash given one other ≡ true → clash_onward given conflict ≡ true
onward-whole given [] one other i j h = absurd (Contains-nil one i)
onward-whole given (t ∷ ts) one other i j h =
    let here = list_any (terms_clash given t) (t ∷ ts) in
    elim (Contains-cons_cases t ts one i) [
      | inl e ↦ either-first here (clash_onward given ts) (any-there (terms_clash given t) (t ∷ ts) other j (subst (λ x. terms_clash given x other ≡ true) (sym e) h))
      | inr more ↦ elim (Contains-cons_cases t ts other j) [
        | inl e ↦ either-first here (clash_onward given ts) (any-there (terms_clash given t) (t ∷ ts) one i (subst (λ x. terms_clash given x one ≡ true) (sym e) (terms-back given one other h)))
        | inr rest ↦ either-second here (clash_onward given ts) (onward-whole given ts one other more rest h)
      ]
    ]

pub unclashed : (given : ProblemParts) (conflict : List TermParts) → clash_onward given conflict ≡ false → SetsClash (rules_of given) same_version conflict → ⊥
unclashed given conflict none k =
    let clash = (terms-decide given k.one k.other).1 (λ v i w j. k.clash v w i j) in
    let some = onward-whole given conflict k.one k.other k.there k.there_too clash in
    absurd cc

pub onward-past : (given : ProblemParts) (conflict : List TermParts) (k : ℕ) (one : TermParts) → k < length conflict → one ≡ get_or conflict k one → list_any (terms_clash given one) (drop k conflict) ≡ false
    → clash_onward given conflict ≡ clash_onward given (drop k conflict) → clash_onward given conflict ≡ clash_onward given (drop (k + 1) conflict)
onward-past given conflict k one within is fails so_far =
    let item : TermParts = get_or conflict k one in
    let rest : List TermParts = drop (k + 1) conflict in
    let off : list_any (terms_clash given one) (item ∷ rest) ≡ false = sym (at_drop_more (list_any (terms_clash given one)) conflict k one within) ∙ fails in
    let none : list_any (terms_clash given item) (item ∷ rest) ≡ false = subst (λ x. list_any (terms_clash given x) (item ∷ rest) ≡ false) is off in
    so_far ∙ at_drop_more (clash_onward given) conflict k one within ∙ ap (λ b. b || clash_onward given rest) none

refuses_all-at : (given : ProblemParts) (one other : TermParts) → each_refuses_all given one other ≡ true → (v : VersionParts) → Contains one.versions v → (w : VersionParts) → Contains other.versions w → Refuses (rules_of given) one.node v other.node w
refuses_all-at given one other h v i w j =
    let each = (decides-all (λ x. list_any (λ wanted. refuses_all given wanted other) (wants given one.node x)) (λ x. IsThere (λ wanted. RefusesAll given wanted other) (wants given one.node x)) one.versions
    (λ x. decides-any (λ wanted. refuses_all given wanted other) (λ wanted. RefusesAll given wanted other) (wants given one.node x) (λ wanted. refuses_all-decides given wanted other))).0 h v i in
    (each.item, each.there, each.is.0, each.is.1 w j)

-- where each version of one refuses all of the other, they clash, whichever is named first
pub refused-clash : (given : ProblemParts) (one other : TermParts) → each_refuses_all given one other ≡ true → terms_clash given one other ≡ true
refused-clash given one other h = (terms-decide given one other).1 (λ v i w j. inl (refuses_all-at given one other h v i w j))

pub refusing-clash : (given : ProblemParts) (one other : TermParts) → each_refuses_all given other one ≡ true → terms_clash given one other ≡ true
refusing-clash given one other h = (terms-decide given one other).1 (λ v i w j. inr (inl (refuses_all-at given other one h w j v i)))

-- ---- no candidate left

abbrev IsExhausted : ProblemParts → List (List TermParts) → List TermParts → Node → Type 0
IsExhausted given earlier conflict node = (v : VersionParts) → Contains (candidates given node.name) v → CompletesSet same_version earlier conflict node v

exhausted-decides : (given : ProblemParts) (earlier : List (List TermParts)) (conflict : List TermParts) (node : Node) → Decides (none_left given earlier conflict node) (IsExhausted given earlier conflict node)
exhausted-decides given earlier conflict node =
    let releases : List Release = eligible given node.name in
    decides-onto (none_left given earlier conflict node)
    (decides-all (λ release. completes earlier conflict node release.version) (λ release. CompletesSet same_version earlier conflict node release.version) releases (λ release. completes-decides earlier conflict node release.version))
    (λ each v there.
    let k : IsReleased releases v = candidate-eligible given node.name v there in
    subst (λ w. CompletesSet same_version earlier conflict node w) k.is (each k.item k.there))
    (eligible-all given node.name (λ v. CompletesSet same_version earlier conflict node v) (completes-alike earlier conflict node))

needs-decides : (wanted : RequirementParts) (node : Node) → Decides (needs wanted node) (Contains (nodes_of wanted) node)
needs-decides wanted node = decides-onto (needs wanted node)
    (decides-any (λ n. is_node n node.name node.extra) (λ n. n ≡ node) (nodes_of wanted) (λ n. node-decides n node))
    (λ k. subst (λ n. Contains (nodes_of wanted) n) k.is k.there)
    (λ k. record { item = node; there = k; is = refl })

abbrev EachNeeds : ProblemParts → TermParts → Node → Type 0
EachNeeds given t node = (v : VersionParts) → Contains t.versions v → (wanted : RequirementParts) × Contains (wants given t.node v) wanted × Contains (nodes_of wanted) node

each_needs-decides : (given : ProblemParts) (t : TermParts) (node : Node) → Decides (each_needs given t node) (EachNeeds given t node)
each_needs-decides given t node = decides-all (λ v. list_any (λ wanted. needs wanted node) (wants given t.node v))
    (λ v. (wanted : RequirementParts) × Contains (wants given t.node v) wanted × Contains (nodes_of wanted) node) t.versions
    (λ v. decides-onto (list_any (λ wanted. needs wanted node) (wants given t.node v))
    (decides-any (λ wanted. needs wanted node) (λ wanted. Contains (nodes_of wanted) node) (wants given t.node v) (λ wanted. needs-decides wanted node))
    (λ k. (k.item, k.there, k.is))
    (λ k. record { item = k.0; there = k.1; is = k.2 }))

-- each version of the term needs the node, and no candidate is left for it
abbrev IsLeftBehind : ProblemParts → List (List TermParts) → List TermParts → TermParts → Node → Type 0
IsLeftBehind given earlier conflict t node = IsExhausted given earlier conflict node × EachNeeds given t node

pub behind-decides : (given : ProblemParts) (earlier : List (List TermParts)) (conflict : List TermParts) (t : TermParts) (node : Node)
    → Decides (is_left_out given earlier conflict (Some t) node) (IsLeftBehind given earlier conflict t node)
behind-decides given earlier conflict t node = decides-both (none_left given earlier conflict node) (each_needs given t node) (exhausted-decides given earlier conflict node) (each_needs-decides given t node)

pub left_out-decides : (given : ProblemParts) (earlier : List (List TermParts)) (conflict : List TermParts) (node : Node)
    → Decides (is_left_out given earlier conflict None node) (IsExhausted given earlier conflict node)
left_out-decides given earlier conflict node = decides-onto (is_left_out given earlier conflict None node)
    (decides-both (none_left given earlier conflict node) true (exhausted-decides given earlier conflict node) (decides-itself true))
    (λ k. k.0)
    (λ e. (e, refl))

first-decides : (given : ProblemParts) (earlier : List (List TermParts)) (conflict : List TermParts) (t : TermParts) (first : VersionParts) (others : List VersionParts)
    → Decides (none_left_behind given earlier conflict t (first ∷ others)) (IsThere (λ wanted. IsThere (IsLeftBehind given earlier conflict t) (nodes_of wanted)) (wants given t.node first))
first-decides given earlier conflict t first others =
    decides-any (λ wanted. list_any (is_left_out given earlier conflict (Some t)) (nodes_of wanted)) (λ wanted. IsThere (IsLeftBehind given earlier conflict t) (nodes_of wanted)) (wants given t.node first)
    (λ wanted. decides-any (is_left_out given earlier conflict (Some t)) (IsLeftBehind given earlier conflict t) (nodes_of wanted) (behind-decides given earlier conflict t))

behind-whole : (given : ProblemParts) (earlier : List (List TermParts)) (conflict : List TermParts) (t : TermParts) (node : Node) → IsLeftBehind given earlier conflict t node → (versions : List VersionParts) → t.versions ≡ versions
    → (versions ≡ []) ⊎ (none_left_behind given earlier conflict t versions ≡ true)
behind-whole given earlier conflict t node left [] e = inl refl
behind-whole given earlier conflict t node left (first ∷ others) e =
    let w = left.1 first (subst (λ vs. Contains vs first) (sym e) (Contains-here first others)) in
    inr ((first-decides given earlier conflict t first others).1 (record { item = w.0; there = w.1; is = record { item = node; there = w.2; is = left } }))

by_line-decides : (given : ProblemParts) (earlier : List (List TermParts)) (conflict : List TermParts)
    → Decides (list_any (λ line. list_any (is_left_out given earlier conflict None) (nodes_of line)) given.active) (IsThere (λ line. IsThere (IsExhausted given earlier conflict) (nodes_of line)) given.active)
by_line-decides given earlier conflict = decides-any (λ line. list_any (is_left_out given earlier conflict None) (nodes_of line)) (λ line. IsThere (IsExhausted given earlier conflict) (nodes_of line)) given.active
    (λ line. decides-any (is_left_out given earlier conflict None) (IsExhausted given earlier conflict) (nodes_of line) (left_out-decides given earlier conflict))

-- a term with no version clashes with itself
empty-clashes : (given : ProblemParts) (conflict : List TermParts) (t : TermParts) → Contains conflict t → t.versions ≡ [] → SetsClash (rules_of given) same_version conflict
empty-clashes given conflict t there e = record {
  one = t;
  other = t;
  there = there;
  there_too = there;
  clash = λ v w i j. absurd (Contains-nil v (subst (λ vs. Contains vs v) e i));
}

pub none-whole : (given : ProblemParts) (earlier : List (List TermParts)) (conflict : List TermParts)
    → list_any (λ line. list_any (is_left_out given earlier conflict None) (nodes_of line)) given.active ≡ false → list_any (λ t. none_left_behind given earlier conflict t t.versions) conflict ≡ false
    → NoCandidateLeft (rules_of given) same_version earlier conflict → SetsClash (rules_of given) same_version conflict
none-whole given earlier conflict by_line by_term f = elim f.needs [
  | inl a ↦ absurd (never _ (by_line-decides given earlier conflict) by_line (record { item = a.0; there = a.1; is = record { item = f.node; there = a.2; is = f.each } }))
  | inr b ↦ elim (behind-whole given earlier conflict b.0 f.node (f.each, b.2) b.0.versions refl) [
    | inl none ↦ empty-clashes given conflict b.0 b.1 none
    | inr left ↦
        let on = any-there (λ t. none_left_behind given earlier conflict t t.versions) conflict b.0 b.1 left in
        absurd cc
  ]
]

-- ---- each follows

pub each-push : (given : ProblemParts) (earlier conflicts : List (List TermParts)) (conflict : List TermParts) → EachSetFollows (rules_of given) same_version earlier conflicts
    → SetFollows (rules_of given) same_version (earlier ++ conflicts) conflict → EachSetFollows (rules_of given) same_version earlier (conflicts ++ conflict ∷ [])
each-push given earlier [] conflict each f = (subst (λ old. SetFollows (rules_of given) same_version old conflict) (append-nil earlier) f, tt)
each-push given earlier (c ∷ cs) conflict each f =
    (each.0, each-push given (earlier ++ c ∷ []) cs conflict each.1 (subst (λ old. SetFollows (rules_of given) same_version old conflict) (sym (append_assoc earlier (c ∷ []) cs)) f))

pub each-at : (given : ProblemParts) (earlier conflicts : List (List TermParts)) (place : ℕ) (d : List TermParts) → place < length conflicts → EachSetFollows (rules_of given) same_version earlier conflicts
    → SetFollows (rules_of given) same_version (earlier ++ take place conflicts) (get_or conflicts place d)
each-at given earlier [] place d within each = absurd (omega arith)
each-at given earlier (c ∷ cs) zero d within each = subst (λ old. SetFollows (rules_of given) same_version old c) (sym (append-nil earlier)) each.0
each-at given earlier (c ∷ cs) (suc place) d within each =
    subst (λ old. SetFollows (rules_of given) same_version old (get_or cs place d)) (append_assoc earlier (c ∷ []) (take place cs)) (each-at given (earlier ++ c ∷ []) cs place d (omega arith) each.1)
