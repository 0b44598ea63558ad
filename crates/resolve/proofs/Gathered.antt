-- Requirements that are put behind those that were gathered.
use Rattle.std.proofs.Common.{◌≡◌, ◌<◌, ◌≤◌, ◌+◌, ◌⊎◌, inl, inr, ℕ, List, [], ◌∷◌, ◌++◌, Contains, get_or, length, map, take, sym, subst, arith}
use Rattle.std.specs.List.{AllZip, flat_map}
use Rattle.std.proofs.lemmas.List.Elements.{Contains-append_left, Contains-append_right, Contains-push_cases}
use Rattle.std.proofs.lemmas.List.{take_all}
use Rattle.std.proofs.lemmas.Option.{get_or_from_slice_get, slice_get-get_or}
use Rattle.std.proofs.lemmas.Slice.Zip.{all_zipped_more}
use Rattle.pep508.specs.Requirement.{RequirementParts}
use Rattle.search.specs.Table.{required_nodes}
use Rattle.search.specs.declared.parts.TableRequirement.{TableRequirement as Entry}
use Rattle.problems.specs.Admission.{admits_release}
use Rattle.problems.specs.Tied.Growing.{requirements_met}
use Rattle.problems.specs.Problem.{ProblemParts, releases_on}
use Rattle.problems.specs.Rules.{bare, nodes_of, wants_of, with_extra}
use Rattle.problems.specs.Tied.Standing.{AllStand, IsLonger, IsWith, Stands}
use Rattle.problems.specs.declared.node.Node.{Node}
use Rattle.resolve.specs.Tied.Building.{AreEntries, AreWants, Gathered, IsEntry, IsGrown, IsWanted}
use Rattle.lists.proofs.Members.{Contains-flat_map_of, Contains-here, Contains-there}
use Rattle.resolve.proofs.Asking.{map-more}
use Rattle.resolve.proofs.Standing.{AllStand-longer, AllZip-more_same, AllZip-weaker, Stands-longer, length-longer, longer-same, longer-then, take-longer}

IsEntry-longer : (given : ProblemParts) (old new : List Node) → IsLonger old new → (entry : Entry) (wanted : RequirementParts) → IsEntry given old entry wanted → IsEntry given new entry wanted
IsEntry-longer given old new longer entry wanted is = record { numbers = AllStand-longer old new (required_nodes entry) (nodes_of wanted) longer is.numbers; admitted = is.admitted }

pub entries-more : (given : ProblemParts) (old new : Gathered) (entry : Entry) (wanted : RequirementParts) → AreEntries given old → IsLonger old.nodes new.nodes → IsEntry given new.nodes entry wanted
    → new.asked ≡ old.asked ++ wanted ∷ [] → new.entries ≡ old.entries ++ entry ∷ [] → Contains (requirements_met given) wanted → ((node : Node) → Contains new.nodes node → Contains old.nodes node ⊎ Contains (nodes_of wanted) node) → AreEntries given new
entries-more given old new entry wanted are longer is asked entries known only = record {
  each = subst (λ ws. AllZip (IsEntry given new.nodes) new.entries ws) (sym asked) (subst (λ es. AllZip (IsEntry given new.nodes) es (old.asked ++ wanted ∷ [])) (sym entries)
      (all_zipped_more (IsEntry given new.nodes) old.entries old.asked entry wanted (AllZip-weaker (IsEntry given old.nodes) (IsEntry given new.nodes) old.entries old.asked (IsEntry-longer given old.nodes new.nodes longer) are.each) is));
  met = λ node there. elim (only node there) [
    | inl before ↦ are.met node before
    | inr now ↦ Contains-flat_map_of nodes_of (requirements_met given) wanted node known now
  ];
}

-- what a line asks for can be met
pub line-met : (given : ProblemParts) (wanted : RequirementParts) → Contains given.active wanted → Contains (requirements_met given) wanted
line-met given wanted there = Contains-append_left given.active (flat_map (λ p. flat_map (λ release. release.dependencies) p.releases) given.index.packages) wanted there

one-with : (node : Node) (old new : List Node) → IsWith node old new → (other : Node) → Contains new other → Contains old other ⊎ (node ≡ other)
one-with node old new (inl there) other h = inl (subst (λ nodes. Contains nodes other) there.1 h)
one-with node old new (inr apart) other h = Contains-push_cases old node other (subst (λ nodes. Contains nodes other) apart.1 h)

-- the nodes of one extra more
pub only-more : {A : Type 0} (f : A → Node) (old mid new : List Node) (xs : List A) (place : ℕ) (x : A) → place < length xs → x ≡ get_or xs place x → ((node : Node) → Contains mid node → Contains old node ⊎ Contains (map f (take place xs)) node)
    → IsWith (f x) mid new → (node : Node) → Contains new node → Contains old node ⊎ Contains (map f (take (place + 1) xs)) node
only-more f old mid new xs place x within is before one node there = subst (λ ys. Contains old node ⊎ Contains ys node) (sym (map-more f xs place x within is))
    (elim (one-with (f x) mid new one node there) [
      | inl mine ↦ elim (before node mine) [ inl a ↦ inl a | inr b ↦ inr (Contains-append_left (map f (take place xs)) (f x ∷ []) node b) ]
      | inr same ↦ inr (Contains-append_right (map f (take place xs)) (f x ∷ []) node (subst (λ y. Contains (f x ∷ []) y) same (Contains-here (f x) [])))
    ])

-- the nodes of all extras
pub only-all : {A : Type 0} (f : A → Node) (old new : List Node) (xs : List A) (place : ℕ) → length xs ≤ place → ((node : Node) → Contains new node → Contains old node ⊎ Contains (map f (take place xs)) node) → (node : Node) → Contains new node → Contains old node ⊎ Contains (map f xs) node
only-all f old new xs place past so_far node there = subst (λ ys. Contains old node ⊎ Contains (map f ys) node) (take_all place xs past) (so_far node there)

-- the nodes of a requirement
pub only-asked : (wanted : RequirementParts) (old mid new : List Node) → IsWith (bare wanted.name) old mid → ((node : Node) → Contains new node → Contains mid node ⊎ Contains (map (with_extra wanted.name) wanted.extras) node)
    → (node : Node) → Contains new node → Contains old node ⊎ Contains (nodes_of wanted) node
only-asked wanted old mid new first extras node there = elim (extras node there) [
  | inl mine ↦ elim (one-with (bare wanted.name) old mid first node mine) [
    | inl before ↦ inl before
    | inr same ↦ inr (subst (λ y. Contains (nodes_of wanted) y) same (Contains-here (bare wanted.name) (map (with_extra wanted.name) wanted.extras)))
  ]
  | inr more ↦ inr (Contains-there (bare wanted.name) (map (with_extra wanted.name) wanted.extras) node more)
]

-- an entry of the numbers that its parts gave
pub entry-of : (given : ProblemParts) (middle new : List Node) (entry : Entry) (wanted : RequirementParts) → IsLonger middle new → Stands middle entry.node (bare wanted.name) → AllStand new entry.more (map (with_extra wanted.name) wanted.extras)
    → entry.admits ≡ map (admits_release given wanted) (releases_on given wanted.name) → IsEntry given new entry wanted
entry-of given middle new entry wanted longer first others admitted = record { numbers = (Stands-longer middle new entry.node (bare wanted.name) longer first, others); admitted = admitted }

pub grown-same : (gathered : Gathered) → IsGrown gathered gathered
grown-same gathered = record { nodes_more = longer-same gathered.nodes; asked_more = longer-same gathered.asked }

pub grown-then : (old middle new : Gathered) → IsGrown old middle → IsGrown middle new → IsGrown old new
grown-then old middle new f g = record { nodes_more = longer-then old.nodes middle.nodes new.nodes f.nodes_more g.nodes_more; asked_more = longer-then old.asked middle.asked new.asked f.asked_more g.asked_more }

pub AreWants-longer : (old new : List RequirementParts) → IsLonger old new → (rows : List (List ℕ)) (wants : List (List RequirementParts)) → AreWants old rows wants → AreWants new rows wants
AreWants-longer old new longer rows wants are = AllZip-weaker (AllStand old) (AllStand new) rows wants (λ numbers ws. AllStand-longer old new numbers ws longer) are

pub IsWanted-longer : (given : ProblemParts) (old new : List RequirementParts) → IsLonger old new → (rows : List (List ℕ)) (node : Node) → IsWanted given old rows node → IsWanted given new rows node
IsWanted-longer given old new longer rows node is = AreWants-longer old new longer rows (map (wants_of given.environment node.extra) (releases_on given node.name)) is

pub wants-longer : (given : ProblemParts) (old new : List RequirementParts) → IsLonger old new → (wants : List (List (List ℕ))) (nodes : List Node) → AllZip (IsWanted given old) wants nodes → AllZip (IsWanted given new) wants nodes
wants-longer given old new longer wants nodes all = AllZip-weaker (IsWanted given old) (IsWanted given new) wants nodes (IsWanted-longer given old new longer) all

-- one node more is followed
pub wants-more : (given : ProblemParts) (old new : Gathered) (wants after : List (List (List ℕ))) (rows : List (List ℕ)) (n : ℕ) → n < length old.nodes → IsGrown old new → AllZip (IsWanted given old.asked) wants (take n old.nodes)
    → ((node : Node) → Stands old.nodes n node → IsWanted given new.asked rows node) → after ≡ wants ++ rows ∷ [] → AllZip (IsWanted given new.asked) after (take (n + 1) new.nodes)
wants-more given old new wants after rows n within grown all one pushed =
    let node : Node = get_or old.nodes n (bare []) in
    let there : Stands old.nodes n node = slice_get-get_or old.nodes n (bare []) within in
    let later : Stands new.nodes n node = Stands-longer old.nodes new.nodes n node grown.nodes_more there in
    let long : length old.nodes ≤ length new.nodes = length-longer old.nodes new.nodes grown.nodes_more in
    AllZip-more_same (IsWanted given new.asked) wants after new.nodes n rows node (omega arith) (sym (get_or_from_slice_get new.nodes n node node later)) pushed
    (subst (λ ns. AllZip (IsWanted given new.asked) wants ns) (sym (take-longer old.nodes new.nodes n (omega arith) grown.nodes_more)) (wants-longer given old.asked new.asked grown.asked_more wants (take n old.nodes) all))
    (one node there)
