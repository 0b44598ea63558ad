-- The first walk of a problem, over the entries of maps.
use Rattle.std.proofs.Common.{◌≡◌, ◌≢◌, ◌⊎◌, inl, inr, ◌∙◌, ℕ, suc, ◌+◌, ◌-◌, ◌*◌, ◌<◌, ◌≤◌, Bool, true, false, cond, List, [], ◌∷◌, ◌++◌, Option, Some, None, Result, Ok, Err, IfOk, is_some, Contains, Ordering, drop, get_or, length, length-append, map, mul-le-mul_right, take, arith, refl, sym, ap, subst, append_assoc, append-nil}
use Rattle.std.specs.BTreeMap.{BTreeMap, IsLowerBound, IsOrdered, Updates, is_at, keys}
use Rattle.std.specs.Cmp.{IsEquivalence, eq_by_cmp_equiv}
use Rattle.std.specs.Cmp.Lexicographic.{nat_list_cmp_total, slice_cmp}
use Rattle.std.specs.Ordering.{eq_by_cmp, is_gt, nat_cmp}
use Rattle.std.specs.declared.cmp.Ordering.TheVariants.{Greater}
use Rattle.std.proofs.lemmas.Bool.{cases_Bool}
use Rattle.std.proofs.lemmas.List.{drop-append-le, drop_all}
use Rattle.std.proofs.lemmas.List.{length-map}
use Rattle.std.proofs.lemmas.Map.Keys.{IsDistinct-from_sorted}
use Rattle.std.proofs.lemmas.Map.Lookups.{exact_bytes}
use Rattle.std.proofs.lemmas.Map.Made.{length-le_from_is_member}
use Rattle.std.proofs.lemmas.Map.Views.{Contains-from_any, IsSome-lookup_from_Contains, list_any-from_Contains, tells_apart}
use Rattle.pep440.specs.Version.{VersionParts}
use Rattle.pep508.specs.Requirement.{RequirementParts}
use Rattle.search.specs.FirstWalk.{IsFirst, IsFirstWalk, IsComplete}
use Rattle.search.specs.Rules.{IsLawful}
use Rattle.search.specs.Solutions.{IsBest, Needed, Pin, version_pinned}
use Rattle.lists.proofs.Members.{Contains-map_of}
use Rattle.problems.specs.Admission.{admits}
use Rattle.problems.specs.Tied.Growing.{nodes_met, requirements_met}
use Rattle.problems.specs.Problem.{ProblemParts}
use Rattle.problems.specs.Rules.{nodes_of, rules_of}
use Rattle.problems.specs.Tied.OwnNeeds.{own_rules, own_wants}
use Rattle.problems.specs.Solutions.{version_for}
use Rattle.problems.specs.Tied.Standing.{IsOnce, IsWith}
use Rattle.problems.specs.declared.node.Node.{Node}
use Rattle.problems.proofs.OwnNeeds.{first-own}
use Rattle.resolve.specs.Tied.Choosing.{IsRefusedBy}
use Rattle.resolve.specs.Tied.Walking.{Follow, IsOnWay, IsPlaced, IsTurn, IsWaiting, value_at}
use Rattle.resolve.proofs.Asking.{map-more}
use Rattle.resolve.proofs.Preferring.{lookup-get}
use Rattle.resolve.proofs.Solving.{drop-at}
use Rattle.resolve.proofs.Walked.{followed-few, followed-none, followed-then, followed-known, followed-new, walked-complete, walked-meet, walked-start, walked-take, walked-wait}

-- ---- nodes that are followed

pub follow-none : (given : ProblemParts) (version : VersionParts) (followed : List Node) (asks : List RequirementParts) → Follow given version [] followed followed asks asks
follow-none given version followed asks = ([], sym (append-nil asks), followed-none (λ node. own_wants given node version) followed)

pub follow-then : (given : ProblemParts) (version : VersionParts) (first second old mid new : List Node) (asks asks_mid asks_new : List RequirementParts) → Follow given version first old mid asks asks_mid → Follow given version second mid new asks_mid asks_new
    → Follow given version (first ++ second) old new asks asks_new
follow-then given version first second old mid new asks asks_mid asks_new f g = (
  f.0 ++ g.0,
  g.1 ∙ ap (λ xs. xs ++ g.0) f.1 ∙ append_assoc asks f.0 g.0,
  followed-then (λ node. own_wants given node version) first second old mid new f.0 g.0 f.2 g.2,
)

pub follow-known : (given : ProblemParts) (version : VersionParts) (node : Node) (followed : List Node) (asks : List RequirementParts) → Contains followed node → Follow given version (node ∷ []) followed followed asks asks
follow-known given version node followed asks known = ([], sym (append-nil asks), followed-known (λ n. own_wants given n version) node followed known)

pub follow-new : (given : ProblemParts) (version : VersionParts) (node : Node) (followed : List Node) (asks asks_new : List RequirementParts) → (Contains followed node → ⊥) → asks_new ≡ asks ++ own_wants given node version
    → Follow given version (node ∷ []) followed (followed ++ node ∷ []) asks asks_new
follow-new given version node followed asks asks_new apart e = (own_wants given node version, e, followed-new (λ n. own_wants given n version) node followed apart)

-- the node was put behind the others
pub follow-grown : (given : ProblemParts) (version : VersionParts) (node : Node) (old new : List Node) (asks asks_new : List RequirementParts) → IsWith node old new → length old < length new
    → asks_new ≡ asks ++ own_wants given node version → Follow given version (node ∷ []) old new asks asks_new
follow-grown given version node old new asks asks_new (inl there) longer e = absurd (let k : length new ≡ length old = ap length there.1 in omega arith)
follow-grown given version node old new asks asks_new (inr apart) longer e = subst (λ nodes. Follow given version (node ∷ []) old nodes asks asks_new) (sym apart.1) (follow-new given version node old asks asks_new apart.0 e)

-- the node was there
pub follow-stayed : (given : ProblemParts) (version : VersionParts) (node : Node) (old new : List Node) (asks : List RequirementParts) → IsWith node old new → length new ≤ length old → Follow given version (node ∷ []) old new asks asks
follow-stayed given version node old new asks (inl there) short = subst (λ nodes. Follow given version (node ∷ []) old nodes asks asks) (sym there.1) (follow-known given version node old asks there.0)
follow-stayed given version node old new asks (inr apart) short = absurd (let k : length new ≡ length old + 1 = ap length apart.1 ∙ length-append old (node ∷ []) in omega arith)

-- one more of the nodes is followed
pub follow-more : {A : Type 0} (given : ProblemParts) (version : VersionParts) (f : A → Node) (old mid new : List Node) (asks asks_mid asks_new : List RequirementParts) (xs : List A) (place : ℕ) (x : A) → place < length xs → x ≡ get_or xs place x
    → Follow given version (map f (take place xs)) old mid asks asks_mid → Follow given version (f x ∷ []) mid new asks_mid asks_new → Follow given version (map f (take (place + 1) xs)) old new asks asks_new
follow-more given version f old mid new asks asks_mid asks_new xs place x within is g h =
    subst (λ nodes. Follow given version nodes old new asks asks_new) (sym (map-more f xs place x within is)) (follow-then given version (map f (take place xs)) (f x ∷ []) old mid new asks asks_mid asks_new g h)

-- ---- what waits

-- a row that is taken out, put behind by one, and put back
pub waiting-put : (old mid new : BTreeMap (List ℕ) (List RequirementParts)) (wanted : RequirementParts) (before : List RequirementParts) → (value_at old.entries wanted.name ≡ Some before) ⊎ ((value_at old.entries wanted.name ≡ None) × (before ≡ []))
    → Updates (slice_cmp nat_cmp) old mid wanted.name None → Updates (slice_cmp nat_cmp) mid new wanted.name (Some (before ++ wanted ∷ [])) → IsWaiting old.entries new.entries wanted
waiting-put old mid new wanted before row out back = record {
  before = before;
  row = row;
  updates = λ name. back.0 name ∙ elim (cases_Bool (is_at (slice_cmp nat_cmp wanted.name) name)) [
    | inl one ↦ rw one refl
    | inr other ↦ rw other (out.0 name ∙ rw other refl)
  ];
}

row-known : (old : Option (List RequirementParts)) (before : List RequirementParts) → (old ≡ Some before) ⊎ ((old ≡ None) × (before ≡ [])) → (old ≡ Some before) ⊎ (before ≡ [])
row-known old before (inl some) = inl some
row-known old before (inr none) = inr none.1

row-same : (old : Option (List RequirementParts)) (before rs : List RequirementParts) → (old ≡ Some before) ⊎ ((old ≡ None) × (before ≡ [])) → old ≡ Some rs → rs ≡ before
row-same old before rs (inl some) e = let k : Some rs ≡ Some before = sym e ∙ some in cc
row-same old before rs (inr none) e = absurd (let k : Some rs ≡ None = sym e ∙ none.0 in cc)

-- ---- requirements that are placed

pub placed-waiting : (given : ProblemParts) → IsLawful (own_rules given) → (taken : List (List ℕ × VersionParts)) (waiting waiting_new : List (List ℕ × List RequirementParts)) (followed : List Node) (wanted : RequirementParts) (asks : List RequirementParts) → value_at taken wanted.name ≡ None
    → IsWaiting waiting waiting_new wanted → IsPlaced given taken waiting waiting_new followed followed wanted asks asks
placed-waiting given lawful taken waiting waiting_new followed wanted asks none w = (
  [],
  sym (append-nil asks),
  omega arith,
  λ left way. subst (IsOnWay given taken waiting_new followed) (sym (append-nil left))
      (walked-wait (own_rules given) lawful (value_at taken) (value_at waiting) (value_at waiting_new) followed wanted left w.before way none (row-known (value_at waiting wanted.name) w.before w.row) w.updates
      (λ rs e. row-same (value_at waiting wanted.name) w.before rs w.row e)),
)

pub placed-followed : (given : ProblemParts) → IsLawful (own_rules given) → ((node : Node) (v : VersionParts) → length (own_wants given node v) ≤ length (requirements_met given)) → (taken : List (List ℕ × VersionParts)) (waiting : List (List ℕ × List RequirementParts)) (followed followed_new : List Node) (wanted : RequirementParts) (version : VersionParts) (asks asks_new : List RequirementParts)
    → value_at taken wanted.name ≡ Some version → admits given wanted version ≡ true → Follow given version (nodes_of wanted) followed followed_new asks asks_new → IsPlaced given taken waiting waiting followed followed_new wanted asks asks_new
placed-followed given lawful few taken waiting followed followed_new wanted version asks asks_new some admitted f = (
  f.0,
  f.1,
  followed-few (λ node. own_wants given node version) (nodes_of wanted) followed followed_new f.0 (length (requirements_met given)) (λ node. few node version) f.2,
  λ left way. walked-meet (own_rules given) lawful (value_at taken) (value_at waiting) followed followed_new wanted version left f.0 way some admitted f.2,
)

-- one of those that are left is placed
pub settle-more : (given : ProblemParts) (taken : List (List ℕ × VersionParts)) (waiting waiting_new : List (List ℕ × List RequirementParts)) (followed followed_new : List Node) (wanted : RequirementParts) (asks asks_new : List RequirementParts) (at : ℕ) → at < length asks
    → wanted ≡ get_or asks at wanted → IsOnWay given taken waiting followed (drop at asks) → IsPlaced given taken waiting waiting_new followed followed_new wanted asks asks_new → IsOnWay given taken waiting_new followed_new (drop (at + 1) asks_new)
settle-more given taken waiting waiting_new followed followed_new wanted asks asks_new at within is way placed =
    let after : at + 1 ≡ suc at = omega arith in
    let front : drop at asks ≡ wanted ∷ drop (at + 1) asks = drop-at asks at wanted within is ∙ ap (λ n. wanted ∷ drop n asks) (sym after) in
    let next : drop (at + 1) asks_new ≡ drop (at + 1) asks ++ placed.0 = ap (drop (at + 1)) placed.1 ∙ drop-append-le (at + 1) asks placed.0 (omega arith) in
    subst (IsOnWay given taken waiting_new followed_new) (sym next) (placed.3 (drop (at + 1) asks) (subst (IsOnWay given taken waiting followed) front way))

-- then less is left: nodes that may be followed, each with as much as a node can want, and what is there to be placed
less-left : (all before after old new more at : ℕ) → at < old → new ≡ old + more → more + before ≤ after → after ≤ all → all - after + (new - (at + 1)) < all - before + (old - at)
less-left all before after old new more at within longer few below = omega arith

pub settle-smaller : (given : ProblemParts) (taken : List (List ℕ × VersionParts)) (waiting waiting_new left : List (List ℕ × List RequirementParts)) (followed followed_new : List Node) (wanted : RequirementParts) (asks asks_new rest : List RequirementParts) (at : ℕ) → at < length asks
    → IsPlaced given taken waiting waiting_new followed followed_new wanted asks asks_new → IsOnWay given taken left followed_new rest → IsOnce followed_new
    → ((chosen : List ℕ → Option VersionParts) (node : Node) → Needed (own_rules given) chosen node → Contains (nodes_met given) node)
    → length (nodes_met given) * length (requirements_met given) - length followed_new * length (requirements_met given) + (length asks_new - (at + 1)) < length (nodes_met given) * length (requirements_met given) - length followed * length (requirements_met given) + (length asks - at)
settle-smaller given taken waiting waiting_new left followed followed_new wanted asks asks_new rest at within placed way once met =
    let most : ℕ = length (requirements_met given) in
    less-left (length (nodes_met given) * most) (length followed * most) (length followed_new * most) (length asks) (length asks_new) (length placed.0) at within
    (ap length placed.1 ∙ length-append asks placed.0) placed.2
    (mul-le-mul_right most (once (nodes_met given) (λ node there. met (value_at taken) node (way.needed node there))))

-- all have been placed
pub settle-end : (given : ProblemParts) (taken : List (List ℕ × VersionParts)) (waiting : List (List ℕ × List RequirementParts)) (followed : List Node) (asks : List RequirementParts) (at : ℕ) → length asks ≤ at → IsOnWay given taken waiting followed (drop at asks)
    → IsOnWay given taken waiting followed []
settle-end given taken waiting followed asks at past way = subst (IsOnWay given taken waiting followed) (drop_all at asks past) way

-- ---- the turns

not-greater : (o : Ordering) → is_gt o ≡ false → o ≢ Greater
not-greater o h e = absurd (let k : is_gt o ≡ true = rw e refl in cc)

-- the first entry goes out of those that wait
pub turn-of : (given : ProblemParts) (taken : List (List ℕ × VersionParts)) (old new : BTreeMap (List ℕ) (List RequirementParts)) (followed : List Node) (name : List ℕ) (asks : List RequirementParts) → IsOnWay given taken old.entries followed []
    → value_at old.entries name ≡ Some asks → IsLowerBound (slice_cmp nat_cmp) old name → Updates (slice_cmp nat_cmp) old new name None → IsTurn given taken new.entries followed name asks
turn-of given taken old new followed name asks way row least out = record {
  before = old.entries;
  way = way;
  row = row;
  least = λ other others e. not-greater (slice_cmp nat_cmp name other) (least other (rw e refl));
  leaves = out.0;
}

pub turn-taken : (given : ProblemParts) → IsLawful (own_rules given) → (old new : BTreeMap (List ℕ) VersionParts) (waiting : List (List ℕ × List RequirementParts)) (followed : List Node) (name : List ℕ) (asks : List RequirementParts) (version : VersionParts) → IsTurn given old.entries waiting followed name asks
    → IsFirst (rules_of given) (IsRefusedBy given asks) name version → Updates (slice_cmp nat_cmp) old new name (Some version) → IsOnWay given new.entries waiting followed asks
turn-taken given lawful old new waiting followed name asks version t first updates =
    walked-take (own_rules given) lawful (value_at old.entries) (value_at new.entries) (value_at t.before) (value_at waiting) followed name version asks t.way t.row t.least (first-own given (IsRefusedBy given asks) name version first) updates.0 t.leaves

-- its name had no version
pub turn-free : (given : ProblemParts) (taken : List (List ℕ × VersionParts)) (waiting : List (List ℕ × List RequirementParts)) (followed : List Node) (name : List ℕ) (asks : List RequirementParts) → IsTurn given taken waiting followed name asks → value_at taken name ≡ None
turn-free given taken waiting followed name asks t = t.way.free name asks t.row

-- so there is one more
pub longer-by_one : {V : Type 0} (o : Option V) (old new : ℕ) → new ≡ old + cond (is_some o) 0 1 → o ≡ None → new ≡ old + 1
longer-by_one None old new e none = e
longer-by_one (Some v) old new e none = absurd cc

pub ok-settled : {E : Type 0} (P : Type 0) (r : Result Bool E) → P → IfOk r (λ settled. settled ≡ true → P)
ok-settled P (Ok settled) p = λ e. p
ok-settled P (Err e) p = tt

-- no more names are taken than there are nodes that can be met
name-met : (given : ProblemParts) (taken : List (List ℕ × VersionParts)) (waiting : List (List ℕ × List RequirementParts)) (followed : List Node) (left : List RequirementParts) → IsOnWay given taken waiting followed left
    → ((chosen : List ℕ → Option VersionParts) (node : Node) → Needed (own_rules given) chosen node → Contains (nodes_met given) node)
    → (name : List ℕ) (o : Option VersionParts) → value_at taken name ≡ o → is_some o ≡ true → Contains (map (λ (node : Node). node.name) (nodes_met given)) name
name-met given taken waiting followed left way met name None e some = absurd cc
name-met given taken waiting followed left way met name (Some version) e some =
    let k = way.named name version e in
    subst (λ (n : List ℕ). Contains (map (λ (node : Node). node.name) (nodes_met given)) n) k.2 (Contains-map_of (λ (node : Node). node.name) (nodes_met given) k.0 (met (value_at taken) k.0 k.1))

pub taken-few : (given : ProblemParts) (taken : BTreeMap (List ℕ) VersionParts) (waiting : List (List ℕ × List RequirementParts)) (followed : List Node) (left : List RequirementParts) → IsOrdered (slice_cmp nat_cmp) taken → IsOnWay given taken.entries waiting followed left
    → ((chosen : List ℕ → Option VersionParts) (node : Node) → Needed (own_rules given) chosen node → Contains (nodes_met given) node) → length taken.entries ≤ length (nodes_met given)
taken-few given taken waiting followed left ordered way met =
    let laws : IsEquivalence (eq_by_cmp (slice_cmp nat_cmp)) = eq_by_cmp_equiv nat_list_cmp_total in
    let names : List (List ℕ) = map (λ (node : Node). node.name) (nodes_met given) in
    let few : length (keys taken) ≤ length names = length-le_from_is_member laws (keys taken) names (IsDistinct-from_sorted (slice_cmp nat_cmp) (keys taken) ordered)
    (λ name there. list_any-from_Contains laws name names (name-met given taken.entries waiting followed left way met name (value_at taken.entries name) refl
    (IsSome-lookup_from_Contains laws name taken.entries (Contains-from_any (tells_apart exact_bytes) name (keys taken) there)))) in
    let a : length (keys taken) ≡ length taken.entries = length-map taken.entries (λ e. e.0) in
    let b : length names ≡ length (nodes_met given) = length-map (nodes_met given) (λ (node : Node). node.name) in
    omega arith

-- ---- the beginning and the end

pub empty-list : {A : Type 0} (xs : List A) → (0 < length xs → false ≡ true) → xs ≡ []
empty-list [] h = refl
empty-list (x ∷ xs) h = absurd (let k : false ≡ true = h (omega arith) in cc)

pub way-start : (given : ProblemParts) (taken : List (List ℕ × VersionParts)) (waiting : List (List ℕ × List RequirementParts)) (followed : List Node) (lines : List RequirementParts) → taken ≡ [] → waiting ≡ [] → followed ≡ [] → lines ≡ given.active
    → IsOnWay given taken waiting followed lines
way-start given taken waiting followed lines no_versions none nowhere is =
    subst (λ left. IsOnWay given taken waiting followed left) (sym is) (subst (λ nodes. IsOnWay given taken waiting nodes given.active) (sym nowhere)
    (walked-start (own_rules given) (value_at taken) (value_at waiting) (λ name. ap (λ (entries : List (List ℕ × VersionParts)). value_at entries name) no_versions)
    (λ name. ap (λ (entries : List (List ℕ × List RequirementParts)). value_at entries name) none)))

-- the law of a first walk, over the rules of a problem
abbrev pub WalkLaw : ProblemParts → Type 0
WalkLaw given = (pins : List (Pin (List ℕ) VersionParts)) → IsFirstWalk (rules_of given) [] pins → IsComplete (rules_of given) (version_pinned (slice_cmp nat_cmp) pins) → IsBest (rules_of given) (version_pinned (slice_cmp nat_cmp) pins)

-- a first walk by what nodes want of their own is one, and so is what it meets in the end
pub record IsEnough (given : ProblemParts) : Type 0 where
  pub walk : (pins : List (Pin (List ℕ) VersionParts)) → IsFirstWalk (own_rules given) [] pins → IsFirstWalk (rules_of given) [] pins
  pub complete : (chosen : List ℕ → Option VersionParts) → IsComplete (own_rules given) chosen → IsComplete (rules_of given) chosen

pub way-end : (given : ProblemParts) → IsLawful (own_rules given) → IsEnough given → (taken : List (List ℕ × VersionParts)) (waiting : List (List ℕ × List RequirementParts)) (followed : List Node) → WalkLaw given → IsOnWay given taken waiting followed [] → waiting ≡ []
    → IsBest (rules_of given) (version_for taken)
way-end given lawful enough taken waiting followed law way none =
    let nothing : (name : List ℕ) → value_at waiting name ≡ None = λ name. ap (λ (entries : List (List ℕ × List RequirementParts)). value_at entries name) none in
    let own : IsComplete (own_rules given) (value_at taken) = walked-complete (own_rules given) lawful (value_at taken) (value_at waiting) followed way nothing in
    let complete : IsComplete (rules_of given) (value_at taken) = enough.complete (value_at taken) own in
    let along : value_at taken ≡ version_pinned (slice_cmp nat_cmp) way.pins = λ i name. way.same name i in
    let found : version_pinned (slice_cmp nat_cmp) way.pins ≡ version_for taken = λ i name. (sym (way.same name) ∙ sym (lookup-get name taken)) i in
    subst (λ s. IsBest (rules_of given) s) found (law way.pins (enough.walk way.pins way.walk) (subst (λ s. IsComplete (rules_of given) s) along complete))
