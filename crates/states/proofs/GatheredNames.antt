-- The names that packages need, node by node and package by package.
use Rattle.std.proofs.Common.{◌≡◌, ◌++◌, ℕ, Bool, true, false, List, [], ◌∷◌, Some, None, Option, Less, map, append_assoc, cond, refl, sym, ap, subst, ◌∙◌, inl, inr}
use Rattle.std.proofs.lemmas.Bool.{cases_Bool}
use Rattle.std.proofs.lemmas.Map.Text.{is_eq-slice_cmp}
use Rattle.std.proofs.lemmas.Slice.Eq.{bytes_eq-Decides}
use Rattle.std.proofs.lemmas.Map.Keys.{IsDistinct-from_sorted, sorted_head}
use Rattle.std.proofs.lemmas.Map.Views.{lookup-from_Contains}
use Rattle.std.specs.BTreeMap.{BTreeMap, Updates, UpdatesBy, get, is_at}
use Rattle.std.specs.BTreeSet.{BTreeSet}
use Rattle.std.specs.Cmp.Lexicographic.{nat_list_eq_equiv, slice_cmp}
use Rattle.std.specs.List.{AllByRecursion, Contains, IsDistinct}
use Rattle.std.specs.List.Sorted.{IsStrictlySortedBy}
use Rattle.std.specs.Map.{keys_of, lookup}
use Rattle.std.specs.Option.{option_map_or}
use Rattle.std.specs.Ordering.{is_eq, nat_cmp}
use Rattle.std.specs.Str.{bytes_eq}
use Rattle.pep440.specs.Version.{VersionParts}
use Rattle.pylock.specs.Packages.{EntryParts}
use Rattle.snapshot.specs.Release.{Release}
use Rattle.problems.specs.Admission.{release_at}
use Rattle.problems.specs.Problem.{ProblemParts}
use Rattle.problems.specs.Tied.OwnNeeds.{own_wants, own_wants_of}
use Rattle.problems.specs.declared.node.Node.{Node}
use Rattle.states.specs.Names.{with_names}
use Rattle.states.specs.Tied.Dependencies.{names_at, names_in, names_needed, names_of, names_wanted, release_chosen}
use Rattle.states.specs.Tied.Entries.{AreNeeds, entry_for}
use Rattle.lists.proofs.Members.{Contains-nil}

-- a look-up by bytes is the look-up of a map
pub lookup-get : {X : Type 0} (name : List ℕ) (entries : List (List ℕ × X)) → lookup (bytes_eq name) entries ≡ lookup (is_at (slice_cmp nat_cmp name)) entries
lookup-get {X} name entries = ap (λ (t : List ℕ → Bool). lookup {X = X} t entries) (λ i x. sym (is_eq-slice_cmp name x) i)

-- a look-up finds each entry of a map
pub lookup-there : {X : Type 0} (name : List ℕ) (value : X) (entries : List (List ℕ × X)) → IsStrictlySortedBy (slice_cmp nat_cmp) (keys_of entries) → Contains entries (name, value)
    → lookup (bytes_eq name) entries ≡ Some value
lookup-there {X} name value entries rising there =
    let distinct = IsDistinct-from_sorted (slice_cmp nat_cmp) (keys_of entries) rising in
    lookup-from_Contains nat_list_eq_equiv name value entries
    (subst (λ (e : List ℕ → List ℕ → Bool). IsDistinct e (keys_of entries)) (λ i x y. is_eq-slice_cmp x y i) distinct) there

-- what a release needs at a node are the names that lead away of what the node wants of its own
pub needed-wanted : (given : ProblemParts) (chosen : List ℕ → Option VersionParts) (node : Node) (version : VersionParts) → chosen node.name ≡ Some version
    → names_wanted given.environment node (own_wants given node version) ≡ names_needed given.environment node (release_chosen given chosen node.name)
needed-wanted given chosen node version picked = rw picked (needed (release_at given node.name version))
  where
    nothing : (extra : Option (List ℕ)) → names_wanted given.environment node (own_wants_of given.environment extra []) ≡ []
    nothing None = refl
    nothing (Some extra) = refl

    needed : (o : Option Release) → names_wanted given.environment node (own_wants_of given.environment node.extra (option_map_or (λ (release : Release). release.dependencies) o [])) ≡ names_needed given.environment node o
    needed None = nothing node.extra
    needed (Some release) = refl

-- where no version is chosen, there are none
pub none-needed : (given : ProblemParts) (chosen : List ℕ → Option VersionParts) (node : Node) (names : List (List ℕ)) → chosen node.name ≡ None → (own : List ℕ) → names ≡ with_names names (names_at given chosen own node)
none-needed given chosen node names none own = elim (cases_Bool (bytes_eq own node.name)) [
  | inl same ↦ rw (same, none) refl
  | inr other ↦ rw other refl
]

-- the names of a node's package are taken out, and put back with those that its release needs there
pub gathered-more : (given : ProblemParts) (chosen : List ℕ → Option VersionParts) (node : Node) (old rest new : BTreeMap (List ℕ) (BTreeSet (List ℕ))) (names more : BTreeSet (List ℕ))
    → names_in old node.name ≡ names.keys → UpdatesBy (slice_cmp nat_cmp) (slice_cmp nat_cmp node.name) old rest None
    → more.keys ≡ with_names names.keys (names_needed given.environment node (release_chosen given chosen node.name)) → Updates (slice_cmp nat_cmp) rest new node.name (Some more)
    → (own : List ℕ) → names_in new own ≡ with_names (names_in old own) (names_at given chosen own node)
gathered-more given chosen node old rest new names more taken out added put own =
    let at : is_at (slice_cmp nat_cmp node.name) own ≡ bytes_eq own node.name = is_eq-slice_cmp node.name own ∙ nat_list_eq_equiv.symm node.name own in
    elim (cases_Bool (bytes_eq own node.name)) [
      | inl same ↦
          let found : get (slice_cmp nat_cmp) new own ≡ Some more = put.0 own ∙ rw (at, same) refl in
          let mine : names_in old own ≡ names.keys = ap (names_in old) ((bytes_eq-Decides own node.name).0 same) ∙ taken in
          rw (found, mine, same) added
      | inr other ↦
          let found : get (slice_cmp nat_cmp) new own ≡ get (slice_cmp nat_cmp) old own =
          put.2 own (at ∙ other) ∙ out.2 own (at ∙ other) in
          rw (found, other) refl
    ]

-- what is locked for names above one stays where the names of that one are taken out
entries-rest : (given : ProblemParts) (name : List ℕ) (old new : BTreeMap (List ℕ) (BTreeSet (List ℕ))) (rest : List (List ℕ × VersionParts))
    → UpdatesBy (slice_cmp nat_cmp) (slice_cmp nat_cmp name) old new None → AllByRecursion (λ y. slice_cmp nat_cmp name y ≡ Less) (keys_of rest)
    → map (entry_for given (names_in new)) rest ≡ map (entry_for given (names_in old)) rest
entries-rest given name old new [] out above = refl
entries-rest given name old new (p ∷ rest) out above =
    let apart : is_at (slice_cmp nat_cmp name) p.0 ≡ false = ap is_eq above.0 in
    let kept : get (slice_cmp nat_cmp) new p.0 ≡ get (slice_cmp nat_cmp) old p.0 = out.2 p.0 apart in
    rw (kept, entries-rest given name old new rest out above.1) refl

-- one more entry is locked
pub entries-more : (given : ProblemParts) (name : List ℕ) (version : VersionParts) (e : EntryParts) (items target : List EntryParts) (rest : List (List ℕ × VersionParts)) (old new : BTreeMap (List ℕ) (BTreeSet (List ℕ)))
    → IsStrictlySortedBy (slice_cmp nat_cmp) (keys_of ((name, version) ∷ rest)) → UpdatesBy (slice_cmp nat_cmp) (slice_cmp nat_cmp name) old new None
    → e ≡ entry_for given (names_in old) (name, version) → items ++ map (entry_for given (names_in old)) ((name, version) ∷ rest) ≡ target
    → (items ++ e ∷ []) ++ map (entry_for given (names_in new)) rest ≡ target
entries-more given name version e items target rest old new rising out is made =
    rw (append_assoc, entries-rest given name old new rest out (sorted_head _ name (keys_of rest) rising), is) made

needs_by : (b : Bool) (own : List ℕ) (names : Option (BTreeSet (List ℕ))) → AreNeeds own (names_of names) → AreNeeds own (names_of (cond b None names))
unfolding IsStrictlySortedBy
needs_by true own names needs = record { rising = tt; others = λ name h. absurd (Contains-nil name h) }
needs_by false own names needs = needs

-- what names need stays so where the names of one are taken out
pub needs-rest : (name : List ℕ) (old new : BTreeMap (List ℕ) (BTreeSet (List ℕ))) → UpdatesBy (slice_cmp nat_cmp) (slice_cmp nat_cmp name) old new None
    → ((own : List ℕ) → AreNeeds own (names_in old own)) → (own : List ℕ) → AreNeeds own (names_in new own)
needs-rest name old new out needs own = rw (out.0 own) (needs_by (is_at (slice_cmp nat_cmp name) own) own (get (slice_cmp nat_cmp) old own) (needs own))
