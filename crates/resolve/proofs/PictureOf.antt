-- The table of what was gathered stands for the problem.
use Rattle.std.proofs.Common.{◌≡◌, ◌<◌, ℕ, zero, suc, List, [], ◌∷◌, ◌∙◌, false, Some, None, Contains, length, get_or, map, find, option_map, refl, sym, ap, subst, arith}
use Rattle.std.proofs.lemmas.Map.Lookups.{exact_bytes}
use Rattle.std.proofs.lemmas.Option.{get_or_from_slice_get, slice_get-get_or, slice_get-map, slice_get_within}
use Rattle.std.specs.Cmp.Lexicographic.{nat_list_cmp_total, slice_cmp}
use Rattle.std.specs.List.{AllZip, slice_get}
use Rattle.std.specs.List.Sorted.{IsStrictlySortedBy}
use Rattle.std.specs.Option.{option_map_or}
use Rattle.std.specs.Ordering.{nat_cmp}
use Rattle.pep508.specs.Requirement.{RequirementParts}
use Rattle.search.specs.Picture.{name_required}
use Rattle.search.specs.Rules.{IsOrder}
use Rattle.search.specs.Table.{TableParts, candidates_of, name_of, required_nodes, requirement_at}
use Rattle.snapshot.specs.Release.{Release}
use Rattle.snapshot.specs.Releases.{newer_cmp}
use Rattle.problems.specs.Admission.{admits, admits_release, has_version}
use Rattle.problems.specs.Problem.{ProblemParts, releases_on}
use Rattle.problems.specs.Rules.{bare, nodes_of, wants, wants_of}
use Rattle.problems.specs.Tied.Standing.{AllStand, Stands}
use Rattle.problems.specs.declared.node.Node.{Node}
use Rattle.resolve.specs.Tied.Building.{Gathered, IsEntry, IsWanted}
use Rattle.resolve.specs.Tied.Pictured.{AreListed, IsListed, IsPictured, name_at}
use Rattle.resolve.specs.Tied.Places.{version_at}
use Rattle.resolve.proofs.Falling.{release_at-place, same-itself, version_at-apart, version_at-get, version_at-one}
use Rattle.resolve.proofs.Standing.{length-map}
use Rattle.resolve.proofs.Picturing.{AllStand-map, AllZip-at, AllZip-length, Rising, order-places}

-- what the code knows of the parts of a table
pub record IsGathered (given : ProblemParts) (g : Gathered) (names : List (List ℕ)) (t : TableParts) : Type 0 where
  pub entries : AllZip (IsEntry given g.nodes) t.requirements g.asked
  pub lines : AllStand g.asked t.lines given.active
  pub wanted : AllZip (IsWanted given g.asked) t.wants g.nodes
  pub rising : Rising names
  pub numbers : AllStand names t.nodes (map (λ (node : Node). node.name) g.nodes)
  pub listed : AreListed given t.candidates names

pub bytes-order : IsOrder (slice_cmp nat_cmp)
bytes-order = record { total = nat_list_cmp_total; exact = λ a b e. exact_bytes a b e }

abbrev falls : List Release → Type 0
falls releases = IsStrictlySortedBy newer_cmp releases

at-place : {A : Type 0} (xs : List A) (i : ℕ) → i < length xs → (x : A) × (slice_get xs i ≡ Some x)
at-place [] i within = absurd (omega arith)
at-place (x ∷ xs) zero within = (x, refl)
at-place (x ∷ xs) (suc i) within = at-place xs i (omega arith)

pub within-member : (rows : List (List ℕ)) (n p : ℕ) → Contains (get_or rows n []) p → n < length rows
within-member [] n p h = absurd (omega arith)
within-member (row ∷ rows) zero p h = omega arith
within-member (row ∷ rows) (suc n) p h = let k : n < length rows = within-member rows n p h in omega arith

-- the release at a place is found by its version
found-at : (releases : List Release) (place : ℕ) (release : Release) → falls releases → slice_get releases place ≡ Some release → find (has_version (version_at releases place)) releases ≡ Some release
found-at releases place release fall at = rw (version_at-get releases place release at) (release_at-place releases place release fall at)

mapped-at : {A B : Type 0} (f : A → B) (xs : List A) (i : ℕ) (x : A) (d : B) → slice_get xs i ≡ Some x → get_or (map f xs) i d ≡ f x
mapped-at f xs i x d at = get_or_from_slice_get (map f xs) i (f x) d (slice_get-map f xs i ∙ ap (option_map f) at)

admits-own : (given : ProblemParts) (wanted : RequirementParts) (place : ℕ) → falls (releases_on given wanted.name) → place < length (releases_on given wanted.name)
    → admits given wanted (version_at (releases_on given wanted.name) place) ≡ get_or (map (admits_release given wanted) (releases_on given wanted.name)) place false
admits-own given wanted place fall within =
    let releases = releases_on given wanted.name in
    let at = at-place releases place within in
    ap (λ found. option_map_or (admits_release given wanted) found false) (found-at releases place at.0 fall at.1) ∙ sym (mapped-at (admits_release given wanted) releases place at.0 false at.1)

admits-named : (given : ProblemParts) (wanted : RequirementParts) (name : List ℕ) (place : ℕ) → wanted.name ≡ name → falls (releases_on given name) → place < length (releases_on given name)
    → admits given wanted (version_at (releases_on given name) place) ≡ get_or (map (admits_release given wanted) (releases_on given wanted.name)) place false
admits-named given wanted name place e = subst (λ n. falls (releases_on given n) → place < length (releases_on given n)
    → admits given wanted (version_at (releases_on given n) place) ≡ get_or (map (admits_release given wanted) (releases_on given wanted.name)) place false) e (admits-own given wanted place)

wants-own : (given : ProblemParts) (node : Node) (asked : List RequirementParts) (rows : List (List ℕ)) (place : ℕ) (d : RequirementParts) → IsWanted given asked rows node → falls (releases_on given node.name) → place < length (releases_on given node.name)
    → wants given node (version_at (releases_on given node.name) place) ≡ map (λ r. get_or asked r d) (get_or rows place [])
wants-own given node asked rows place d is fall within =
    let releases = releases_on given node.name in
    let test = wants_of given.environment node.extra in
    let at = at-place releases place within in
    let long : length rows ≡ length (map test releases) = AllZip-length (AllStand asked) rows (map test releases) is in
    let there = slice_get-map test releases place ∙ ap (option_map test) at.1 in
    let more : place < length (map test releases) = slice_get_within (map test releases) place (test at.0) there in
    let inside : place < length rows = subst (λ n. place < n) (sym long) more in
    ap (λ found. option_map_or test found []) (found-at releases place at.0 fall at.1)
    ∙ AllStand-map asked (get_or rows place []) (test at.0) d (AllZip-at (AllStand asked) rows (map test releases) place (get_or rows place []) (test at.0) is (slice_get-get_or rows place [] inside) there)

wants-named : (given : ProblemParts) (node : Node) (asked : List RequirementParts) (rows : List (List ℕ)) (name : List ℕ) (place : ℕ) (d : RequirementParts) → node.name ≡ name → IsWanted given asked rows node → falls (releases_on given name) → place < length (releases_on given name)
    → wants given node (version_at (releases_on given name) place) ≡ map (λ r. get_or asked r d) (get_or rows place [])
wants-named given node asked rows name place d e is = subst (λ n. falls (releases_on given n) → place < length (releases_on given n)
    → wants given node (version_at (releases_on given n) place) ≡ map (λ r. get_or asked r d) (get_or rows place [])) e (wants-own given node asked rows place d is)

module _ (given : ProblemParts) (g : Gathered) (names : List (List ℕ)) (t : TableParts) (is : IsGathered given g names t) where
  abbrev no_wanted : RequirementParts
  no_wanted = record { name = []; extras = []; clauses = []; marker = None }

  pub node-count : length t.nodes ≡ length g.nodes
  node-count = AllZip-length (Stands names) t.nodes (map (λ (node : Node). node.name) g.nodes) is.numbers ∙ length-map (λ (node : Node). node.name) g.nodes

  pub name-count : length t.candidates ≡ length names
  name-count = AllZip-length (IsListed given) t.candidates names is.listed

  node-stands : (k : ℕ) → k < length t.nodes → Stands g.nodes k (get_or g.nodes k (bare []))
  node-stands k within = slice_get-get_or g.nodes k (bare []) (subst (λ n. k < n) node-count within)

  -- the name of a node stands where the table says
  pub node-named : (k : ℕ) (node : Node) → Stands g.nodes k node → Stands names (name_of t k) node.name
  node-named k node at =
      let inside : k < length t.nodes = subst (λ n. k < n) (sym node-count) (slice_get_within g.nodes k node at) in
      AllZip-at (Stands names) t.nodes (map (λ (n : Node). n.name) g.nodes) k (get_or t.nodes k 0) node.name is.numbers (slice_get-get_or t.nodes k 0 inside)
      (slice_get-map (λ (n : Node). n.name) g.nodes k ∙ ap (option_map (λ (n : Node). n.name)) at)

  pub entry-count : length t.requirements ≡ length g.asked
  entry-count = AllZip-length (IsEntry given g.nodes) t.requirements g.asked is.entries

  entry-at : (r : ℕ) → r < length t.requirements → IsEntry given g.nodes (requirement_at t r) (get_or g.asked r no_wanted)
  entry-at r within = AllZip-at (IsEntry given g.nodes) t.requirements g.asked r (requirement_at t r) (get_or g.asked r no_wanted) is.entries
      (slice_get-get_or t.requirements r (record { node = 0; more = []; admits = [] }) within) (slice_get-get_or g.asked r no_wanted (subst (λ n. r < n) entry-count within))

  listed-at : (n : ℕ) → n < length names → IsListed given (candidates_of t n) (name_at names n)
  listed-at n within = AllZip-at (IsListed given) t.candidates names n (candidates_of t n) (name_at names n) is.listed
      (slice_get-get_or t.candidates n [] (subst (λ k. n < k) (sym name-count) within)) (slice_get-get_or names n [] within)

  asked-named : (r : ℕ) → r < length t.requirements → Stands names (name_required t r) (get_or g.asked r no_wanted).name
  asked-named r within = node-named (requirement_at t r).node (bare (get_or g.asked r no_wanted).name) (entry-at r within).numbers.0

  named-as : (n : ℕ) (name : List ℕ) → Stands names n name → name ≡ name_at names n
  named-as n name at = sym (get_or_from_slice_get names n name [] at)

  pub is-pictured : IsPictured given names g.nodes t
  is-pictured = record {
    asked = g.asked;
    pictured = record {
      lines = AllStand-map g.asked t.lines given.active no_wanted is.lines;
      required = λ r within. named-as (name_required t r) (get_or g.asked r no_wanted).name (asked-named r within);
      nodes = λ r within. AllStand-map g.nodes (required_nodes (requirement_at t r)) (nodes_of (get_or g.asked r no_wanted)) (bare []) (entry-at r within).numbers;
      on = λ k within. named-as (name_of t k) (get_or g.nodes k (bare [])).name (node-named k (get_or g.nodes k (bare [])) (node-stands k within));
      admits = λ r place within h.
          let wanted = get_or g.asked r no_wanted in
          let at = asked-named r within in
          let l = listed-at (name_required t r) (slice_get_within names (name_required t r) wanted.name at) in
          admits-named given wanted (name_at names (name_required t r)) place (named-as (name_required t r) wanted.name at) l.fall (l.candidates.within place h)
          ∙ ap (λ bs. get_or bs place false) (sym (entry-at r within).admitted);
      wants = λ k place within h.
          let node = get_or g.nodes k (bare []) in
          let at = node-named k node (node-stands k within) in
          let l = listed-at (name_of t k) (slice_get_within names (name_of t k) node.name at) in
          let rows : length t.wants ≡ length g.nodes = AllZip-length (IsWanted given g.asked) t.wants g.nodes is.wanted in
          let row = AllZip-at (IsWanted given g.asked) t.wants g.nodes k (get_or t.wants k []) node is.wanted (slice_get-get_or t.wants k [] (subst (λ n. k < n) (node-count ∙ sym rows) within)) (node-stands k within) in
          wants-named given node g.asked (get_or t.wants k []) (name_at names (name_of t k)) place no_wanted (named-as (name_of t k) node.name at) row l.fall (l.candidates.within place h);
      candidates = λ n within. sym (listed-at n (subst (λ k. n < k) name-count within)).candidates.versions;
      order = λ n m left right. order-places names n m is.rising (subst (λ k. n < k) name-count left) (subst (λ k. m < k) name-count right);
      apart = λ n p q left right same.
          let l = listed-at n (subst (λ k. n < k) name-count (within-member t.candidates n p left)) in
          version_at-apart (releases_on given (name_at names n)) p q l.fall (l.candidates.within p left) (l.candidates.within q right) same;
    };
    apart = record {
      apart = λ n p q left right same.
          let l = listed-at n (subst (λ k. n < k) name-count (within-member t.candidates n p left)) in
          version_at-one (releases_on given (name_at names n)) p q l.fall (l.candidates.within p left) (l.candidates.within q right) same;
      own = same-itself;
    };
    counted = name-count;
    counted_nodes = node-count;
    within = λ n place h. (listed-at n (subst (λ k. n < k) name-count (within-member t.candidates n place h))).candidates.within place h;
  }
