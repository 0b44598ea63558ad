-- The versions that the choices of a table stand for.
use Rattle.std.proofs.Common.{◌≡◌, ◌<◌, ◌∙◌, ℕ, zero, suc, List, [], ◌∷◌, Option, Some, Contains, cond, drop, length, get_or, refl, sym, ap, subst, arith}
use Rattle.std.proofs.lemmas.Option.{get_or_from_slice_get, slice_get_read}
use Rattle.std.specs.BTreeMap.{BTreeMap, Updates, is_at}
use Rattle.std.specs.Cmp.{nat_cmp_total, tied_itself}
use Rattle.std.specs.Cmp.Lexicographic.{slice_cmp}
use Rattle.std.specs.Ordering.{is_eq, nat_cmp}
use Rattle.pep440.specs.Version.{VersionParts as Version}
use Rattle.pep508.specs.Requirement.{RequirementParts}
use Rattle.search.specs.Known.{IsKnownTerm}
use Rattle.search.specs.Picture.{pictured}
use Rattle.search.specs.Solutions.{IsBest, version_pinned}
use Rattle.search.specs.Table.{IsAscending, TableParts, name_of, place_in, rules_of as rules_of_table}
use Rattle.search.specs.declared.parts.TableChoice.{TableChoice}
use Rattle.search.specs.declared.term.Term.{Term}
use Rattle.snapshot.specs.Release.{Release}
use Rattle.problems.specs.Problem.{ProblemParts, releases_on}
use Rattle.problems.specs.Rules.{rules_of}
use Rattle.problems.specs.Solutions.{HasSolution, version_for}
use Rattle.problems.specs.declared.node.Node.{Node}
use Rattle.resolve.specs.Tied.Pictured.{AreKnown, IsKnown, IsPictured, chosen, name_at, picture_of}
use Rattle.resolve.specs.Tied.Places.{version_at}
use Rattle.resolve.proofs.Falling.{version_at-get}
use Rattle.resolve.proofs.PictureOf.{within-member}
use Rattle.resolve.proofs.Picturing.{nat_cmp-less}
use Rattle.resolve.proofs.Preferring.{lookup-get}

-- a name that was read at its place
pub name-read : (names : List (List ℕ)) (n : ℕ) (name : List ℕ) → n < length names → name ≡ get_or names n name → name_at names n ≡ name
name-read names n name within read = get_or_from_slice_get names n name [] (slice_get_read names (length names) n name refl within read)

-- the name of a node of the table that was read at its place
pub name-on : (given : ProblemParts) (names listed : List (List ℕ)) (nodes : List Node) (t : TableParts) (node number : ℕ) (name : List ℕ) → IsPictured given names nodes t → number ≡ name_of t node → number < length t.candidates → listed ≡ names → name ≡ get_or listed number name
    → name_at names (name_of t node) ≡ name
name-on given names listed nodes t node number name is same within lent read =
    ap (name_at names) (sym same)
    ∙ name-read names number name (subst (λ n. number < n) is.counted within) (subst (λ (l : List (List ℕ)). name ≡ get_or l number name) lent read)

-- the places of a term that the table knows are those of releases
pub term-within : (given : ProblemParts) (names : List (List ℕ)) (nodes : List Node) (t : TableParts) (term : Term ℕ ℕ) (name : List ℕ) → IsPictured given names nodes t → IsKnownTerm t term → name_at names (name_of t term.node) ≡ name
    → (place : ℕ) → Contains term.versions place → place < length (releases_on given name)
term-within given names nodes t term name is known named place there =
    subst (λ n. place < length (releases_on given n)) named (is.within (name_of t term.node) place (known.1 place there))

-- the version of a release that was read at its place
pub version-read : (given : ProblemParts) (name : List ℕ) (place : ℕ) (rs : List Release) (release : Release) → place < length (releases_on given name) → rs ≡ releases_on given name → release ≡ get_or rs place release
    → release.version ≡ version_at (releases_on given name) place
version-read given name place rs release within listed read =
    let inside : place < length rs = subst (λ (l : List Release). place < length l) (sym listed) within in
    sym (ap (λ l. version_at l place) (sym listed) ∙ version_at-get rs place release (slice_get_read rs (length rs) place release refl inside read))

-- what the code puts at a name
pub put-as : (given : ProblemParts) (names : List (List ℕ)) (choice : TableChoice) (name key : List ℕ) (rs : List Release) (release : Release) (v : Version) (old new : BTreeMap (List ℕ) Version) → IsKnown given names choice
    → name ≡ get_or names choice.name name → rs ≡ releases_on given name → release ≡ get_or rs choice.place release → key ≡ name → v ≡ release.version
    → Updates (slice_cmp nat_cmp) old new key (Some v) → Updates (slice_cmp nat_cmp) old new (name_at names choice.name) (Some (version_at (releases_on given (name_at names choice.name)) choice.place))
put-as given names choice name key rs release v old new known named listed placed keyed versioned updates =
    let is : name_at names choice.name ≡ name = name-read names choice.name name known.0 named in
    let own : releases_on given (name_at names choice.name) ≡ rs = ap (releases_on given) is ∙ sym listed in
    let inside : choice.place < length rs = subst (λ (l : List Release). choice.place < length l) own known.1 in
    let version : version_at (releases_on given (name_at names choice.name)) choice.place ≡ v = ap (λ l. version_at l choice.place) own ∙ version_at-get rs choice.place release (slice_get_read rs (length rs) choice.place release refl inside placed) ∙ sym versioned in
    subst (λ w. Updates (slice_cmp nat_cmp) old new (name_at names choice.name) (Some w)) (sym version) (subst (λ k. Updates (slice_cmp nat_cmp) old new k (Some v)) (keyed ∙ sym is) updates)

pub drop-at : {A : Type 0} (xs : List A) (n : ℕ) (x : A) → n < length xs → x ≡ get_or xs n x → drop n xs ≡ x ∷ drop (suc n) xs
drop-at [] n x within is = absurd (omega arith)
drop-at (y ∷ ys) zero x within is = ap (λ z. z ∷ ys) (sym is)
drop-at (y ∷ ys) (suc n) x within is = drop-at ys n x (omega arith) is

-- one choice more, in front of those that were put
pub put-more : (given : ProblemParts) (names : List (List ℕ)) (choices : List TableChoice) (n : ℕ) (choice : TableChoice) (old new : BTreeMap (List ℕ) Version) → n < length choices → choice ≡ get_or choices n choice
    → ((name : List ℕ) → version_for old.entries name ≡ chosen given names (drop (suc n) choices) name)
    → Updates (slice_cmp nat_cmp) old new (name_at names choice.name) (Some (version_at (releases_on given (name_at names choice.name)) choice.place))
    → (name : List ℕ) → version_for new.entries name ≡ chosen given names (drop n choices) name
put-more given names choices n choice old new within is before updates name =
    let key = name_at names choice.name in
    let v = version_at (releases_on given key) choice.place in
    lookup-get name new.entries ∙ updates.0 name ∙ ap (cond (is_at (slice_cmp nat_cmp key) name) (Some v)) (sym (lookup-get name old.entries) ∙ before name)
    ∙ sym (ap (λ cs. chosen given names cs name) (drop-at choices n choice within is))

-- of choices that ascend each is the first on its name
ascending-place : (choices : List TableChoice) → IsAscending choices → (choice : TableChoice) → Contains choices choice → place_in choices choice.name ≡ Some choice.place
ascending-place [] up choice h = absurd (omega arith)
ascending-place (c ∷ cs) up choice (zero, _, is) = let e : c ≡ choice = is in
    ap (λ o. cond (is_eq o) (Some c.place) (place_in cs choice.name)) (ap (λ (d : TableChoice). nat_cmp c.name d.name) (sym e) ∙ tied_itself nat_cmp_total c.name) ∙ ap (λ (d : TableChoice). Some d.place) e
ascending-place (c ∷ cs) up choice (suc k, within, is) =
    let there : Contains cs choice = (k, omega arith, is) in
    ap (λ o. cond (is_eq o) (Some c.place) (place_in cs choice.name)) (nat_cmp-less c.name choice.name (up.0 choice there)) ∙ ascending-place cs up.1 choice there

-- the choices of a solution are releases that are there
pub best-known : (given : ProblemParts) (names : List (List ℕ)) (nodes : List Node) (t : TableParts) (choices : List TableChoice) → IsPictured given names nodes t → IsBest (rules_of_table t) (place_in choices) → IsAscending choices → AreKnown given names choices
best-known given names nodes t choices is best up choice h =
    let there = best.solution.released choice.name choice.place (ascending-place choices up choice h) in
    (subst (λ n. choice.name < n) is.counted (within-member t.candidates choice.name choice.place there), is.within choice.name choice.place there)

-- the best solution of the table stands for that of the problem
pub best-same : (given : ProblemParts) (names : List (List ℕ)) (choices : List TableChoice) (nodes : List Node) (asked : List RequirementParts) (versions : List (List ℕ × Version)) → ((name : List ℕ) → version_for versions name ≡ chosen given names choices name)
    → IsBest (rules_of given) (version_pinned (slice_cmp nat_cmp) (pictured (picture_of given names nodes asked) choices)) → IsBest (rules_of given) (version_for versions)
best-same given names choices nodes asked versions same best = subst (λ (s : List ℕ → Option Version). IsBest (rules_of given) s) (λ i name. sym (same name) i) best

pub best-solves : (given : ProblemParts) (s : List ℕ → Option Version) → IsBest (rules_of given) s → HasSolution given
best-solves given s best = (s, best.solution)

pub get_or-any : {A : Type 0} (xs : List A) (n : ℕ) (d e : A) → n < length xs → get_or xs n d ≡ get_or xs n e
get_or-any [] n d e within = absurd (omega arith)
get_or-any (x ∷ xs) zero d e within = refl
get_or-any (x ∷ xs) (suc n) d e within = get_or-any xs n d e (omega arith)
