-- The numbers of what was gathered are in range.
use Rattle.std.proofs.Common.{◌≡◌, ◌<◌, ◌==◌, ℕ, List, [], ◌∷◌, Bool, true, length, map, nat_lt, refl, sym, subst}
use Rattle.std.proofs.lemmas.Bool.{eq-eqb, lt-ltb}
use Rattle.std.proofs.lemmas.Option.{slice_get_within}
use Rattle.std.specs.List.{AllZip, list_all}
use Rattle.pep508.specs.Requirement.{RequirementParts}
use Rattle.search.specs.Table.{TableParts, all_below, in_range, is_on, name_of, requirement_in_range}
use Rattle.search.specs.declared.parts.TableRequirement.{TableRequirement as Entry}
use Rattle.problems.specs.Problem.{ProblemParts, releases_on}
use Rattle.problems.specs.Rules.{bare, wants_of, with_extra}
use Rattle.problems.specs.Tied.Standing.{AllStand, Stands}
use Rattle.problems.specs.declared.node.Node.{Node}
use Rattle.resolve.specs.Tied.Building.{Gathered, IsEntry, IsWanted}
use Rattle.resolve.proofs.PictureOf.{IsGathered, entry-count, name-count, node-count, node-named}
use Rattle.resolve.proofs.Picturing.{AllStand-below, place-once}

-- a test that each element meets beside another
all-meet : {A B : Type 0} (R : A → B → Type 0) (p : A → Bool) (xs : List A) (ys : List B) → ((x : A) (y : B) → R x y → p x ≡ true) → AllZip R xs ys → list_all p xs ≡ true
all-meet R p [] [] f all = refl
all-meet R p [] (y ∷ ys) f all = absurd all
all-meet R p (x ∷ xs) [] f all = absurd all
all-meet R p (x ∷ xs) (y ∷ ys) f all = rw (f x y all.0) (all-meet R p xs ys f all.1)

rows-below : (asked : List RequirementParts) (bound : ℕ) → length asked ≡ bound → (rows : List (List ℕ)) (wanted : List (List RequirementParts)) → AllZip (AllStand asked) rows wanted → list_all (all_below bound) rows ≡ true
rows-below asked bound long rows wanted all = all-meet (AllStand asked) (all_below bound) rows wanted (λ numbers ws h. AllStand-below asked numbers ws bound long h) all

wants-below : (given : ProblemParts) (asked : List RequirementParts) (bound : ℕ) → length asked ≡ bound → (rows : List (List (List ℕ))) (nodes : List Node) → AllZip (IsWanted given asked) rows nodes → list_all (list_all (all_below bound)) rows ≡ true
wants-below given asked bound long rows nodes all =
    all-meet (IsWanted given asked) (list_all (all_below bound)) rows nodes (λ row node h. rows-below asked bound long row (map (wants_of given.environment node.extra) (releases_on given node.name)) h) all

same-number : (n m : ℕ) → n ≡ m → (n == m) ≡ true
same-number n m e = eq-eqb n m e

less : (n m : ℕ) → n < m → nat_lt n m ≡ true
less n m l = lt-ltb n m l

module _ (given : ProblemParts) (g : Gathered) (names : List (List ℕ)) (t : TableParts) (is : IsGathered given g names t) where
  inside : (k : ℕ) (node : Node) → Stands g.nodes k node → nat_lt k (length t.nodes) ≡ true
  inside k node at = less k (length t.nodes) (subst (λ n. k < n) (sym (node-count given g names t is)) (slice_get_within g.nodes k node at))

  more-on : (n : ℕ) (name : List ℕ) → Stands names n name → (more : List ℕ) (extras : List (List ℕ)) → AllStand g.nodes more (map (with_extra name) extras) → list_all (is_on t.nodes n) more ≡ true
  more-on n name at [] [] all = refl
  more-on n name at [] (x ∷ xs) all = absurd all
  more-on n name at (m ∷ ms) [] all = absurd all
  more-on n name at (m ∷ ms) (x ∷ xs) all =
      rw (inside m (with_extra name x) all.0, same-number (name_of t m) n (place-once names (name_of t m) n name is.rising (node-named given g names t is m (with_extra name x) all.0) at)) (more-on n name at ms xs all.1)

  entry-in : (entry : Entry) (wanted : RequirementParts) → IsEntry given g.nodes entry wanted → requirement_in_range t.nodes entry ≡ true
  entry-in entry wanted h =
      rw (inside entry.node (bare wanted.name) h.numbers.0) (more-on (name_of t entry.node) wanted.name (node-named given g names t is entry.node (bare wanted.name) h.numbers.0) entry.more wanted.extras h.numbers.1)

  pub is-in_range : in_range t ≡ true
  is-in_range = rw (
    AllStand-below names t.nodes (map (λ (node : Node). node.name) g.nodes) (length t.candidates) (sym (name-count given g names t is)) is.numbers,
    all-meet (IsEntry given g.nodes) (requirement_in_range t.nodes) t.requirements g.asked entry-in is.entries,
    wants-below given g.asked (length t.requirements) (sym (entry-count given g names t is)) t.wants g.nodes is.wanted,
    AllStand-below g.asked t.lines given.active (length t.requirements) (sym (entry-count given g names t is)) is.lines,
  ) refl
