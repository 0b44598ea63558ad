-- A table of the parts that were gathered.
use Rattle.std.proofs.Common.{◌≡◌, ◌∙◌, ℕ, List, Option, Some, None, map, if◌then◌else◌, sym, ap, subst}
use Rattle.std.specs.List.{AllZip}
use Rattle.search.specs.Table.{TableParts, in_range}
use Rattle.problems.specs.Problem.{ProblemParts}
use Rattle.problems.specs.Tied.Standing.{AllStand}
use Rattle.problems.specs.declared.node.Node.{Node}
use Rattle.resolve.specs.Tied.Building.{AreEntries, Gathered, IsEntry, IsGrown, IsWanted}
use Rattle.resolve.specs.Tied.Pictured.{AreListed, IsPictured}
use Rattle.resolve.proofs.InRange.{is-in_range}
use Rattle.resolve.proofs.PictureOf.{IsGathered, is-pictured}
use Rattle.resolve.proofs.Picturing.{Rising}
use Rattle.resolve.proofs.Standing.{AllStand-longer}

-- the steps of the code, put together; the lines were asked first
pub gathered-as : (given : ProblemParts) (first g : Gathered) (names : List (List ℕ)) (t : TableParts) → AreEntries given g → t.requirements ≡ g.entries → IsGrown first g → AllStand first.asked t.lines given.active
    → AllZip (IsWanted given g.asked) t.wants g.nodes → Rising names → AllStand names t.nodes (map (λ (node : Node). node.name) g.nodes) → AreListed given t.candidates names → IsGathered given g names t
gathered-as given first g names t entries requirements grown lines wanted rising numbers listed = record {
  entries = subst (λ es. AllZip (IsEntry given g.nodes) es g.asked) (sym requirements) entries.each;
  lines = AllStand-longer first.asked g.asked t.lines given.active grown.asked_more lines;
  wanted = wanted;
  rising = rising;
  numbers = numbers;
  listed = listed;
}

-- such parts make a table
made : (given : ProblemParts) (g : Gathered) (names : List (List ℕ)) (t : TableParts) (result : Option TableParts) → IsGathered given g names t → result ≡ (if in_range t then Some t else None) → result ≡ Some t
made given g names t result is e = e ∙ ap (λ b. if b then Some t else None) (is-in_range given g names t is)

pub never-none : (given : ProblemParts) (g : Gathered) (names : List (List ℕ)) (t : TableParts) (result : Option TableParts) → IsGathered given g names t → result ≡ (if in_range t then Some t else None) → result ≡ None → ⊥
never-none given g names t result is e none = let k : Some t ≡ None = sym (made given g names t result is e) ∙ none in cc

pub made-pictured : (given : ProblemParts) (g : Gathered) (names : List (List ℕ)) (t table : TableParts) (result : Option TableParts) → IsGathered given g names t → result ≡ (if in_range t then Some t else None) → result ≡ Some table → IsPictured given names g.nodes table
made-pictured given g names t table result is e some =
    let k : Some t ≡ Some table = sym (made given g names t result is e) ∙ some in
    let same : t ≡ table = cc in
    subst (λ parts. IsPictured given names g.nodes parts) same (is-pictured given g names t is)
