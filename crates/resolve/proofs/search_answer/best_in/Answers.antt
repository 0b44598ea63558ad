use Rattle.std.proofs.Common.{◌≡◌, List, ℕ, sym, subst}
use Rattle.search.specs.Solutions.{HasNoSolution, IsBest}
use Rattle.search.specs.Table.{IsAscending, place_in, rules_of as rules_of_table}
use Rattle.search.specs.declared.parts.TableChoice.{TableChoice}
use Rattle.problems.specs.Rules.{rules_of}
use Rattle.problems.specs.Solutions.{version_for}
use Rattle.resolve.specs.Tied.Pictured.{AreKnown, chosen, picture_of}
use Rattle.resolve.proofs.PictureOf.{bytes-order}
use Rattle.resolve.proofs.Solving.{best-known, best-same}
use Rattle.resolve.proofs.search_answer.best_in.Goals as goal

pub versions_of-requires : goal.versions_of-requires
versions_of-requires c =
    let rules = rules_of_table c.args.tabled.now.table in
    let best : IsBest rules (place_in c.in-Some.choices) = rw c.in-Some.is at c.in_ok-best.ensures.best in
    let ascending : IsAscending c.in-Some.choices = rw c.in-Some.is at c.in_ok-best.ensures.ascending in
    subst (λ (names : List (List ℕ)). AreKnown c.args.problem.now names c.as_slice.result.now) (sym c.as_slice-names.ensures)
    (subst (λ (choices : List TableChoice). AreKnown c.args.problem.now c.args.tabled.now.names choices) (sym c.as_slice.ensures)
    (best-known c.args.problem.now c.args.tabled.now.names c.args.tabled.now.nodes c.args.tabled.now.table c.in-Some.choices c.requires best ascending))

pub returns-in-None : goal.returns-in-None
returns-in-None c =
    let table = c.args.tabled.now.table in
    let none : HasNoSolution (rules_of_table table) = rw c.in-None.is at c.in_ok-best.ensures.best in
    c.a_picture_keeps_the_best_solution.ensures.none table (picture_of c.args.problem.now c.args.tabled.now.names c.args.tabled.now.nodes c.requires.asked) (rules_of c.args.problem.now)
    c.name_count-count.ensures.known bytes-order c.requires.pictured none

pub returns-in_ok-versions-in-Some : goal.returns-in_ok-versions-in-Some
returns-in_ok-versions-in-Some c =
    let given = c.args.problem.now in
    let names = c.args.tabled.now.names in
    let table = c.args.tabled.now.table in
    let best : IsBest (rules_of_table table) (place_in c.in-Some.choices) = rw c.in-Some.is at c.in_ok-best.ensures.best in
    let same = subst (λ (ns : List (List ℕ)). (name : List ℕ) → version_for c.in_ok-versions-in-Some.versions.entries name ≡ chosen given ns c.in-Some.choices name) c.as_slice-names.ensures
    (subst (λ (choices : List TableChoice). (name : List ℕ) → version_for c.in_ok-versions-in-Some.versions.entries name ≡ chosen given c.as_slice-names.result.now choices name) c.as_slice.ensures c.in_ok-versions-in-Some.ensures) in
    best-same given names c.in-Some.choices c.args.tabled.now.nodes c.requires.asked c.in_ok-versions-in-Some.versions.entries same
    (c.a_picture_keeps_the_best_solution.ensures.best table (picture_of given names c.args.tabled.now.nodes c.requires.asked) (rules_of given) c.name_count-count.ensures.known bytes-order c.requires.pictured c.in-Some.choices best)
