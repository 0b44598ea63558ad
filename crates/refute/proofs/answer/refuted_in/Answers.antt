use Rattle.std.proofs.Common.{◌∙◌, List, ℕ, ap, map, sym, subst}
use Rattle.search.specs.Conflicts.{IsRefutation}
use Rattle.search.specs.Known.{AreKnown}
use Rattle.search.specs.Solutions.{IsBest}
use Rattle.search.specs.Table.{place_in, rules_of as rules_of_table, places_eq}
use Rattle.search.specs.declared.conflict.NodeChoice.{NodeChoice}
use Rattle.problems.specs.Choices.{ChoiceParts}
use Rattle.problems.specs.Rules.{rules_of, same_version}
use Rattle.resolve.specs.Tied.Pictured.{picture_of}
use Rattle.refute.specs.Tied.Told.{choice_at}
use Rattle.resolve.proofs.PictureOf.{bytes-order}
use Rattle.resolve.proofs.Solving.{best-solves}
use Rattle.refute.proofs.answer.refuted_in.Goals as goal

pub returns-in-Best : goal.returns-in-Best
returns-in-Best g c =
    let given = c.args.problem.now in
    let tabled = c.args.tabled.now in
    let best : IsBest (rules_of_table tabled.table) (place_in c.in-Best.field-0) = rw c.in-Best.is at c.in_ok-learned_or_refuted.ensures.best in
    best-solves given _
    (c.a_picture_keeps_the_best_solution.ensures.best tabled.table (picture_of given tabled.names tabled.nodes c.requires.asked) (rules_of given) c.name_count-count.ensures.known bytes-order c.requires.pictured c.in-Best.field-0 best)

pub refutation_of-requires-clause-known : goal.refutation_of-requires-clause-known
refutation_of-requires-clause-known g c =
    let table = c.args.tabled.now.table in
    let known : AreKnown table c.in-Refuted.conflicts = rw c.in-Refuted.is at c.in_ok-learned_or_refuted.ensures.known in
    subst (λ (conflicts : List (List (NodeChoice ℕ ℕ))). AreKnown table conflicts) (sym c.as_slice-conflicts.ensures) known

pub returns : goal.returns
returns g c =
    let given = c.args.problem.now in
    let tabled = c.args.tabled.now in
    let conflicts = c.in-Refuted.conflicts in
    let known : AreKnown tabled.table conflicts = rw c.in-Refuted.is at c.in_ok-learned_or_refuted.ensures.known in
    let refuted : IsRefutation (rules_of_table tabled.table) places_eq conflicts = rw c.in-Refuted.is at c.in_ok-learned_or_refuted.ensures.refutation in
    let made = c.in_ok-refutation-in-Refuted.ensures ∙ ap (map (map (choice_at given tabled.names tabled.nodes tabled.table))) c.as_slice-conflicts.ensures in
    subst (λ (cs : List (List ChoiceParts)). IsRefutation (rules_of given) same_version cs) (sym made)
    (c.a_picture_keeps_refutations.ensures.refutation tabled.table (picture_of given tabled.names tabled.nodes c.requires.asked) (rules_of given) same_version c.name_count-count.ensures.known c.requires.pictured
    c.requires.apart conflicts known refuted)
