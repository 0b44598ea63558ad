use Rattle.std.proofs.Common.{◌∙◌, List, ℕ, ap, map, sym, subst}
use Rattle.search.specs.Known.{AreKnownSets}
use Rattle.search.specs.SetConflicts.{IsSetRefutation}
use Rattle.search.specs.Solutions.{IsBest}
use Rattle.search.specs.Table.{place_in, rules_of as rules_of_table, places_eq}
use Rattle.search.specs.declared.term.Term.{Term}
use Rattle.problems.specs.Rules.{rules_of, same_version}
use Rattle.set_refutations.specs.SetRefutations.{TermParts}
use Rattle.resolve.specs.Tied.Pictured.{picture_of}
use Rattle.refute.specs.Tied.Told.{term_at}
use Rattle.resolve.proofs.PictureOf.{bytes-order}
use Rattle.resolve.proofs.Solving.{best-solves}
use Rattle.refute.proofs.set_answer.refuted_by_sets_in.Goals as goal

pub returns-in-Best : goal.returns-in-Best
returns-in-Best g c =
    let given = c.args.problem.now in
    let tabled = c.args.tabled.now in
    let best : IsBest (rules_of_table tabled.table) (place_in c.in-Best.field-0) = rw c.in-Best.is at c.in_ok-solved.ensures.best in
    best-solves given _
    (c.a_picture_keeps_the_best_solution.ensures.best tabled.table (picture_of given tabled.names tabled.nodes c.requires.asked) (rules_of given) c.name_count-count.ensures.known bytes-order c.requires.pictured c.in-Best.field-0 best)

pub set_refutation_of-requires-clause-known : goal.set_refutation_of-requires-clause-known
set_refutation_of-requires-clause-known g c =
    let table = c.args.tabled.now.table in
    let known : AreKnownSets table c.in-Refuted.conflicts = rw c.in-Refuted.is at c.in_ok-solved.ensures.known in
    subst (λ (conflicts : List (List (Term ℕ ℕ))). AreKnownSets table conflicts) (sym c.as_slice-conflicts.ensures) known

pub returns-in-Refuted : goal.returns-in-Refuted
returns-in-Refuted g c =
    let given = c.args.problem.now in
    let tabled = c.args.tabled.now in
    let conflicts = c.in-Refuted.conflicts in
    let known : AreKnownSets tabled.table conflicts = rw c.in-Refuted.is at c.in_ok-solved.ensures.known in
    let refuted : IsSetRefutation (rules_of_table tabled.table) places_eq conflicts = rw c.in-Refuted.is at c.in_ok-solved.ensures.refutation in
    let made = c.in_ok-refutation-in-Refuted.ensures ∙ ap (map (map (term_at given tabled.names tabled.nodes tabled.table))) c.as_slice-conflicts.ensures in
    subst (λ (cs : List (List TermParts)). IsSetRefutation (rules_of given) same_version cs) (sym made)
    (c.a_picture_keeps_set_refutations.ensures.refutation tabled.table (picture_of given tabled.names tabled.nodes c.requires.asked) (rules_of given) same_version c.name_count-count.ensures.known c.requires.pictured
    c.requires.apart conflicts known refuted)
