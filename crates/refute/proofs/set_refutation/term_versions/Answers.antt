use Rattle.std.proofs.Common.{◌≡◌, ◌∙◌, Contains, List, ℕ, ap, map, sym, subst}
use Rattle.search.specs.Table.{name_of}
use Rattle.problems.specs.Problem.{releases_on}
use Rattle.resolve.specs.Tied.Pictured.{name_at}
use Rattle.resolve.specs.Tied.Places.{version_at}
use Rattle.resolve.proofs.Solving.{name-on, term-within}
use Rattle.refute.proofs.set_refutation.term_versions.Goals as goal

pub versions_at-requires : goal.versions_at-requires
versions_at-requires c place there =
    let tabled = c.args.tabled.now in
    let term = c.args.term.now in
    let named : name_at tabled.names (name_of tabled.table term.node) ≡ c.index-as_slice-name_of.result =
    name-on c.args.problem.now tabled.names c.as_slice.result.now tabled.nodes tabled.table term.node c.name_of.result c.index-as_slice-name_of.result c.requires.pictured
    (c.name_of.ensures.name ∙ ap (name_of tabled.table) c.node-at.ensures) c.name_of.ensures.known c.as_slice.ensures c.index-as_slice-name_of.is in
    term-within c.args.problem.now tabled.names tabled.nodes tabled.table term c.index-as_slice-name_of.result c.requires.pictured c.requires.known named place
    (subst (λ (places : List ℕ). Contains places place) (c.as_slice-2.ensures ∙ c.in_ok-places.ensures) there)

pub returns : goal.returns
returns c =
    let given = c.args.problem.now in
    let tabled = c.args.tabled.now in
    let term = c.args.term.now in
    let named : name_at tabled.names (name_of tabled.table term.node) ≡ c.index-as_slice-name_of.result =
    name-on given tabled.names c.as_slice.result.now tabled.nodes tabled.table term.node c.name_of.result c.index-as_slice-name_of.result c.requires.pictured
    (c.name_of.ensures.name ∙ ap (name_of tabled.table) c.node-at.ensures) c.name_of.ensures.known c.as_slice.ensures c.index-as_slice-name_of.is in
    c.in_ok-versions.ensures ∙ ap (map (version_at (releases_on given c.index-as_slice-name_of.result))) (c.as_slice-2.ensures ∙ c.in_ok-places.ensures)
    ∙ ap (λ (name : List ℕ). map (version_at (releases_on given name)) term.versions) (sym named)
