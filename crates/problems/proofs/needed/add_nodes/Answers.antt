use Rattle.std.proofs.Common.{◌∷◌, [], map}
use Rattle.problems.specs.Rules.{bare, with_extra}
use Rattle.problems.proofs.Growing.{Grows-one, Grows-then}
use Rattle.problems.proofs.needed.add_nodes.Goals as goal

pub returns : goal.returns
returns c =
    let first = rw c.name.ensures at c.in_ok-number_of.ensures.only in
    let stands = rw c.name.ensures at c.in_ok-number_of.ensures.number in
    let extras = rw (c.name-2.ensures, c.extras.ensures) at c.in_ok-add_extras.ensures in
    Grows-then c.args.nodes.now c.number_of.new.self c.add_extras.new.nodes (bare c.args.wanted.now.name ∷ []) (map (with_extra c.args.wanted.now.name) c.args.wanted.now.extras)
    (Grows-one c.args.nodes.now c.number_of.new.self _ (bare c.args.wanted.now.name) first stands) extras
