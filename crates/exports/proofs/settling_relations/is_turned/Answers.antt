use Rattle.std.proofs.Common.{◌≡◌, ◌∙◌, Some, ap, sym}
use Rattle.std.specs.Option.{option_copied}
use Rattle.markers.specs.Tied.Known.{known_clauses}
use Rattle.exports.proofs.SettlingRelations.{turned-read}
use Rattle.exports.proofs.settling_relations.is_turned.Goals as goal

pub returns-in-Some-Some : goal.returns-in-Some-Some
returns-in-Some-Some c = λ is.
    let read : known_clauses c.args.relation.now.operator c.args.relation.now.right ≡ Some c.in-Some-Some.clauses.now = sym c.quoted_clauses.ensures ∙ ap option_copied c.in-Some-Some.is-0 in
    let read_too : known_clauses c.args.operator c.args.relation.now.right ≡ Some c.in-Some-Some.opposed.now = sym c.requires.reads ∙ ap option_copied c.in-Some-Some.is-1 in
    turned-read c.args.environment.now c.args.relation.now c.args.operator c.in-Some-Some.clauses.now c.in-Some-Some.opposed.now c.requires.opposite read read_too (rw c.left.ensures at c.are_apart.ensures is)
