use Rattle.std.proofs.Common.{◌<◌, ℕ, List, length, subst, arith}
use Rattle.std.proofs.lemmas.Grind.{common_steps}
use Rattle.search.specs.Table.{name_of}
use Rattle.problems.specs.Problem.{releases_on}
use Rattle.resolve.proofs.Solving.{name-read}
use Rattle.refute.proofs.refutation.choice_of.Goals as goal

pub version_at-requires : goal.version_at-requires
version_at-requires c =
    let names : List (List ℕ) = c.args.tabled.now.names in
    let number : ℕ = name_of c.args.tabled.now.table c.args.decision.node in
    let counted : number < length c.args.tabled.now.table.candidates = rw c.name_of.ensures.name at c.name_of.ensures.known in
    let within : number < length names = subst (λ n. number < n) c.requires.pictured.counted counted in
    subst (λ name. c.args.decision.version < length (releases_on c.args.problem.now name))
    (name-read names number c.index-as_slice-name_of.result within (rw (c.as_slice.ensures, c.name_of.ensures.name) at c.index-as_slice-name_of.is))
    (c.requires.pictured.within number c.args.decision.version c.requires.known.1)

pub returns : goal.returns
returns c = grind (arith, common_steps)
