use Rattle.std.proofs.Common.{◌∙◌, List, Option, map, subst, sym}
use Rattle.std.specs.Prelude.{IsSomeAnd}
use Rattle.clap.specs.Words.{Row, Text, found_of, matches_of, rows_of}
use Rattle.command_line.specs.CommandWords.{reqlock_app}
use Rattle.command_line.specs.Requests.{IsReadAs}
use Rattle.command_line.proofs.Requests.{both_of, fault_in, name_in}
use Rattle.command_line.proofs.request.request.Goals as goal

pub returns-in-Ok-clause-request : goal.returns-in-Ok-clause-request
returns-in-Ok-clause-request g c =
    let words = map g.S.AsStr.text c.args.words.now in
    let name = c.in-Some.name.now in
    let behind = rows_of (found_of c.in-Some.behind.now) in
    let pair = sym c.in_ok-before.ensures.subcommand ∙ both_of _ _ _ (c.in-Some.ensures.name ∙ name_in c.in_ok-before.before) c.in-Some.ensures.rows in
    let P : List Row → Type 0 = λ before. IsReadAs before name behind c.in-Ok.invocation in
    let Q : Option (Text × List Row) → Type 0 = λ found. IsSomeAnd found (λ f. IsReadAs (matches_of reqlock_app words) f.0 f.1 c.in-Ok.invocation) in
    record { read = c.in_ok-before.ensures.read; found = subst Q (sym pair) (subst P c.in_ok-before.ensures.rows c.in-Ok.ensures.read) }

pub returns-clause-fault : goal.returns-clause-fault
returns-clause-fault g c =
    let words = map g.S.AsStr.text c.args.words.now in
    let behind = rows_of (found_of c.in-Some.behind.now) in
    let pair = sym c.in_ok-before.ensures.subcommand ∙ both_of _ _ _ (c.in-Some.ensures.name ∙ name_in c.in_ok-before.before) c.in-Some.ensures.rows in
    fault_in words _ c.in-Some.name.now behind c.in-Err.cause _ c.in_ok-before.ensures.read c.in_ok-before.ensures.rows pair c.in-Err.ensures.unread c.told-in-Err.ensures.told
