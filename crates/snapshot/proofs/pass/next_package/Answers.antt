use Rattle.json.specs.Value.{value_view}
use Rattle.snapshot.proofs.GrammarFacts.{next_read}
use Rattle.snapshot.proofs.pass.next_package.Goals as goal

pub returns-clause-meaning : goal.returns-clause-meaning
returns-clause-meaning c =
    next_read c.args.reader.now c.read.new.reader (value_view c.in-Ok.value) c.package_of.result c.in-Ok.ensures.ok (c.is_data.ensures c.if-not-is_data.false) c.package_of.ensures
