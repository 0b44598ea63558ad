use Rattle.snapshot.proofs.GrammarFacts.{bytes_read}
use Rattle.snapshot.proofs.pass.packages_of.Goals as goal

pub returns : goal.returns
returns c = bytes_read c.in-Ok.text.now c.args.bytes.now c.packages_in.result c.in-Ok.ensures.cases c.packages_in.ensures
