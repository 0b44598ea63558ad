use Rattle.pep508.proofs.ExchangedLine.{named}
use Rattle.pep508.proofs.line.Line.with_specifier.Goals as goal

pub with_specifier-requires : goal.with_specifier-requires
with_specifier-requires c =
    let line = c.args.self.now in
    named line c.in-Ok.slices c.requires.0 (rw c.text.ensures at c.in-Ok.ensures.cut) c.requires.1
