use Rattle.std.proofs.Common.{subst}
use Rattle.snapshot.specs.Tied.Meaning.{ArePackages, IsFront}
use Rattle.snapshot.proofs.GrammarFacts.{index_read}
use Rattle.snapshot.proofs.pass.packages_in.Goals as goal

pub returns : goal.returns
returns c =
    let front = subst (λ ts. IsFront ts c.pass_front.new.reader) c.in-Ok.ensures.ok (c.pass_front.ensures c.if-not-pass_front.false) in
    let list = subst (λ ts. ArePackages c.pass_front.new.reader ts c.in_ok-read.read) (c.is_end.ensures c.if-not-is_end.false) c.in_ok-read.ensures in
    index_read c.args.text.now c.pass_front.new.reader c.in_ok-read.read front list
