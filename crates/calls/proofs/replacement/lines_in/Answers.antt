use Rattle.calls.proofs.ReadLines.{are-read}
use Rattle.calls.proofs.replacement.lines_in.Goals as goal

pub returns : goal.returns
returns c = are-read c.args.file c.args.bytes.now c.read_requirements-read.result c.in_file.result c.read_requirements-read.ensures c.in_file.ensures
