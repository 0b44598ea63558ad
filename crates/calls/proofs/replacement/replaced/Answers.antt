use Rattle.calls.proofs.ReadLines
use Rattle.calls.proofs.replacement.replaced.Goals as goal

pub returns-clause-history : goal.returns-clause-history
returns-clause-history g c =
    rw (c.in_ok-made_of.ensures.files, c.in_ok-made_of.ensures.session) (ReadLines.replaced (g.G.HandedFiles.handed c.args.handed.now) _ _ _ _ c.in_ok-read.ensures.lines c.in_ok-session.ensures)

pub returns-clause-edit : goal.returns-clause-edit
returns-clause-edit g c =
    rw (c.in_ok-made_of.ensures.files, c.in_ok-made_of.ensures.session) (ReadLines.replacement (g.G.HandedFiles.handed c.args.handed.now) _ _ _ _ _ _ _ c.in_ok-read.ensures.lines c.in_ok-read.ensures.pins c.in_ok-made_of.ensures.edit)

pub returns-clause-index : goal.returns-clause-index
returns-clause-index g c = (c.in_ok-read.read.index.items, c.in_ok-read.ensures.index, c.in_ok-made_of.ensures.index)

pub returns-clause-places : goal.returns-clause-places
returns-clause-places g c = rw c.in_ok-made_of.ensures.files c.in_ok-files.ensures
