use Rattle.pylock.specs.Packages.{EntryParts}
use Rattle.pylock.proofs.PackageFacts.{no-entry}
use Rattle.pylock.proofs.entry.Entry.new.Goals as goal

pub returns-in-None : goal.returns-in-None
returns-in-None c =
    let p : EntryParts = record {
      name = c.args.name;
      version = c.args.version;
      requires_python = c.args.requires_python;
      dependencies = c.args.dependencies;
      sdist = c.args.sdist;
      wheels = c.args.wheels;
    } in
    no-entry p (rw c.in-None.is at c.in_ok-python.ensures)
