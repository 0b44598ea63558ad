use Rattle.pylock.specs.Packages.{EntryParts}
use Rattle.pylock.specs.Python.{python_text}
use Rattle.pylock.proofs.PackageFacts.{Passed, entry-from, package-from, python-fits}
use Rattle.pylock.proofs.entry.Entry.with_python.Goals as goal

pub invariant_of-result : goal.invariant_of-result
invariant_of-result c =
    let p : EntryParts = record {
      name = c.args.name;
      version = c.args.version;
      requires_python = python_text c.args.requires_python;
      dependencies = c.args.dependencies;
      sdist = c.args.sdist;
      wheels = c.args.wheels;
    } in
    let passed : Passed p = record {
      name = c.recall_invariant.ensures;
      python = python-fits c.args.requires_python c.recall_python.ensures;
      dependencies = rw c.as_slice.ensures at c.if-are_dependencies.ensures;
      sdist = c.if-is_sdist.ensures;
      wheels = rw c.as_slice-2.ensures at c.if-are_wheels.ensures;
      file = rw c.as_slice-3.ensures at c.if-has_file.ensures;
    } in
    rw c.in_ok-shared.ensures.ok (record { version = c.recall_invariant-2.ensures; parts = package-from p passed })

pub returns-then-has_file : goal.returns-then-has_file
returns-then-has_file c =
    let p : EntryParts = record {
      name = c.args.name;
      version = c.args.version;
      requires_python = python_text c.args.requires_python;
      dependencies = c.args.dependencies;
      sdist = c.args.sdist;
      wheels = c.args.wheels;
    } in
    let passed : Passed p = record {
      name = c.recall_invariant.ensures;
      python = python-fits c.args.requires_python c.recall_python.ensures;
      dependencies = rw c.as_slice.ensures at c.if-are_dependencies.ensures;
      sdist = c.if-is_sdist.ensures;
      wheels = rw c.as_slice-2.ensures at c.if-are_wheels.ensures;
      file = rw c.as_slice-3.ensures at c.if-has_file.ensures;
    } in
    rw c.in_ok-shared.ensures.ok (entry-from p (package-from p passed))
