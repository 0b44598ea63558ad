-- What a release asks of Python (reqlock's own format of an index).
use Rattle.std.specs.Prelude.{ℕ, List, Option, Result, Ok, Err}
use Rattle.pep440.specs.Python as python
use Rattle.pep440.specs.Python.{PythonParts}
use Rattle.pep440.specs.declared.fault.Fault.{Fault as VersionFault}
use Rattle.snapshot.specs.declared.skipped.SkipCause.{SkipCause}
use Rattle.snapshot.specs.declared.skipped.SkipCause.TheVariants as causes

-- what was read of a text, or the cause for which the release can't be used
abbrev pub or_skipped : Result (Option PythonParts) VersionFault → Result (Option PythonParts) SkipCause
or_skipped (Ok found) = Ok found
or_skipped (Err fault) = Err (causes.RequiresPython fault)

-- what a text asks of Python: nothing, where it is empty or blank
abbrev pub python_of : List ℕ → Result (Option PythonParts) SkipCause
python_of text = or_skipped (python.python_of text)
