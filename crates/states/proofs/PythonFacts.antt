-- What an entry asks of Python, by the set that was read of it.
use Rattle.std.proofs.Common.{◌≡◌, Some, Ok, refl}
use Rattle.markers.specs.Comparisons.{version_read}
use Rattle.markers.specs.Environment.{Texts, text_of}
use Rattle.markers.specs.declared.variable.Variable.TheVariants.{PythonFullVersion}
use Rattle.pep440.proofs.PythonFacts.{set-read}
use Rattle.pep440.specs.Matching.{matches}
use Rattle.pep440.specs.Python.{PythonParts, python_of}
use Rattle.pep440.specs.Version.{VersionParts}
use Rattle.states.specs.State.{is_for_python}

-- its text has the environment's version where its set does
pub asks-set : (environment : Texts) (p : PythonParts) (version : VersionParts) → python_of p.text ≡ Ok (Some p)
    → version_read (text_of environment PythonFullVersion) ≡ Some version → matches p.set version ≡ is_for_python environment p.text
asks-set environment p version read is = rw (set-read p read, is) refl
