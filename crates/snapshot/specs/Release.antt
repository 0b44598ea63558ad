-- A release that can be used.
use Rattle.std.specs.Prelude.{Bool, List, Option}
use Rattle.pep440.specs.Python.{PythonParts}
use Rattle.pep440.specs.Version.{VersionParts}
use Rattle.pep508.specs.Requirement.{RequirementParts}
use Rattle.distributions.specs.declared.file.DistributionFile.{DistributionFile}

-- a release: what it asks of Python, if it asks for something, what it depends on, and its files
pub record Release : Type 0 where
  pub version : VersionParts
  pub requires_python : Option PythonParts
  pub dependencies : List RequirementParts
  pub yanked : Bool
  pub sdist : Option DistributionFile
  pub wheels : List DistributionFile
