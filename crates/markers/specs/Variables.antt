-- The variables of an environment (PEP 508, "Environment Markers").
use Rattle.std.specs.Prelude.{ℕ, List, codes}
use Rattle.markers.specs.declared.variable.Variable.{Variable}
use Rattle.markers.specs.declared.variable.Variable.TheVariants as variables

-- the name of a variable
abbrev pub variable_name : Variable → List ℕ
variable_name variables.ImplementationName = codes "implementation_name"
variable_name variables.ImplementationVersion = codes "implementation_version"
variable_name variables.OsName = codes "os_name"
variable_name variables.PlatformMachine = codes "platform_machine"
variable_name variables.PlatformPythonImplementation = codes "platform_python_implementation"
variable_name variables.PlatformRelease = codes "platform_release"
variable_name variables.PlatformSystem = codes "platform_system"
variable_name variables.PlatformVersion = codes "platform_version"
variable_name variables.PythonFullVersion = codes "python_full_version"
variable_name variables.PythonVersion = codes "python_version"
variable_name variables.SysPlatform = codes "sys_platform"
