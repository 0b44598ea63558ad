-- The TOML table of a lock for several environments (PEP 751, "File Format"). The keys of each table stand in the order of their bytes.
use Rattle.std.specs.Prelude.{[], codes, map, Option, Some, None}
use Rattle.std.specs.Option.{option_map}
use Rattle.pep440.specs.Canonical.{canonical}
use Rattle.toml.specs.Data.{Data, string, table, Members, no_members, member}
use Rattle.pylock.specs.declared.joint.Reference.{Reference}
use Rattle.pylock.specs.declared.joint.JointPackage.{JointPackage}
use Rattle.pylock.specs.declared.joint.JointLock.{JointLock}
use Rattle.pylock.specs.Tables.{array_of, lock_table, optional, package_table, some_array}

-- a package that another needs, with what tells it from others of its name (PEP 751, "packages.dependencies")
abbrev pub reference_table : Reference → Members
reference_table r =
    optional (codes "marker") (option_map string r.marker) (
    member (codes "name") (string r.name) (
    optional (codes "version") (option_map (λ v. string (canonical v)) r.version) no_members))

unfoldable pub reference_data : Reference → Data
reference_data r = table (reference_table r)

-- a package, with the environments that need it (PEP 751, "packages.marker")
abbrev pub joint_package_table : JointPackage → Members
joint_package_table p =
    optional (codes "dependencies") (some_array reference_data p.needs) (
    optional (codes "marker") (option_map string p.marker) (
    package_table (record p.entry { dependencies = [] })))

unfoldable pub joint_package_data : JointPackage → Data
joint_package_data p = table (joint_package_table p)

-- a lock for several environments
abbrev pub joint_table : JointLock → Members
joint_table l = lock_table (some_array string l.environments) l.snapshot (array_of joint_package_data l.packages)
