-- Tables, key by key: keys that are put into a table stand in it in their order.
use Rattle.std.proofs.Common.{◌≡◌, Option, Some, None, codes, refl}
use Rattle.toml.specs.Data.{Data, Members, no_members, member}
use Rattle.pylock.specs.Tables.{optional}
use Rattle.pylock.specs.Tied.Members.{with_member, with_optional}

-- the keys of an entry without dependencies
pub entry_in_order : (python sdist wheels : Option Data) (name version : Data)
    → with_optional (codes "wheels") wheels (with_member (codes "version") version (with_optional (codes "sdist") sdist (with_optional (codes "requires-python") python (with_member (codes "name") name no_members))))
    ≡ member (codes "name") name (optional (codes "requires-python") python (optional (codes "sdist") sdist (member (codes "version") version (optional (codes "wheels") wheels no_members))))
entry_in_order None None None n v = refl
entry_in_order None None (Some w) n v = refl
entry_in_order None (Some s) None n v = refl
entry_in_order None (Some s) (Some w) n v = refl
entry_in_order (Some p) None None n v = refl
entry_in_order (Some p) None (Some w) n v = refl
entry_in_order (Some p) (Some s) None n v = refl
entry_in_order (Some p) (Some s) (Some w) n v = refl

-- the keys that stand before the name of a package
pub before_name : (dependencies marker : Option Data) (name : Data) (ms : Members)
    → with_optional (codes "dependencies") dependencies (with_optional (codes "marker") marker (member (codes "name") name ms))
    ≡ optional (codes "dependencies") dependencies (optional (codes "marker") marker (member (codes "name") name ms))
before_name None None n ms = refl
before_name None (Some m) n ms = refl
before_name (Some d) None n ms = refl
before_name (Some d) (Some m) n ms = refl

-- the keys of a reference
pub reference_in_order : (marker version : Option Data) (name : Data)
    → with_optional (codes "version") version (with_member (codes "name") name (with_optional (codes "marker") marker no_members))
    ≡ optional (codes "marker") marker (member (codes "name") name (optional (codes "version") version no_members))
reference_in_order None None n = refl
reference_in_order None (Some v) n = refl
reference_in_order (Some m) None n = refl
reference_in_order (Some m) (Some v) n = refl

-- the keys of a lock
pub lock_in_order : (environments : Option Data) (creator version packages tool : Data)
    → with_member (codes "tool") tool (with_member (codes "packages") packages (with_member (codes "lock-version") version (with_optional (codes "environments") environments (with_member (codes "created-by") creator no_members))))
    ≡ member (codes "created-by") creator (optional (codes "environments") environments (member (codes "lock-version") version (member (codes "packages") packages (member (codes "tool") tool no_members))))
lock_in_order None c v p t = refl
lock_in_order (Some e) c v p t = refl
