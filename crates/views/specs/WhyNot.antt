-- Which lock `why --not` asks about. All of it is reqlock's own rule.
use Rattle.std.specs.Prelude.{Bool}
use Rattle.states.specs.Locks.{locks_another}
use Rattle.states.specs.declared.target.Target.{Target}
use Rattle.views.specs.declared.why_not.NamedRelease.{NamedRelease}

-- the lock of a target has the name, and not the release
abbrev pub lacks : NamedRelease → Target → Bool
lacks named target = locks_another target named.name named.version
