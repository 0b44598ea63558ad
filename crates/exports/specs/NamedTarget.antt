-- Which target is told. All of it is reqlock's own rule.
use Rattle.std.specs.Prelude.{ℕ, Bool, List}
use Rattle.std.specs.Str.{bytes_eq}
use Rattle.states.specs.declared.target.Target.{Target}

-- a target has this name
abbrev pub has_name : List ℕ → Target → Bool
has_name name target = bytes_eq target.name name
