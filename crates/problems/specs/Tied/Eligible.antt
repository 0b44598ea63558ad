-- The releases whose versions are the candidates of a name.
-- Tied to `candidates` by the contracts of `check` in `refutations` and `check_sets` in `set_refutations`; need not be read.
use Rattle.std.specs.Prelude.{ℕ, List, Option, if◌then◌else◌}
use Rattle.std.specs.Map.{lookup}
use Rattle.std.specs.Option.{option_and_then, option_to_list}
use Rattle.std.specs.Str.{bytes_eq}
use Rattle.snapshot.specs.Release.{Release}
use Rattle.problems.specs.Admission.{release_at}
use Rattle.problems.specs.Problem.{ProblemParts, releases_on}
use Rattle.problems.specs.Rules.{is_held}

-- the release that has the version kept for a name, if there is one
abbrev pub kept_release : ProblemParts → List ℕ → Option Release
kept_release given name = option_and_then (release_at given name) (lookup (bytes_eq name) given.kept)

-- of a name that is held the release with the kept version, else all
abbrev pub eligible : ProblemParts → List ℕ → List Release
eligible given name = if is_held given name then option_to_list (kept_release given name) else releases_on given name
