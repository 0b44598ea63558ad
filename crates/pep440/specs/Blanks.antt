-- What is blank around a text.
use Rattle.std.specs.Prelude.{ℕ, Bool}
use Rattle.lists.specs.Spaces.{is_space_or_tab}
use Rattle.pep440.specs.Grammar.{is_space}
use Rattle.pep440.specs.declared.blank.Blank.{Blank}
use Rattle.pep440.specs.declared.blank.Blank.TheVariants.{Space, SpaceOrTab}

-- the bytes that are blank
abbrev pub is_blank : Blank → ℕ → Bool
is_blank Space = is_space
is_blank SpaceOrTab = is_space_or_tab
