-- Texts without what surrounds them.
use Rattle.std.specs.Prelude.{ℕ, ◌==◌, Bool, List, [], ◌∷◌, if◌then◌else◌}
use Rattle.std.specs.List.{list_all, slice_split}
use Rattle.lists.specs.Spaces.{is_space_or_tab}

-- a list without the members at its end that pass a test
abbrev pub trim_end : (ℕ → Bool) → List ℕ → List ℕ
trim_end test [] = []
trim_end test (n ∷ ns) = if list_all test (n ∷ ns) then [] else n ∷ trim_end test ns

-- a list without the members at its front that pass a test
abbrev pub trim_front : (ℕ → Bool) → List ℕ → List ℕ
trim_front test [] = []
trim_front test (n ∷ ns) = if test n then trim_front test ns else n ∷ ns

-- a text freed of the spaces and tabs around it
abbrev pub trim_blank : List ℕ → List ℕ
trim_blank text = trim_end is_space_or_tab (trim_front is_space_or_tab text)

-- the parts of a text between its commas
abbrev pub pieces : List ℕ → List (List ℕ)
pieces text = slice_split (λ b. b == 44) text
