-- Fields in brackets, put behind a text one by one. Tied to `in_brackets` by `fields-told`; need not be read.
use Rattle.std.specs.Prelude.{ℕ, Bool, List, [], ◌++◌, codes, if◌then◌else◌}

-- a field behind others, or the first one, if it is told
abbrev pub field_told : Bool → Bool → List ℕ → List ℕ
field_told is_open is_other field = if is_other then (if is_open then codes ", " else codes " (") ++ field else []

-- what ends the fields, if there are any
abbrev pub close_told : Bool → List ℕ
close_told is_open = if is_open then codes ")" else []
