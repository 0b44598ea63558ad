-- Spaces and tabs around a text.
use Rattle.std.specs.Prelude.{ℕ, ◌-◌, ◌==◌, ◌||◌, Bool, List, length, take, drop}
use Rattle.std.specs.List.{list_all, prefix_len, suffix_len, take_while}

-- a space or a tab
abbrev pub is_space_or_tab : ℕ → Bool
is_space_or_tab b = (b == 32) || (b == 9)

-- spaces and tabs alone, or nothing
abbrev pub is_blank : List ℕ → Bool
is_blank text = list_all is_space_or_tab text

-- the spaces and tabs that lead the text, and the text without them
abbrev pub lead_of : List ℕ → List ℕ
lead_of text = take_while is_space_or_tab text

abbrev pub trim_start : List ℕ → List ℕ
trim_start text = drop (prefix_len is_space_or_tab text) text

-- the spaces and tabs at the end of the text, and the text without them
abbrev pub tail_of : List ℕ → List ℕ
tail_of text = drop (length text - suffix_len is_space_or_tab text) text

abbrev pub trim_end : List ℕ → List ℕ
trim_end text = take (length text - suffix_len is_space_or_tab text) text

-- the text without the spaces and tabs around it
abbrev pub trim : List ℕ → List ℕ
trim text = trim_start (trim_end text)
