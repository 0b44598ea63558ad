-- What a package asks of Python (PEP 751, "packages.requires-python").
use Rattle.std.specs.Prelude.{◌≡◌, ℕ, List, Option, Some, Ok, MatchOption}
use Rattle.std.specs.Option.{option_map}
use Rattle.pep440.specs.Python.{PythonParts, python_of}

-- the text of what is asked, where something is
abbrev pub python_text : Option PythonParts → Option (List ℕ)
python_text python = option_map (λ p. p.text) python

-- it is what its text reads as
abbrev pub IsPython : Option PythonParts → Type 0
IsPython python = MatchOption python Unit (λ p. python_of p.text ≡ Ok (Some p))
