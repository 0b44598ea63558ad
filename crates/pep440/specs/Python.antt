-- What a release asks of Python (core metadata, "Requires-Python"): a set of specifiers with its text.
use Rattle.std.specs.Prelude.{ℕ, List, Option, Some, None, Result, Ok, Err, if◌then◌else◌}
use Rattle.lists.specs.Spaces.{is_blank}
use Rattle.pep440.specs.Tied.Sets.{set_of}
use Rattle.pep440.specs.declared.fault.Fault.{Fault}
use Rattle.pep440.specs.declared.specifier.Clause.{Clause}

-- a text, and the set that it is
pub record PythonParts : Type 0 where
  pub text : List ℕ
  pub set : List Clause

-- the text with the set that was read of it
abbrev pub python_with : List ℕ → Result (List Clause) Fault → Result (Option PythonParts) Fault
python_with text (Ok clauses) = Ok (Some (record { text = text; set = clauses }))
python_with text (Err fault) = Err fault

-- what a text asks of Python: nothing, where it is empty or blank
abbrev pub python_of : List ℕ → Result (Option PythonParts) Fault
python_of text = if is_blank text then Ok None else python_with text (set_of text)
