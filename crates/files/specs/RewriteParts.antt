-- A file that is rewritten. All of it is reqlock's own rule.
use Rattle.std.specs.Prelude.{ℕ, List}
use Rattle.inputs.specs.declared.input_files.InputFile.{InputFile}

-- a file, and the bytes that it is to hold
pub record RewriteParts : Type 0 where
  pub file : InputFile
  pub bytes : List ℕ
