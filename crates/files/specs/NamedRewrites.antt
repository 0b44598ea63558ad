-- Files that are rewritten, by their names. All of it is reqlock's own rule.
use Rattle.std.specs.Prelude.{List, map}
use Rattle.folder.specs.Saves.{AreApart, NewFileParts}
use Rattle.inputs.specs.FileNames.{name_of}
use Rattle.files.specs.RewriteParts.{RewriteParts}

-- a file that is rewritten, as a save of its folder has it
abbrev pub new_file : RewriteParts → NewFileParts
new_file r = record { name = name_of r.file; bytes = r.bytes }

-- no two of them have one name
abbrev pub AreNamedApart : List RewriteParts → Type 0
AreNamedApart rewrites = AreApart (map new_file rewrites)
