use Rattle.std.proofs.Common.{◌≡◌, drop, map}
use Rattle.std.specs.Prelude.{string_bytes}
use Rattle.shell.specs.GivenWords.{has_option}
use Rattle.shell.proofs.given_words.has_option.Given as goal

-- whether a word gives the option is left to the others
abbrev pub invariant-loop-position : goal.invariant-loop-position
invariant-loop-position l = has_option l.option (map string_bytes (drop l.position l.words)) ≡ has_option l.option (map string_bytes l.words)
