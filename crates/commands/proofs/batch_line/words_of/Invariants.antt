use Rattle.std.proofs.Common.{◌≡◌, ◌++◌, length}
use Rattle.std.specs.Str.{IsUtf8}
use Rattle.lists.specs.Spaces.{trim_start}
use Rattle.commands.specs.BatchLine.{words_of}
use Rattle.commands.proofs.batch_line.words_of.Given as goal

abbrev pub invariant-loop-rest : goal.invariant-loop-rest
invariant-loop-rest l = record {
  words : l.words.items ++ words_of l.rest ≡ words_of l.fn.text;
  text : IsUtf8 l.rest;
  bare : trim_start l.rest ≡ l.rest;
}

abbrev pub decreases-loop-rest : goal.decreases-loop-rest
decreases-loop-rest l = length l.rest
