use Rattle.std.proofs.Common.{◌<◌, ◌∙◌, ◌++◌, ℕ, List, append_assoc, ap, length, sym}
use Rattle.lists.specs.Spaces.{is_space_or_tab}
use Rattle.commands.specs.BatchLine.{from_first}
use Rattle.commands.proofs.Texts.{behind-shorter, some-bytes, trimmed-again, words_of-first, words_of-trimmed}
use Rattle.commands.proofs.batch_line.words_of.Goals as goal

pub loop-rest-init : goal.loop-rest-init
loop-rest-init c = record {
  words = rw (c.new-words.ensures.items, c.trim_start-rest.ensures) (words_of-trimmed c.args.text.now);
  text = c.trim_start-rest.utf8;
  bare = rw c.trim_start-rest.ensures (trimmed-again c.args.text.now);
}

pub is_empty-requires-text-self : goal.is_empty-requires-text-self
is_empty-requires-text-self c κs = c.loop-rest.invariant.text

pub loop-rest-smaller : goal.loop-rest-smaller
loop-rest-smaller c =
    let rest = c.loop-rest.rest.now in
    let some : 0 < length rest = some-bytes rest (sym c.is_empty.ensures ∙ c.loop-rest-test.true) in
    rw c.cut_word.ensures.behind (behind-shorter rest some c.loop-rest.invariant.bare)

pub loop-rest-preserved : goal.loop-rest-preserved
loop-rest-preserved c =
    let rest = c.loop-rest.rest.now in
    let some : 0 < length rest = some-bytes rest (sym c.is_empty.ensures ∙ c.loop-rest-test.true) in
    record {
      words = rw (c.in_ok-push.ensures.items, c.in_ok-copy_of.ensures, c.cut_word.ensures.word, c.cut_word.ensures.behind, append_assoc)
          (ap (λ (ws : List (List ℕ)). c.loop-rest.words.items ++ ws) (sym (words_of-first rest some c.loop-rest.invariant.bare)) ∙ c.loop-rest.invariant.words);
      text = c.cut_word.ensures.text;
      bare = rw c.cut_word.ensures.behind (trimmed-again (from_first is_space_or_tab rest));
    }
