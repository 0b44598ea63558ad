use Rattle.commands.proofs.Texts.{word-cut}
use Rattle.commands.proofs.words.cut_word.Goals as goal

pub split_at-requires : goal.split_at-requires
split_at-requires c = rw (c.word_length.ensures, c.as_bytes.ensures.value) (word-cut c.args.text.now)
