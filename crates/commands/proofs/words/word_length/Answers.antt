use Rattle.std.proofs.Common.{arith, sym, ◌∙◌}
use Rattle.std.proofs.lemmas.List.Sums.{position_or_len_is}
use Rattle.lists.specs.Spaces.{is_space_or_tab}
use Rattle.commands.proofs.words.word_length.Goals as goal

pub returns-then-is_space_or_tab : goal.returns-then-is_space_or_tab
returns-then-is_space_or_tab c =
    sym (position_or_len_is is_space_or_tab c.args.bytes.now c.loop-place.place 0 (omega arith) c.loop-place.invariant (λ _. sym c.is_space_or_tab.ensures ∙ c.if-is_space_or_tab.true))

pub returns : goal.returns
returns c =
    sym (position_or_len_is is_space_or_tab c.args.bytes.now _ 0 (omega arith) (λ k h. c.loop-place.invariant k (omega arith)) (λ h. absurd (omega arith)))
