use Rattle.edits.proofs.MergesAgree.{merges-agree}
use Rattle.edits.proofs.replace_laws.a_merge_is_the_same_from_both_sides.Goals as goal

pub returns : goal.returns
returns c = merges-agree
