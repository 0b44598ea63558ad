use Rattle.std.proofs.Common.{◌∙◌, ap}
use Rattle.exports.specs.Tied.JointPackages.{alternatives}
use Rattle.exports.proofs.joint_marker.marker_with.Goals as goal

pub returns : goal.returns
returns c = record {
  lacks = c.do_all_have.ensures.lacks c.if-do_all_have.false;
  texts = c.in_ok-texts.texts;
  are = c.in_ok-texts.ensures;
  told = c.in_ok-alternatives.ensures ∙ ap alternatives c.as_slice.ensures;
}
