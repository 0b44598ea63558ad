use Rattle.std.proofs.Common.{sym}
use Rattle.markers.proofs.NormalForms.{normal_is_normal}
use Rattle.markers.proofs.name.Name.read.Goals as goal

pub invariant_of-result : goal.invariant_of-result
invariant_of-result c =
    let is_name = sym (rw c.as_bytes.ensures.value at c.if-not-is_name.ensures) in
    rw (c.from_string.ensures, c.in_ok-normal.ensures, c.as_bytes-2.ensures.value) (normal_is_normal c.args.text.now is_name)
