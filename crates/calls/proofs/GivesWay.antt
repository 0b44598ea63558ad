-- Where a read may fail, files may give way.
use Rattle.std.proofs.Common.{inl}
use Rattle.calls.specs.AskedEdits.{MayGiveWay}
use Rattle.command_line.specs.declared.invocation.AskedEdit.{AskedEdit}
use Rattle.command_line.specs.declared.invocation.AskedEdit.TheVariants.{Replace, Retarget, Typed}

pub may_give_way : (asked : AskedEdit) (may_fail : Type 0) → may_fail → MayGiveWay asked may_fail
may_give_way (Typed typed) may_fail may = may
may_give_way (Replace replacement) may_fail may = inl may
may_give_way (Retarget targets) may_fail may = may
