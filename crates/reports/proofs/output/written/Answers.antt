use Rattle.std.proofs.Common.{◌∙◌, ◌++◌, take, ap, sym, append_assoc, take-append-drop}
use Rattle.commands.proofs.Batches.{appends_append}
use Rattle.reports.proofs.output.written.Goals as goal

pub loop-rest-preserved : goal.loop-rest-preserved
loop-rest-preserved g c =
    let was = c.loop-rest.invariant in
    let rest = c.loop-rest.rest.now in
    let more = take c.in-Ok.count rest in (
      was.0 ++ more,
      was.1 ∙ ap (λ bytes. was.0 ++ bytes) (sym (take-append-drop c.in-Ok.count rest)) ∙ sym (append_assoc was.0 more _)
          ∙ ap (λ bytes. (was.0 ++ more) ++ bytes) (sym c.split_at.ensures.back),
      appends_append _ _ _ _ _ was.2 c.in-Ok.ensures.bytes,
    )
