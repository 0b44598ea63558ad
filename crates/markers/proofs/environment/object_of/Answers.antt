use Rattle.std.proofs.Common.{◌≡◌, true, is_some, inr, sym, true≢false}
use Rattle.std.proofs.lemmas.Str.{is_utf8-from_IsUtf8}
use Rattle.serde_json.specs.Find.{as_object}
use Rattle.serde_json.specs.View.{view}
use Rattle.markers.specs.Environment.{object_of}
use Rattle.markers.proofs.EnvironmentFacts.{an_object, no_json}
use Rattle.markers.proofs.environment.object_of.Goals as goal

pub returns-in-Ok : goal.returns-in-Ok
unfolding object_of
returns-in-Ok c =
    let is : is_some (as_object (view c.in-Ok.value)) ≡ true = cc in
    rw (is_utf8-from_IsUtf8 _ c.in-Ok.ensures.ok.0, c.in-Ok.ensures.ok.1) (an_object (view c.in-Ok.value) is)

pub returns-else-is_memory : goal.returns-else-is_memory
returns-else-is_memory c = inr (no_json c.args.bytes.now (c.in-Err.ensures.err (λ memory. true≢false (sym (c.if-is_memory.ensures.1 memory)))))
