use Rattle.std.proofs.Common.{◌∙◌, sym, ap, Ok, List, ℕ, arith}
use Rattle.std.proofs.lemmas.Grind.{common_steps}
use Rattle.pep440.specs.declared.parts.LocalPart.{LocalPart}
use Rattle.std.proofs.lemmas.Result.{err_from_is_err_and}
use Rattle.pep440.specs.Tied.Reading.{parts_in}
use Rattle.pep440.specs.Tied.Views.{span_view}
use Rattle.pep440.proofs.VersionFacts.{PartsRead, local-fault, version-lawful, version-made}
use Rattle.pep440.proofs.reading.version_of_spans.Goals as goal

pub returns-in_err-local : goal.returns-in_err-local
returns-in_err-local c =
    let p = err_from_is_err_and c.from_residual-in_err-local.result c.from_residual-in_err-local.ensures.1 in
    rw (p.1, p.2) (local-fault c.in_err-local.field-0.0 (parts_in (span_view c.args.spans.now)) c.in_err-local.ensures)

read : (c : goal.After-from_vec-2) → PartsRead (span_view c.args.spans.now) (record { epoch = c.in_ok-epoch.epoch; release = c.from_vec.result; pre = c.in_ok-pre.pre; post = c.in_ok-post.post; dev = c.in_ok-dev.dev; local = c.from_vec-2.result })
read c = record {
  epoch = sym c.in_ok-epoch.ensures;
  release = c.in_ok-release.ensures ∙ ap (λ (ns : List ℕ). Ok ns) (sym c.from_vec.ensures);
  pre = sym c.in_ok-pre.ensures;
  post = sym c.in_ok-post.ensures;
  dev = sym c.in_ok-dev.ensures;
  local = c.in_ok-local.ensures ∙ ap (λ (ps : List LocalPart). Ok ps) (sym c.from_vec-2.ensures);
}

pub invariant_of-result : goal.invariant_of-result
invariant_of-result c = version-lawful (span_view c.args.spans.now) _ c.requires (read c)

pub returns : goal.returns
returns c = version-made (span_view c.args.spans.now) _ (read c)

pub returns-in_err-pre : goal.returns-in_err-pre
returns-in_err-pre c = grind (arith, common_steps)

pub returns-in_err-post : goal.returns-in_err-post
returns-in_err-post c = grind (arith, common_steps)

pub returns-in_err-dev : goal.returns-in_err-dev
returns-in_err-dev c = grind (arith, common_steps)

pub returns-in_err-release : goal.returns-in_err-release
returns-in_err-release c = grind (arith, common_steps)
