use Rattle.std.proofs.Common.{◌≡◌, inl, inr, refl, true}
use Rattle.std.proofs.lemmas.Str.{IsUtf8-from_is_utf8, is_utf8-from_IsUtf8}
use Rattle.std.proofs.lemmas.Bool.{cases_Bool}
use Rattle.std.specs.Str.{is_utf8}
use Rattle.pep508.proofs.Files.{lines_read-joined}
use Rattle.pep508.proofs.file.ReqFile.read.Goals as goal

pub returns-in_default-clause-exact : goal.returns-in_default-clause-exact
returns-in_default-clause-exact c = elim (cases_Bool (is_utf8 c.args.bytes.now)) [
  | inl utf8 ↦ absurd (c.in_default.ensures.cases.0 (IsUtf8-from_is_utf8 _ utf8))
  | inr other ↦ inr (rw other refl)
]

pub returns-clause-exact : goal.returns-clause-exact
returns-clause-exact c =
    let utf8 : is_utf8 c.args.bytes.now ≡ true = is_utf8-from_IsUtf8 _ c.in-Ok.ensures.cases.1 in
    rw utf8 (rw c.in-Ok.ensures.cases.0 at c.read_lines.ensures)

pub returns-clause-whole : goal.returns-clause-whole
returns-clause-whole c = lines_read-joined _ _ (rw c.in-Ok.ensures.cases.0 at c.read_lines.ensures)
