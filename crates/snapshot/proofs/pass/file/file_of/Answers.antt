use Rattle.std.proofs.Common.{◌≡◌, ◌==◌, true, false, length, sym, ◌∙◌, rules}
use Rattle.json.specs.Value.{value_view}
use Rattle.distributions.specs.Sizes.{is_size}
use Rattle.snapshot.proofs.ReleaseMeaning.{file_means, file_lawful}
use Rattle.snapshot.proofs.pass.file.file_of.Goals as goal

pub returns-clause-meaning : goal.returns-clause-meaning
returns-clause-meaning c =
    let fits : is_size c.in_ok-size.size ≡ true = search rules in
    let some : (length c.as_str.result.now == 0) ≡ false = sym c.is_empty.ensures ∙ c.if-is_empty.false in
    file_means (value_view c.args.value.now) c.in_ok-name.name c.in_ok-url.url c.in_ok-copy_at.field-0 c.in_ok-sha256.sha256 c.in_ok-size.size
    c.in_ok-name.ensures c.in_ok-url.ensures c.in_ok-size.ensures c.in_ok-copy_at.ensures (rw c.as_str.ensures at some) fits (sym c.in_ok-sha256.ensures)

pub returns-clause-lawful : goal.returns-clause-lawful
returns-clause-lawful c =
    let fits : is_size c.in_ok-size.size ≡ true = search rules in
    file_lawful c.in_ok-name.name c.in_ok-url.url c.in_ok-copy_at.field-0 c.in_ok-sha256.sha256 c.in_ok-size.size fits (sym c.in_ok-sha256.ensures)
