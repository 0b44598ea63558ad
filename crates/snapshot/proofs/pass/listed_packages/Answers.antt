use Rattle.std.proofs.Common.{◌≡◌, ◌<◌, Some, length, subst}
use Rattle.json.specs.Json.{value}
use Rattle.serde_json.specs.Read.{converted, of_json}
use Rattle.snapshot.specs.declared.package.ReadPackages.{ReadPackages}
use Rattle.snapshot.proofs.GrammarFacts.{all_read, none_read, one_read}
use Rattle.snapshot.proofs.pass.listed_packages.Goals as goal

pub packages-init : goal.packages-init
packages-init c = rw (c.new-packages.ensures.items, c.new-all_skipped.ensures.items) (none_read c.args.reader.now)

pub packages-preserved : goal.packages-preserved
packages-preserved c =
    let going = c.packages-test.ensures in
    let means = c.in_ok-kept.ensures.meaning in
    let r = c.next_package.new.reader in
    let so_far : ReadPackages = record { packages = c.packages.packages.items; skipped = c.packages.all_skipped.items } in
    rw (c.in-Ok.ensures.items, c.in-Ok-append.ensures.items, c.into_vec.ensures)
    (one_read c.args.reader.now c.packages.reader r so_far c.in_ok-kept.field-0 means.0 c.packages.invariant going.0
    (subst (λ ts. converted of_json (value 125 ts) ≡ Some (means.0, r)) going.1 means.1) means.2
    (subst (λ ts. length r < length ts) going.1 c.in_ok-kept.ensures.shorter))

pub returns : goal.returns
returns c =
    let so_far : ReadPackages = record { packages = c.packages.packages.items; skipped = c.packages.all_skipped.items } in
    rw (c.from_vec.ensures, c.from_vec-2.ensures) (all_read c.args.reader.now c.packages.reader c.take_end_array.new.self so_far c.packages.invariant c.packages-test.ensures)
