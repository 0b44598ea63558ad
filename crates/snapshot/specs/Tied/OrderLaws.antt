-- The laws of the orders of releases and of files.
-- Tied to `newer_cmp` and `name_cmp` by the impls of `Ord`; need not be read.
use Rattle.std.specs.Cmp.{IsTotalOrder, back_total, on_total}
use Rattle.std.specs.Cmp.Lexicographic.{nat_list_cmp_total}
use Rattle.pep440.specs.Tied.OrderLaws.{version_total}
use Rattle.snapshot.specs.Files.{name_cmp}
use Rattle.snapshot.specs.Releases.{newer_cmp}

pub newer_total : IsTotalOrder newer_cmp
newer_total = on_total (λ r. r.version) (back_total version_total)

pub name_total : IsTotalOrder name_cmp
name_total = on_total (λ f. f.name) nat_list_cmp_total
