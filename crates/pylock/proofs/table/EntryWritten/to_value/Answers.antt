use Rattle.std.proofs.Common.{◌≡◌, ◌∙◌, None, ap}
use Rattle.toml.specs.View.{table_view}
use Rattle.toml.proofs.Views.{view-Table}
use Rattle.toml.specs.Data.{table}
use Rattle.pylock.specs.Tables.{package_data, package_table}
use Rattle.pylock.proofs.PackageFacts.{all_pass}
use Rattle.pylock.proofs.WriteFacts.{before_name}
use Rattle.pylock.proofs.table.EntryWritten.to_value.Goals as goal

pub some_array-requires : goal.some_array-requires
some_array-requires c = all_pass c.dependencies.result.now

pub returns : goal.returns
unfolding package_data
returns c =
    let whole : table_view c.insert_some.new.table ≡ package_table c.args.self.now =
    rw (
      c.in_ok-insert_some.ensures,
      c.in_ok-table.ensures,
      c.in_ok-dependencies.ensures,
      c.dependencies.ensures,
    )
    (before_name _ None _ _) in
    view-Table c.insert_some.new.table ∙ ap table whole
