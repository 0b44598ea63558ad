use Rattle.std.proofs.Common.{◌≡◌, ◌∙◌, ap, option_to_list}
use Rattle.toml.specs.View.{table_view}
use Rattle.toml.proofs.Views.{view-Table}
use Rattle.toml.specs.Data.{table}
use Rattle.pylock.specs.Joint.{reference_data, reference_table}
use Rattle.pylock.proofs.PackageFacts.{all_pass}
use Rattle.pylock.proofs.WriteFacts.{reference_in_order}
use Rattle.pylock.proofs.joint.ReferenceWritten.to_value.Goals as goal

pub some_value-requires : goal.some_value-requires
some_value-requires c = all_pass (option_to_list c.args.self.now.marker)

pub returns : goal.returns
unfolding reference_data
returns c =
    let whole : table_view c.insert_some-2.new.table ≡ reference_table c.args.self.now =
    rw (
      c.in_ok-insert_some-2.ensures,
      c.in_ok-insert.ensures,
      c.in_ok-insert_some.ensures,
      c.new-table.ensures.empty,
      c.in_ok-version.ensures,
      c.in_ok-name.ensures,
      c.in_ok-marker.ensures,
      c.normal.ensures,
    )
    (reference_in_order _ _ _) in
    view-Table c.insert_some-2.new.table ∙ ap table whole
