use Rattle.std.proofs.Common.{◌≡◌, ◌∙◌, ap, option_to_list}
use Rattle.toml.specs.View.{table_view}
use Rattle.toml.proofs.Views.{view-Table}
use Rattle.toml.specs.Data.{table}
use Rattle.pylock.specs.Joint.{joint_package_data, joint_package_table}
use Rattle.pylock.proofs.PackageFacts.{all_pass}
use Rattle.pylock.proofs.WriteFacts.{before_name}
use Rattle.pylock.proofs.joint.JointPackageWritten.to_value.Goals as goal

pub some_value-requires : goal.some_value-requires
some_value-requires c = all_pass (option_to_list c.args.self.now.marker)

pub some_array-requires : goal.some_array-requires
some_array-requires c = all_pass c.as_slice.result.now

pub returns : goal.returns
unfolding joint_package_data
returns c =
    let whole : table_view c.insert_some-2.new.table ≡ joint_package_table c.args.self.now =
    rw (
      c.in_ok-insert_some-2.ensures,
      c.in_ok-insert_some.ensures,
      c.in_ok-table.ensures,
      c.in_ok-needs.ensures,
      c.in_ok-environments.ensures,
      c.as_slice.ensures,
    )
    (before_name _ _ _ _) in
    view-Table c.insert_some-2.new.table ∙ ap table whole
