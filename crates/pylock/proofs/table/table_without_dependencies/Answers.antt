use Rattle.pylock.proofs.PackageFacts.{sdist_fit, wheels_fit}
use Rattle.toml.proofs.Views.{view-String}
use Rattle.pylock.proofs.WriteFacts.{entry_in_order}
use Rattle.pylock.proofs.table.table_without_dependencies.Goals as goal

pub some_value-requires : goal.some_value-requires
some_value-requires c = rw c.sdist.ensures (sdist_fit c.args.entry.now c.recall_invariant.ensures.parts)

pub some_array-requires : goal.some_array-requires
some_array-requires c = rw c.wheels.ensures (wheels_fit c.args.entry.now c.recall_invariant.ensures.parts)

pub returns : goal.returns
returns c =
    rw (
      c.in_ok-insert_some-3.ensures,
      c.in_ok-insert-2.ensures,
      c.in_ok-insert_some-2.ensures,
      c.in_ok-insert_some.ensures,
      c.in_ok-insert.ensures,
      c.new-table.ensures.empty,
      c.in_ok-some_array.ensures,
      c.in_ok-some_value.ensures,
      c.in_ok-requires_python.ensures,
      c.in_ok-text_value.ensures,
      view-String,
      c.in_ok-version.ensures,
      c.wheels.ensures,
      c.version.ensures,
      c.sdist.ensures,
      c.requires_python.ensures,
      c.normal.ensures,
      c.name.ensures,
    )
    (entry_in_order _ _ _ _ _)
