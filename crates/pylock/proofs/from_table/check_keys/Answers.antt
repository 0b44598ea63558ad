use Rattle.std.proofs.Common.{◌≡◌, Some, None, refl, sym, inl, inr}
use Rattle.toml.specs.View.{table_view}
use Rattle.pylock.specs.Forms.{unknown_in}
use Rattle.pylock.specs.LockOfTable.{lock_keys}
use Rattle.pylock.proofs.from_table.check_keys.Goals as goal

pub returns-in-Some : goal.returns-in-Some
returns-in-Some c =
    let found : unknown_in lock_keys (table_view c.args.table.now) ≡ Some c.in-Some.key.now = sym c.in-Some.ensures in
    elim c.fault_at.ensures [
      | inl memory ↦ inl memory
      | inr fault ↦ inr (rw (found, fault) refl)
    ]

pub returns-in-None : goal.returns-in-None
returns-in-None c =
    let none : unknown_in lock_keys (table_view c.args.table.now) ≡ None = sym c.in-None.ensures in
    rw none refl
