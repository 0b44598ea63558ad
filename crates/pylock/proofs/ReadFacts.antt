-- Reading the parts of a table.
use Rattle.std.proofs.Common.{◌≡◌, ◌≢◌, List, [], ◌∷◌, length, get_or, None, refl, ap, arith}
use Rattle.toml.specs.Data.{as_str}
use Rattle.toml.specs.View.{items_view, view}
use Rattle.toml.specs.declared.value.Value.{Value}
use Rattle.pylock.specs.LockOfTable.{only_text}

pub only_text-one : (vs : List Value) (v : Value) → length vs ≡ 1 → v ≡ get_or vs 0 v → as_str (view v) ≡ only_text (items_view vs)
only_text-one [] v h is = absurd (omega (arith, h))
only_text-one (x ∷ []) v h is = ap (λ w. as_str (view w)) is
only_text-one (x ∷ y ∷ vs) v h is = absurd (omega (arith, h))

pub only_text-other : (vs : List Value) → length vs ≢ 1 → None ≡ only_text (items_view vs)
only_text-other [] h = refl
only_text-other (x ∷ []) h = absurd (h refl)
only_text-other (x ∷ y ∷ vs) h = refl
