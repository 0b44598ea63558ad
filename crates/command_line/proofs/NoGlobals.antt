-- A command whose shape is plain has no global argument.
use Rattle.std.proofs.Common.{◌≡◌, Bool, true, false, true≢false, refl, sym}
use Rattle.std.specs.Prelude.{◌&&◌, not}

pub no_globals : (one other globals rest : Bool) → (one && (not other && (not globals && rest))) ≡ true → globals ≡ false
no_globals one other false rest is = refl
no_globals true true true rest is = absurd (true≢false (sym is))
no_globals true false true rest is = absurd (true≢false (sym is))
no_globals false other true rest is = absurd (true≢false (sym is))
