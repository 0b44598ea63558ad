-- A pool over an index that was read.
use Rattle.std.proofs.Common.{◌≡◌, ℕ, Bool, List, subst, sym}
use Rattle.inputs.specs.Handed.{Handed, IsIndexAt}
use Rattle.journal.specs.Values.{Pool, Snapshot}
use Rattle.calls.specs.Pools.{IsPoolFor}

pub pool-for : (handed : Handed) (path : List ℕ) (keeps : Bool) (index : Snapshot) (pool : Pool) → IsIndexAt handed path index → pool.index ≡ index → pool.only_kept ≡ keeps → IsPoolFor handed path keeps pool
pool-for handed path keeps index pool at is kept = (subst (λ (i : Snapshot). IsIndexAt handed path i) (sym is) at, kept)
