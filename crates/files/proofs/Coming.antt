-- Targets that come.
use Rattle.std.proofs.Common.{◌≡◌, ◌∙◌, ℕ, ◌<◌, Bor, List, get_or, length, map, Some, ap, sym}
use Rattle.std.specs.List.{Contains}
use Rattle.std.proofs.lemmas.List.{get_or-map, length-map}
use Rattle.journal.specs.Changes.{HistoryParts}
use Rattle.journal.specs.Past.{present}
use Rattle.journal.specs.Values.{State, Target}
use Rattle.files.specs.TargetLocks.{IsOfComing, coming}

among_mapped : {A B : Type 0} (f : A → B) (xs : List A) (x : A) → Contains xs x → Contains (map f xs) (f x)
among_mapped f xs x among = (among.0, rw (length-map xs f) among.1, get_or-map f xs among.0 x (f x) among.1 ∙ ap f among.2)

-- one that stands at a place of those that come
pub is-of-coming : (before : List (List ℕ)) (history : HistoryParts) (state : State) (lent : List (Bor Target)) (place : ℕ) (target : Bor Target) (name : List ℕ) → present history.past ≡ Some state
    → map (λ t. t.now) lent ≡ coming before state.targets → place < length lent → target ≡ get_or lent place target → name ≡ target.now.name → IsOfComing before history (Some name)
is-of-coming before history state lent place target name there come within at named =
    let found : Contains (coming before state.targets) target.now = rw (sym come) (among_mapped (λ t. t.now) lent target (place, within, sym at)) in
    rw (there, named) (among_mapped (λ (t : Target). t.name) (coming before state.targets) target.now found)
