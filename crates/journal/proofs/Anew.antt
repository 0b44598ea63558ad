-- A step that is worked out anew leaves the past as it is. Must-fail edits cite this, so that their bodies are refused for the changes
-- alone; nothing else does.
use Rattle.std.proofs.Common.{◌≡◌, ℕ, suc, zero, ◌+◌, ◌-◌, ◌<◌, List, [], ◌∷◌, ◌++◌, length, take, Some, sym, ap, ◌∙◌, arith}
use Rattle.std.specs.Prelude.{slice_get}
use Rattle.journal.specs.Values.{State}
use Rattle.journal.specs.Past.{Past, moved, present, pushed}

last-again : (states : List State) (k : ℕ) (state : State) → slice_get states k ≡ Some state → length states ≡ k + 1 → take k states ++ state ∷ [] ≡ states
last-again [] k state at count = absurd cc
last-again (s ∷ []) zero state at count = let same : s ≡ state = cc in ap (λ (t : State). t ∷ []) (sym same)
last-again (s ∷ t ∷ states) zero state at count = absurd (omega (arith, count))
last-again (s ∷ states) (suc k) state at count = ap (λ (l : List State). s ∷ l) (last-again states k state at (omega (arith, count)))

-- the last state, put again behind the one before it
pub pushed_again : (past : Past) (state : State) → 0 < past.cursor → length past.states ≡ past.cursor + 1 → present past ≡ Some state → pushed (moved past (past.cursor - 1)) state ≡ past
pushed_again past state some count at =
    let here : (past.cursor - 1) + 1 ≡ past.cursor = omega (arith, some) in
    (λ i. record { states = take (here i) past.states ++ state ∷ []; cursor = here i }) ∙ (λ i. record { states = last-again past.states past.cursor state at count i; cursor = past.cursor })
