-- Runs, a step longer.
use Rattle.std.specs.Prelude.{ℕ, ◌≡◌, ◌+◌, ◌<◌, List, [], ◌∷◌, ◌++◌, length, map, take, refl}
use Rattle.std.proofs.Common.{◌∙◌, ap, get_or, subst, sym}
use Rattle.std.proofs.lemmas.List.{take_more, map-append}
use Rattle.journal.specs.declared.commands.Reply.{Reply}
use Rattle.journal.specs.declared.commands.Reply.TheVariants.{Refused}
use Rattle.journal.specs.Values.{Refusal}
use Rattle.journal.specs.Changes.{HistoryParts}
use Rattle.journal.specs.Commands.{Asked, Editing, Undoing, Redoing}
use Rattle.journal.specs.Histories.{ChangesAfter, RunWithChanges}
use Rattle.journal.specs.Steps.{Step, Run}

-- a run with changes is a run
pub Run-of : (old : HistoryParts) (asked : List Asked) (replies : List Reply) (new : HistoryParts) → RunWithChanges old asked replies new → Run old.past asked replies new.past
Run-of old [] [] new done = ap (λ (h : HistoryParts). h.past) done
Run-of old (asked ∷ more) (reply ∷ replies) new done = (done.0.past, done.1, Run-of done.0 more replies new done.3)
Run-of old [] (reply ∷ replies) new done = absurd done
Run-of old (asked ∷ more) [] new done = absurd done

-- a run and one more step are a run
Run-append : (old : HistoryParts) (asked : List Asked) (replies : List Reply) (next : HistoryParts) (one : Asked) (reply : Reply) (new : HistoryParts)
    → RunWithChanges old asked replies next → Step next.past one reply new.past → ChangesAfter next one reply new → RunWithChanges old (asked ++ one ∷ []) (replies ++ reply ∷ []) new
Run-append old [] [] next one reply new done step changes =
    subst (λ (from : HistoryParts). RunWithChanges from (one ∷ []) (reply ∷ []) new) done (new, step, changes, refl)
Run-append old (asked ∷ more) (first ∷ replies) next one reply new done step changes =
    (done.0, done.1, done.2, Run-append done.0 more replies next one reply new done.3 step changes)
Run-append old [] (first ∷ replies) next one reply new done step changes = absurd done
Run-append old (asked ∷ more) [] next one reply new done step changes = absurd done

-- one more item of a list, mapped
map_take_more : {X : Type 0} (f : X → Asked) (xs : List X) (i : ℕ) (x : X) → i < length xs → x ≡ get_or xs i x → map f (take (i + 1) xs) ≡ map f (take i xs) ++ f x ∷ []
map_take_more f xs i x below is =
    ap (map f) (take_more xs i x below ∙ ap (λ y. take i xs ++ y ∷ []) (sym is)) ∙ map-append f (take i xs) (x ∷ [])

-- a run over the first items of a list, and one more step, are a run over one item more
pub Run-more : {X : Type 0} (f : X → Asked) (xs : List X) (i : ℕ) (x : X) (old next new : HistoryParts) (replies : List Reply) (reply : Reply) → i < length xs → x ≡ get_or xs i x
    → RunWithChanges old (map f (take i xs)) replies next → Step next.past (f x) reply new.past → ChangesAfter next (f x) reply new
    → RunWithChanges old (map f (take (i + 1) xs)) (replies ++ reply ∷ []) new
Run-more f xs i x old next new replies reply below is done step changes =
    subst (λ asked. RunWithChanges old asked (replies ++ reply ∷ []) new) (sym (map_take_more f xs i x below is))
    (Run-append old (map f (take i xs)) replies next (f x) reply new done step changes)

kept_by : (old new : HistoryParts) (asked : Asked) (refusal : Refusal) → Step old.past asked (Refused refusal) new.past → ChangesAfter old asked (Refused refusal) new → new ≡ old
kept_by old new (Editing edit pool) refusal step changes = λ i. record { past = step.1 i; changes = changes i }
kept_by old new Undoing refusal step changes = λ i. record { past = step.1 i; changes = changes i }
kept_by old new Redoing refusal step changes = λ i. record { past = step.1 i; changes = changes i }

-- a refused command leaves states, cursor and changes
pub refused-kept : (old new : HistoryParts) (asked : Asked) (reply : Reply) (refusal : Refusal) → Step old.past asked reply new.past → ChangesAfter old asked reply new → reply ≡ Refused refusal → new ≡ old
refused-kept old new asked reply refusal step changes is =
    kept_by old new asked refusal (subst (λ (r : Reply). Step old.past asked r new.past) is step) (subst (λ (r : Reply). ChangesAfter old asked r new) is changes)
