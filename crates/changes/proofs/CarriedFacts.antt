-- Where a change leads, as a function.
use Rattle.std.proofs.Common.{◌≡◌, ◌++◌, ◌+◌, ◌-◌, ℕ, List, [], ◌∷◌, length, map, take, drop, Option, Some, None, refl, sym, ap, ◌∙◌, arith}
use Rattle.std.specs.List.{AllZip}
use Rattle.changes.specs.Changes.{After, AreMinimalChanges, ChangeParts, ChangesDigest, ChangesTarget, ChangesTargets, IsMinimal, Splices, changes_on}
use Rattle.states.specs.StateParts.{StateParts, digest_of}
use Rattle.changes.specs.Tied.Carried.{carried, carried_digest, carried_lines, carried_target, carried_targets}
use Rattle.changes.specs.Tied.Retargeted.{carried_on, names_met, on_names}
use Rattle.changes.specs.declared.change.parts.DigestChange.{DigestChange}
use Rattle.changes.specs.declared.change.parts.Splice.{Splice}
use Rattle.changes.specs.declared.change.parts.TargetChange.{TargetChange}
use Rattle.states.specs.declared.target.Target.{Target}
use Rattle.changes.proofs.EntriesCarried.{entries-carried}
use Rattle.changes.proofs.OneTarget.{names-carried}
use Rattle.changes.proofs.SplicedFacts.{parts_of}
use Rattle.changes.proofs.TargetChanges.{AreEntryChanges-on}

lines-carried : (from : ℕ) (splices : List Splice) (old new : List (List ℕ)) → Splices from splices old new → new ≡ carried_lines from splices old
lines-carried from [] old new is = sym is
lines-carried from (splice ∷ rest) old new is =
    let place = is.place in
    let size : splice.place - from ≡ length is.kept = omega arith in
    let parts = parts_of (splice.place - from) old is.kept splice.old is.old_rest size is.stood in
    let front : is.kept ≡ take (splice.place - from) old = sym parts.0 in
    let behind : is.new_rest ≡ carried_lines (splice.place + length splice.old) rest (drop (splice.place - from + length splice.old) old) =
    lines-carried (splice.place + length splice.old) rest is.old_rest is.new_rest is.rest ∙ ap (carried_lines (splice.place + length splice.old) rest) (sym parts.2) in
    is.stands ∙ (λ i. front i ++ splice.new ++ behind i)

pub digest-carried : (digests : Option DigestChange) (old new : List ℕ) → ChangesDigest digests old new → new ≡ carried_digest digests old
digest-carried None old new is = is
digest-carried (Some d) old new is = is.1

target-carried : (change : ChangeParts) (old new : Target) → AreMinimalChanges change.entries → ChangesTarget change old new → new ≡ carried_target change old
target-carried change old new minimal is =
    let own = changes_on old.name change.entries in
    let entries = entries-carried own old.lock.entries new.lock.entries (AreEntryChanges-on old.name change.entries minimal) is.lock.entries in
    let snapshot = digest-carried change.digests old.lock.snapshot new.lock.snapshot is.lock.digest in
    let text = is.lock.environment in
    let name = is.same.name in
    let environment = is.same.environment in
    λ i. record { name = name i; environment = environment i; lock = record { environment = text i; snapshot = snapshot i; entries = entries i } }

each-carried : (change : ChangeParts) (olds news : List Target) → AreMinimalChanges change.entries → AllZip (ChangesTarget change) olds news → news ≡ map (carried_target change) olds
each-carried change [] [] minimal all = refl
each-carried change [] (t ∷ news) minimal all = absurd all
each-carried change (s ∷ olds) [] minimal all = absurd all
each-carried change (s ∷ olds) (t ∷ news) minimal all =
    let first = target-carried change s t minimal all.0 in
    let rest = each-carried change olds news minimal all.1 in
    λ i. first i ∷ rest i

targets-carried : (targets : List TargetChange) (change : ChangeParts) (olds news : List Target) → AreMinimalChanges change.entries → ChangesTargets targets change olds news
    → news ≡ carried_targets targets change olds
targets-carried [] change olds news minimal is = each-carried change olds news minimal is.each
targets-carried (c ∷ targets) change olds news minimal is =
    names-carried change olds news minimal is
    ∙ ap (λ (d : List ℕ). on_names (carried_on change d olds) (names_met change olds)) (digest-carried change.digests (digest_of olds) (digest_of news) is.digest)

-- where a minimal change leads
pub After-carried : (change : ChangeParts) (old new : StateParts) → IsMinimal change → After old change new → new ≡ carried old change
After-carried change old new minimal is =
    let lines = lines-carried 0 change.splices old.lines new.lines is.lines in
    let targets = targets-carried change.targets change old.targets new.targets minimal.entries is.targets in
    λ i. record { lines = lines i; targets = targets i }
