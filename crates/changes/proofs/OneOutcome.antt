-- A change leads to one state.
use Rattle.std.proofs.Common.{◌≡◌, ◌++◌, ◌+◌, ◌-◌, ℕ, List, [], ◌∷◌, length, Option, Some, None, refl, sym, ◌∙◌, subst, arith}
use Rattle.std.specs.List.{AllZip}
use Rattle.pylock.specs.Locks.{LockParts}
use Rattle.changes.specs.Changes.{After, ChangeParts, ChangesDigest, ChangesLock, ChangesTarget, ChangesTargets, Splices, on_target}
use Rattle.states.specs.StateParts.{StateParts, digest_of}
use Rattle.changes.specs.declared.change.parts.DigestChange.{DigestChange}
use Rattle.changes.specs.declared.change.parts.Splice.{Splice}
use Rattle.changes.specs.declared.change.parts.TargetChange.{TargetChange}
use Rattle.states.specs.declared.target.Target.{Target}
use Rattle.changes.proofs.ExchangesHaveOneOutcome.{ChangesEntries-one}
use Rattle.changes.proofs.OneTarget.{names-one}
use Rattle.changes.proofs.SplicedFacts.{parts_of}

-- splices lead to one list of lines
Splices-one : (from : ℕ) (splices : List Splice) (old one another : List (List ℕ)) → Splices from splices old one → Splices from splices old another → one ≡ another
Splices-one from [] old one another is also = sym is ∙ also
Splices-one from (splice ∷ rest) old one another is also =
    let place = is.place in
    let place_too = also.place in
    let size : splice.place - from ≡ length is.kept = omega arith in
    let size_too : splice.place - from ≡ length also.kept = omega arith in
    let parts = parts_of (splice.place - from) old is.kept splice.old is.old_rest size is.stood in
    let parts_too = parts_of (splice.place - from) old also.kept splice.old also.old_rest size_too also.stood in
    let kept : is.kept ≡ also.kept = sym parts.0 ∙ parts_too.0 in
    let behind : also.old_rest ≡ is.old_rest = sym parts_too.2 ∙ parts.2 in
    let more : is.new_rest ≡ also.new_rest =
    Splices-one (splice.place + length splice.old) rest is.old_rest is.new_rest also.new_rest is.rest
    (subst (λ (l : List (List ℕ)). Splices (splice.place + length splice.old) rest l also.new_rest) behind also.rest) in
    is.stands ∙ (λ i. kept i ++ splice.new ++ more i) ∙ sym also.stands

-- and the change of a digest to one digest
ChangesDigest-one : (digests : Option DigestChange) (old one another : List ℕ) → ChangesDigest digests old one → ChangesDigest digests old another → one ≡ another
ChangesDigest-one None old one another is also = is ∙ sym also
ChangesDigest-one (Some d) old one another is also = is.1 ∙ sym also.1

pub ChangesLock-one : (change : ChangeParts) (old one another : LockParts) → ChangesLock change old one → ChangesLock change old another → one ≡ another
ChangesLock-one change old one another is also =
    let entries = ChangesEntries-one change.entries old.entries one.entries another.entries is.entries also.entries in
    let snapshot = ChangesDigest-one change.digests old.snapshot one.snapshot another.snapshot is.digest also.digest in
    let environment : one.environment ≡ another.environment = is.environment ∙ sym also.environment in
    λ i. record { environment = environment i; snapshot = snapshot i; entries = entries i }

pub ChangesTarget-one : (change : ChangeParts) (old one another : Target) → ChangesTarget change old one → ChangesTarget change old another → one ≡ another
ChangesTarget-one change old one another is also =
    let name : one.name ≡ another.name = is.same.name ∙ sym also.same.name in
    let environment : one.environment ≡ another.environment = is.same.environment ∙ sym also.same.environment in
    let lock = ChangesLock-one (on_target old.name change) old.lock one.lock another.lock is.lock also.lock in
    λ i. record { name = name i; environment = environment i; lock = lock i }

pub targets-one : (change : ChangeParts) (olds ones others : List Target) → AllZip (ChangesTarget change) olds ones → AllZip (ChangesTarget change) olds others → ones ≡ others
targets-one change [] [] [] all also = refl
targets-one change [] [] (o ∷ others) all also = absurd also
targets-one change [] (t ∷ ones) others all also = absurd all
targets-one change (s ∷ olds) [] others all also = absurd all
targets-one change (s ∷ olds) (t ∷ ones) [] all also = absurd also
targets-one change (s ∷ olds) (t ∷ ones) (o ∷ others) all also =
    let first = ChangesTarget-one change s t o all.0 also.0 in
    let rest = targets-one change olds ones others all.1 also.1 in
    λ i. first i ∷ rest i

-- changes of targets lead to the same ones
targets-alike : (targets : List TargetChange) (change : ChangeParts) (olds ones others : List Target) → ChangesTargets targets change olds ones → ChangesTargets targets change olds others → ones ≡ others
targets-alike [] change olds ones others is also = targets-one change olds ones others is.each also.each
targets-alike (c ∷ targets) change olds ones others is also =
    names-one change olds ones others (ChangesDigest-one change.digests (digest_of olds) (digest_of ones) (digest_of others) is.digest also.digest) is also

pub After-one : (change : ChangeParts) (old one another : StateParts) → After old change one → After old change another → one ≡ another
After-one change old one another is also =
    let lines = Splices-one 0 change.splices old.lines one.lines another.lines is.lines also.lines in
    let targets = targets-alike change.targets change old.targets one.targets another.targets is.targets also.targets in
    λ i. record { lines = lines i; targets = targets i }
