-- What is known of a release: each text beside its requirement.
use Rattle.std.proofs.Common.{◌≡◌, ℕ, zero, suc, List, [], ◌∷◌, Some, Result, Ok, Err}
use Rattle.std.specs.List.{slice_get}
use Rattle.markers.specs.declared.fault.Cause.{Cause}
use Rattle.pep508.specs.Requirement.{RequirementParts, requirement_text}
use Rattle.snapshot.specs.Releases.{required_at, requirements_from}
use Rattle.snapshot.proofs.SeveralSteps.{both, ok-inside}

-- a requirement that was read at a place
at-any-place : (place : ℕ) (read : Result RequirementParts Cause) (w : RequirementParts) → required_at place read ≡ Ok w → read ≡ Ok w
at-any-place place (Ok x) w e = cc
at-any-place place (Err cause) w e = absurd cc

-- the requirement at a place is that of the text there
pub known-there : (place : ℕ) (texts : List (List ℕ)) (wanted : List RequirementParts) (i : ℕ) (t : List ℕ) (w : RequirementParts)
    → requirements_from place texts ≡ Ok wanted → slice_get texts i ≡ Some t → slice_get wanted i ≡ Some w → requirement_text t ≡ Ok w
unfolding requirements_from
known-there place [] wanted i t w read text there = absurd cc
known-there place (first ∷ texts) wanted zero t w read text there =
    let one = both (required_at place (requirement_text first)) _ wanted read in
    let rest = both (requirements_from (suc place) texts) _ wanted one.then in
    let all : one.first ∷ rest.first ≡ wanted = ok-inside _ _ rest.then in
    let same : first ≡ t = cc in
    let here : slice_get (one.first ∷ rest.first) zero ≡ Some w = rw (← all) at there in
    let found : one.first ≡ w = cc in
    rw (← same, ← found) (at-any-place place (requirement_text first) one.first one.is)
known-there place (first ∷ texts) wanted (suc i) t w read text there =
    let one = both (required_at place (requirement_text first)) _ wanted read in
    let rest = both (requirements_from (suc place) texts) _ wanted one.then in
    let all : one.first ∷ rest.first ≡ wanted = ok-inside _ _ rest.then in
    let others : slice_get rest.first i ≡ Some w = rw (← all) at there in
    known-there (suc place) texts rest.first i t w rest.is text others
