use Rattle.std.proofs.Common.{◌≡◌, ◌∙◌, ◌⊎◌, inl, inr, [], Some, None, List, ℕ, ap, sym, subst}
use Rattle.std.specs.BTreeMap.{Updates}
use Rattle.std.specs.Cmp.Lexicographic.{slice_cmp}
use Rattle.std.specs.Ordering.{nat_cmp}
use Rattle.pep508.specs.Requirement.{RequirementParts}
use Rattle.resolve.specs.Tied.Walking.{value_at}
use Rattle.resolve.proofs.OnWay.{waiting-put}
use Rattle.resolve.proofs.walk.wait.Goals as goal
use Rattle.resolve.proofs.walk.wait.Goals.{in-Some, in-None}

pub returns : goal.returns
returns c =
    let wanted = c.args.wanted.now in
    let before : List RequirementParts = c.match-remove.asks in
    let value = rw c.name-name.ensures at c.remove.ensures.value in
    let out = rw c.name-name.ensures at c.remove.ensures.updates in
    let key = c.in_ok-clone.ensures.cases ∙ c.name-name.ensures in
    let back = subst (λ (row : List RequirementParts). Updates (slice_cmp nat_cmp) c.remove.new.self c.insert.new.self wanted.name (Some row)) c.in_ok-push.ensures
    (subst (λ (name : List ℕ). Updates (slice_cmp nat_cmp) c.remove.new.self c.insert.new.self name (Some c.push.new.self)) key c.in_ok-insert.ensures.updates) in
    let row : (value_at c.args.waiting.now.entries wanted.name ≡ Some before) ⊎ ((value_at c.args.waiting.now.entries wanted.name ≡ None) × (before ≡ [])) = elim c.match-remove.branch [
      | in-Some w ↦ inl (sym value ∙ w.in-Some.is ∙ ap (λ asks. Some asks) (sym w.asks-is))
      | in-None w ↦ inr (sym value ∙ w.in-None.is, w.asks-is ∙ w.new-asks.ensures)
    ] in
    waiting-put c.args.waiting.now c.remove.new.self c.insert.new.self wanted before row out back
