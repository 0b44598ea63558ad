use Rattle.std.proofs.Common.{◌≡◌, ◌∙◌, ℕ, [], List, Some, ap, subst, sym}
use Rattle.std.specs.BTreeMap.{Updates}
use Rattle.std.specs.Cmp.Lexicographic.{slice_cmp}
use Rattle.std.specs.Option.{option_map_or}
use Rattle.std.specs.Ordering.{nat_cmp}
use Rattle.problems.specs.Tied.ByExtra.{listed_for}
use Rattle.problems.proofs.ListedPlaces.{listed-put}
use Rattle.problems.proofs.by_extra.list.Goals as goal
use Rattle.problems.proofs.by_extra.list.Goals.{in-Some, in-None}

pub returns : goal.returns
returns c = λ other.
    let before : List ℕ = c.match-remove.listed in
    let was : before ≡ listed_for c.args.named.now c.args.extra.now = elim c.match-remove.branch [
      | in-Some w ↦ w.listed-is ∙ ap (λ o. option_map_or (λ listed. listed) o []) (sym w.in-Some.is ∙ c.remove.ensures.value)
      | in-None w ↦ w.listed-is ∙ w.new-listed.ensures ∙ ap (λ o. option_map_or (λ listed. listed) o []) (sym w.in-None.is ∙ c.remove.ensures.value)
    ] in
    let key = subst (λ extra. Updates (slice_cmp nat_cmp) c.remove.new.self c.insert.new.self extra (Some c.put_last.new.listed)) c.in_ok-clone.ensures.cases c.in_ok-insert.ensures.updates in
    let back = subst (λ listed. Updates (slice_cmp nat_cmp) c.remove.new.self c.insert.new.self c.args.extra.now (Some listed)) c.in_ok-put_last.ensures key in
    listed-put c.args.named.now c.remove.new.self c.insert.new.self c.args.extra.now c.args.place before was c.remove.ensures.updates back other
