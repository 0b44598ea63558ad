use Rattle.std.proofs.Common.{◌≡◌, ◌∙◌, ℕ, List, Option, inr, ap, sym, subst}
use Rattle.std.proofs.lemmas.List.{get_or_default}
use Rattle.std.specs.Prelude.{IsSomeAnd}
use Rattle.states.specs.declared.refusal.Refusal.TheVariants.{DuplicateTarget}
use Rattle.inputs.specs.declared.fault.Fault.TheVariants as faults
use Rattle.inputs.proofs.TargetFacts.{is_new, is_old, repeated-here, repeated-more}
use Rattle.inputs.proofs.target_files.refuse_twice.Goals as goal

pub returns-then-not-branch-clause-refused : goal.returns-then-not-branch-clause-refused
returns-then-not-branch-clause-refused c =
    let file = c.index-files-place.result in
    let files = c.args.files.now in
    let name = c.in_ok-name.ensures.cases ∙ ap (λ f. f.name) (sym c.index-files-place.is) in
    let old = is_old _ (sym c.in_ok-insert.ensures.added ∙ c.if-not-branch.true) in
    let found = sym c.loop-place.invariant ∙ repeated-here c.loop-place.names.keys files c.loop-place.place file c.loop-place-test.true (sym c.index-files-place.is) (rw name at old) in
    let again = c.index-files-place-then-not-branch.result in
    let same = c.index-files-place-then-not-branch.is ∙ get_or_default files c.loop-place.place again file c.loop-place-test.true ∙ sym c.index-files-place.is in
    let told = ap (λ n. faults.Refused (DuplicateTarget n)) (c.in_ok-name-2.ensures.cases ∙ ap (λ f. f.name) (sym c.index-files-place-then-not-branch.is ∙ same)) in
    let P : Option (List ℕ) → Type 0 = λ found. IsSomeAnd found (λ name. faults.Refused (DuplicateTarget c.in_ok-name-2.name) ≡ faults.Refused (DuplicateTarget name)) in
    inr (subst P (sym found) told)

pub loop-place-preserved : goal.loop-place-preserved
loop-place-preserved c =
    let file = c.index-files-place.result in
    let files = c.args.files.now in
    let name = c.in_ok-name.ensures.cases ∙ ap (λ f. f.name) (sym c.index-files-place.is) in
    let new = is_new _ (sym c.in_ok-insert.ensures.added ∙ c.if-not-branch.false) in
    let more = repeated-more c.loop-place.names.keys files c.loop-place.place file c.loop-place-test.true (sym c.index-files-place.is) (rw name at new) in
    rw (c.in_ok-insert.ensures.keys, name) (sym more ∙ c.loop-place.invariant)
