use Rattle.std.proofs.Common.{ℕ, Option, List, Bool, ◌≡◌, true, false, refl, sym, ◌∙◌, subst}
use Rattle.std.specs.List.{list_any}
use Rattle.std.specs.Ordering.{nat_cmp}
use Rattle.search.proofs.Clashes.{required-fits, fits-complete}
use Rattle.plain_search.proofs.Refuted.{required-refuted}
use Rattle.search.proofs.Least.{least-next}
use Rattle.search.proofs.WhatIsLeft.{table-lawful}
use Rattle.search.specs.declared.front.Front.{Front}
use Rattle.search.specs.declared.parts.Frame.{Frame}
use Rattle.plain_search.specs.declared.backtracking.Step.TheVariants.{Complete, Entered, Refuted}
use Rattle.search.specs.Tied.Front.{IsFrontOf}
use Rattle.search.specs.Tied.Search.{pins_of, AreNeeded, AreRequired, NoneFree, IsLeastFree, clash_in, taken_at}
use Rattle.search.specs.Solutions.{version_pinned}
use Rattle.search.specs.Table.{TableParts, rules_of}
use Rattle.plain_search.proofs.backtracking.advance.Goals as goal

-- the facts of a front, at the map of the frames
map-same : (t : TableParts) (fs : List Frame) (front : Front) → IsFrontOf t fs front → taken_at front.taken.items ≡ version_pinned nat_cmp (pins_of fs)
map-same t fs front h = λ i n. h.same n i

needed : (t : TableParts) (fs : List Frame) (front : Front) → IsFrontOf t fs front → AreNeeded (rules_of t) (version_pinned nat_cmp (pins_of fs)) front.needed.members
needed t fs front h = subst (λ (s : ℕ → Option ℕ). AreNeeded (rules_of t) s front.needed.members) (map-same t fs front h) h.stands.needed

required : (t : TableParts) (fs : List Frame) (front : Front) → IsFrontOf t fs front → AreRequired (rules_of t) (version_pinned nat_cmp (pins_of fs)) front.required.members
required t fs front h = subst (λ (s : ℕ → Option ℕ). AreRequired (rules_of t) s front.required.members) (map-same t fs front h) h.stands.required

clash : (t : TableParts) (fs : List Frame) (front : Front) (h : IsFrontOf t fs front) (b : Bool) → front.clashes ≡ b → list_any (clash_in (rules_of t) (version_pinned nat_cmp (pins_of fs))) front.required.members ≡ b
clash t fs front h b e = subst (λ (s : ℕ → Option ℕ). list_any (clash_in (rules_of t) s) front.required.members ≡ b) (map-same t fs front h) (sym h.stands.clashes ∙ e)

pub returns-then-clashes-clause-step : goal.returns-then-clashes-clause-step
returns-then-clashes-clause-step c =
    let t : TableParts = c.args.table.now in let fs : List Frame = c.args.frames.now.items in let front : Front = c.args.front.now in
    (refl, required-refuted (rules_of t) (pins_of fs) front.required.members (required t fs front c.requires.stands) (clash t fs front c.requires.stands true (sym c.clashes.ensures ∙ c.if-clashes.true)))

pub returns-then-clashes-clause-stands : goal.returns-then-clashes-clause-stands
returns-then-clashes-clause-stands c = λ e. absurd (let k : Refuted ≡ Entered = e in cc)

pub least_free-requires : goal.least_free-requires
least_free-requires c = c.requires.stands.stands

pub enter-requires-clause-fits : goal.enter-requires-clause-fits
enter-requires-clause-fits c = sym c.clashes.ensures ∙ c.if-clashes.false

pub enter-requires-clause-next : goal.enter-requires-clause-next
enter-requires-clause-next c =
    let t : TableParts = c.args.table.now in let fs : List Frame = c.args.frames.now.items in let front : Front = c.args.front.now in
    least-next (rules_of t) refl (pins_of fs) front.needed.members c.in-Some.name (needed t fs front c.requires.stands)
    (subst (λ (s : ℕ → Option ℕ). IsLeastFree (rules_of t) s front.needed.members c.in-Some.name) (map-same t fs front c.requires.stands) c.in-Some.ensures)

pub returns-in-None-clause-step : goal.returns-in-None-clause-step
returns-in-None-clause-step c =
    let t : TableParts = c.args.table.now in let fs : List Frame = c.args.frames.now.items in let front : Front = c.args.front.now in
    let map : ℕ → Option ℕ = version_pinned nat_cmp (pins_of fs) in (
      refl,
      fits-complete (rules_of t) (table-lawful t c.requires.known) map front.needed.members (needed t fs front c.requires.stands)
          (required-fits (rules_of t) map front.required.members (required t fs front c.requires.stands) (clash t fs front c.requires.stands false (sym c.clashes.ensures ∙ c.if-clashes.false)))
          (subst (λ (s : ℕ → Option ℕ). NoneFree (rules_of t) s front.needed.members) (map-same t fs front c.requires.stands) c.in-None.ensures),
    )

pub returns-in-None-clause-stands : goal.returns-in-None-clause-stands
returns-in-None-clause-stands c = λ e. absurd (let k : Complete ≡ Entered = e in cc)

pub returns-in-Some-clause-step : goal.returns-in-Some-clause-step
returns-in-Some-clause-step c = c.enter.ensures.step

pub returns-in-Some-clause-stands : goal.returns-in-Some-clause-stands
returns-in-Some-clause-stands c = c.enter.ensures.stands
