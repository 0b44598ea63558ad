use Rattle.std.proofs.Common.{ℕ, Option, List, ◌<◌, ◌≡◌, [], sym, ◌∙◌, ap, subst, length, rules}
use Rattle.std.specs.Ordering.{nat_cmp}
use Rattle.lists.proofs.Members.{Contains-nil}
use Rattle.search.proofs.Stack.{search-best}
use Rattle.search.proofs.WhatIsLeft.{frames-known, table-lawful}
use Rattle.plain_search.proofs.WorkLeft.{work_of, work-push, work-forward}
use Rattle.search.specs.declared.parts.Frame.{Frame}
use Rattle.plain_search.specs.declared.backtracking.Step.TheVariants.{Complete, Entered, Refuted}
use Rattle.search.specs.Table.{rules_of, place_in}
use Rattle.search.specs.Solutions.{IsBest, version_pinned}
use Rattle.search.specs.Tied.Search.{pins_of, IsSearch, IsRefuted}
use Rattle.search.specs.Tied.Taken.{AreKnownFrames}
use Rattle.plain_search.specs.Tied.Steps.{IsStep}
use Rattle.plain_search.proofs.backtracking.best.Goals as goal

pub choices_of-requires : goal.choices_of-requires
choices_of-requires c =
    let t = c.args.table.now in let old = c.search.frames.items in let new = c.advance.new.frames.items in
    let step : IsStep t old new Complete = subst (λ s. IsStep t old new s) c.in-Complete.is c.in_ok-advance.ensures.step in
    subst (λ (fs : List Frame). AreKnownFrames (length t.candidates) fs) (sym (c.as_slice-in-Complete.ensures.value ∙ step.0)) (frames-known t old c.search.invariant.search)

pub returns-in-Complete-clause-best : goal.returns-in-Complete-clause-best
returns-in-Complete-clause-best c =
    let t = c.args.table.now in let old = c.search.frames.items in let new = c.advance.new.frames.items in
    let step : IsStep t old new Complete = subst (λ s. IsStep t old new s) c.in-Complete.is c.in_ok-advance.ensures.step in
    let same : (n : ℕ) → place_in c.in_ok-choices-in-Complete.choices n ≡ version_pinned nat_cmp (pins_of old) n =
    subst (λ (fs : List Frame). (n : ℕ) → place_in c.in_ok-choices-in-Complete.choices n ≡ version_pinned nat_cmp (pins_of fs) n) (c.as_slice-in-Complete.ensures.value ∙ step.0) c.in_ok-choices-in-Complete.ensures.same in
    let path : version_pinned nat_cmp (pins_of old) ≡ place_in c.in_ok-choices-in-Complete.choices = λ i n. sym (same n) i in
    subst (λ (s : ℕ → Option ℕ). IsBest (rules_of t) s) path (search-best (rules_of t) (table-lawful t c.name_count.ensures.known) old c.search.invariant.search step.1)

pub search-smaller-in-Entered : goal.search-smaller-in-Entered
search-smaller-in-Entered c =
    let t = c.args.table.now in let old = c.search.frames.items in let new = c.advance.new.frames.items in
    let step : IsStep t old new Entered = subst (λ s. IsStep t old new s) c.in-Entered.is c.in_ok-advance.ensures.step in
    work-push t c.name_count.ensures.known old new step.0 step.1 step.2

pub search-smaller : goal.search-smaller
search-smaller c =
    let t = c.args.table.now in let old = c.search.frames.items in let new = c.advance.new.frames.items in
    let step : IsStep t old new Refuted = subst (λ s. IsStep t old new s) c.in-Refuted.is c.in_ok-advance.ensures.step in
    subst (λ xs. work_of t c.retreat.new.frames.items < work_of t xs) step.0
    (work-forward t c.name_count.ensures.known new c.retreat.new.frames.items (c.in_ok-retreat-in-Refuted.ensures.forward c.if-not-branch.false)
    (subst (λ xs. IsSearch (rules_of t) [] xs) (sym step.0) c.search.invariant.search)
    (c.in_ok-retreat-in-Refuted.ensures.search c.if-not-branch.false))

pub of-requires : goal.of-requires
of-requires c = subst (λ (fs : List Frame). AreKnownFrames (length c.args.table.now.candidates) fs) (sym (c.as_slice.ensures.value ∙ c.in_ok-frames.ensures.items)) (λ f i. absurd (Contains-nil f i))

pub search-init : goal.search-init
search-init c = record {
  search = subst (λ (xs : List Frame). IsSearch (rules_of c.args.table.now) [] xs) (sym c.in_ok-frames.ensures.items) tt;
  stands = record {
    stands = c.in_ok-front.ensures.front;
    same = λ n. c.in_ok-front.ensures.same n ∙ ap (λ (fs : List Frame). version_pinned nat_cmp (pins_of fs) n) c.as_slice.ensures.value;
  };
}

pub search-preserved-in-Entered : goal.search-preserved-in-Entered
search-preserved-in-Entered c =
    let t = c.args.table.now in let old = c.search.frames.items in let new = c.advance.new.frames.items in
    let step : IsStep t old new Entered = subst (λ s. IsStep t old new s) c.in-Entered.is c.in_ok-advance.ensures.step in
    record { search = step.2; stands = c.in_ok-advance.ensures.stands c.in-Entered.is }

pub retreat-requires-clause-search : goal.retreat-requires-clause-search
retreat-requires-clause-search c =
    let t = c.args.table.now in let old = c.search.frames.items in let new = c.advance.new.frames.items in
    let step : IsStep t old new Refuted = subst (λ s. IsStep t old new s) c.in-Refuted.is c.in_ok-advance.ensures.step in
    subst (λ xs. IsSearch (rules_of t) [] xs) (sym step.0) c.search.invariant.search

pub retreat-requires-clause-refuted : goal.retreat-requires-clause-refuted
retreat-requires-clause-refuted c =
    let t = c.args.table.now in let old = c.search.frames.items in let new = c.advance.new.frames.items in
    let step : IsStep t old new Refuted = subst (λ s. IsStep t old new s) c.in-Refuted.is c.in_ok-advance.ensures.step in
    subst (λ xs. IsRefuted (rules_of t) (pins_of xs)) (sym step.0) step.1

pub of-requires-in-Refuted : goal.of-requires-in-Refuted
of-requires-in-Refuted c =
    let t = c.args.table.now in
    subst (λ (fs : List Frame). AreKnownFrames (length t.candidates) fs) (sym c.as_slice-in-Refuted.ensures.value) (frames-known t c.retreat.new.frames.items (c.in_ok-retreat-in-Refuted.ensures.search c.if-not-branch.false))

pub search-preserved : goal.search-preserved
search-preserved c = record {
  search = c.in_ok-retreat-in-Refuted.ensures.search c.if-not-branch.false;
  stands = record {
    stands = c.in_ok-front-in-Refuted.ensures.front;
    same = λ n. c.in_ok-front-in-Refuted.ensures.same n ∙ ap (λ (fs : List Frame). version_pinned nat_cmp (pins_of fs) n) c.as_slice-in-Refuted.ensures.value;
  };
}

pub returns-then-not-branch-clause-best : goal.returns-then-not-branch-clause-best
returns-then-not-branch-clause-best c = search rules
