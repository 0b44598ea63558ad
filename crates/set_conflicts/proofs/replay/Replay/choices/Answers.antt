use Rattle.std.proofs.Common.{ℕ, Option, List, ◌≡◌, length, sym, ◌∙◌, subst}
use Rattle.std.specs.Ordering.{nat_cmp}
use Rattle.search.proofs.WhatIsLeft.{frames-known}
use Rattle.search.specs.declared.parts.Frame.{Frame}
use Rattle.search.specs.Solutions.{IsBest, version_pinned}
use Rattle.search.specs.Table.{TableParts, place_in, rules_of}
use Rattle.search.specs.Tied.Search.{pins_of}
use Rattle.search.specs.Tied.Taken.{AreKnownFrames}
use Rattle.set_conflicts.proofs.Replays.{front-best}
use Rattle.set_conflicts.proofs.replay.Replay.choices.Goals as goal

pub choices_of-requires : goal.choices_of-requires
choices_of-requires c =
    let t : TableParts = c.args.table.now in
    subst (λ (fs : List Frame). AreKnownFrames (length t.candidates) fs) (sym c.as_slice.ensures.value) (frames-known t c.args.self.now.frames.items c.requires.replay.search)

pub returns-in_ok-choices-in-None-clause-best : goal.returns-in_ok-choices-in-None-clause-best
returns-in_ok-choices-in-None-clause-best c =
    let t : TableParts = c.args.table.now in let frames : List Frame = c.args.self.now.frames.items in
    let same : (n : ℕ) → place_in c.in_ok-choices-in-None.choices n ≡ version_pinned nat_cmp (pins_of frames) n =
    subst (λ (fs : List Frame). (n : ℕ) → place_in c.in_ok-choices-in-None.choices n ≡ version_pinned nat_cmp (pins_of fs) n) c.as_slice.ensures.value c.in_ok-choices-in-None.ensures.same in
    let path : version_pinned nat_cmp (pins_of frames) ≡ place_in c.in_ok-choices-in-None.choices = λ i n. sym (same n) i in
    subst (λ (s : ℕ → Option ℕ). IsBest (rules_of t) s) path
    (front-best t c.requires.known frames c.args.self.now.front c.requires.replay.search c.requires.replay.front (sym c.clashes.ensures ∙ c.if-clashes.false) c.in-None.ensures)
