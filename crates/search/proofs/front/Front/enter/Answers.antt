use Rattle.std.proofs.Common.{List, ℕ, Option, ◌≡◌, ◌<◌, sym, ◌∙◌, ap, subst, subst₂}
use Rattle.std.specs.List.{list_any}
use Rattle.search.proofs.Fronts.{fit-kept}
use Rattle.search.proofs.Walks.{followed-more, extends-front}
use Rattle.search.specs.Tied.Front.{IsFront}
use Rattle.search.specs.Ranges.{EachBelow}
use Rattle.search.specs.Tied.Search.{taken_at, clash_in, AreNeeded, AreRequired}
use Rattle.search.specs.Tied.Taken.{TakesFirst}
use Rattle.search.specs.Table.{rules_of}
use Rattle.search.proofs.front.Front.enter.Goals as goal

pub take_frame-requires : goal.take_frame-requires
take_frame-requires c =
    let f : IsFront c.args.table.now c.args.self.now = c.requires.front in
    subst (λ n. c.args.frame.name < n) (sym f.room) c.requires.known

pub follow_all-requires-clause-room : goal.follow_all-requires-clause-room
follow_all-requires-clause-room c =
    let f : IsFront c.args.table.now c.args.self.now = c.requires.front in
    f.needed_room

pub follow_all-requires-clause-required_room : goal.follow_all-requires-clause-required_room
follow_all-requires-clause-required_room c =
    let f : IsFront c.args.table.now c.args.self.now = c.requires.front in
    f.required_room

pub follow_all-requires-clause-followed : goal.follow_all-requires-clause-followed
follow_all-requires-clause-followed c =
    let f : IsFront c.args.table.now c.args.self.now = c.requires.front in
    let k : TakesFirst c.args.self.now.taken.items c.take_frame.new.taken.items c.args.frame = c.take_frame.ensures in
    followed-more (rules_of c.args.table.now) (taken_at c.args.self.now.taken.items) (taken_at c.as_slice.result.now) c.args.self.now.needed.members c.args.self.now.required.members (record { last_taken = c.args.frame.name; nodes = c.len.result; required = c.len-2.result }) c.len.ensures.len f.needed f.required
    (λ n v e. ap (λ (ts : List (Option ℕ)). taken_at ts n) c.as_slice.ensures.value ∙ k.kept n v e)
    (λ n d. ap (λ (ts : List (Option ℕ)). taken_at ts n) c.as_slice.ensures.value ∙ k.others n d)

pub do_any_clash-self-requires-clause-known : goal.do_any_clash-self-requires-clause-known
do_any_clash-self-requires-clause-known c = subst (λ room. EachBelow room c.as_slice-3.result.now) c.in_ok-follow_all.ensures.required_room c.as_slice-3.ensures.within

pub do_any_clash-self-requires-clause-fit : goal.do_any_clash-self-requires-clause-fit
do_any_clash-self-requires-clause-fit c =
    let f : IsFront c.args.table.now c.args.self.now = c.requires.front in
    let k : TakesFirst c.args.self.now.taken.items c.take_frame.new.taken.items c.args.frame = c.take_frame.ensures in
    fit-kept (rules_of c.args.table.now) (taken_at c.args.self.now.taken.items) (taken_at c.as_slice-2.result.now) c.args.self.now.required.members c.as_slice-3.result.now (record { last_taken = c.args.frame.name; nodes = c.len.result; required = c.len-2.result })
    (extends-front c.args.self.now.required.members c.as_slice-3.result.now c.len-2.result
    (c.in_ok-follow_all.ensures.kept.0, c.as_slice-3.ensures.members ∙ c.in_ok-follow_all.ensures.kept.1) c.len-2.ensures.len)
    (sym f.clashes ∙ c.requires.fits)
    (λ n d. ap (λ (ts : List (Option ℕ)). taken_at ts n) c.as_slice-2.ensures.value ∙ k.others n d)

pub returns-clause-front : goal.returns-clause-front
returns-clause-front c =
    let f : IsFront c.args.table.now c.args.self.now = c.requires.front in
    let k : TakesFirst c.args.self.now.taken.items c.take_frame.new.taken.items c.args.frame = c.take_frame.ensures in
    record {
      room = k.room ∙ f.room;
      needed_room = c.in_ok-follow_all.ensures.room;
      required_room = c.in_ok-follow_all.ensures.required_room;
      needed = subst (λ (ts : List (Option ℕ)). AreNeeded (rules_of c.args.table.now) (taken_at ts) c.follow_all.new.nodes.members) c.as_slice.ensures.value c.in_ok-follow_all.ensures.needed;
      required = subst (λ (ts : List (Option ℕ)). AreRequired (rules_of c.args.table.now) (taken_at ts) c.follow_all.new.required.members) c.as_slice.ensures.value c.in_ok-follow_all.ensures.required;
      clashes = subst₂ (λ (ts : List (Option ℕ)) (rs : List ℕ). c.do_any_clash-self.result ≡ list_any (clash_in (rules_of c.args.table.now) (taken_at ts)) rs) c.as_slice-2.ensures.value c.as_slice-3.ensures.members c.do_any_clash-self.ensures;
    }

pub returns-clause-taken : goal.returns-clause-taken
returns-clause-taken c = c.take_frame.ensures
