use Rattle.std.proofs.Common.{List, ℕ, Option, ◌≡◌, length, refl, sym, ◌∙◌, subst, subst₂}
use Rattle.std.specs.List.{list_any}
use Rattle.search.proofs.Fronts.{fit-none}
use Rattle.search.proofs.Walks.{followed-start}
use Rattle.search.specs.Tied.Nodes.{IsGrown, Grows, nodes_required}
use Rattle.search.specs.Ranges.{EachBelow}
use Rattle.search.specs.Tied.Search.{taken_at, clash_in, AreNeeded, AreRequired}
use Rattle.search.specs.Table.{rules_of}
use Rattle.search.proofs.front.Front.of.Goals as goal

pub require-requires-clause-known : goal.require-requires-clause-known
require-requires-clause-known c = subst (λ (rs : List ℕ). EachBelow (length c.args.table.now.requirements) rs) (sym c.lines.ensures.lines) c.lines.ensures.known

pub require-requires-clause-room : goal.require-requires-clause-room
require-requires-clause-room c = c.in_ok-needed.ensures.1 ∙ c.node_count.ensures

pub require-requires-clause-required_room : goal.require-requires-clause-required_room
require-requires-clause-required_room c = c.in_ok-required.ensures.1 ∙ c.requirement_count.ensures

pub follow_all-requires-clause-room : goal.follow_all-requires-clause-room
follow_all-requires-clause-room c =
    let g : IsGrown c.in_ok-needed.needed c.require.new.nodes (nodes_required (rules_of c.args.table.now) c.lines.result.now) = c.in_ok-require.ensures.nodes in
    g.room ∙ c.in_ok-needed.ensures.1 ∙ c.node_count.ensures

pub follow_all-requires-clause-required_room : goal.follow_all-requires-clause-required_room
follow_all-requires-clause-required_room c =
    let k : IsGrown c.in_ok-required.required c.require.new.required c.lines.result.now = c.in_ok-require.ensures.required in
    k.room ∙ c.in_ok-required.ensures.1 ∙ c.requirement_count.ensures

pub follow_all-requires-clause-followed : goal.follow_all-requires-clause-followed
follow_all-requires-clause-followed c =
    let g : IsGrown c.in_ok-needed.needed c.require.new.nodes (nodes_required (rules_of c.args.table.now) c.lines.result.now) = c.in_ok-require.ensures.nodes in
    let k : IsGrown c.in_ok-required.required c.require.new.required c.lines.result.now = c.in_ok-require.ensures.required in
    followed-start (rules_of c.args.table.now) (taken_at c.as_slice.result.now) c.require.new.nodes.members c.require.new.required.members (record { last_taken = 0; nodes = 0; required = 0 }) refl
    (subst₂ (λ (old lines : List ℕ). Grows old c.require.new.nodes.members (nodes_required (rules_of c.args.table.now) lines)) c.in_ok-needed.ensures.0 c.lines.ensures.lines g.grows)
    (subst₂ (λ (old lines : List ℕ). Grows old c.require.new.required.members lines) c.in_ok-required.ensures.0 c.lines.ensures.lines k.grows)

pub do_any_clash-clashes-requires-clause-known : goal.do_any_clash-clashes-requires-clause-known
do_any_clash-clashes-requires-clause-known c = subst (λ room. EachBelow room c.as_slice-3.result.now) c.in_ok-follow_all.ensures.required_room c.as_slice-3.ensures.within

pub do_any_clash-clashes-requires-clause-fit : goal.do_any_clash-clashes-requires-clause-fit
do_any_clash-clashes-requires-clause-fit c = fit-none (rules_of c.args.table.now) (taken_at c.as_slice-2.result.now) c.as_slice-3.result.now (record { last_taken = 0; nodes = 0; required = 0 }) refl

pub returns-clause-front : goal.returns-clause-front
returns-clause-front c = record {
  room = c.in_ok-taken.ensures.room;
  needed_room = c.in_ok-follow_all.ensures.room;
  required_room = c.in_ok-follow_all.ensures.required_room;
  needed = subst (λ (ts : List (Option ℕ)). AreNeeded (rules_of c.args.table.now) (taken_at ts) c.follow_all.new.nodes.members) c.as_slice.ensures.value c.in_ok-follow_all.ensures.needed;
  required = subst (λ (ts : List (Option ℕ)). AreRequired (rules_of c.args.table.now) (taken_at ts) c.follow_all.new.required.members) c.as_slice.ensures.value c.in_ok-follow_all.ensures.required;
  clashes = subst₂ (λ (ts : List (Option ℕ)) (rs : List ℕ). c.do_any_clash-clashes.result ≡ list_any (clash_in (rules_of c.args.table.now) (taken_at ts)) rs) c.as_slice-2.ensures.value c.as_slice-3.ensures.members c.do_any_clash-clashes.ensures;
}

pub returns-clause-same : goal.returns-clause-same
returns-clause-same c = c.in_ok-taken.ensures.same
