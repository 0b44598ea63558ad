use Rattle.std.proofs.Common.{◌≡◌, ◌∙◌, ap, refl}
use Rattle.std.proofs.lemmas.Map.Keys.{sorted_tail}
use Rattle.std.specs.Cmp.Lexicographic.{slice_cmp}
use Rattle.std.specs.List.Sorted.{IsStrictlySortedBy}
use Rattle.std.specs.Map.{keys_of}
use Rattle.std.specs.Ordering.{nat_cmp}
use Rattle.states.specs.Tied.Dependencies.{names_in, names_of}
use Rattle.states.proofs.GatheredNames.{entries-more, lookup-there, needs-rest}
use Rattle.states.proofs.LawfulNames.{dependencies-from}
use Rattle.states.proofs.LockFacts.{releases-more}
use Rattle.lists.proofs.Members.{Contains-here, Contains-nil, Contains-there}
use Rattle.states.proofs.locks.entries.Goals as goal

pub loop-name-init : goal.loop-name-init
loop-name-init c =
    let gives = c.into_iter-name-iterator.ensures.into_iter_gives in
    let rising : IsStrictlySortedBy (slice_cmp nat_cmp) (keys_of c.args.versions.now.entries) = gives.5 in
    record {
      made = rw (c.new-lock.ensures.items, gives.0) refl;
      rising = rw gives.0 rising;
      released = λ name version there. c.requires.released name version (lookup-there name version c.args.versions.now.entries rising (rw gives.0 at there));
      needs = c.requires.needs;
      releases = λ e there. absurd (Contains-nil e (rw c.new-lock.ensures.items at there));
    }

pub entry-requires-clause-released : goal.entry-requires-clause-released
entry-requires-clause-released c =
    c.loop-name.invariant.released c.in-Some.name.now c.in-Some.version.now
    (rw c.in-Some.ensures.steps (Contains-here (c.in-Some.name.now, c.in-Some.version.now) c.next.new.self))

pub entry-requires-clause-dependencies : goal.entry-requires-clause-dependencies
entry-requires-clause-dependencies c =
    let own = c.in-Some.name.now in
    let is : c.in_ok-dependencies.dependencies ≡ names_in c.loop-name.gathered own = c.in_ok-dependencies.ensures.names ∙ ap names_of c.remove.ensures.value in
    rw is (dependencies-from own (names_in c.loop-name.gathered own) (c.loop-name.invariant.needs own) (rw is at c.in_ok-dependencies.ensures.normal))

pub loop-name-preserved : goal.loop-name-preserved
loop-name-preserved c =
    let name = c.in-Some.name.now in
    let version = c.in-Some.version.now in
    let first = c.in-Some.ensures.steps in
    let rising = rw first at c.loop-name.invariant.rising in
    let made = rw first at c.loop-name.invariant.made in
    let entry = c.in_ok-entry.ensures.entry in
    let is = rw (c.in_ok-dependencies.ensures.names, c.remove.ensures.value) at entry in
    record {
      made = rw c.in_ok-push.ensures.items (entries-more c.args.problem.now name version c.in_ok-entry.field-0
          c.loop-name.lock.items _ c.next.new.self c.loop-name.gathered c.remove.new.self rising c.remove.ensures.updates is made);
      rising = sorted_tail _ name (keys_of c.next.new.self) rising;
      released = λ n v there. c.loop-name.invariant.released n v (rw first (Contains-there (name, version) c.next.new.self (n, v) there));
      needs = needs-rest name c.loop-name.gathered c.remove.new.self c.remove.ensures.updates c.loop-name.invariant.needs;
      releases = rw c.in_ok-push.ensures.items
          (releases-more c.args.problem.now c.loop-name.lock.items c.in_ok-entry.field-0 c.loop-name.invariant.releases (rw entry c.in_ok-entry.ensures.release));
    }
