-- What is known of each solution that has some pins, and what keeps it.
use Rattle.std.proofs.Common.{ℕ, List, [], ◌++◌, ◌≡◌, ◌<◌, inl, inr, Option, Some, true, false, Contains, length, take, get_or, sym, ◌∙◌, subst, arith, nat_eq}
use Rattle.lists.proofs.Members.{nat_cases}
use Rattle.lists.specs.Bits.{LiesWithin}
use Rattle.search.proofs.PlacesEquality.{places-equality}
use Rattle.search.proofs.SetRefutations.{SetFollows-excluded, set-list-excluded}
use Rattle.search.proofs.WhatIsLeft.{table-lawful}
use Rattle.search.proofs.PinnedMaps.{Has-front, Needed-in_solution, some-inj}
use Rattle.search.specs.declared.parts.Frame.{Frame}
use Rattle.search.specs.declared.term.Term.{Term}
use Rattle.search.specs.Rules.{Rules, IsLawful}
use Rattle.search.specs.SetConflicts.{EachSetFollows, SetFollows, SetLiesInNone}
use Rattle.search.specs.Solutions.{IsNext, Needed, by_dependency, Pin, version_pinned}
use Rattle.search.specs.Table.{TableParts, candidates_of, in_range, name_of, places_eq, rules_of}
use Rattle.search.specs.Tied.Search.{IsFrame, pins_of, taken_at}
use Rattle.set_conflicts.specs.declared.domains.Domains.{Domains}
use Rattle.set_conflicts.specs.Tied.Domains.{Cuts, Excludes, Holds, IsCut, IsMarkedToo, Keeps, Needs, mark_at, set_at}
use Rattle.set_conflicts.specs.Tied.Replay.{IsTurn}

place-same : (v : ℕ) → places_eq v v ≡ true
place-same v = grind (arith, nat_eq)

pub keeps-start : (t : TableParts) (domains : Domains)
    → ((node : ℕ) → node < length domains.sets.items → LiesWithin (candidates_of t (name_of t node)) (set_at domains.sets.items node))
    → ((node : ℕ) → mark_at domains.needed.items node ≡ false) → Keeps (rules_of t) [] domains
keeps-start t domains all none = record {
  needed = λ s sol has node e. absurd (let k : false ≡ true = sym (none node) ∙ e in cc);
  kept = λ s sol has node v below n e. all node below v (sol.released (name_of t node) v e);
}

pub keeps-more : (rules : Rules ℕ ℕ ℕ ℕ) (pins more : List (Pin ℕ ℕ)) (domains : Domains) → Keeps rules pins domains → Keeps rules (pins ++ more) domains
keeps-more rules pins more domains k = record {
  needed = λ s sol has. k.needed s sol (Has-front rules s pins more has);
  kept = λ s sol has. k.kept s sol (Has-front rules s pins more has);
}

pub keeps-cut : (rules : Rules ℕ ℕ ℕ ℕ) (pins : List (Pin ℕ ℕ)) (old new : Domains) (node : ℕ) (cut : List ℕ) → IsCut old new node cut → Excludes rules pins node cut → Keeps rules pins old → Keeps rules pins new
keeps-cut rules pins old new node cut c none k = record {
  needed = λ s sol has other e. k.needed s sol has other (subst (λ ms. mark_at ms other ≡ true) c.needed e);
  kept = λ s sol has other v below n e.
      let below_old : other < length old.sets.items = subst (λ m. other < m) c.room below in
      let was : Contains (set_at old.sets.items other) v = k.kept s sol has other v below_old n e in
      elim (nat_cases other node) [
        | inl same ↦
            let needed : Needed rules s node = subst (λ m. Needed rules s m) same n in
            let chosen : s (rules.on node) ≡ Some v = subst (λ m. s (rules.on m) ≡ Some v) same e in
            subst (λ m. Contains (set_at new.sets.items m) v) (sym same)
            ((c.own v).1 (subst (λ m. Contains (set_at old.sets.items m) v) same was, λ i. none s sol has needed v chosen i))
        | inr apart ↦ subst (λ xs. Contains xs v) (sym (c.others other apart)) was
      ];
}

pub keeps-mark : (rules : Rules ℕ ℕ ℕ ℕ) (pins : List (Pin ℕ ℕ)) (old new : Domains) (node : ℕ) → IsMarkedToo old new node → Needs rules pins node → Keeps rules pins old → Keeps rules pins new
keeps-mark rules pins old new node m needs k = record {
  needed = λ s sol has other e. elim (m.others other e) [
    | inl same ↦ subst (λ n. Needed rules s n) (sym same) (needs s sol has)
    | inr was ↦ k.needed s sol has other was
  ];
  kept = λ s sol has other v below n e. subst (λ sets. Contains (set_at sets other) v) (sym m.sets)
      (k.kept s sol has other v (subst (λ (sets : List (List ℕ)). other < length sets) m.sets below) n e);
}

-- a conflict that lies in no solution excludes what is cut, where all its other terms hold
pub cut-excludes : (rules : Rules ℕ ℕ ℕ ℕ) → IsLawful rules → (pins : List (Pin ℕ ℕ)) (domains : Domains) (node : ℕ) (cut : List ℕ) (conflict : List (Term ℕ ℕ))
    → SetLiesInNone rules places_eq conflict → Cuts domains node cut conflict → Keeps rules pins domains → Excludes rules pins node cut
cut-excludes rules law pins domains node cut conflict none cuts k s sol has needed v e i = none s sol (λ t there. elim (cuts t there) [
  | inl held ↦
      let n : Needed rules s t.node = k.needed s sol has t.node held.marked in
      let w : (w : ℕ) × (s (rules.on t.node) ≡ Some w) = Needed-in_solution rules law s sol t.node n in
      record {
        needed = n;
        version = w.0;
        chosen = w.1;
        has = (w.0, held.within w.0 (k.kept s sol has t.node w.0 held.below n w.1), place-same w.0);
      }
  | inr at ↦ record {
    needed = subst (λ m. Needed rules s m) (sym at.0) needed;
    version = v;
    chosen = subst (λ m. s (rules.on m) ≡ Some v) (sym at.0) e;
    has = (v, at.1 v i, place-same v);
  }
])

-- what is walked excludes all other places
pub walked-excludes : (t : TableParts) (frames : List Frame) (taken : List (Option ℕ)) (node place : ℕ) (cut : List ℕ)
    → ((n : ℕ) → taken_at taken n ≡ version_pinned (rules_of t).compare (pins_of frames) n)
    → taken_at taken (name_of t node) ≡ Some place → (Contains cut place → ⊥) → Excludes (rules_of t) (pins_of frames) node cut
walked-excludes t frames taken node place cut same is apart s sol has needed v e i =
    let chosen : s (name_of t node) ≡ Some place = has (name_of t node) place (sym (same (name_of t node)) ∙ is) in
    apart (subst (λ w. Contains cut w) (some-inj v place (sym e ∙ chosen)) i)

-- the first candidate that is left of a node is a frame
pub frame-first : (t : TableParts) (pins : List (Pin ℕ ℕ)) (domains : Domains) (node : ℕ) (f : Frame) → Keeps (rules_of t) pins domains → IsTurn t domains node f.turn → f.name ≡ name_of t node
    → IsNext (rules_of t) pins f.name → get_or (candidates_of t f.name) f.turn f.place ≡ f.place → IsFrame (rules_of t) pins f
frame-first t pins domains node f k turn named next place = record {
  next = next;
  turn = subst (λ n. f.turn < length (candidates_of t n)) (sym named) turn.within;
  place = place;
  refuted = λ s sol has w i e.
      let chosen : s (name_of t node) ≡ Some w = subst (λ n. s n ≡ Some w) named e in
      let needed : Needed (rules_of t) s node = k.needed s sol has node turn.marked in
      turn.passed w (subst (λ n. Contains (take f.turn (candidates_of t n)) w) named i) (k.kept s sol has node w turn.below needed chosen);
}

-- ---- what lies in no solution

pub recorded-none : (t : TableParts) → in_range t ≡ true → (recorded : List (List (Term ℕ ℕ))) → EachSetFollows (rules_of t) places_eq [] recorded
    → (conflict : List (Term ℕ ℕ)) → Contains recorded conflict → SetLiesInNone (rules_of t) places_eq conflict
recorded-none t known recorded each = set-list-excluded (rules_of t) places_eq (table-lawful t known) (places-equality (rules_of t)) recorded each

pub follows-none : (t : TableParts) → in_range t ≡ true → (recorded : List (List (Term ℕ ℕ))) → EachSetFollows (rules_of t) places_eq [] recorded
    → (conflict : List (Term ℕ ℕ)) → SetFollows (rules_of t) places_eq recorded conflict → SetLiesInNone (rules_of t) places_eq conflict
follows-none t known recorded each conflict = SetFollows-excluded (rules_of t) places_eq (table-lawful t known) (places-equality (rules_of t)) recorded conflict (recorded-none t known recorded each)

-- where each version that is left of a needed node wants another node, that is needed
pub wanted-needs : (t : TableParts) → in_range t ≡ true → (pins : List (Pin ℕ ℕ)) (domains : Domains) (by node : ℕ) (places : List ℕ) → Holds domains by places
    → ((v : ℕ) → Contains places v → (wanted : ℕ) × Contains ((rules_of t).wants by v) wanted × Contains ((rules_of t).nodes wanted) node)
    → Keeps (rules_of t) pins domains → Needs (rules_of t) pins node
wanted-needs t known pins domains by node places held each k s sol has =
    let n : Needed (rules_of t) s by = k.needed s sol has by held.marked in
    let w : (w : ℕ) × (s (name_of t by) ≡ Some w) = Needed-in_solution (rules_of t) (table-lawful t known) s sol by n in
    let wanted : (wanted : ℕ) × Contains ((rules_of t).wants by w.0) wanted × Contains ((rules_of t).nodes wanted) node = each w.0 (held.within w.0 (k.kept s sol has by w.0 held.below n w.1)) in
    by_dependency by w.0 wanted.0 node n w.1 wanted.1 wanted.2
