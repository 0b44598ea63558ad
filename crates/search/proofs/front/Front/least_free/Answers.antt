use Rattle.std.proofs.Common.{List, ℕ, Option, MatchOption, subst, subst₂}
use Rattle.search.specs.Tied.Front.{IsFront}
use Rattle.search.specs.Ranges.{EachBelow}
use Rattle.search.specs.Tied.Search.{taken_at, NoneFree, IsLeastFree}
use Rattle.search.specs.Table.{rules_of}
use Rattle.search.proofs.front.Front.least_free.Goals as goal

pub least_free-requires : goal.least_free-requires
least_free-requires c =
    let f : IsFront c.args.table.now c.args.self.now = c.requires in
    subst (λ room. EachBelow room c.as_slice-2.result.now) f.needed_room c.as_slice-2.ensures.within

pub returns : goal.returns
returns c = subst₂ (λ (ts : List (Option ℕ)) (ns : List ℕ). MatchOption c.least_free.result (NoneFree (rules_of c.args.table.now) (taken_at ts) ns) (λ n. IsLeastFree (rules_of c.args.table.now) (taken_at ts) ns n)) c.as_slice.ensures.value c.as_slice-2.ensures.members c.least_free.ensures
