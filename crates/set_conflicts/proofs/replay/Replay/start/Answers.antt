use Rattle.std.proofs.Common.{List, [], length, sym, ◌∙◌, ap, subst}
use Rattle.std.specs.Ordering.{nat_cmp}
use Rattle.lists.proofs.Members.{Contains-nil}
use Rattle.search.specs.declared.parts.Frame.{Frame}
use Rattle.search.specs.Solutions.{version_pinned}
use Rattle.search.specs.Table.{rules_of}
use Rattle.search.specs.Tied.Search.{IsSearch, pins_of}
use Rattle.search.specs.Tied.Taken.{AreKnownFrames}
use Rattle.set_conflicts.specs.Tied.Domains.{Keeps}
use Rattle.set_conflicts.proofs.replay.Replay.start.Goals as goal

pub of-requires : goal.of-requires
of-requires c = subst (λ (fs : List Frame). AreKnownFrames (length c.args.table.now.candidates) fs) (sym (c.as_slice.ensures.value ∙ c.new-frames.ensures.items)) (λ f i. absurd (Contains-nil f i))

pub returns : goal.returns
returns c = record {
  search = subst (λ (fs : List Frame). IsSearch (rules_of c.args.table.now) [] fs) (sym c.new-frames.ensures.items) tt;
  front = record {
    stands = c.in_ok-front.ensures.front;
    same = λ n. c.in_ok-front.ensures.same n ∙ ap (λ (fs : List Frame). version_pinned nat_cmp (pins_of fs) n) c.as_slice.ensures.value;
  };
  keeps = subst (λ (fs : List Frame). Keeps (rules_of c.args.table.now) (pins_of fs) c.in_ok-domains.domains) (sym c.new-frames.ensures.items) c.in_ok-domains.ensures;
}
