use Rattle.std.proofs.Common.{[], ◌∷◌, ◌<◌, true, length, refl, sym, ◌∙◌, subst, slice_set}
use Rattle.lists.proofs.Members.{get_or-any}
use Rattle.search.proofs.Marks.{Grows-there, Grows-push, marked-push, set-length}
use Rattle.search.specs.Tied.Nodes.{Nodes, IsMarked, IsGrown, Grows}
use Rattle.search.proofs.node_set.NodeSet.insert.Goals as goal

pub returns-then-index : goal.returns-then-index
returns-then-index c =
    let within : c.args.node < length c.self.inside.marks.items = subst (λ (s : Nodes). c.args.node < s.room) (sym c.self.view_is) c.requires in
    subst (λ (s : Nodes). IsGrown s s (c.args.node ∷ [])) c.self.view_is (record {
      grows = Grows-there c.self.inside.members.items c.args.node (c.self.invariant.member c.args.node (get_or-any c.self.inside.marks.items c.args.node _ _ within ∙ sym c.index.ensures ∙ c.if-index.true));
      room = refl;
    })

pub invariant_of-self-2 : goal.invariant_of-self-2
invariant_of-self-2 c =
    let within : c.args.node < length c.self.inside.marks.items = subst (λ (s : Nodes). c.args.node < s.room) (sym c.self.view_is) c.requires in
    subst (λ ms. IsMarked ms (slice_set c.self.inside.marks.items c.args.node true)) (sym c.in_ok-push.ensures.items)
    (marked-push c.self.inside.members.items c.self.inside.marks.items c.args.node c.self.invariant within
    (get_or-any c.self.inside.marks.items c.args.node _ _ within ∙ sym c.index.ensures ∙ c.if-index.false))

pub returns : goal.returns
returns c = subst (λ (s : Nodes). IsGrown s (record { members = c.push.new.self.items; room = length (slice_set c.self.inside.marks.items c.args.node true) }) (c.args.node ∷ [])) c.self.view_is (record {
  grows = subst (λ ms. Grows c.self.inside.members.items ms (c.args.node ∷ [])) (sym c.in_ok-push.ensures.items) (Grows-push c.self.inside.members.items c.args.node);
  room = set-length c.self.inside.marks.items c.args.node true;
})
