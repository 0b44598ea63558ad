use Rattle.std.proofs.Common.{◌≡◌, ◌∙◌, [], ◌++◌, List, ℕ, append_assoc, append-nil}
use Rattle.pep508.specs.Slices.{Slices, joined}
use Rattle.pep508.proofs.slices.Slices.joined_with.Goals as goal

concat_joined : (s : Slices) → s.lead ++ (s.name ++ (s.gap1 ++ (s.extras ++ (s.gap2 ++ (s.version ++ (s.gap3 ++ (s.marker ++ (s.gap4 ++ (s.comment ++ (s.end ++ [])))))))))) ≡ joined s
concat_joined s = simp (append_assoc, append-nil)

pub returns : goal.returns
returns c = rw (← c.self.view_is) (c.from_string.ensures ∙ c.in_ok-concat.ensures.ok ∙ concat_joined (record {
  lead = c.self.inside.lead.now;
  name = c.self.inside.name.now;
  gap1 = c.self.inside.gap1.now;
  extras = c.self.inside.extras.now;
  gap2 = c.self.inside.gap2.now;
  version = c.args.version.now;
  gap3 = c.self.inside.gap3.now;
  marker = c.self.inside.marker.now;
  gap4 = c.self.inside.gap4.now;
  comment = c.self.inside.comment.now;
  end = c.self.inside.end.now;
}))
