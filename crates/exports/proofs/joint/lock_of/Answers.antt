use Rattle.std.proofs.Common.{◌≡◌, ◌∙◌, List, map, sym, subst}
use Rattle.std.specs.List.{Contains}
use Rattle.pylock.specs.Packages.{EntryParts}
use Rattle.pylock.specs.declared.joint.JointPackage.{JointPackage}
use Rattle.exports.proofs.joint.lock_of.Goals as goal

pub returns-clause-packages : goal.returns-clause-packages
returns-clause-packages c =
    let entries : c.in_ok-entries.entries ≡ map (λ (p : JointPackage). p.entry) c.in_ok-packages.packages = sym c.as_slice.ensures ∙ sym c.in_ok-packages.ensures.entries in
    record {
      members = λ e. (
        λ there. subst (λ (es : List EntryParts). Contains es e) entries ((c.in_ok-entries.ensures.members e).0 there),
        λ there. (c.in_ok-entries.ensures.members e).1 (subst (λ (es : List EntryParts). Contains es e) (sym entries) there),
      );
      lawful = c.in_ok-packages.ensures.lawful;
    }
