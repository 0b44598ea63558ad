use Rattle.std.proofs.Common.{◌≡◌, true, false, inr, is_some, length, rules}
use Rattle.std.specs.List.{list_all}
use Rattle.serde_json.specs.Find.{as_object, get}
use Rattle.serde_json.specs.View.{view}
use Rattle.journal_format.specs.Forms.{counts}
use Rattle.journal_format.proofs.FormFacts.{only_keys-count, only_keys-holds, only_keys-lacks}
use Rattle.journal_format.proofs.forms.only_keys.Goals as goal
use Rattle.journal_format.proofs.forms.only_keys.Goals.{else-counts-via-then-counts+else-has_each, else-counts-via-else-counts}

pub returns-then-has_each : goal.returns-then-has_each
returns-then-has_each c =
    let count : counts (length c.args.keys.now) (as_object (view c.args.object.now)) ≡ true = search rules in
    let there : list_all (λ k. is_some (get k.now (view c.args.object.now))) c.args.keys.now ≡ true = search rules in
    only_keys-holds (λ k. k.now) c.args.keys.now (view c.args.object.now) count there

pub returns : goal.returns
returns c =
    elim c.else-counts.branch [
      | else-counts-via-then-counts+else-has_each w ↦
          (let count : counts (length c.args.keys.now) (as_object (view c.args.object.now)) ≡ true = search rules in
          let lacks : list_all (λ k. is_some (get k.now (view c.args.object.now))) c.args.keys.now ≡ false = search rules in
          inr (only_keys-lacks (λ k. k.now) c.args.keys.now (view c.args.object.now) count lacks))
      | else-counts-via-else-counts w ↦
          (let count : counts (length c.args.keys.now) (as_object (view c.args.object.now)) ≡ false = search rules in
          inr (only_keys-count (λ k. k.now) c.args.keys.now (view c.args.object.now) count))
    ]
