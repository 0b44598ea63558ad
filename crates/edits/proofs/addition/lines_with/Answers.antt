use Rattle.std.proofs.Common.{◌≡◌, [], ◌∙◌, length, append-nil, rules, refl, sym, ap, arith}
use Rattle.std.proofs.lemmas.Grind.{common_steps}
use Rattle.std.proofs.lemmas.List.{nil_from_length, take_all}
use Rattle.edits.specs.Addition.{last_ended, usual_ending}
use Rattle.edits.proofs.Additions.{last_ended-push}
use Rattle.edits.proofs.addition.lines_with.Goals as goal
use Rattle.edits.proofs.addition.lines_with.Goals.{in-Some+in_ok-ended+in_ok-push-2, in_default}

pub returns : goal.returns
returns c =
    let ending = usual_ending c.args.lines.now in
    let whole : c.loop-old.after.items ≡ c.args.lines.now = c.loop-old.invariant ∙ take_all _ _ c.loop-old-test.false in
    let ended_lines : c.match-pop.after.items ≡ last_ended ending c.args.lines.now = elim c.match-pop.branch [
      | in-Some+in_ok-ended+in_ok-push-2 w ↦
          rw (w.after-is, w.in_ok-push-2.ensures.items, w.in_ok-ended.ensures, c.usual_ending-ending.ensures.ending)
          (sym (last_ended-push ending c.pop.new.self.items w.in-Some.last) ∙ ap (last_ended ending) (sym w.in-Some.ensures.items ∙ whole))
      | in_default w ↦
          let none : length c.loop-old.after.items ≡ 0 = search rules in
          let empty : c.loop-old.after.items ≡ [] = nil_from_length c.loop-old.after.items none in
          let popped : c.pop.new.self.items ≡ [] = sym (append-nil _) ∙ sym w.in_default.ensures.items ∙ empty in
          let bare : c.args.lines.now ≡ [] = sym whole ∙ empty in
          rw (w.after-is, popped, bare) refl
    ] in
    rw (c.from_vec.ensures, c.in_ok-push-3.ensures.items, c.in_ok-ended-2.ensures, c.usual_ending-ending.ensures.ending, ended_lines) refl

pub loop-old-preserved : goal.loop-old-preserved
loop-old-preserved c = grind (arith, common_steps)
