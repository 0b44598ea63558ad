use Rattle.std.proofs.Common.{◌≡◌, ◌∙◌, ◌∷◌, ◌++◌, [], Ok, ap, sym}
use Rattle.inputs.specs.PinsFiles.{named_pins, pins_files_in}
use Rattle.inputs.specs.TargetFiles.{in_front}
use Rattle.inputs.proofs.TargetFacts.{behind, behind-one}
use Rattle.inputs.proofs.pins_files.pins_files.Goals as goal

pub loop-named-preserved : goal.loop-named-preserved
loop-named-preserved c =
    let rest = c.next.new.self.rest.items in
    let files = c.loop-named.files.items in
    let file = c.in_ok-pins_file.field-0 in
    let next : c.loop-named.named-iterator.rest.items ≡ c.in-Some.named ∷ rest = c.in-Some.ensures.steps.0 in
    let grown : c.push.new.self.items ≡ files ++ file ∷ [] = c.in_ok-push.ensures.items in
    let one : in_front (named_pins c.in-Some.named) (pins_files_in rest) ≡ in_front (Ok file) (pins_files_in rest) = ap (λ one. in_front one (pins_files_in rest)) c.in_ok-pins_file.ensures in
    ap (λ made. behind made (pins_files_in rest)) grown ∙ sym (behind-one files file (pins_files_in rest)) ∙ ap (behind files) (sym one) ∙ ap (λ others. behind files (pins_files_in others)) (sym next) ∙ c.loop-named.invariant
