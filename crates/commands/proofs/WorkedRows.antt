-- Worked values of the definitions.
use Rattle.std.proofs.Common.{◌≡◌, List, [], ◌∷◌, Option, None, Some, ℕ, map, refl, codes}
use Rattle.lists.specs.Spaces.{trim_start}
use Rattle.states.specs.declared.refusal.Refusal.TheVariants.{NothingToUndo, AlreadyPresent}
use Rattle.edits.specs.declared.request.Edit.TheVariants.{Add, Constrain, Relock, Remove, Upgrade, UpgradeAll}
use Rattle.journal.specs.declared.commands.Reply.TheVariants.{Same, Refused}
use Rattle.commands.specs.declared.batch_line.Item.{Item}
use Rattle.commands.specs.declared.batch_line.Item.TheVariants.{BadCommand, Edit, Redo, Undo}
use Rattle.commands.specs.BatchLine.{item_in, input_lines_of, line_text}
use Rattle.commands.specs.Replies.{reply_text}

-- a CR before an LF is dropped, and a last line counts
texts_row : map line_text (input_lines_of (codes " undo\t\r\n\r\n\t\nredo x\nredo")) ≡ codes " undo\t" ∷ [] ∷ codes "\t" ∷ codes "redo x" ∷ codes "redo" ∷ []
texts_row = refl

-- a CR at the end of the input stands
cr_row : map line_text (input_lines_of (codes "undo\r")) ≡ codes "undo\r" ∷ []
cr_row = refl

-- what texts ask for
asked : List (List ℕ) → List (Option Item)
asked texts = map (λ text. item_in (trim_start text)) texts

-- blank texts ask for nothing, and an addition has a text
commands_row : asked (codes " undo\t" ∷ codes "\t" ∷ codes "redo x" ∷ codes "redo" ∷ codes "undo\r" ∷ codes "add \t " ∷ codes "add" ∷ [])
    ≡ Some Undo ∷ None ∷ Some BadCommand ∷ Some Redo ∷ Some BadCommand ∷ Some BadCommand ∷ Some BadCommand ∷ []
unfolding asked
commands_row = refl

-- a name to be removed has no space at its end, one to be constrained ends at space, and an upgrade without names is of all
edits_row : asked (codes "add  a b " ∷ codes "remove \tb \t" ∷ codes "constrain a \t>=1 " ∷ codes "constrain a" ∷ codes "upgrade  " ∷ codes "upgrade a \tb" ∷ codes "relock " ∷ [])
    ≡ Some (Edit (Add (codes "a b "))) ∷ Some (Edit (Remove (codes "b"))) ∷ Some (Edit (Constrain (codes "a") (codes ">=1 "))) ∷ Some (Edit (Constrain (codes "a") []))
    ∷ Some (Edit UpgradeAll) ∷ Some (Edit (Upgrade (codes "a" ∷ codes "b" ∷ []))) ∷ Some (Edit Relock) ∷ []
unfolding asked
edits_row = refl

replies_row : reply_text (Same ∷ Refused (AlreadyPresent 3) ∷ Refused NothingToUndo ∷ []) ≡ codes "same\nrefused already-present\nrefused nothing-to-undo\n"
replies_row = refl
