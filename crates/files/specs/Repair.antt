-- What the repair of a stopped save makes of a folder. All of it is reqlock's own rule.
use Rattle.folder.specs.Held.{Held}
use Rattle.folder.specs.Repairs.{HasSamePlaces, IsMoveOf}
use Rattle.journal.specs.Changes.{HistoryParts}
use Rattle.files.specs.Places.{StandsFor}

-- no place has changed, and some of what stood beside the places is gone
abbrev pub IsRemoved : Held → Held → Type 0
IsRemoved old new = HasSamePlaces old new × IsMoveOf old new

-- each place holds what it held, or what stood beside it, or nothing; and unless they may give way, files that stand for a history stay in their places
pub record IsRepairOf (may_give_way : Type 0) (old new : Held) : Type 0 where
  pub moves : IsMoveOf old new
  pub stays : (may_give_way → ⊥) → (history : HistoryParts) → StandsFor old history → HasSamePlaces old new

-- the files in the places stand for no history
abbrev pub NoneStands : Held → Type 0
NoneStands held = (history : HistoryParts) → StandsFor held history → ⊥
