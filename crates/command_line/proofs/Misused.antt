-- What is wrong with words, from what is wrong with a part of them.
use Rattle.std.proofs.Common.{◌≡◌, List, Option, None, Some, inr}
use Rattle.std.specs.Prelude.{MatchOption}
use Rattle.clap.specs.Words.{Row, Text}
use Rattle.command_line.specs.declared.misuse.Misuse.{Misuse}
use Rattle.command_line.specs.declared.misuse.Misuse.TheVariants.{Excluded, Lacks, NoNumber, NoSubcommand, NoValue, Stray, Twice}
use Rattle.command_line.specs.declared.misuse.ReadFault.{ReadFault}
use Rattle.command_line.specs.declared.misuse.ReadFault.TheVariants.{Misused, Needed, OutOfMemory}
use Rattle.command_line.specs.Marks.{first_marked}
use Rattle.command_line.specs.Misuses.{IsMisused, IsUnknownValue, IsWellUsed, excluded, missing_marks, stray_marks, twice_marks, unknown_color, unknown_format}
use Rattle.command_line.specs.Requests.{IsUnread}
use Rattle.command_line.specs.UsageFaults.{IsLacking}

-- where no argument is misused otherwise, an unknown value is the misuse
pub by_value : (before : List Row) (name : Text) (behind : List Row) (found : Option Misuse) → first_marked (twice_marks before behind) ≡ None → first_marked (stray_marks before name) ≡ None
    → excluded before behind ≡ None → first_marked (missing_marks name behind) ≡ None
    → MatchOption found ((unknown_color before behind ≡ None) × (unknown_format behind ≡ None)) (IsUnknownValue before behind)
    → MatchOption found (IsWellUsed before name behind) (IsMisused before name behind)
by_value before name behind None once taken alone whole unknown = record { once = once; taken = taken; alone = alone; whole = whole; known = unknown.0; formed = unknown.1 }
by_value before name behind (Some (NoValue value shown values)) once taken alone whole unknown = (once, taken, alone, whole, unknown)
by_value before name behind (Some NoSubcommand) once taken alone whole unknown = absurd unknown
by_value before name behind (Some (Twice shown)) once taken alone whole unknown = absurd unknown
by_value before name behind (Some (Stray shown)) once taken alone whole unknown = absurd unknown
by_value before name behind (Some (Excluded shown)) once taken alone whole unknown = absurd unknown
by_value before name behind (Some (Lacks shown)) once taken alone whole unknown = absurd unknown
by_value before name behind (Some (NoNumber text shown cause)) once taken alone whole unknown = absurd unknown

-- where no argument is misused, what the subcommand lacks is the cause
pub by_lack : (before : List Row) (name : Text) (behind : List Row) (fault : ReadFault) → IsWellUsed before name behind → IsLacking before behind name fault → IsUnread before name behind fault
by_lack before name behind (Misused misuse) used lacks = inr (used, lacks)
by_lack before name behind (Needed option) used lacks = (used, lacks)
by_lack before name behind OutOfMemory used lacks = tt
