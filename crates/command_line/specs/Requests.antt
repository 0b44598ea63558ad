-- What the words of a command line ask for, as clap reads them. All of it is reqlock's own rule.
use Rattle.std.specs.Prelude.{◌≡◌, ◌⊎◌, List, [], Option, None, Some, codes, unwrap_or, IsSomeAnd}
use Rattle.clap.specs.Words.{Row, Text, IsAmong, fault_of, kind_of, matches_of, subcommand_of}
use Rattle.clap.specs.declared.error.kind.ErrorKind.TheVariants as kinds
use Rattle.command_line.specs.declared.invocation.Invocation.{Invocation}
use Rattle.command_line.specs.declared.misuse.ReadFault.{ReadFault}
use Rattle.command_line.specs.declared.misuse.ReadFault.TheVariants as reads
use Rattle.command_line.specs.declared.usage.RequestFault.{RequestFault}
use Rattle.command_line.specs.declared.usage.RequestFault.TheVariants.{Usage, Needed, OutOfMemory}
use Rattle.command_line.specs.CommandWords.{reqlock_app}
use Rattle.command_line.specs.Misuses.{IsMisused, IsWellUsed}
use Rattle.command_line.specs.Options.{chosen}
use Rattle.command_line.specs.Subcommands.{IsSubcommand, color_of, verbosity_of}
use Rattle.command_line.specs.UsageFaults.{FaultWith, IsLacking, IsTold}

-- the request of a subcommand with what stands before it and behind it: no argument is misused, and the request has what was found
pub record IsReadAs (before : List Row) (name : Text) (behind : List Row) (request : Invocation) : Type 0 where
  pub used : IsWellUsed before name behind
  pub subcommand : IsSubcommand before behind name request.subcommand
  pub dir : request.dir.now ≡ unwrap_or (chosen before behind (codes "dir")) (codes ".")
  pub verbosity : request.verbosity ≡ verbosity_of before behind
  pub color : request.color ≡ color_of before behind

-- clap reads the words, and the request has what it finds in them
pub record IsRequest (words : List Text) (request : Invocation) : Type 0 where
  pub read : fault_of reqlock_app words ≡ []
  pub found : IsSomeAnd (subcommand_of reqlock_app words) (λ found. IsReadAs (matches_of reqlock_app words) found.0 found.1 request)

-- clap's error is one of those of the words: it refuses them or gives help
abbrev pub IsRefused : List Text → RequestFault → Type 0
IsRefused words (Usage error) = IsAmong (kind_of error) (fault_of reqlock_app words)
IsRefused words (Needed option) = ⊥
IsRefused words OutOfMemory = Unit {0}

-- why a subcommand is no request: an argument is misused; or none is, and the subcommand can't be done
abbrev pub IsUnread : List Row → Text → List Row → ReadFault → Type 0
IsUnread before name behind (reads.Misused misuse) = IsMisused before name behind misuse ⊎ (IsWellUsed before name behind × IsLacking before behind name (reads.Misused misuse))
IsUnread before name behind (reads.Needed option) = IsWellUsed before name behind × IsLacking before behind name (reads.Needed option)
IsUnread before name behind reads.OutOfMemory = Unit {0}

abbrev pub IsFaultBy : List Row → Text → List Row → RequestFault → Type 0
IsFaultBy before name behind fault = (cause : ReadFault) × IsUnread before name behind cause × IsTold cause fault

-- the same of the subcommand that clap found, or of none
abbrev pub IsLackingIn : List Row → Option (Text × List Row) → RequestFault → Type 0
IsLackingIn before (Some found) fault = IsFaultBy before found.0 found.1 fault
IsLackingIn before None fault = FaultWith kinds.MissingSubcommand fault

-- why the words are no request: clap refuses them, or it reads them and they can't be done
abbrev pub IsFault : List Text → RequestFault → Type 0
IsFault words fault =
    IsRefused words fault
    ⊎ ((fault_of reqlock_app words ≡ []) × IsLackingIn (matches_of reqlock_app words) (subcommand_of reqlock_app words) fault)
