-- Why the words of a command line are no request. All of it is reqlock's own rule.
use Rattle.std.specs.Prelude.{◌≡◌, ◌≢◌, ◌⊎◌, true, List, [], ◌∷◌, None, Some, codes, IsSome, IsSomeAnd}
use Rattle.std.specs.Borrow.{Bor}
use Rattle.std.specs.List.{AllByRecursion}
use Rattle.clap.specs.Words.{Row, Text, first_of, kind_of}
use Rattle.clap.specs.declared.error.Error.{Error}
use Rattle.clap.specs.declared.error.kind.ErrorKind.{ErrorKind}
use Rattle.clap.specs.declared.error.kind.ErrorKind.TheVariants as kinds
use Rattle.command_line.specs.declared.misuse.Misuse.{Misuse}
use Rattle.command_line.specs.declared.misuse.Misuse.TheVariants as misuses
use Rattle.command_line.specs.declared.misuse.ReadFault.{ReadFault}
use Rattle.command_line.specs.declared.misuse.ReadFault.TheVariants as reads
use Rattle.command_line.specs.declared.usage.RequestFault.{RequestFault}
use Rattle.command_line.specs.declared.usage.RequestFault.TheVariants.{Usage, Needed, OutOfMemory}
use Rattle.command_line.specs.declared.usage.NeededOption.TheVariants.{Index, Environment}
use Rattle.command_line.specs.Options.{has_flag}
use Rattle.command_line.specs.Questions.{edit_of}
use Rattle.command_line.specs.Subcommands.{IsPlaceText, environments_of, index_of}

-- want of memory where that is clap's error, and else the error itself
abbrev pub FaultOf : Error → RequestFault → Type 0
FaultOf error (Usage shown) = (shown ≡ error) × (kind_of error ≢ kinds.OutOfMemory)
FaultOf error (Needed option) = ⊥
FaultOf error OutOfMemory = kind_of error ≡ kinds.OutOfMemory

-- a usage fault of this kind, or want of memory
abbrev pub FaultWith : ErrorKind → RequestFault → Type 0
FaultWith kind (Usage error) = kind_of error ≡ kind
FaultWith kind (Needed option) = ⊥
FaultWith kind OutOfMemory = Unit {0}

-- the kind of a usage fault, which is clap's for the like
abbrev pub kind_of_misuse : Misuse → ErrorKind
kind_of_misuse misuses.NoSubcommand = kinds.MissingSubcommand
kind_of_misuse (misuses.Twice shown) = kinds.ArgumentConflict
kind_of_misuse (misuses.Stray shown) = kinds.UnknownArgument
kind_of_misuse (misuses.Excluded shown) = kinds.ArgumentConflict
kind_of_misuse (misuses.Lacks shown) = kinds.MissingRequiredArgument
kind_of_misuse (misuses.NoValue value shown values) = kinds.InvalidValue
kind_of_misuse (misuses.NoNumber text shown cause) = kinds.ValueValidation

-- how a cause is told
abbrev pub IsTold : ReadFault → RequestFault → Type 0
IsTold (reads.Misused misuse) fault = FaultWith (kind_of_misuse misuse) fault
IsTold (reads.Needed option) fault = fault ≡ Needed option
IsTold reads.OutOfMemory fault = fault ≡ OutOfMemory

-- a subcommand that needs an environment, and one that needs an index
abbrev pub NeedsEnvironment : Text → List Row → Type 0
NeedsEnvironment name behind =
    (name ≡ codes "init") ⊎ (name ≡ codes "try") ⊎ (name ≡ codes "retarget")
    ⊎ ((name ≡ codes "why") × ((has_flag behind (codes "init") ≡ true) ⊎ (has_flag behind (codes "retarget") ≡ true)))

abbrev pub NeedsIndex : Text → List Row → Type 0
NeedsIndex name behind =
    (name ≡ codes "init") ⊎ (name ≡ codes "try") ⊎ (name ≡ codes "batch") ⊎ (name ≡ codes "skipped") ⊎ (name ≡ codes "why") ⊎ (name ≡ codes "outdated") ⊎ (name ≡ codes "replace") ⊎ (name ≡ codes "retarget")
    ⊎ ((name ≡ codes "check") × (has_flag behind (codes "current") ≡ true))
    ⊎ IsSome (edit_of name behind)

-- the option that is missing; the index is missed first
abbrev pub LacksIndex : List Row → List Row → ReadFault → Type 0
LacksIndex before behind fault = (fault ≡ reads.Needed Index) × (index_of before behind ≡ None)

abbrev pub LacksInput : List Row → List Row → ReadFault → Type 0
LacksInput before behind (reads.Misused misuse) = ⊥
LacksInput before behind (reads.Needed Index) = index_of before behind ≡ None
LacksInput before behind (reads.Needed Environment) = IsSome (index_of before behind) × (environments_of before behind ≡ [])
LacksInput before behind reads.OutOfMemory = Unit {0}

-- the subcommands behind which no edit is typed, in the order of clap's command (`the_subcommands_are_known`)
abbrev pub other_names : List Text
other_names = codes "init" ∷ codes "replace" ∷ codes "retarget" ∷ codes "undo" ∷ codes "redo" ∷ codes "forget" ∷ codes "batch" ∷ codes "try" ∷ codes "show" ∷ codes "log" ∷ codes "diff" ∷ codes "check" ∷ codes "outdated" ∷ codes "export" ∷ codes "skipped" ∷ codes "why" ∷ []

-- no subcommand of the program, or an edit that lacks a text
abbrev pub IsNoSubcommand : Text → List Row → Type 0
IsNoSubcommand name behind =
    (edit_of name behind ≡ None)
    × AllByRecursion (λ known. name ≢ known) other_names

-- why `why` has no question: an option is missing
abbrev pub IsNoQuestion : List Row → List Row → ReadFault → Type 0
IsNoQuestion before behind (reads.Misused misuse) = ⊥
IsNoQuestion before behind (reads.Needed Index) = index_of before behind ≡ None
IsNoQuestion before behind (reads.Needed Environment) =
    ((has_flag behind (codes "init") ≡ true) ⊎ (has_flag behind (codes "retarget") ≡ true)) × IsSome (index_of before behind) × (environments_of before behind ≡ [])
IsNoQuestion before behind reads.OutOfMemory = Unit {0}

-- a text, of an argument as help shows it, that is no number
abbrev pub IsNoNumber : Bor Text → Bor Text → ReadFault → Type 0
IsNoNumber wanted argument (reads.Misused (misuses.NoNumber text shown cause)) = (text ≡ wanted) × (shown ≡ argument) × (IsPlaceText text.now → ⊥)
IsNoNumber wanted argument fault = ⊥

-- the first of FROM and TO that is no number, and how help shows it
abbrev pub IsNoPlace : Text → Text → List Row → Type 0
IsNoPlace text shown behind =
    (((shown ≡ codes "[FROM]") × (first_of (codes "from") behind ≡ Some text))
    ⊎ ((shown ≡ codes "[TO]") × IsSomeAnd (first_of (codes "from") behind) IsPlaceText × (first_of (codes "to") behind ≡ Some text)))
    × (IsPlaceText text → ⊥)

abbrev pub HasNoPlace : List Row → ReadFault → Type 0
HasNoPlace behind (reads.Misused (misuses.NoNumber text shown cause)) = IsNoPlace text.now shown.now behind
HasNoPlace behind fault = ⊥

-- the value of `--before`, or else of `--keep`, that is no number, and how help shows it
abbrev pub IsNoBeginning : Text → Text → List Row → Type 0
IsNoBeginning text shown behind =
    (((shown ≡ codes "--before <N>") × (first_of (codes "before") behind ≡ Some text))
    ⊎ ((shown ≡ codes "--keep <N>") × (first_of (codes "before") behind ≡ None) × (first_of (codes "keep") behind ≡ Some text)))
    × (IsPlaceText text → ⊥)

-- neither option is given
abbrev pub LacksBeginning : Text → List Row → Type 0
LacksBeginning shown behind = (shown ≡ codes "--before or --keep") × (first_of (codes "before") behind ≡ None) × (first_of (codes "keep") behind ≡ None)

abbrev pub HasNoBeginning : List Row → ReadFault → Type 0
HasNoBeginning behind (reads.Misused (misuses.NoNumber text shown cause)) = IsNoBeginning text.now shown.now behind
HasNoBeginning behind (reads.Misused (misuses.Lacks shown)) = LacksBeginning shown.now behind
HasNoBeginning behind fault = ⊥

-- why a subcommand of this name can't be done, of what clap found before it and behind it
abbrev pub IsLacking : List Row → List Row → Text → ReadFault → Type 0
IsLacking before behind name (reads.Misused misuses.NoSubcommand) = IsNoSubcommand name behind
IsLacking before behind name (reads.Misused (misuses.NoNumber text shown cause)) =
    ((name ≡ codes "diff") × IsNoPlace text.now shown.now behind) ⊎ ((name ≡ codes "forget") × IsNoBeginning text.now shown.now behind)
IsLacking before behind name (reads.Misused (misuses.Lacks shown)) = (name ≡ codes "forget") × LacksBeginning shown.now behind
IsLacking before behind name (reads.Misused misuse) = ⊥
IsLacking before behind name (reads.Needed Index) = NeedsIndex name behind × (index_of before behind ≡ None)
IsLacking before behind name (reads.Needed Environment) = NeedsEnvironment name behind × IsSome (index_of before behind) × (environments_of before behind ≡ [])
IsLacking before behind name reads.OutOfMemory = Unit {0}
