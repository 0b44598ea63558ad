-- Why a subcommand can't be done, from why a part of it can't.
use Rattle.std.proofs.Common.{◌≡◌, List, inl, inr, codes, refl, subst, sym}
use Rattle.std.specs.Prelude.{IsSome}
use Rattle.clap.specs.Words.{Row, Text}
use Rattle.command_line.specs.declared.invocation.AskedEdit.{AskedEdit}
use Rattle.command_line.specs.declared.invocation.AskedEdit.TheVariants.{Replace, Retarget, Typed}
use Rattle.command_line.specs.declared.misuse.Misuse.TheVariants.{Excluded, Lacks, NoNumber, NoSubcommand, NoValue, Stray, Twice}
use Rattle.command_line.specs.declared.misuse.ReadFault.{ReadFault}
use Rattle.command_line.specs.declared.misuse.ReadFault.TheVariants.{Misused, Needed, OutOfMemory}
use Rattle.command_line.specs.declared.usage.NeededOption.TheVariants.{Environment, Index}
use Rattle.command_line.specs.Subcommands.{IsAskedEdit}
use Rattle.command_line.specs.UsageFaults.{HasNoBeginning, HasNoPlace, IsLacking, IsNoQuestion, LacksIndex, LacksInput, NeedsEnvironment, NeedsIndex}

-- each subcommand that makes an edit needs an index
pub edit_needs_index : (before behind : List Row) (name : Text) (asked : AskedEdit) → IsAskedEdit before behind name asked → NeedsIndex name behind
edit_needs_index before behind name (Typed edit) is = inr (inr (inr (inr (inr (inr (inr (inr (inr (subst IsSome (sym is) refl)))))))))
edit_needs_index before behind name (Replace replacement) is = inr (inr (inr (inr (inr (inr (inl is.0))))))
edit_needs_index before behind name (Retarget targets) is = inr (inr (inr (inr (inr (inr (inr (inl is.0)))))))

pub index_lacks : (before behind : List Row) (name : Text) (fault : ReadFault) → NeedsIndex name behind → LacksIndex before behind fault → IsLacking before behind name fault
index_lacks before behind name fault needs lacks = subst (IsLacking before behind name) (sym lacks.0) (needs, lacks.1)

pub input_lacks : (before behind : List Row) (name : Text) (fault : ReadFault) → NeedsIndex name behind → NeedsEnvironment name behind → LacksInput before behind fault → IsLacking before behind name fault
input_lacks before behind name (Misused misuse) needs needs' lacks = absurd lacks
input_lacks before behind name (Needed Index) needs needs' lacks = (needs, lacks)
input_lacks before behind name (Needed Environment) needs needs' lacks = (needs', lacks.0, lacks.1)
input_lacks before behind name OutOfMemory needs needs' lacks = tt

pub place_lacks : (before behind : List Row) (name : Text) (fault : ReadFault) → name ≡ codes "diff" → HasNoPlace behind fault → IsLacking before behind name fault
place_lacks before behind name (Misused (NoNumber text shown cause)) named lacks = inl (named, lacks)
place_lacks before behind name (Misused NoSubcommand) named lacks = absurd lacks
place_lacks before behind name (Misused (Twice shown)) named lacks = absurd lacks
place_lacks before behind name (Misused (Stray shown)) named lacks = absurd lacks
place_lacks before behind name (Misused (Excluded shown)) named lacks = absurd lacks
place_lacks before behind name (Misused (Lacks shown)) named lacks = absurd lacks
place_lacks before behind name (Misused (NoValue value shown values)) named lacks = absurd lacks
place_lacks before behind name (Needed option) named lacks = absurd lacks
place_lacks before behind name OutOfMemory named lacks = tt

pub beginning_lacks : (before behind : List Row) (name : Text) (fault : ReadFault) → name ≡ codes "forget" → HasNoBeginning behind fault → IsLacking before behind name fault
beginning_lacks before behind name (Misused (NoNumber text shown cause)) named lacks = inr (named, lacks)
beginning_lacks before behind name (Misused (Lacks shown)) named lacks = (named, lacks)
beginning_lacks before behind name (Misused NoSubcommand) named lacks = absurd lacks
beginning_lacks before behind name (Misused (Twice shown)) named lacks = absurd lacks
beginning_lacks before behind name (Misused (Stray shown)) named lacks = absurd lacks
beginning_lacks before behind name (Misused (Excluded shown)) named lacks = absurd lacks
beginning_lacks before behind name (Misused (NoValue value shown values)) named lacks = absurd lacks
beginning_lacks before behind name (Needed option) named lacks = absurd lacks
beginning_lacks before behind name OutOfMemory named lacks = absurd lacks

pub no_question_lacks : (before behind : List Row) (name : Text) (fault : ReadFault) → name ≡ codes "why" → IsNoQuestion before behind fault → IsLacking before behind name fault
no_question_lacks before behind name (Misused misuse) named unasked = absurd unasked
no_question_lacks before behind name (Needed Index) named unasked = (inr (inr (inr (inr (inl named)))), unasked)
no_question_lacks before behind name (Needed Environment) named unasked = (inr (inr (inr (named, unasked.0))), unasked.1, unasked.2)
no_question_lacks before behind name OutOfMemory named unasked = tt
