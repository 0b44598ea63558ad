-- Lemmas on what clap reads.
use Rattle.std.proofs.Common.{◌≡◌, ℕ, Bor, true, true≢false, List, [], Option, None, Some, refl, sym, ap, subst, inl, inr, codes}
use Rattle.std.specs.Prelude.{is_some, option_map, unwrap_or, Box, Result}
use Rattle.clap.specs.Words.{App, FailsBy, HasMatchesOf, Row, Text, all_of, HasKind, IsAmong, fault_of, first_of, found_of, is_simple, is_simple_and_free, kind_of, matches_of, rows_of, subcommand_name_of, subcommand_of, subcommand_rows, subcommand_rows_of}
use Rattle.clap.specs.declared.error.Error.{Error}
use Rattle.clap.specs.declared.parser.matches.ArgMatches.{ArgMatches}
use Rattle.clap.specs.declared.parser.matches.ArgMatches.TheViews.{out-ArgMatches, out-SubCommand}
use Rattle.clap.specs.declared.parser.matches.SubCommand.{SubCommand}
use Rattle.std.specs.Box.{box_value}
use Rattle.std.specs.Option.{option_or}
use Rattle.command_line.specs.declared.usage.RequestFault.{RequestFault}
use Rattle.command_line.specs.declared.usage.RequestFault.TheVariants.{Usage, Needed, OutOfMemory}
use Rattle.command_line.specs.CommandWords.{reqlock_app}
use Rattle.edits.specs.declared.request.Edit.{Edit}
use Rattle.edits.specs.declared.request.Edit.TheVariants.{Add, Constrain, Remove}
use Rattle.command_line.specs.Options.{text_of}
use Rattle.command_line.specs.Questions.{edit_of, upgrade_with}
use Rattle.command_line.specs.declared.misuse.ReadFault.{ReadFault}
use Rattle.command_line.specs.Requests.{IsFault, IsFaultBy, IsLackingIn, IsUnread}
use Rattle.command_line.specs.UsageFaults.{FaultOf, IsTold}

-- the command is one of which clap's contracts say all
pub app_is_simple : is_simple reqlock_app ≡ true
unfolding reqlock_app
app_is_simple = refl

pub app_is_free : is_simple_and_free reqlock_app ≡ true
unfolding reqlock_app
app_is_free = refl

-- clap's error as a fault
pub fault_is : (words : List Text) (error : Error) (fault : RequestFault) → HasKind (fault_of reqlock_app words) error → FaultOf error fault → IsFault words fault
fault_is words error (Usage shown) (inl memory) told = absurd (told.1 memory)
fault_is words error (Usage shown) (inr among) told = let P : Error → Type 0 = λ e. IsAmong (kind_of e) (fault_of reqlock_app words) in inl (subst P (sym told.0) among)
fault_is words error (Needed option) has told = absurd told
fault_is words error OutOfMemory has told = inl tt

module _ {Z : Type 0} where
  name_of_box : (found : Option (Box SubCommand Z)) → option_map (λ b. (out-SubCommand (box_value b)).name.now) found ≡ option_map (λ pair. pair.0) (subcommand_rows found)
  name_of_box None = refl
  name_of_box (Some b) = refl

-- the name of the subcommand
pub name_in : (m : ArgMatches) → subcommand_name_of m ≡ option_map (λ found. found.0) (subcommand_rows_of m)
name_in m = name_of_box ((out-ArgMatches m).subcommand)

-- clap's clauses at the command
pub kinds_of : (app : App) (words : List Text) (result : Result ArgMatches Error) → app ≡ reqlock_app → (is_simple_and_free app ≡ true → FailsBy (fault_of app words) result) → FailsBy (fault_of reqlock_app words) result
kinds_of app words result is kinds = let P : App → Type 0 = λ a. is_simple_and_free a ≡ true → FailsBy (fault_of a words) result in subst P is kinds app_is_free

pub matches_are : (app : App) (words : List Text) (m : ArgMatches) → app ≡ reqlock_app → HasMatchesOf app words m → (rows_of (found_of m) ≡ matches_of reqlock_app words) × (subcommand_rows_of m ≡ subcommand_of reqlock_app words)
matches_are app words m is matches = let P : App → Type 0 = λ a. HasMatchesOf a words m in subst P is matches app_is_simple

-- the subcommand that clap found, of its name and of its texts
pub both_of : {A B : Type 0} (found : Option (A × B)) (a : A) (b : B) → Some a ≡ option_map (λ p. p.0) found → Some b ≡ option_map (λ p. p.1) found → found ≡ Some (a, b)
both_of None a b first second = absurd (true≢false (ap is_some first))
both_of (Some found) a b first second = λ i. Some (unwrap_or (sym first i) a, unwrap_or (sym second i) b)

-- a text or a text of the program's own
pub now_or : (text : Option (Bor (List ℕ))) (other : Bor (List ℕ)) → (unwrap_or text other).now ≡ unwrap_or (option_map (λ s. s.now) text) other.now
now_or None other = refl
now_or (Some text) other = refl

-- the text of one that may be there, or of the other
pub text_of_either : (one other : Option (Bor Text)) → text_of (option_or one other) ≡ option_or (text_of one) (text_of other)
text_of_either None other = refl
text_of_either (Some one) other = refl

-- the edit of each name, by its texts
pub add_is : (name : Text) (rows : List Row) (text : Option Text) → name ≡ codes "add" → text ≡ first_of (codes "text") rows → option_map Add text ≡ edit_of name rows
add_is name rows text named given = rw (named, given) refl

pub remove_is : (name : Text) (rows : List Row) (other : Option Text) → name ≡ codes "remove" → other ≡ first_of (codes "name") rows → option_map Remove other ≡ edit_of name rows
remove_is name rows other named given = rw (named, given) refl

pub constrain_is : (name : Text) (rows : List Row) (other specifiers : Option Text) → name ≡ codes "constrain" → other ≡ first_of (codes "name") rows → specifiers ≡ first_of (codes "specifiers") rows
    → option_map (λ n. Constrain n (unwrap_or specifiers [])) other ≡ edit_of name rows
constrain_is name rows other specifiers named given behind = rw (named, given, behind) refl

pub upgrade_is : (name : Text) (rows : List Row) (names : Option (List Text)) (edit : Edit) → name ≡ codes "upgrade" → names ≡ all_of (codes "names") rows → edit ≡ upgrade_with (unwrap_or names [])
    → Some edit ≡ edit_of name rows
upgrade_is name rows names edit named given is = rw (named, is, given) refl

-- a cause in what clap found, as it is told, is a fault of the words
pub fault_in : (words : List Text) (before : List Row) (name : Text) (behind : List Row) (cause : ReadFault) (fault : RequestFault) → fault_of reqlock_app words ≡ [] → before ≡ matches_of reqlock_app words
    → subcommand_of reqlock_app words ≡ Some (name, behind) → IsUnread before name behind cause → IsTold cause fault → IsFault words fault
fault_in words before name behind cause fault read rows pair unread told =
    let P : List Row → Type 0 = λ b. IsFaultBy b name behind fault in
    let Q : Option (Text × List Row) → Type 0 = λ found. IsLackingIn (matches_of reqlock_app words) found fault in
    inr (read, subst Q (sym pair) (subst P rows (cause, unread, told)))
