-- Worked values of the definitions.
use Rattle.std.specs.Prelude.{◌≡◌, [], ◌∷◌, false, Some, None, Ok, Err, codes, refl}
use Rattle.markers.specs.declared.fault.Cause.TheVariants.{BadName, Continuation, OddCharacter, OptionLine, UrlRequirement}
use Rattle.pep508.specs.Lines.{lines_of}
use Rattle.markers.specs.Names.{is_name, normal_of}
use Rattle.pep508.specs.Parts.{before_comment, comment_place, content_of, ended, ending_of, has_odd}
use Rattle.pep508.specs.Requirement.{asked_in, extras_of, first_fault, lines_read, names_of, requirement_of, requirement_text, set_text, wanted_by}
use Rattle.pep508.specs.Slices.{joined, slices_of, slices_with, with_version}

-- runs of separators are one hyphen, and letters are in lower case (PEP 503)
normal_row : normal_of (codes "Friendly--_.Bard") ≡ codes "friendly-bard"
unfolding normal_of
normal_row = refl

-- a name ends with a letter or a digit
name_row : is_name (codes "friendly-") ≡ false
name_row = refl

-- each line has its own ending, and the last may have none
lines_row : lines_of (codes "a\r\n\nb") ≡ codes "a\r\n" ∷ codes "\n" ∷ codes "b" ∷ []
unfolding lines_of
lines_row = refl

ending_row : ending_of (codes "a\r\n") ≡ codes "\r\n"
ending_row = refl

-- a CR alone is no ending
cr_row : content_of (codes "a\r") ≡ codes "a\r"
cr_row = refl

ended_row : ended (codes "\r\n") (codes "a") ≡ codes "a\r\n"
ended_row = refl

requirement_row : requirement_of (codes "\tB_b # pin\r\n") ≡ Ok (Some (record { name = codes "b-b"; extras = []; clauses = []; marker = None }))
unfolding requirement_of wanted_by asked_in slices_with has_odd comment_place normal_of
requirement_row = refl

-- a `#` that doesn't stand behind a space or a tab begins no comment
hash_row : before_comment (codes "b#c #d") ≡ codes "b#c "
unfolding comment_place
hash_row = refl

blank_row : requirement_of (codes " \t# nothing\n") ≡ Ok None
unfolding requirement_of wanted_by asked_in slices_with has_odd comment_place
blank_row = refl

option_row : requirement_of (codes "-r other.txt\n") ≡ Err OptionLine
unfolding requirement_of wanted_by asked_in slices_with has_odd comment_place
option_row = refl

url_row : requirement_of (codes "b @ file:b\n") ≡ Err UrlRequirement
unfolding requirement_of wanted_by asked_in slices_with has_odd comment_place
url_row = refl

control_row : requirement_of (codes "b\r") ≡ Err OddCharacter
unfolding requirement_of wanted_by has_odd
control_row = refl

-- the fault of a file is that of its first refused line
file_row : lines_read (codes "a\n_b\n-c\n") ≡ Err (record { line = 2; cause = BadName })
unfolding first_fault lines_of requirement_of wanted_by asked_in slices_with has_odd comment_place normal_of
file_row = refl

-- a backslash at the end of a comment too would join the line to the next
continued_row : requirement_of (codes "a # b\\") ≡ Err Continuation
unfolding requirement_of wanted_by has_odd
continued_row = refl

-- extras are names between commas, in their normal form, up to the first `]`
extras_row : extras_of (codes "[E_1 , f]") ≡ Ok (codes "e-1" ∷ codes "f" ∷ [])
unfolding names_of normal_of
extras_row = refl

open_extras_row : requirement_text (codes " a[b") ≡ Err BadName
unfolding asked_in slices_with normal_of
open_extras_row = refl

-- parentheses around a set are no part of it
parentheses_row : set_text (codes "( >=1 )") ≡ codes " >=1 "
parentheses_row = refl

-- space goes to the gap before the next part that is there
slices_row : slices_of (codes " a (>=1) ; b # c\n") ≡ record {
  lead = codes " ";
  name = codes "a";
  gap1 = [];
  extras = [];
  gap2 = codes " ";
  version = codes "(>=1)";
  gap3 = codes " ";
  marker = codes "; b";
  gap4 = codes " ";
  comment = codes "# c";
  end = codes "\n";
}
unfolding slices_of slices_with comment_place
slices_row = refl

-- a set is put in the place of the old one, or directly behind name and extras
replaced_row : joined (with_version (codes ">=2") (slices_of (codes "B.b (>=1) ; c # keep"))) ≡ codes "B.b >=2 ; c # keep"
unfolding slices_of slices_with comment_place
replaced_row = refl

put_row : joined (with_version (codes ">=2") (slices_of (codes "a ; b"))) ≡ codes "a>=2 ; b"
unfolding slices_of slices_with comment_place
put_row = refl
