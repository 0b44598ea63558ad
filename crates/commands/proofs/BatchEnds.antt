-- What is to be done at the end of a batch, by what was counted of its replies.
use Rattle.std.proofs.Common.{◌≡◌, ◌∙◌, ℕ, Bool, true, false, true≢false, List, [], ◌∷◌, None, Some, refl, sym, subst, ap}
use Rattle.std.specs.Prelude.{Option}
use Rattle.std.specs.List.{list_any}
use Rattle.std.specs.Option.{option_or}
use Rattle.states.specs.declared.refusal.Refusal.{Refusal}
use Rattle.journal.specs.declared.commands.Reply.{Reply}
use Rattle.journal.specs.declared.commands.Reply.TheVariants.{Done, Same, Refused}
use Rattle.commands.specs.BatchEnds.{IsEnd, first_refusal}
use Rattle.commands.specs.Replies.{is_accepted}
use Rattle.commands.specs.Tied.Tallies.{end_by_itself, end_of, end_of_all, no_replies, with_reply, with_replies}
use Rattle.commands.specs.declared.batch_end.BatchEnd.{BatchEnd}
use Rattle.commands.specs.declared.batch_end.Tally.{Tally}

-- whether one is `ok`: behind one that is, and else of these
counted_behind_ok : (tally : Tally) (replies : List Reply) → tally.has_accepted ≡ true → (with_replies tally replies).has_accepted ≡ true
counted_behind_ok tally [] had = had
counted_behind_ok tally (Done k ∷ replies) had = counted_behind_ok (with_reply tally (Done k)) replies refl
counted_behind_ok tally (Same ∷ replies) had = counted_behind_ok tally replies had
counted_behind_ok tally (Refused r ∷ replies) had = counted_behind_ok (with_reply tally (Refused r)) replies had

accepted_counted : (tally : Tally) (replies : List Reply) → tally.has_accepted ≡ false → (with_replies tally replies).has_accepted ≡ list_any is_accepted replies
accepted_counted tally [] had = had
accepted_counted tally (Done k ∷ replies) had = counted_behind_ok (with_reply tally (Done k)) replies refl
accepted_counted tally (Same ∷ replies) had = accepted_counted tally replies had
accepted_counted tally (Refused r ∷ replies) had = accepted_counted (with_reply tally (Refused r)) replies had

-- the first refusal: one that came before, and else that of these
refused_before : (tally : Tally) (replies : List Reply) (refusal : Refusal) → tally.refused ≡ Some refusal → (with_replies tally replies).refused ≡ Some refusal
refused_before tally [] refusal was = was
refused_before tally (Done k ∷ replies) refusal was = refused_before (with_reply tally (Done k)) replies refusal was
refused_before tally (Same ∷ replies) refusal was = refused_before tally replies refusal was
refused_before tally (Refused r ∷ replies) refusal was =
    refused_before (with_reply tally (Refused r)) replies refusal (ap (λ (one : Option Refusal). option_or one (Some r)) was)

refused_counted : (tally : Tally) (replies : List Reply) → tally.refused ≡ None → (with_replies tally replies).refused ≡ first_refusal replies
refused_counted tally [] was = was
refused_counted tally (Done k ∷ replies) was = refused_counted (with_reply tally (Done k)) replies was
refused_counted tally (Same ∷ replies) was = refused_counted tally replies was
refused_counted tally (Refused r ∷ replies) was =
    refused_before (with_reply tally (Refused r)) replies r (ap (λ (one : Option Refusal). option_or one (Some r)) was)

-- what is to be done at the end is what the replies say
is_end_by_itself : (accepted all : Bool) (replies : List Reply) → list_any is_accepted replies ≡ accepted → (all ≡ true → first_refusal replies ≡ None) → IsEnd all replies (end_by_itself accepted)
is_end_by_itself true all replies is none = (is, none)
is_end_by_itself false all replies is none = (is, none)

is_end_of_all : (accepted : Bool) (refused : Option Refusal) (number : ℕ) (replies : List Reply) → list_any is_accepted replies ≡ accepted → first_refusal replies ≡ refused
    → IsEnd true replies (end_of_all accepted refused number)
is_end_of_all accepted None number replies is first = is_end_by_itself accepted true replies is (λ all. first)
is_end_of_all accepted (Some refusal) number replies is first = (refl, first)

is_end_of : (all : Bool) (tally : Tally) (number : ℕ) (replies : List Reply) → list_any is_accepted replies ≡ tally.has_accepted → first_refusal replies ≡ tally.refused
    → IsEnd all replies (end_of all tally number)
is_end_of true tally number replies is first = is_end_of_all tally.has_accepted tally.refused number replies is first
is_end_of false tally number replies is first = is_end_by_itself tally.has_accepted false replies is (λ all. absurd (true≢false (sym all)))

pub end_of_replies : (all : Bool) (replies : List Reply) (number : ℕ) (was now : Tally) (end : BatchEnd) → was ≡ no_replies → now ≡ with_replies was replies → end ≡ end_of all now number
    → IsEnd all replies end
end_of_replies all replies number was now end was_is counted is =
    let tally : now ≡ with_replies no_replies replies = counted ∙ ap (λ (t : Tally). with_replies t replies) was_is in
    let accepted : list_any is_accepted replies ≡ now.has_accepted = sym (ap (λ (t : Tally). t.has_accepted) tally ∙ accepted_counted no_replies replies refl) in
    let first : first_refusal replies ≡ now.refused = sym (ap (λ (t : Tally). t.refused) tally ∙ refused_counted no_replies replies refl) in
    let P : BatchEnd → Type 0 = λ one. IsEnd all replies one in
    subst P (sym is) (is_end_of all now number replies accepted first)
