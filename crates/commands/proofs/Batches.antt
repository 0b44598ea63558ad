-- Lemmas on runs that are written piece by piece.
use Rattle.std.proofs.Common.{◌≡◌, ◌∙◌, ℕ, ◌<◌, ◌==◌, Bool, length, take, true, false, List, [], ◌∷◌, ◌++◌, refl, sym, subst, ap, arith, inl, append_assoc, append-nil, Option, Some, None}
use Rattle.std.specs.Io.KnownBytes.{Appends, Consumes, IsAtEnd, Keeps}
use Rattle.std.specs.Prelude.{IfSome, OnErr, OnOk, Result, Ok, Err}
use Rattle.std.specs.List.{filter_map}
use Rattle.std.specs.Option.{option_to_list}
use Rattle.std.proofs.lemmas.Bool.{eqb-false}
use Rattle.std.proofs.lemmas.Grind.{flat_map-append}
use Rattle.std.proofs.lemmas.List.Elements.{filter_map-append}
use Rattle.states.specs.declared.pool.Pool.{Pool}
use Rattle.journal.specs.declared.commands.Reply.{Reply}
use Rattle.journal.specs.declared.commands.Reply.TheVariants.{Refused}
use Rattle.states.specs.declared.refusal.Refusal.TheVariants as refusals
use Rattle.edits.specs.declared.request.Edit.{Edit as EditValue}
use Rattle.journal.specs.Changes.{HistoryParts}
use Rattle.journal.specs.Commands.{Asked, Editing, Undoing, Redoing}
use Rattle.journal.specs.Histories.{ChangesAfter, RunWithChanges}
use Rattle.journal.specs.Steps.{Step}
use Rattle.commands.specs.declared.batch_line.Item.{Item}
use Rattle.commands.specs.declared.batch_line.Item.TheVariants.{Edit, Undo, Redo, BadCommand}
use Rattle.commands.specs.BatchLine.{Line, item_of, ended_item_of, commands_of, ended_commands_of, input_lines_of, IsUnbroken, IsEdit}
use Rattle.commands.specs.Replies.{text_of_reply, reply_text}
use Rattle.commands.specs.declared.batch.StreamFault.{StreamFault}
use Rattle.commands.specs.declared.batch.StreamFault.TheVariants.{OutOfMemory}
use Rattle.commands.specs.Faults.{IsOfSink}
use Rattle.commands.specs.Runs.{command_in, replies_of, Replied, Answered, AnsweredTo, IsCutOff, BreaksOff, Ends, EndsAt, SomeDone, SomeDoneTo, EndsInReading, EndsInWriting}
use Rattle.commands.specs.Tied.Standings.{Standing, Advances, Answers, AnswersAllBut, ReadsOf, Reads, Breaks, SomeAdvance}
use Rattle.commands.specs.Tied.Tallies.{end_of, no_replies, with_reply, with_replies}
use Rattle.commands.specs.declared.batch_end.BatchEnd.{BatchEnd}
use Rattle.commands.specs.declared.batch_end.Tally.{Tally}
use Rattle.commands.proofs.BatchEnds.{end_of_replies}
use Rattle.commands.proofs.Lines.{items_alike, ended_items_alike, items_kept, items_of_line, none_ended, commands_last, unbroken_append}

-- ---- runs

-- one run behind another
run_append : (xs ys : List Asked) (rs ts : List Reply) (old next new : HistoryParts) → RunWithChanges old xs rs next → RunWithChanges next ys ts new → RunWithChanges old (xs ++ ys) (rs ++ ts) new
run_append [] ys [] ts old next new first second = let P : HistoryParts → Type 0 = λ p. RunWithChanges p ys ts new in subst P first second
run_append [] ys (r ∷ rs) ts old next new first second = absurd first
run_append (x ∷ xs) ys [] ts old next new first second = absurd first
run_append (x ∷ xs) ys (r ∷ rs) ts old next new first second = (first.0, first.1, first.2, run_append xs ys rs ts first.0 next new first.3 second)

-- the replies to items are those to the first of them and those to the others
replies_append : (pool : Pool) (xs ys : List Item) (rs ts : List Reply) (old next : HistoryParts) → RunWithChanges old (filter_map (command_in pool) xs) rs next → replies_of (xs ++ ys) (rs ++ ts) ≡ replies_of xs rs ++ replies_of ys ts
replies_append pool [] ys [] ts old next run = refl
replies_append pool [] ys (r ∷ rs) ts old next run = absurd run
replies_append pool (BadCommand ∷ xs) ys rs ts old next run = ap (λ replies. Refused refusals.BadCommand ∷ replies) (replies_append pool xs ys rs ts old next run)
replies_append pool (Edit edit ∷ xs) ys [] ts old next run = absurd run
replies_append pool (Edit edit ∷ xs) ys (r ∷ rs) ts old next run = ap (λ replies. r ∷ replies) (replies_append pool xs ys rs ts run.0 next run.3)
replies_append pool (Undo ∷ xs) ys [] ts old next run = absurd run
replies_append pool (Undo ∷ xs) ys (r ∷ rs) ts old next run = ap (λ replies. r ∷ replies) (replies_append pool xs ys rs ts run.0 next run.3)
replies_append pool (Redo ∷ xs) ys [] ts old next run = absurd run
replies_append pool (Redo ∷ xs) ys (r ∷ rs) ts old next run = ap (λ replies. r ∷ replies) (replies_append pool xs ys rs ts run.0 next run.3)

replied_append : (pool : Pool) (xs ys : List Item) (rs ts : List Reply) (old next new : HistoryParts) → Replied pool xs rs old next → Replied pool ys ts next new → Replied pool (xs ++ ys) (rs ++ ts) old new
replied_append pool xs ys rs ts old next new first second =
    let P : List Asked → Type 0 = λ asked. RunWithChanges old asked (first.0 ++ second.0) new in (
      first.0 ++ second.0,
      subst P (sym (filter_map-append (command_in pool) xs ys)) (run_append (filter_map (command_in pool) xs) (filter_map (command_in pool) ys) first.0 second.0 old next new first.1 second.1),
      ap (λ replies. replies ++ ts) first.2 ∙ ap (λ replies. replies_of xs first.0 ++ replies) second.2 ∙ sym (replies_append pool xs ys first.0 second.0 old next first.1),
    )

-- nothing was asked for
pub replied_none : (pool : Pool) (old : HistoryParts) → Replied pool [] [] old old
replied_none pool old = ([], refl, refl)

-- one item that asks for this
pub replied_edit : (pool : Pool) (item : Item) (edit : EditValue) (reply : Reply) (old new : HistoryParts) → item ≡ Edit edit → Step old.past (Editing edit pool) reply new.past → ChangesAfter old (Editing edit pool) reply new → Replied pool (item ∷ []) (reply ∷ []) old new
replied_edit pool item edit reply old new is step changes =
    let P : Item → Type 0 = λ i. Replied pool (i ∷ []) (reply ∷ []) old new in subst P (sym is) (reply ∷ [], (new, step, changes, refl), refl)

-- the same over an equal pool
pub replied_edit_over : (pool other : Pool) (item : Item) (edit : EditValue) (reply : Reply) (old new : HistoryParts) → item ≡ Edit edit → other ≡ pool → Step old.past (Editing edit other) reply new.past → ChangesAfter old (Editing edit other) reply new → Replied pool (item ∷ []) (reply ∷ []) old new
replied_edit_over pool other item edit reply old new is same step changes =
    subst (λ (p : Pool). Replied p (item ∷ []) (reply ∷ []) old new) same (replied_edit other item edit reply old new is step changes)

pub replied_undo : (pool : Pool) (item : Item) (reply : Reply) (old new : HistoryParts) → item ≡ Undo → Step old.past Undoing reply new.past → ChangesAfter old Undoing reply new → Replied pool (item ∷ []) (reply ∷ []) old new
replied_undo pool item reply old new is step changes =
    let P : Item → Type 0 = λ i. Replied pool (i ∷ []) (reply ∷ []) old new in subst P (sym is) (reply ∷ [], (new, step, changes, refl), refl)

pub replied_redo : (pool : Pool) (item : Item) (reply : Reply) (old new : HistoryParts) → item ≡ Redo → Step old.past Redoing reply new.past → ChangesAfter old Redoing reply new → Replied pool (item ∷ []) (reply ∷ []) old new
replied_redo pool item reply old new is step changes =
    let P : Item → Type 0 = λ i. Replied pool (i ∷ []) (reply ∷ []) old new in subst P (sym is) (reply ∷ [], (new, step, changes, refl), refl)

-- an edit is refused where there is no memory for its text
pub replied_for_memory : (pool : Pool) (item : Option Item) (old : HistoryParts) → IsEdit item → Replied pool (option_to_list item) (Refused refusals.OutOfMemory ∷ []) old old
replied_for_memory pool None old is = absurd is
replied_for_memory pool (Some (Edit edit)) old is = replied_edit pool (Edit edit) edit (Refused refusals.OutOfMemory) old old refl (inl refl, refl) refl
replied_for_memory pool (Some Undo) old is = absurd is
replied_for_memory pool (Some Redo) old is = absurd is
replied_for_memory pool (Some BadCommand) old is = absurd is

-- what a line asked for was answered
pub replied_item : (pool : Pool) (asked : Option Item) (item : Item) (reply : Reply) (old new : HistoryParts) → Some item ≡ asked → Replied pool (item ∷ []) (reply ∷ []) old new → Replied pool (option_to_list asked) (reply ∷ []) old new
replied_item pool asked item reply old new is replied =
    let P : Option Item → Type 0 = λ one. Replied pool (option_to_list one) (reply ∷ []) old new in subst P is replied

-- ---- what is written

-- what was written in two steps
pub appends_append : (a b c : Option (List ℕ)) (xs ys : List ℕ) → Appends a b xs → Appends b c ys → Appends a c (xs ++ ys)
appends_append None b c xs ys first second = tt
appends_append (Some xs0) None c xs ys first second = absurd first
appends_append (Some xs0) (Some ys0) None xs ys first second = absurd second
appends_append (Some xs0) (Some ys0) (Some zs0) xs ys first second = second ∙ ap (λ l. l ++ ys) first ∙ append_assoc xs0 xs ys

-- nothing was written
pub appends_none : (a : Option (List ℕ)) → Appends a a []
appends_none None = tt
appends_none (Some xs0) = sym (append-nil xs0)

pub appends_kept : (a b : Option (List ℕ)) → Keeps a b → Appends a b []
appends_kept None b kept = tt
appends_kept (Some xs) None kept = absurd kept
appends_kept (Some xs) (Some ys) kept = kept ∙ sym (append-nil xs)

-- some are left
some_left : (xs : List ℕ) → (length xs == 0) ≡ false → 0 < length xs
some_left [] more = absurd (eqb-false 0 0 more refl)
some_left (x ∷ xs) more = omega arith

-- a write that took some bytes, and one behind it that took none: what is left is missing
pub cut_off_here : (text written rest : List ℕ) (a b c : Option (List ℕ)) → text ≡ written ++ rest → (length rest == 0) ≡ false → Appends a b written → Appends b c [] → IsCutOff text a c
cut_off_here text written rest a b c is more first second =
    record {
      front = written;
      missing = rest;
      text_is = is;
      is_missing = some_left rest more;
      written = let P : List ℕ → Type 0 = λ bytes. Appends a c bytes in subst P (append-nil written) (appends_append a b c written [] first second);
    }

-- a line that isn't empty
pub long_line : (xs ys : List ℕ) → xs ≡ ys → (length xs == 0) ≡ false → 0 < length ys
long_line xs ys same more = let P : List ℕ → Type 0 = λ zs. 0 < length zs in subst P same (some_left xs more)

-- ---- answers

-- what is known of the replies in front and of those behind
tally_append : (tally : Tally) (rs ts : List Reply) → with_replies tally (rs ++ ts) ≡ with_replies (with_replies tally rs) ts
tally_append tally [] ts = refl
tally_append tally (r ∷ rs) ts = tally_append (with_reply tally r) rs ts

tallies_append : (old next new : Tally) (rs ts : List Reply) → next ≡ with_replies old rs → new ≡ with_replies next ts → new ≡ with_replies old (rs ++ ts)
tallies_append old next new rs ts first second = second ∙ ap (λ (t : Tally). with_replies t ts) first ∙ sym (tally_append old rs ts)

-- answers behind answers
pub advances_append : (pool : Pool) (xs ys : List Item) (old next new : Standing) → Advances pool xs old next → Advances pool ys next new → Advances pool (xs ++ ys) old new
advances_append pool xs ys old next new first second =
    let P : List ℕ → Type 0 = λ text. Appends old.written new.written text in (
      first.0 ++ second.0,
      replied_append pool xs ys first.0 second.0 old.history next.history new.history first.1 second.1,
      subst P (sym (flat_map-append text_of_reply first.0 second.0)) (appends_append old.written next.written new.written (reply_text first.0) (reply_text second.0) first.2 second.2),
      tallies_append old.tally next.tally new.tally first.0 second.0 first.3 second.3,
    )

-- nothing to answer
pub advances_none : (pool : Pool) (old : Standing) → Advances pool [] old old
advances_none pool old = ([], replied_none pool old.history, appends_none old.written, refl)

-- a reply to one line, where both were written as they should
advances_line : {T E : Type 0} (result : Result T E) (pool : Pool) (items : List Item) (reply : Reply) (old new : HistoryParts) (before after : Option (List ℕ)) (had has : Tally)
    → Replied pool items (reply ∷ []) old new → OnOk result (Appends before after (text_of_reply reply)) → OnOk result (has ≡ with_reply had reply)
    → OnOk result (Advances pool items (record { history = old; written = before; tally = had }) (record { history = new; written = after; tally = has }))
advances_line (Ok u) pool items reply old new before after had has replied written counted =
    let P : List ℕ → Type 0 = λ text. Appends before after text in (
      reply ∷ [],
      replied,
      subst P (sym (append-nil (text_of_reply reply))) written,
      counted,
    )
advances_line (Err e) pool items reply old new before after had has replied written counted = tt

-- a reply that was cut off
breaks_line : {T E : Type 0} (result : Result T E) (pool : Pool) (items : List Item) (reply : Reply) (old new : HistoryParts) (before after : Option (List ℕ))
    → Replied pool items (reply ∷ []) old new → OnErr result (IsCutOff (text_of_reply reply) before after) → OnErr result (BreaksOff pool items old new before after)
breaks_line (Ok u) pool items reply old new before after replied cut = tt
breaks_line (Err e) pool items reply old new before after replied cut =
    record { told = []; last = reply; replied = replied; front = cut.front; missing = cut.missing; last_is = cut.text_is; is_missing = cut.is_missing; written = cut.written }

-- a reply to one line, written whole or in part
pub answers_sent : {T : Type 0} (result : Result T StreamFault) (pool : Pool) (items : List Item) (reply : Reply) (old new : HistoryParts) (before after : Option (List ℕ)) (had has : Tally) (failed : Bool)
    → Replied pool items (reply ∷ []) old new → OnOk result (Appends before after (text_of_reply reply)) → OnOk result (has ≡ with_reply had reply) → OnErr result (IsCutOff (text_of_reply reply) before after) → IsOfSink result failed
    → Answers result pool items (record { history = old; written = before; tally = had }) (record { history = new; written = after; tally = has }) failed
answers_sent result pool items reply old new before after had has failed replied written counted cut sink =
    record {
      advances = advances_line result pool items reply old new before after had has replied written counted;
      breaks = breaks_line result pool items reply old new before after replied cut;
      sink = sink;
    }

-- answers, and then a reply that was cut off
pub breaks_append : (pool : Pool) (xs ys : List Item) (old next : Standing) (new : HistoryParts) (after : Option (List ℕ)) → Advances pool xs old next → BreaksOff pool ys next.history new next.written after → BreaksOff pool (xs ++ ys) old.history new old.written after
breaks_append pool xs ys old next new after first second =
    let P : List Reply → Type 0 = λ replies. Replied pool (xs ++ ys) replies old.history new in
    let Q : List ℕ → Type 0 = λ text. Appends old.written after text in
    record {
      told = first.0 ++ second.told;
      last = second.last;
      replied = subst P (sym (append_assoc first.0 second.told (second.last ∷ []))) (replied_append pool xs ys first.0 (second.told ++ second.last ∷ []) old.history next.history new first.1 second.replied);
      front = second.front;
      missing = second.missing;
      last_is = second.last_is;
      is_missing = second.is_missing;
      written = subst Q (sym (append_assoc (reply_text first.0) (reply_text second.told) second.front) ∙ ap (λ text. text ++ second.front) (sym (flat_map-append text_of_reply first.0 second.told)))
          (appends_append old.written next.written after (reply_text first.0) (reply_text second.told ++ second.front) first.2 second.written);
    }

-- ---- lines

-- at the start nothing is answered
pub answers_start : (pool : Pool) (bytes : List ℕ) (old : Standing) → AnswersAllBut pool bytes bytes old old
answers_start pool bytes old = record { done = []; advances = advances_none pool old; left = λ rest. refl; ended = λ rest. refl }

-- a line that its LF ended
pub answers_line : (pool : Pool) (bytes pending line behind : List ℕ) (old next new : Standing) → IsUnbroken pending → IsUnbroken line
    → AnswersAllBut pool bytes (pending ++ (line ++ (10 ∷ behind))) old next
    → Advances pool (option_to_list (item_of (record { bytes = take 65537 (pending ++ line); is_ended = true }))) next new
    → AnswersAllBut pool bytes behind old new
answers_line pool bytes pending line behind old next new first second before advances =
    let item = option_to_list (item_of (record { bytes = take 65537 (pending ++ line); is_ended = true })) in
    record {
      done = before.done ++ item;
      advances = advances_append pool before.done item old next new before.advances advances;
      left = λ rest.
          before.left rest ∙ ap (λ items. before.done ++ items) (items_of_line item_of pending line behind rest items_alike first second)
          ∙ sym (append_assoc before.done item (commands_of (behind ++ rest)));
      ended = λ rest.
          before.ended rest ∙ ap (λ items. before.done ++ items) (items_of_line ended_item_of pending line behind rest ended_items_alike first second)
          ∙ sym (append_assoc before.done item (ended_commands_of (behind ++ rest)));
    }

-- the same, where its reply was cut off
pub breaks_in_line : (pool : Pool) (bytes pending line behind : List ℕ) (old next new : Standing) → IsUnbroken pending → IsUnbroken line
    → AnswersAllBut pool bytes (pending ++ (line ++ (10 ∷ behind))) old next
    → BreaksOff pool (option_to_list (item_of (record { bytes = take 65537 (pending ++ line); is_ended = true }))) next.history new.history next.written new.written
    → Breaks pool bytes old new
breaks_in_line pool bytes pending line behind old next new first second before breaks =
    let item = option_to_list (item_of (record { bytes = take 65537 (pending ++ line); is_ended = true })) in
    record {
      done = before.done ++ item;
      breaks_off = breaks_append pool before.done item old next new.history new.written before.advances breaks;
      left = λ rest. (
        commands_of (behind ++ rest),
        before.left rest ∙ ap (λ items. before.done ++ items) (items_of_line item_of pending line behind rest items_alike first second)
            ∙ sym (append_assoc before.done item (commands_of (behind ++ rest))),
      );
    }

-- what is left of a piece is pending
pub answers_kept : (pool : Pool) (bytes pending line : List ℕ) (old new : Standing) → IsUnbroken pending → IsUnbroken line
    → AnswersAllBut pool bytes (pending ++ line) old new → AnswersAllBut pool bytes (take 65537 (pending ++ line)) old new
answers_kept pool bytes pending line old new first second before =
    let whole = unbroken_append pending line first second in
    record {
      done = before.done;
      advances = before.advances;
      left = λ rest. before.left rest ∙ ap (λ items. before.done ++ items) (sym (items_kept item_of (pending ++ line) rest items_alike whole));
      ended = λ rest. before.ended rest ∙ ap (λ items. before.done ++ items) (sym (items_kept ended_item_of (pending ++ line) rest ended_items_alike whole));
    }

-- ---- pieces

-- by whatever a line asks for: what was asked for in two pieces
items_append : (h : Line → Option Item) (read piece pending after rest : List ℕ) (done more : List Item)
    → ((rest : List ℕ) → filter_map h (input_lines_of (read ++ rest)) ≡ done ++ filter_map h (input_lines_of (pending ++ rest)))
    → filter_map h (input_lines_of ((pending ++ piece) ++ rest)) ≡ more ++ filter_map h (input_lines_of (after ++ rest))
    → filter_map h (input_lines_of ((read ++ piece) ++ rest)) ≡ (done ++ more) ++ filter_map h (input_lines_of (after ++ rest))
items_append h read piece pending after rest done more first second =
    ap (λ bytes. filter_map h (input_lines_of bytes)) (append_assoc read piece rest) ∙ first (piece ++ rest)
    ∙ ap (λ bytes. done ++ filter_map h (input_lines_of bytes)) (sym (append_assoc pending piece rest)) ∙ ap (λ items. done ++ items) second
    ∙ sym (append_assoc done more (filter_map h (input_lines_of (after ++ rest))))

-- one more piece
answers_piece : (pool : Pool) (read pending piece after : List ℕ) (old next new : Standing) → AnswersAllBut pool read pending old next → AnswersAllBut pool (pending ++ piece) after next new → AnswersAllBut pool (read ++ piece) after old new
answers_piece pool read pending piece after old next new first second =
    record {
      done = first.done ++ second.done;
      advances = advances_append pool first.done second.done old next new first.advances second.advances;
      left = λ rest. items_append item_of read piece pending after rest first.done second.done first.left (second.left rest);
      ended = λ rest. items_append ended_item_of read piece pending after rest first.done second.done first.ended (second.ended rest);
    }

-- the same where the bytes may be unknown
pub reads_piece : (pool : Pool) (had now then : Option (List ℕ)) (pending piece after : List ℕ) (old next new : Standing)
    → Reads pool had pending now old next → Consumes now then piece → AnswersAllBut pool (pending ++ piece) after next new → IsUnbroken after → Reads pool had after then old new
reads_piece pool None now then pending piece after old next new first taken second unbroken =
    (first.0 ++ second.done, advances_append pool first.0 second.done old next new first.1 second.advances)
reads_piece pool (Some input) None then pending piece after old next new first taken second unbroken = absurd first
reads_piece pool (Some input) (Some rest) None pending piece after old next new first taken second unbroken = absurd taken
reads_piece pool (Some input) (Some rest) (Some behind) pending piece after old next new first taken second unbroken =
    record {
      read = first.read ++ piece;
      input_is = first.input_is ∙ ap (λ bytes. first.read ++ bytes) taken ∙ sym (append_assoc first.read piece behind);
      unbroken = unbroken;
      answers = answers_piece pool first.read pending piece after old next new first.answers second;
    }

-- before the first read
pub reads_start : (pool : Pool) (had : Option (List ℕ)) (old : Standing) → Reads pool had [] had old old
reads_start pool None old = ([], advances_none pool old)
reads_start pool (Some input) old = record {
  read = [];
  input_is = refl;
  unbroken = tt;
  answers = answers_start pool [] old;
}

-- a read that gave nothing
pub reads_end : (pool : Pool) (had now then : Option (List ℕ)) (pending : List ℕ) (old new : Standing) → Reads pool had pending now old new → Consumes now then [] → Reads pool had pending then old new
reads_end pool None now then pending old new first taken = first
reads_end pool (Some input) None then pending old new first taken = absurd first
reads_end pool (Some input) (Some rest) None pending old new first taken = absurd taken
reads_end pool (Some input) (Some rest) (Some behind) pending old new first taken =
    record {
      read = first.read;
      input_is = first.input_is ∙ ap (λ bytes. first.read ++ bytes) taken;
      unbroken = first.unbroken;
      answers = first.answers;
    }

-- ---- what is done, whatever the source holds

reads_some : (pool : Pool) (had now : Option (List ℕ)) (pending : List ℕ) (old new : Standing) → Reads pool had pending now old new → SomeAdvance pool old new
reads_some pool None now pending old new reads = reads
reads_some pool (Some input) None pending old new reads = absurd reads
reads_some pool (Some input) (Some rest) pending old new reads = (reads.answers.done, reads.answers.advances)

-- the commands of the lines that were read are done
pub reads_done : (pool : Pool) (had now : Option (List ℕ)) (pending : List ℕ) (old new : Standing) → Reads pool had pending now old new → SomeDone pool old.history new.history
reads_done pool had now pending old new reads =
    let some = reads_some pool had now pending old new reads in
    (some.0, some.1.0, some.1.1)

-- the same, of the parts of both standings
pub parts_done : (pool : Pool) (had now : Option (List ℕ)) (pending : List ℕ) (old new : HistoryParts) (before after : Option (List ℕ)) (was has : Tally)
    → Reads pool had pending now (record { history = old; written = before; tally = was }) (record { history = new; written = after; tally = has }) → SomeDone pool old new
parts_done pool had now pending old new before after was has reads =
    reads_done pool had now pending (record { history = old; written = before; tally = was }) (record { history = new; written = after; tally = has }) reads

done_append : (pool : Pool) (old next new : HistoryParts) → SomeDone pool old next → SomeDone pool next new → SomeDone pool old new
done_append pool old next new first second = (first.0 ++ second.0, first.1 ++ second.1, replied_append pool first.0 second.0 first.1 second.1 old next new first.2 second.2)

breaks_done : (pool : Pool) (items : List Item) (old new : HistoryParts) (before after : Option (List ℕ)) → BreaksOff pool items old new before after → SomeDone pool old new
breaks_done pool items old new before after breaks = (items, breaks.told ++ breaks.last ∷ [], breaks.replied)

-- those too of a piece in which a write failed
pub reads_done_in_writing : (pool : Pool) (had now : Option (List ℕ)) (pending bytes : List ℕ) (old next new : Standing) → Reads pool had pending now old next → Breaks pool bytes next new → SomeDone pool old.history new.history
reads_done_in_writing pool had now pending bytes old next new reads breaks =
    done_append pool old.history next.history new.history (reads_done pool had now pending old next reads) (breaks_done pool breaks.done next.history new.history next.written new.written breaks.breaks_off)

-- those too of the last line
pub advances_some : (pool : Pool) (had now : Option (List ℕ)) (pending : List ℕ) (items : List Item) (old next new : Standing) → Reads pool had pending now old next → Advances pool items next new → SomeAdvance pool old new
advances_some pool had now pending items old next new reads last =
    let some = reads_some pool had now pending old next reads in
    (some.0 ++ items, advances_append pool some.0 items old next new some.1 last)

-- what is to be done at the end of all replies, where none came before the first of them
pub done_to : (pool : Pool) (old new : HistoryParts) (before after : Option (List ℕ)) (is_all_or_none : Bool) (number : ℕ) (was now : Tally) (end : BatchEnd) → was ≡ no_replies → end ≡ end_of is_all_or_none now number
    → SomeAdvance pool (record { history = old; written = before; tally = was }) (record { history = new; written = after; tally = now })
    → SomeDoneTo is_all_or_none end pool old new
done_to pool old new before after is_all_or_none number was now end was_is is some =
    (some.0, some.1.0, some.1.1, end_of_replies is_all_or_none some.1.0 number was now end was_is some.1.3 is)

-- a read that failed
pub ends_in_reading : (pool : Pool) (had now then : Option (List ℕ)) (pending : List ℕ) (old new : Standing) → Reads pool had pending now old new → Keeps now then
    → IfSome had (λ input. EndsInReading pool input then old.history new.history old.written new.written)
ends_in_reading pool None now then pending old new reads kept = tt
ends_in_reading pool (Some input) None then pending old new reads kept = absurd reads
ends_in_reading pool (Some input) (Some rest) None pending old new reads kept = absurd kept
ends_in_reading pool (Some input) (Some rest) (Some behind) pending old new reads kept =
    let answers = reads.answers in
    let nothing : ended_commands_of (pending ++ []) ≡ [] = ap ended_commands_of (append-nil pending) ∙ none_ended pending reads.unbroken in
    let done : answers.done ≡ ended_commands_of reads.read =
    sym (ap ended_commands_of (sym (append-nil reads.read)) ∙ answers.ended [] ∙ ap (λ items. answers.done ++ items) nothing ∙ append-nil answers.done) in
    let P : List Item → Type 0 = λ items. Answered pool items old.history new.history old.written new.written in
    record {
      read = reads.read;
      read_is = reads.input_is ∙ ap (λ bytes. reads.read ++ bytes) (sym kept);
      answered = subst P done (answers.advances.0, answers.advances.1, answers.advances.2);
    }

-- a write that failed in a piece
pub ends_in_writing : (pool : Pool) (had now then : Option (List ℕ)) (pending piece : List ℕ) (old next new : Standing)
    → Reads pool had pending now old next → Consumes now then piece → Breaks pool (pending ++ piece) next new
    → IfSome had (λ input. EndsInWriting pool input old.history new.history old.written new.written)
ends_in_writing pool None now then pending piece old next new reads taken breaks = tt
ends_in_writing pool (Some input) None then pending piece old next new reads taken breaks = absurd reads
ends_in_writing pool (Some input) (Some rest) None pending piece old next new reads taken breaks = absurd taken
ends_in_writing pool (Some input) (Some rest) (Some behind) pending piece old next new reads taken breaks =
    let answers = reads.answers in
    let left = breaks.left behind in
    record {
      done = answers.done ++ breaks.done;
      more = left.0;
      commands_are = ap commands_of (reads.input_is ∙ ap (λ bytes. reads.read ++ bytes) taken) ∙ answers.left (piece ++ behind)
          ∙ ap (λ bytes. answers.done ++ commands_of bytes) (sym (append_assoc pending piece behind)) ∙ ap (λ items. answers.done ++ items) left.1
          ∙ sym (append_assoc answers.done breaks.done left.0);
      breaks_off = breaks_append pool answers.done breaks.done old next new.history new.written answers.advances breaks.breaks_off;
    }

-- ---- the end of input

-- the commands of the whole input, once all was read
all_commands : (pool : Pool) (input pending rest : List ℕ) (old new : Standing) (reads : ReadsOf pool input pending rest old new) → rest ≡ [] → commands_of input ≡ reads.answers.done ++ commands_of pending
all_commands pool input pending rest old new reads end =
    ap commands_of (reads.input_is ∙ ap (λ bytes. reads.read ++ bytes) end) ∙ reads.answers.left [] ∙ ap (λ bytes. reads.answers.done ++ commands_of bytes) (append-nil pending)

-- the whole input, once what is pending at its end is answered
pub advances_end : (pool : Pool) (had now : Option (List ℕ)) (pending : List ℕ) (old next new : Standing)
    → Reads pool had pending now old next → IsAtEnd now → Advances pool (commands_of pending) next new
    → IfSome had (λ input. Advances pool (commands_of input) old new)
advances_end pool None now pending old next new reads end last = tt
advances_end pool (Some input) None pending old next new reads end last = absurd reads
advances_end pool (Some input) (Some rest) pending old next new reads end last =
    let done = reads.answers.done in
    let P : List Item → Type 0 = λ items. Advances pool items old new in
    subst P (sym (all_commands pool input pending rest old next reads end)) (advances_append pool done (commands_of pending) old next new reads.answers.advances last)

-- a write that failed at the last line
last_write : (pool : Pool) (had now : Option (List ℕ)) (pending : List ℕ) (old next : Standing) (new : HistoryParts) (after : Option (List ℕ))
    → Reads pool had pending now old next → IsAtEnd now → BreaksOff pool (commands_of pending) next.history new next.written after
    → IfSome had (λ input. EndsInWriting pool input old.history new old.written after)
last_write pool None now pending old next new after reads end last = tt
last_write pool (Some input) None pending old next new after reads end last = absurd reads
last_write pool (Some input) (Some rest) pending old next new after reads end last =
    let done = reads.answers.done in
    record {
      done = done ++ commands_of pending;
      more = [];
      commands_are = all_commands pool input pending rest old next reads end ∙ sym (append-nil (done ++ commands_of pending));
      breaks_off = breaks_append pool done (commands_of pending) old next new after reads.answers.advances last;
    }

pub ends_in_last : {T : Type 0} (result : Result T StreamFault) (pool : Pool) (had now : Option (List ℕ)) (pending : List ℕ) (old next new : Standing) (source_failed sink_failed : Bool)
    → Reads pool had pending now old next → IsAtEnd now → source_failed ≡ false → Answers result pool (commands_of pending) next new sink_failed
    → Ends result pool had now source_failed old.history new.history old.written new.written sink_failed
ends_in_last (Ok value) pool had now pending old next new source_failed sink_failed reads end unfailed last =
    let some = advances_some pool had now pending (commands_of pending) old next new reads last.advances in
    record { done = (some.0, some.1.0, some.1.1); end = end; source = unfailed; sink = last.sink.failure; left = tt }
ends_in_last (Err e) pool had now pending old next new source_failed sink_failed reads end unfailed last =
    rw last.sink.fault
    (record {
      done = done_append pool old.history next.history new.history (reads_done pool had now pending old next reads) (breaks_done pool (commands_of pending) next.history new.history next.written new.written last.breaks);
      end = tt;
      source = unfailed;
      sink = last.sink.failure;
      left = last_write pool had now pending old next new.history new.written reads end last.breaks;
    })

-- nothing was done
left_at_once : (pool : Pool) (had : Option (List ℕ)) (old : HistoryParts) (before : Option (List ℕ)) → IfSome had (λ input. EndsAt OutOfMemory pool input had old old before before)
left_at_once pool None old before = tt
left_at_once pool (Some input) old before = (refl, refl, refl)

pub ends_at_once : {T : Type 0} (pool : Pool) (had : Option (List ℕ)) (old : HistoryParts) (before : Option (List ℕ)) {source_failed sink_failed : Bool} → source_failed ≡ false → sink_failed ≡ false
    → Ends {T = T} (Err OutOfMemory) pool had had source_failed old old before before sink_failed
ends_at_once pool had old before source sink =
    record { done = ([], [], replied_none pool old); end = tt; source = source; sink = sink; left = left_at_once pool had old before }

-- all that was answered, where no reply came before the first
pub answered_to : (pool : Pool) (had : Option (List ℕ)) (old new : HistoryParts) (before after : Option (List ℕ)) (is_all_or_none : Bool) (number : ℕ) (was now : Tally) (end : BatchEnd)
    → was ≡ no_replies → end ≡ end_of is_all_or_none now number
    → IfSome had (λ input. Advances pool (commands_of input) (record { history = old; written = before; tally = was }) (record { history = new; written = after; tally = now }))
    → IfSome had (λ input. AnsweredTo is_all_or_none end pool (commands_of input) old new before after)
answered_to pool None old new before after is_all_or_none number was now end was_is is advances = tt
answered_to pool (Some input) old new before after is_all_or_none number was now end was_is is advances =
    (advances.0, advances.1, advances.2, end_of_replies is_all_or_none advances.0 number was now end was_is advances.3 is)

-- the same, where nobody asks what is to be done at the end
pub answered_of : (pool : Pool) (had : Option (List ℕ)) (old new : HistoryParts) (before after : Option (List ℕ)) (is_all_or_none : Bool) (end : BatchEnd)
    → IfSome had (λ input. AnsweredTo is_all_or_none end pool (commands_of input) old new before after) → IfSome had (λ input. Answered pool (commands_of input) old new before after)
answered_of pool None old new before after is_all_or_none end answered = tt
answered_of pool (Some input) old new before after is_all_or_none end answered = (answered.0, answered.1, answered.2)

-- no last line
pub advances_empty : (pool : Pool) (pending : List ℕ) (old : Standing) → length pending ≡ 0 → Advances pool (commands_of pending) old old
advances_empty pool [] old empty = advances_none pool old
advances_empty pool (b ∷ bs) old empty = absurd (omega arith)

-- a last line without an LF
pub answers_last : {T : Type 0} (result : Result T StreamFault) (pool : Pool) (pending : List ℕ) (old new : Standing) (failed : Bool) → IsUnbroken pending → 0 < length pending
    → Answers result pool (option_to_list (item_of (record { bytes = pending; is_ended = false }))) old new failed → Answers result pool (commands_of pending) old new failed
answers_last result pool pending old new failed unbroken long answers =
    let P : List Item → Type 0 = λ items. Answers result pool items old new failed in subst P (sym (commands_last pending unbroken long)) answers
