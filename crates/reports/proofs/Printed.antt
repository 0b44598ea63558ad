-- Texts that are printed piece by piece.
use Rattle.std.proofs.Common.{◌∙◌, ◌<◌, ℕ, List, ◌++◌, Result, Ok, Err, length, length-append, append_assoc, sym, ap, arith}
use Rattle.std.specs.Prelude.{Option, OnErr}
use Rattle.std.specs.Io.KnownBytes.{Appends}
use Rattle.commands.specs.Runs.{IsCutOff}
use Rattle.commands.proofs.Batches.{appends_append}

-- of a text that is cut off, what stands behind it is missing too
pub cut-off-before : (text more : List ℕ) (before after : Option (List ℕ)) → IsCutOff text before after → IsCutOff (text ++ more) before after
cut-off-before text more before after cut =
    let some : 0 < length (cut.missing ++ more) = let size = length-append cut.missing more in let missing = cut.is_missing in omega (arith, size) in
    record {
      front = cut.front;
      missing = cut.missing ++ more;
      text_is = ap (λ (t : List ℕ). t ++ more) cut.text_is ∙ append_assoc cut.front cut.missing more;
      is_missing = some;
      written = cut.written;
    }

-- a text behind another that was written
pub cut-off-behind : (text more : List ℕ) (before between after : Option (List ℕ)) → Appends before between text → IsCutOff more between after → IsCutOff (text ++ more) before after
cut-off-behind text more before between after whole cut = record {
  front = text ++ cut.front;
  missing = cut.missing;
  text_is = ap (λ (t : List ℕ). text ++ t) cut.text_is ∙ sym (append_assoc text cut.front cut.missing);
  is_missing = cut.is_missing;
  written = appends_append before between after text cut.front whole cut.written;
}

-- what holds where a call is answered by a fault
pub on-err : {A E : Type 0} (answer : Result A E) (fact : Type 0) → fact → OnErr answer fact
on-err (Ok value) fact is = tt
on-err (Err fault) fact is = is
