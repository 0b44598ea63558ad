-- What a text asks of Python.
use Rattle.std.proofs.Common.{◌≡◌, ℕ, Bool, true, false, ◌&&◌, not, is_ok, List, Option, Some, None, Result, Ok, Err, refl, ap}
use Rattle.std.specs.Prelude.{if◌then◌else◌}
use Rattle.lists.specs.Spaces.{is_blank}
use Rattle.pep440.specs.declared.fault.Fault.{Fault}
use Rattle.pep440.specs.declared.specifier.Clause.{Clause}
use Rattle.pep440.specs.Python.{PythonParts, python_of, python_with}
use Rattle.pep440.specs.Tied.Sets.{set_of}

-- whether a text is a set of specifiers that isn't blank
abbrev is_filled_set : Bool → Result (List Clause) Fault → Bool
is_filled_set blank read = not blank && is_ok read

text-by : (blank : Bool) (text : List ℕ) (read : Result (List Clause) Fault) (p : PythonParts) → (if blank then Ok None else python_with text read) ≡ Ok (Some p) → text ≡ p.text
text-by true text read p e = absurd cc
text-by false text (Ok clauses) p e = cc
text-by false text (Err fault) p e = absurd cc

-- what was read of a text has this text
pub text-read : (text : List ℕ) (p : PythonParts) → python_of text ≡ Ok (Some p) → text ≡ p.text
text-read text p e = text-by (is_blank text) text (set_of text) p e

-- and is what its own text reads as
pub read-again : (text : List ℕ) (p : PythonParts) → python_of text ≡ Ok (Some p) → python_of p.text ≡ Ok (Some p)
read-again text p e =
    let same : text ≡ p.text = text-read text p e in
    rw same at e

set-with : (text : List ℕ) (read : Result (List Clause) Fault) (p : PythonParts) → python_with text read ≡ Ok (Some p) → read ≡ Ok p.set
set-with text (Ok clauses) p e =
    let same : record { text = text; set = clauses } ≡ p = cc in
    ap (λ (q : PythonParts). Ok q.set) same
set-with text (Err fault) p e = absurd cc

set-by : (blank : Bool) (text : List ℕ) (read : Result (List Clause) Fault) (p : PythonParts) → (if blank then Ok None else python_with text read) ≡ Ok (Some p) → read ≡ Ok p.set
set-by true text read p e = absurd cc
set-by false text read p e = set-with text read p e

-- its set is what its text is
pub set-read : (p : PythonParts) → python_of p.text ≡ Ok (Some p) → set_of p.text ≡ Ok p.set
set-read p e = set-by (is_blank p.text) p.text (set_of p.text) p e

fits-by : (blank : Bool) (text : List ℕ) (read : Result (List Clause) Fault) (p : PythonParts) → (if blank then Ok None else python_with text read) ≡ Ok (Some p) → is_filled_set blank read ≡ true
fits-by true text read p e = absurd cc
fits-by false text (Ok clauses) p e = refl
fits-by false text (Err fault) p e = absurd cc

-- its text isn't blank, and is a set
pub fits : (p : PythonParts) → python_of p.text ≡ Ok (Some p) → (not (is_blank p.text) && is_ok (set_of p.text)) ≡ true
fits p e = fits-by (is_blank p.text) p.text (set_of p.text) p e

nothing-by : (blank : Bool) (text : List ℕ) (read : Result (List Clause) Fault) → (if blank then Ok None else python_with text read) ≡ Ok None → is_filled_set blank read ≡ false
nothing-by true text read e = refl
nothing-by false text (Ok clauses) e = absurd cc
nothing-by false text (Err fault) e = absurd cc

-- a text that asks for nothing is blank
pub nothing : (text : List ℕ) → python_of text ≡ Ok None → (not (is_blank text) && is_ok (set_of text)) ≡ false
nothing text e = nothing-by (is_blank text) text (set_of text) e

refused-by : (blank : Bool) (text : List ℕ) (read : Result (List Clause) Fault) (fault : Fault) → (if blank then Ok None else python_with text read) ≡ Err fault → is_filled_set blank read ≡ false
refused-by true text read fault e = refl
refused-by false text (Ok clauses) fault e = absurd cc
refused-by false text (Err other) fault e = refl

-- one that is refused is no set
pub refused : (text : List ℕ) (fault : Fault) → python_of text ≡ Err fault → (not (is_blank text) && is_ok (set_of text)) ≡ false
refused text fault e = refused-by (is_blank text) text (set_of text) fault e
