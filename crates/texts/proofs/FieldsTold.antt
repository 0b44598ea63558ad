-- Fields in brackets that are put behind a text one by one.
use Rattle.std.proofs.Common.{◌≡◌, ◌∙◌, ◌++◌, ◌||◌, ℕ, Bool, false, true, List, ap, append_assoc, codes, refl}
use Rattle.texts.specs.OtherFields.{in_brackets, told_if}
use Rattle.texts.specs.Tied.Fields.{close_told, field_told}

-- what fields are told, where each is another or not
abbrev pub told : Bool → Bool → Bool → Bool → List ℕ
told files hashes python needs =
    in_brackets (told_if files (codes "files") ++ told_if hashes (codes "hashes") ++ told_if python (codes "requires-python") ++ told_if needs (codes "dependencies"))

-- one by one they are the same
abbrev one_by_one : Bool → Bool → Bool → Bool → List ℕ
one_by_one files hashes python needs =
    field_told false files (codes "files")
    ++ (field_told files hashes (codes "hashes")
    ++ (field_told (files || hashes) python (codes "requires-python")
    ++ (field_told ((files || hashes) || python) needs (codes "dependencies")
    ++ close_told (((files || hashes) || python) || needs))))

fields-are : (files hashes python needs : Bool) → one_by_one files hashes python needs ≡ told files hashes python needs
fields-are true true true true = refl
fields-are true true true false = refl
fields-are true true false true = refl
fields-are true true false false = refl
fields-are true false true true = refl
fields-are true false true false = refl
fields-are true false false true = refl
fields-are true false false false = refl
fields-are false true true true = refl
fields-are false true true false = refl
fields-are false true false true = refl
fields-are false true false false = refl
fields-are false false true true = refl
fields-are false false true false = refl
fields-are false false false true = refl
fields-are false false false false = refl

regrouped : (text a b c d e : List ℕ) → text ++ a ++ b ++ c ++ d ++ e ≡ text ++ (a ++ (b ++ (c ++ (d ++ e))))
regrouped text a b c d e =
    append_assoc (text ++ a ++ b ++ c) d e ∙ append_assoc (text ++ a ++ b) c (d ++ e) ∙ append_assoc (text ++ a) b (c ++ (d ++ e)) ∙ append_assoc text a (b ++ (c ++ (d ++ e)))

-- texts that follow one another by a field each, and by what ends them
pub fields-told : (text one two three four five : List ℕ) (files hashes python needs : Bool)
    → one ≡ text ++ field_told false files (codes "files") → two ≡ one ++ field_told files hashes (codes "hashes")
    → three ≡ two ++ field_told (files || hashes) python (codes "requires-python") → four ≡ three ++ field_told ((files || hashes) || python) needs (codes "dependencies")
    → five ≡ four ++ close_told (((files || hashes) || python) || needs) → five ≡ text ++ told files hashes python needs
fields-told text one two three four five files hashes python needs first second third fourth last =
    last ∙ ap (λ t. t ++ close_told (((files || hashes) || python) || needs)) (fourth
    ∙ ap (λ t. t ++ field_told ((files || hashes) || python) needs (codes "dependencies")) (third
    ∙ ap (λ t. t ++ field_told (files || hashes) python (codes "requires-python")) (second
    ∙ ap (λ t. t ++ field_told files hashes (codes "hashes")) first)))
    ∙ regrouped text (field_told false files (codes "files")) (field_told files hashes (codes "hashes")) (field_told (files || hashes) python (codes "requires-python")) (field_told ((files || hashes) || python) needs (codes "dependencies")) (close_told (((files || hashes) || python) || needs))
    ∙ ap (λ t. text ++ t) (fields-are files hashes python needs)
