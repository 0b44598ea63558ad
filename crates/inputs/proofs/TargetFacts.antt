-- Targets that are read one by one.
use Rattle.std.proofs.Common.{◌≡◌, ℕ, ◌+◌, ◌<◌, List, [], ◌∷◌, ◌++◌, Bool, drop, false, true, Some, get_or, length, Result, Ok, Err, append_assoc, refl, rules, sym, ap}
use Rattle.std.specs.Prelude.{not}
use Rattle.std.specs.BTreeSet.{insert_key}
use Rattle.std.specs.Cmp.Lexicographic.{slice_cmp}
use Rattle.std.specs.List.{list_any}
use Rattle.std.specs.Ordering.{is_eq, nat_cmp}
use Rattle.std.proofs.lemmas.List.{drop_more}
use Rattle.inputs.specs.TargetFiles.{in_front, names_of, repeated}
use Rattle.inputs.specs.declared.fault.Fault.{Fault}
use Rattle.inputs.specs.declared.named_file.NamedPath.{NamedPath}

-- what others make goes behind what is made
abbrev pub behind : {A : Type 0} → List A → Result (List A) Fault → Result (List A) Fault
behind done (Ok others) = Ok (done ++ others)
behind done (Err fault) = Err fault

pub behind-one : {A : Type 0} (done : List A) (one : A) (others : Result (List A) Fault) → behind done (in_front (Ok one) others) ≡ behind (done ++ one ∷ []) others
behind-one done one (Ok others) = ap (λ all. Ok all) (sym (append_assoc done (one ∷ []) others))
behind-one done one (Err fault) = refl

-- a name that is new
pub repeated-more : (seen : List (List ℕ)) (files : List (NamedPath (List ℕ))) (place : ℕ) (file : NamedPath (List ℕ)) → place < length files → get_or files place file ≡ file
    → list_any (λ other. is_eq (slice_cmp nat_cmp file.name other)) seen ≡ false
    → repeated seen (names_of (drop place files)) ≡ repeated (insert_key (slice_cmp nat_cmp) seen file.name) (names_of (drop (place + 1) files))
repeated-more seen files place file within is new = rw (drop_more files place file within, is, new) refl

-- a name that stands before it too
pub repeated-here : (seen : List (List ℕ)) (files : List (NamedPath (List ℕ))) (place : ℕ) (file : NamedPath (List ℕ)) → place < length files → get_or files place file ≡ file
    → list_any (λ other. is_eq (slice_cmp nat_cmp file.name other)) seen ≡ true
    → repeated seen (names_of (drop place files)) ≡ Some file.name
repeated-here seen files place file within is old = rw (drop_more files place file within, is, old) refl

pub is_new : (has : Bool) → not has ≡ true → has ≡ false
is_new has p = search rules

pub is_old : (has : Bool) → not has ≡ false → has ≡ true
is_old has p = search rules
