-- Texts that are read as names, one after another.
use Rattle.std.proofs.Common.{◌≡◌, ◌⊎◌, ◌∙◌, ℕ, ◌+◌, ◌<◌, true, false, List, [], ◌∷◌, ◌++◌, length, get_or, drop, map, find, not, Some, Ok, Err, refl, sym, ap, inl, inr, append_assoc, if◌then◌else◌}
use Rattle.std.proofs.lemmas.List.{at_drop_more}
use Rattle.std.specs.List.{list_all}
use Rattle.markers.specs.Names.{is_name, normal_of}
use Rattle.states.specs.declared.target.Target.{Target}
use Rattle.edits.specs.Refused.{is_locked_for, refused_upgrade}
use Rattle.states.specs.declared.refusal.Refusal.{Refusal}
use Rattle.states.specs.declared.refusal.Refusal.TheVariants.{BadText, NotLocked, OutOfMemory}
use Rattle.edits.proofs.Refusals.{bad-so, read-so}

-- the text at a place, and those behind it
here : (texts : List (List ℕ)) (i : ℕ) (text : List ℕ) → i < length texts → text ≡ get_or texts i text → drop i texts ≡ text ∷ drop (i + 1) texts
here texts i text within is = at_drop_more (λ (l : List (List ℕ)). l) texts i text within ∙ ap (λ (t : List ℕ). t ∷ drop (i + 1) texts) (sym is)

pub names-on : (texts : List (List ℕ)) (i : ℕ) (text name : List ℕ) (items : List (List ℕ)) → i < length texts → text ≡ get_or texts i text
    → (if is_name text then Ok (normal_of text) else Err BadText) ≡ Ok name → items ++ map normal_of (drop i texts) ≡ map normal_of texts
    → (items ++ name ∷ []) ++ map normal_of (drop (i + 1) texts) ≡ map normal_of texts
names-on texts i text name items within is read before =
    let k = read-so (is_name text) (normal_of text) name read in
    append_assoc items (name ∷ []) (map normal_of (drop (i + 1) texts)) ∙ ap (λ (n : List ℕ). items ++ n ∷ map normal_of (drop (i + 1) texts)) (sym k.1)
    ∙ ap (λ (l : List (List ℕ)). items ++ map normal_of l) (sym (here texts i text within is)) ∙ before

all-here : (text : List ℕ) (rest : List (List ℕ)) → is_name text ≡ true → list_all is_name (text ∷ rest) ≡ list_all is_name rest
all-here text rest is = rw is refl

pub all-on : (texts : List (List ℕ)) (i : ℕ) (text name : List ℕ) → i < length texts → text ≡ get_or texts i text
    → (if is_name text then Ok (normal_of text) else Err BadText) ≡ Ok name → list_all is_name (drop i texts) ≡ list_all is_name texts
    → list_all is_name (drop (i + 1) texts) ≡ list_all is_name texts
all-on texts i text name within is read before =
    let k = read-so (is_name text) (normal_of text) name read in
    sym (all-here text (drop (i + 1) texts) k.0) ∙ ap (list_all is_name) (sym (here texts i text within is)) ∙ before

bad-here : (text : List ℕ) (rest : List (List ℕ)) → is_name text ≡ false → list_all is_name (text ∷ rest) ≡ false
bad-here text rest other = rw other refl

-- a text that is no name refuses them all
pub names-refused : (texts : List (List ℕ)) (i : ℕ) (text : List ℕ) (e : Refusal) → i < length texts → text ≡ get_or texts i text
    → list_all is_name (drop i texts) ≡ list_all is_name texts → (e ≡ OutOfMemory) ⊎ ((if is_name text then Ok (normal_of text) else Err BadText) ≡ Err e)
    → (e ≡ OutOfMemory) ⊎ ((if list_all is_name texts then Ok (map normal_of texts) else Err BadText) ≡ Err e)
names-refused texts i text e within is before (inl memory) = inl memory
names-refused texts i text e within is before (inr refused) =
    let k = bad-so (is_name text) (normal_of text) e refused in
    let none : list_all is_name texts ≡ false = sym before ∙ ap (list_all is_name) (here texts i text within is) ∙ bad-here text (drop (i + 1) texts) k.0 in
    inr (rw none (ap (λ (x : Refusal). Err x) (sym k.1)))

-- the first name that isn't locked refuses an upgrade
pub refused-first : (targets : List Target) (texts names : List (List ℕ)) (name copy : List ℕ) → list_all is_name texts ≡ true → map normal_of texts ≡ names
    → Some name ≡ find (λ n. not (is_locked_for targets n)) names → copy ≡ name → refused_upgrade targets texts ≡ Some (NotLocked copy)
refused-first targets texts names name copy all are found same = rw (all, are, ← found, same) refl
