-- What holds of a header that was read: its cursor is at most the number of its steps, and it has targets whose names rise.
use Rattle.std.proofs.Common.{◌≡◌, ℕ, ◌≤◌, true, false, Bool, List, [], ◌∷◌, codes, Result, Ok, Err, refl, subst, arith}
use Rattle.std.specs.Prelude.{nat_le, ⊤}
use Rattle.std.proofs.lemmas.Bool.Decides.{nat_tests}
use Rattle.lists.specs.Rising.{rises}
use Rattle.markers.specs.Environment.{Texts}
use Rattle.serde_json.specs.Data.{Data}
use Rattle.pylock.specs.declared.flaw.Flaw.{Flaw}
use Rattle.journal_format.specs.declared.header.Header.{Header}
use Rattle.journal_format.specs.declared.header.HeaderTarget.{HeaderTarget}
use Rattle.journal_format.specs.declared.header.JournalVersion.{JournalVersion}
use Rattle.journal_format.specs.declared.header.JournalVersion.TheVariants.{One, Three, Two}
use Rattle.journal_format.specs.Entries.{digest_in}
use Rattle.pylock.specs.Flaws.{◌>>=◌, found}
use Rattle.journal_format.specs.Forms.{check, at, json_of, list_of, number_of, only_keys}
use Rattle.journal_format.specs.Lines.{are_targets, environment_in, header_in, header_keys, header_of_line, target_in, targets_in, journal_version}

least : (m n : ℕ) → nat_le m n ≡ true → m ≤ n
least m n h = grind (arith, nat_tests)

-- what holds of a header's parts
pub record IsReadHeader (h : Header) : Type 0 where
  pub within : h.cursor ≤ h.steps
  pub targets : are_targets h.targets ≡ true

made_by : (holds : Bool) (g h : Header) → (holds ≡ true → IsReadHeader g) → (check holds >>= λ _. Ok g) ≡ Ok h → IsReadHeader h
made_by true g h is made = let same : g ≡ h = cc in subst IsReadHeader same (is refl)
made_by false g h is made = absurd cc

-- the header of these parts, where it is one
abbrev made : JournalVersion → List HeaderTarget → ℕ → List ℕ → ℕ → Result Header Flaw
made version targets cursor requirements steps =
    check (nat_le cursor steps) >>= λ _. Ok (record { version = version; cursor = cursor; requirements = requirements; steps = steps; targets = targets })

parts_by : (version : JournalVersion) (keys : Result ⊤ Flaw) (targets : Result (List HeaderTarget) Flaw) (cursor : Result ℕ Flaw) (requirements : Result (List ℕ) Flaw) (steps : Result ℕ Flaw) (h : Header)
    → ((ts : List HeaderTarget) → targets ≡ Ok ts → are_targets ts ≡ true)
    → (keys >>= λ _. targets >>= λ t. cursor >>= λ c. requirements >>= λ r. steps >>= λ s. made version t c r s) ≡ Ok h → IsReadHeader h
parts_by version (Ok keys) (Ok targets) (Ok cursor) (Ok requirements) (Ok steps) h rise is =
    made_by (nat_le cursor steps) (record { version = version; cursor = cursor; requirements = requirements; steps = steps; targets = targets }) h
    (λ holds. record { within = least cursor steps holds; targets = rise targets refl }) is
parts_by version keys targets cursor requirements steps h rise is = absurd cc

check_by : (holds : Bool) (targets read : List HeaderTarget) → are_targets targets ≡ holds → (check holds >>= λ _. Ok targets) ≡ Ok read → are_targets read ≡ true
check_by true targets read rise is = let same : targets ≡ read = cc in subst (λ (ts : List HeaderTarget). are_targets ts ≡ true) same rise
check_by false targets read rise is = absurd cc

two_by : (listed : Result (List HeaderTarget) Flaw) (read : List HeaderTarget) → (listed >>= λ t. check (are_targets t) >>= λ _. Ok t) ≡ Ok read → are_targets read ≡ true
two_by (Ok targets) read is = check_by (are_targets targets) targets read refl is
two_by (Err e) read is = absurd cc

one_by : (environment : Result Texts Flaw) (lock : Result (List ℕ) Flaw) (read : List HeaderTarget)
    → (environment >>= λ e. lock >>= λ l. Ok (record { name = []; environment = e; lock = l } ∷ [])) ≡ Ok read → are_targets read ≡ true
unfolding rises
one_by (Ok e) (Ok l) read is =
    let alone : List HeaderTarget = record { name = []; environment = e; lock = l } ∷ [] in
    let same : alone ≡ read = cc in
    subst (λ (ts : List HeaderTarget). are_targets ts ≡ true) same refl
one_by environment lock read is = absurd cc

targets-rise : (version : JournalVersion) (d : Data) (targets : List HeaderTarget) → targets_in version d ≡ Ok targets → are_targets targets ≡ true
unfolding targets_in
targets-rise One d targets is = one_by (at (codes "environment") environment_in d) (at (codes "lock") digest_in d) targets is
targets-rise Two d targets is = two_by (at (codes "targets") (list_of target_in) d) targets is
targets-rise Three d targets is = two_by (at (codes "targets") (list_of target_in) d) targets is

version_by : (d : Data) (version : Result JournalVersion Flaw) (h : Header)
    → (version >>= λ v. only_keys (header_keys v) d >>= λ _. targets_in v d >>= λ t. at (codes "cursor") number_of d >>= λ c. at (codes "requirements") digest_in d >>= λ r. at (codes "steps") number_of d >>= λ s. made v t c r s) ≡ Ok h
    → IsReadHeader h
version_by d (Ok version) h is =
    parts_by version (only_keys (header_keys version) d) (targets_in version d) (at (codes "cursor") number_of d) (at (codes "requirements") digest_in d) (at (codes "steps") number_of d) h (targets-rise version d) is
version_by d (Err e) h is = absurd cc

number_by : (d : Data) (number : Result ℕ Flaw) (h : Header)
    → (number >>= λ n. found (journal_version n) >>= λ v. only_keys (header_keys v) d >>= λ _. targets_in v d >>= λ t. at (codes "cursor") number_of d >>= λ c. at (codes "requirements") digest_in d >>= λ r. at (codes "steps") number_of d >>= λ s. made v t c r s) ≡ Ok h
    → IsReadHeader h
number_by d (Ok number) h is = version_by d (found (journal_version number)) h is
number_by d (Err e) h is = absurd cc

value_by : (d : Data) (h : Header) → header_in d ≡ Ok h → IsReadHeader h
unfolding header_in
value_by d h is = number_by d (at (codes "journal") number_of d) h is

line_by : (value : Result Data Flaw) (h : Header) → (value >>= header_in) ≡ Ok h → IsReadHeader h
line_by (Ok d) h is = value_by d h is
line_by (Err e) h is = absurd cc

-- the header of a line
pub header-read : (line : List ℕ) (h : Header) → header_of_line line ≡ Ok h → IsReadHeader h
unfolding header_of_line
header-read line h is = line_by (json_of line) h is
