-- Where the journal stays as it is, a save writes nothing and removes nothing.
use Rattle.std.proofs.Common.{◌≡◌, ◌||◌, ◌==◌, ◌++◌, ℕ, Bool, true, false, List, [], ◌∷◌, Contains, Option, Some, length, refl, ap, subst, ◌∙◌, inl, inr}
use Rattle.std.specs.Prelude.{is_some, not}
use Rattle.std.specs.BTreeMap.{is_at}
use Rattle.std.specs.Cmp.Lexicographic.{slice_cmp}
use Rattle.std.specs.List.{AllByRecursion, list_any}
use Rattle.std.specs.Map.{lookup}
use Rattle.std.specs.Option.{option_map_or}
use Rattle.std.specs.Ordering.{nat_cmp}
use Rattle.std.specs.Str.{bytes_eq}
use Rattle.std.proofs.lemmas.Bool.{cases_Bool}
use Rattle.std.proofs.lemmas.List.Elements.{All-contains, All-from_recursion}
use Rattle.std.proofs.lemmas.Map.Text.{is_eq-slice_cmp}
use Rattle.std.proofs.lemmas.Slice.Eq.{bytes_eq-Decides}
use Rattle.lists.proofs.Members.{Contains-here, Contains-there}
use Rattle.lists.specs.Rising.{rises}
use Rattle.inputs.specs.declared.input_files.InputFile.TheVariants.{Requirements, Lock, Journal}
use Rattle.journal.specs.Locks.{LockTexts, lock_at}
use Rattle.journal.specs.declared.saved.Saved.{Saved}
use Rattle.journal_format.specs.Lines.{has_target}
use Rattle.journal_format.specs.declared.header.Header.{Header}
use Rattle.journal_format.specs.declared.header.HeaderTarget.{HeaderTarget}
use Rattle.files.specs.Beside.{one_where}
use Rattle.files.specs.Rewrites.{going_of, gone_among, has_lock, is_known, is_left, lock_rewrites, rewrites_of, rewriting}
use Rattle.files.specs.declared.saved_files.SavedFiles.{SavedFiles}
use Rattle.files.proofs.KeptLocks.{HasItsLock, all-kept, none-stray}
use Rattle.files.proofs.OtherLocks.{AreSameLocks}
use Rattle.power_cuts.proofs.SameHistory.{AreSameFiles}
use Rattle.power_cuts.proofs.SavedLocks.{lock-found, lock_names}

-- ---- locks of the header's targets

-- what holds of each target of the header holds of the one of a name that it has
known-target : (P : HeaderTarget → Type 0) (targets : List HeaderTarget) (name : List ℕ) → list_any (λ t. bytes_eq t.name name) targets ≡ true → AllByRecursion P targets → (t : HeaderTarget) × P t × (t.name ≡ name)
known-target P [] name known all = absurd (cc known)
known-target P (t ∷ targets) name known all = elim (cases_Bool (bytes_eq t.name name)) [
  | inl is ↦ (t, all.0, (bytes_eq-Decides t.name name).0 is)
  | inr other ↦ known-target P targets name (rw other at known) all.1
]

same-under : (header : Header) (locks more : LockTexts) (name : List ℕ) → has_target header name ≡ true → AreSameLocks locks more header.targets → lock_at locks name ≡ lock_at more name
same-under header locks more name known same =
    let t = known-target (λ t. lock_at locks t.name ≡ lock_at more t.name) header.targets name known same in
    subst (λ (n : List ℕ). lock_at locks n ≡ lock_at more n) t.2 t.1

there-under : (header : Header) (locks : LockTexts) (name : List ℕ) → has_target header name ≡ true → AllByRecursion (HasItsLock locks) header.targets → (text : List ℕ) × (lock_at locks name ≡ Some text)
there-under header locks name known all =
    let t = known-target (HasItsLock locks) header.targets name known all in
    (t.1.text, subst (λ (n : List ℕ). lock_at locks n ≡ Some t.1.text) t.2 t.1.there)

-- a look-up by bytes is the look-up of a map
as-map : (name : List ℕ) (locks : LockTexts) → lookup (is_at (slice_cmp nat_cmp name)) locks ≡ lock_at locks name
as-map name locks = ap (λ (t : List ℕ → Bool). lookup t locks) (λ i x. is_eq-slice_cmp name x i)

each-known : (header : Header) (locks : LockTexts) (lock : List ℕ × List ℕ) → AllByRecursion (λ l. has_target header l.0 ≡ true) locks → Contains locks lock → has_target header lock.0 ≡ true
each-known header locks lock all there =
    All-contains (λ (l : List ℕ × List ℕ). has_target header l.0 ≡ true) locks lock (All-from_recursion (λ (l : List ℕ × List ℕ). has_target header l.0 ≡ true) locks all) there

-- ---- what is left and what goes

or-true : (a b : Bool) → b ≡ true → a || b ≡ true
or-true true b is = refl
or-true false b is = is

or-first : (a b : Bool) → a ≡ true → a || b ≡ true
or-first true b is = refl
or-first false b is = absurd (cc is)

module _ (files : SavedFiles) (name bytes : List ℕ) (there : lock_at files.locks.entries name ≡ Some bytes) where
  holds-it : has_lock files name bytes ≡ true
  holds-it = ap (λ (o : Option (List ℕ)). option_map_or (λ lock. bytes_eq lock bytes) o false) (as-map name files.locks.entries ∙ there) ∙ (bytes_eq-Decides bytes bytes).1 refl

  knows-it : is_known files name ≡ true
  knows-it = or-true (length files.locks.entries == 0) (is_some (lookup (is_at (slice_cmp nat_cmp name)) files.locks.entries)) (ap (λ (o : Option (List ℕ)). is_some o) (as-map name files.locks.entries ∙ there))

  stays : (are_known : Bool) → is_left files are_known name bytes ≡ true
  stays true = or-first (has_lock files name bytes) (not (is_known files name)) holds-it
  stays false = knows-it

none-rewritten : (files : SavedFiles) (are_known : Bool) (locks : LockTexts) → ((lock : List ℕ × List ℕ) → Contains locks lock → is_left files are_known lock.0 lock.1 ≡ true) → lock_rewrites files are_known locks ≡ []
none-rewritten files are_known [] left = refl
none-rewritten files are_known (lock ∷ locks) left =
    ap (λ (b : Bool). rewriting b (Lock lock.0) lock.1 ++ lock_rewrites files are_known locks) (left lock (Contains-here lock locks))
    ∙ none-rewritten files are_known locks (λ l there. left l (Contains-there lock locks l there))

none-gone : (saved : Saved) (locks : LockTexts) → ((lock : List ℕ × List ℕ) → Contains locks lock → is_some (lookup (is_at (slice_cmp nat_cmp lock.0)) saved.locks.entries) ≡ true) → gone_among saved locks ≡ []
none-gone saved [] has = refl
none-gone saved (lock ∷ locks) has =
    ap (λ (b : Bool). one_where (not b) (Lock lock.0) ++ gone_among saved locks) (has lock (Contains-here lock locks))
    ∙ none-gone saved locks (λ l there. has l (Contains-there lock locks l there))

-- ---- nothing

module _ (files : SavedFiles) (saved : Saved) (header : Header) (are : AreSameFiles header files.requirements.items saved.requirements files.locks.entries saved.locks.entries) where
  locks-rewritten : rises (lock_names saved.locks.entries) ≡ true → (are_known : Bool) → lock_rewrites files are_known saved.locks.entries ≡ []
  locks-rewritten rise are_known =
      none-rewritten files are_known saved.locks.entries
      (λ lock there. stays files lock.0 lock.1
      (same-under header files.locks.entries saved.locks.entries lock.0 (each-known header saved.locks.entries lock (none-stray header saved.locks.entries are.none_of_more) there) are.locked ∙ lock-found saved.locks.entries lock rise there)
      are_known)

  -- nothing is written
  pub nothing-written : rises (lock_names saved.locks.entries) ≡ true → bytes_eq files.journal saved.journal ≡ true → rewrites_of files saved ≡ []
  nothing-written rise same i =
      rewriting (first i) Requirements saved.requirements ++ locks-rewritten rise true i ++ rewriting (same i) Journal saved.journal ++ locks-rewritten rise false i
    where
      first : bytes_eq files.requirements.items saved.requirements ≡ true
      first = (bytes_eq-Decides files.requirements.items saved.requirements).1 are.same

  -- and nothing goes
  pub nothing-goes : going_of files saved ≡ []
  nothing-goes =
      none-gone saved files.locks.entries
      (λ lock there.
      let text = there-under header saved.locks.entries lock.0 (each-known header files.locks.entries lock (none-stray header files.locks.entries are.none) there) (all-kept header saved.locks.entries are.none_of_more) in
      ap (λ (o : Option (List ℕ)). is_some o) (as-map lock.0 saved.locks.entries ∙ text.1))
