-- Whether a lock is one for lines in an environment, as it is decided.
use Rattle.std.proofs.Common.{◌≡◌, ◌∙◌, ℕ, true, List, Option, Some, None, Ok, refl, sym, ap, subst}
use Rattle.std.specs.List.{AllByRecursion}
use Rattle.std.specs.Prelude.{◌↔◌, IsTrue, is_some}
use Rattle.markers.specs.Environment.{Texts, marker_text}
use Rattle.pep508.specs.Requirement.{RequirementParts, is_active, requirement_of}
use Rattle.pylock.specs.Locks.{IsLock, LockParts, are_entries}
use Rattle.pylock.specs.Packages.{EntryParts}
use Rattle.problems.specs.Problem.{active_in, requirements}
use Rattle.states.specs.State.{IsAnEntry, IsLockFor, IsMet, Meets, Reached, entry_on}
use Rattle.states.specs.Tied.LockForLines.{IsClosed, IsLineMet}
use Rattle.states.proofs.EntryFacts.{entry-from, entry-there}
use Rattle.states.proofs.PartFacts.{All-member, All-of}
use Rattle.lists.proofs.Members.{Contains-flat_map, Contains-flat_map_of}

-- ---- requirements

-- the entry of the name decides whether a requirement is met
pub met-found : (environment : Texts) (entries : List EntryParts) (wanted : RequirementParts) (e : EntryParts) → are_entries entries ≡ true → entry_on entries wanted.name ≡ Some e
    → (Meets environment wanted e → IsMet environment entries wanted) × (IsMet environment entries wanted → Meets environment wanted e)
met-found environment entries wanted e rise found = (
  (λ meets. (e, (entry-from entries wanted.name e found).0, meets)),
  (λ met.
      let there : entry_on entries met.0.name ≡ Some met.0 = entry-there entries met.0 rise met.1 in
      let same : met.0 ≡ e = cc (sym there ∙ ap (entry_on entries) met.2.named ∙ found) in
      subst (Meets environment wanted) same met.2),
)

pub met-none : (environment : Texts) (entries : List EntryParts) (wanted : RequirementParts) → are_entries entries ≡ true → entry_on entries wanted.name ≡ None → IsMet environment entries wanted → ⊥
met-none environment entries wanted rise found met =
    let there : entry_on entries met.0.name ≡ Some met.0 = entry-there entries met.0 rise met.1 in
    cc (sym there ∙ ap (entry_on entries) met.2.named ∙ found)

-- what an active line asks for decides whether it is met
pub line-met : (environment : Texts) (entries : List EntryParts) (line : List ℕ) (wanted : RequirementParts) → requirement_of line ≡ Ok (Some wanted) → is_active wanted environment ≡ true
    → (IsMet environment entries wanted → IsLineMet environment entries line) × (IsLineMet environment entries line → IsMet environment entries wanted)
line-met environment entries line wanted reads active = rw (reads, active) ((λ m. (m, tt)), (λ a. a.0))

-- ---- entries of names

pub an-entry : (entries : List EntryParts) (name : List ℕ) (o : Option EntryParts) → are_entries entries ≡ true → entry_on entries name ≡ o → IsTrue (is_some o) ↔ IsAnEntry entries name
an-entry entries name None rise found = (
  (λ h. absurd (cc h)),
  (λ is.
      let there : entry_on entries is.entry.name ≡ Some is.entry = entry-there entries is.entry rise is.there in
      absurd (cc (sym there ∙ ap (entry_on entries) is.named ∙ found))),
)
an-entry entries name (Some e) rise found = (
  (λ h. let k = entry-from entries name e found in record { entry = e; there = k.0; named = k.1 }),
  (λ is. refl),
)

-- ---- all of it

pub IsLockFor-from : (lines : List (List ℕ)) (environment : Texts) (lock : LockParts) → IsLock lock → lock.environment ≡ marker_text environment → AllByRecursion (IsClosed lock.entries) lock.entries
    → AllByRecursion (IsLineMet environment lock.entries) lines → AllByRecursion (λ e. Reached (requirements environment lines) lock.entries e.name) lock.entries → IsLockFor lines environment lock
IsLockFor-from lines environment lock lawful named closed met reached = record {
  lawful = lawful;
  met = λ wanted there.
      let k = Contains-flat_map (λ line. active_in environment (requirement_of line)) lines wanted there in
      All-member (IsMet environment lock.entries) (active_in environment (requirement_of k.0)) wanted (All-member (IsLineMet environment lock.entries) lines k.0 met k.1) k.2;
  closed = λ e name there depends. All-member (IsAnEntry lock.entries) e.dependencies name (All-member (IsClosed lock.entries) lock.entries e closed there) depends;
  reached = λ e there. All-member (λ (x : EntryParts). Reached (requirements environment lines) lock.entries x.name) lock.entries e reached there;
  named = named;
}

pub closed-of : (lines : List (List ℕ)) (environment : Texts) (lock : LockParts) → IsLockFor lines environment lock → AllByRecursion (IsClosed lock.entries) lock.entries
closed-of lines environment lock is = All-of (IsClosed lock.entries) lock.entries (λ e there. All-of (IsAnEntry lock.entries) e.dependencies (λ name depends. is.closed e name there depends))

pub met-of : (lines : List (List ℕ)) (environment : Texts) (lock : LockParts) → IsLockFor lines environment lock → AllByRecursion (IsLineMet environment lock.entries) lines
met-of lines environment lock is =
    All-of (IsLineMet environment lock.entries) lines (λ line there. All-of (IsMet environment lock.entries) (active_in environment (requirement_of line))
    (λ wanted h. is.met wanted (Contains-flat_map_of (λ l. active_in environment (requirement_of l)) lines line wanted there h)))

pub reached-of : (lines : List (List ℕ)) (environment : Texts) (lock : LockParts) → IsLockFor lines environment lock
    → AllByRecursion (λ e. Reached (requirements environment lines) lock.entries e.name) lock.entries
reached-of lines environment lock is = All-of (λ (e : EntryParts). Reached (requirements environment lines) lock.entries e.name) lock.entries is.reached
