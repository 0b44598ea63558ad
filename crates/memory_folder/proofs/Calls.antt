-- What the calls of a folder in memory leave.
use Rattle.std.proofs.Common.{◌≡◌, ◌⊎◌, ◌≤◌, ◌<◌, ◌+◌, ◌-◌, ◌++◌, ℕ, zero, suc, Bool, true, false, List, [], ◌∷◌, Option, Some, length, take, if◌then◌else◌, append_assoc, refl, sym, ap, ◌∙◌, subst, inl, inr, arith, length-append}
use Rattle.folder.specs.Calls.{After, Elapses, Follows}
use Rattle.std.proofs.lemmas.Bool.{cases_lt}
use Rattle.std.specs.Str.{bytes_eq}
use Rattle.folder.specs.Held.{Files, Held, IsSameBut, in_turn, staged, with_file}
use Rattle.folder.proofs.Names.{same_but-staged}
use Rattle.memory_folder.specs.Changes.{HadBeen, change_done, empty, held_after}
use Rattle.memory_folder.specs.declared.changes.Change.{Change}
use Rattle.memory_folder.specs.declared.memory.MemoryFolder.{MemoryFolder}
use lib.Seq.{take-append-le, take-append-add}

abbrev pub held_of : MemoryFolder → Option Held
held_of m = Some (held_after m.changes.items)

abbrev pub leaves_of : MemoryFolder → Held → Type 0
leaves_of m c = c ≡ held_after m.changes.items

abbrev pub moment_of : MemoryFolder → ℕ
moment_of m = length m.changes.items

abbrev pub since_of : MemoryFolder → ℕ → Held → Type 0
since_of m t c = HadBeen m.changes.items t c

in_turn-append : (xs ys : List Change) (h : Held) → in_turn change_done (xs ++ ys) h ≡ in_turn change_done ys (in_turn change_done xs h)
in_turn-append [] ys h = refl
in_turn-append (x ∷ xs) ys h = in_turn-append xs ys (change_done x h)

module _ (goes : Held → Held → Type 0) (old new : MemoryFolder) where
  abbrev before : List Change
  before = old.changes.items

  pub follows : goes (held_after old.changes.items) (held_after new.changes.items) → Follows held_of leaves_of goes old new
  follows done = record { holds = done; leaves = λ c left. (held_after old.changes.items, refl, subst (λ (h : Held). goes (held_after old.changes.items) h) (sym left) done) }

  module _ (more : List Change) (is : new.changes.items ≡ old.changes.items ++ more) where
    pub follows_more : goes (held_after old.changes.items) (in_turn change_done more (held_after old.changes.items)) → Follows held_of leaves_of goes old new
    follows_more done = follows (subst (λ (h : Held). goes (held_after old.changes.items) h) (sym (ap held_after is ∙ in_turn-append before more empty)) done)

    module _ (each : (k : ℕ) → k ≤ length more → goes (held_after old.changes.items) (in_turn change_done (take k more) (held_after old.changes.items))) where
      found : (t : ℕ) (c : Held) → HadBeen (before ++ more) t c → HadBeen before t c ⊎ After goes (leaves_of old) c
      found t c had = split (cases_lt had.0 (length before))
        where
          split : (had.0 < length before) ⊎ (length before ≤ had.0) → HadBeen before t c ⊎ After goes (leaves_of old) c
          split (inl early) =
              let le : had.0 ≤ length before = omega (arith, early) in
              inl (had.0, had.1, le, had.3 ∙ ap held_after (take-append-le had.0 before more le))
          split (inr late) =
              let j = had.0 - length before in
              let at : had.0 ≡ length before + j = omega (arith, late) in
              let cut : take had.0 (before ++ more) ≡ before ++ take j more = ap (λ (n : ℕ). take n (before ++ more)) at ∙ take-append-add before more j in
              let fits : j ≤ length more = omega (arith, had.2, length-append before more, late) in
              let here : c ≡ in_turn change_done (take j more) (held_after before) = had.3 ∙ ap held_after cut ∙ in_turn-append before (take j more) empty in
              inr (held_after before, refl, subst (λ (h : Held). goes (held_after before) h) (sym here) (each j fits))

      pub elapses_more : Elapses moment_of since_of leaves_of goes old new
      elapses_more = record {
        later = omega (arith, ap length is, length-append before more);
        nothing_else = λ t c le had. found t c (subst (λ (xs : List Change). HadBeen xs t c) is had);
        keeps = λ t c le had. (had.0, had.1, omega (arith, had.2, ap length is, length-append before more), had.3 ∙ ap held_after (sym (take-append-le had.0 before more had.2) ∙ ap (λ (xs : List Change). take had.0 xs) (sym is)));
      }

-- a call that changed nothing
pub elapses_same : (goes : Held → Held → Type 0) (old new : MemoryFolder) → new.changes.items ≡ old.changes.items → Elapses moment_of since_of leaves_of goes old new
elapses_same goes old new same = record {
  later = omega (arith, ap length same);
  nothing_else = λ t c le had. inl (subst (λ (xs : List Change). HadBeen xs t c) same had);
  keeps = λ t c le had. subst (λ (xs : List Change). HadBeen xs t c) (sym same) had;
}

-- ---- one change, and two

pub one_each : (goes : Held → Held → Type 0) (x : Change) (h : Held) → goes h h → goes h (change_done x h) → (k : ℕ) → k ≤ 1 → goes h (in_turn change_done (take k (x ∷ [])) h)
one_each goes x h none one zero le = none
one_each goes x h none one (suc zero) le = one
one_each goes x h none one (suc (suc k)) le = absurd (omega (arith, le))

pub two_each : (goes : Held → Held → Type 0) (x y : Change) (h : Held) → goes h h → goes h (change_done x h) → goes h (change_done y (change_done x h)) → (k : ℕ) → k ≤ 2 → goes h (in_turn change_done (take k (x ∷ y ∷ [])) h)
two_each goes x y h none one two zero le = none
two_each goes x y h none one two (suc zero) le = one
two_each goes x y h none one two (suc (suc zero)) le = two
two_each goes x y h none one two (suc (suc (suc k))) le = absurd (omega (arith, le))

pub two_more : (old mid new : List Change) (x y : Change) → mid ≡ old ++ x ∷ [] → new ≡ mid ++ y ∷ [] → new ≡ old ++ x ∷ y ∷ []
two_more old mid new x y first second = second ∙ ap (λ (l : List Change). l ++ y ∷ []) first ∙ append_assoc old (x ∷ []) (y ∷ [])

with_twice : (b : Files) (name : List ℕ) (u v : Option (List ℕ)) → with_file (with_file b name u) name v ≡ with_file b name v
with_twice b name u v i x = twice (bytes_eq name x) i
  where
    twice : (t : Bool) → (if t then v else (if t then u else b x)) ≡ (if t then v else b x)
    twice true = refl
    twice false = refl

-- a file that is staged in two steps
pub staged_twice : (name a b front whole bytes : List ℕ) (h : Held) → a ≡ name → b ≡ name → whole ≡ bytes → staged b whole (staged a front h) ≡ staged name bytes h
staged_twice name a b front whole bytes h is_a is_b is =
    (λ i. staged (is_b i) (is i) (staged (is_a i) front h)) ∙ (λ i. record { placed = h.placed; beside = with_twice h.beside name (Some front) (Some bytes) i })

pub staged_once : (name a front : List ℕ) (h : Held) → a ≡ name → IsSameBut (name ∷ []) h (staged a front h)
staged_once name a front h is = subst (λ (n : List ℕ). IsSameBut (name ∷ []) h (staged n front h)) (sym is) (same_but-staged name front h)

pub staged_all : (name bytes : List ℕ) (h k : Held) → k ≡ staged name bytes h → IsSameBut (name ∷ []) h k
staged_all name bytes h k is = subst (λ (x : Held). IsSameBut (name ∷ []) h x) (sym is) (same_but-staged name bytes h)
