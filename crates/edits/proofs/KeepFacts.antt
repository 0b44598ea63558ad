-- Targets before they are locked, and the problems that they are given.
use Rattle.std.proofs.Common.{◌≡◌, ◌≢◌, ◌∙◌, ℕ, true, List, [], ◌∷◌, map, refl, sym, ap}
use Rattle.lists.specs.Rising.{rises}
use Rattle.markers.specs.Environment.{Texts}
use Rattle.snapshot.specs.Packages.{Index}
use Rattle.problems.specs.Problem.{ProblemParts}
use Rattle.states.specs.Locks.{given_for, given_of}
use Rattle.states.specs.Pool.{PoolParts, whole}
use Rattle.states.specs.declared.locks.Unlocked.{Unlocked}
use Rattle.states.specs.declared.target.Target.{Target}
use Rattle.edits.specs.Edits.{first_problem, problem_for, problem_retargeted, problems_over}
use Rattle.edits.specs.Tied.KeptVersions.{Kept, kept_after, kept_first, kept_for, kept_named, kept_of}
use Rattle.edits.specs.Tied.Retargeting.{AreNamed}
use Rattle.edits.specs.declared.pins.TargetPins.{TargetPins}
use Rattle.edits.specs.declared.request.Edit.{Edit}
use Rattle.edits.specs.declared.request.Edit.TheVariants.{Add, Constrain, Relock, Remove, Replace, Retarget, Upgrade, UpgradeAll}

-- the problem of a name, an environment and versions that are kept
abbrev given_from : List (List ℕ) → PoolParts → Kept → List ℕ × ProblemParts
given_from lines pool kept = (kept.0, given_of lines kept.1.0 pool kept.1.1)

-- a function of the parts is one after the other
module _ {A B C : Type 0} (f : B → C) (g : A → B) (h : A → C) (is : (x : A) → h x ≡ f (g x)) where
  through : (xs : List A) → map h xs ≡ map f (map g xs)
  through [] = refl
  through (x ∷ xs) = ap (λ (y : C). y ∷ map h xs) (is x) ∙ ap (λ (l : List C). f (g x) ∷ l) (through xs)

given-parts : (lines : List (List ℕ)) (pool : PoolParts) (all : List Unlocked) → map (given_for lines pool) all ≡ map (given_from lines pool) (map kept_of all)
given-parts lines pool all = through (given_from lines pool) kept_of (given_for lines pool) (λ u. refl) all

-- the problems of targets that an edit leaves
givens-left : (lines : List (List ℕ)) (edit : Edit) (pool : PoolParts) (targets : List Target) (all : List Unlocked) → map kept_of all ≡ map (kept_for pool.index edit) targets
    → map (given_for lines pool) all ≡ map (problem_for lines edit pool) targets
givens-left lines edit pool targets all kept =
    given-parts lines pool all ∙ ap (map (given_from lines pool)) kept
    ∙ sym (through (given_from lines pool) (kept_for pool.index edit) (problem_for lines edit pool) (λ t. refl) targets)

-- the problems of targets that are named for a retarget
givens-named : (lines : List (List ℕ)) (present : List Target) (pins : List TargetPins) (pool : PoolParts) (given : List (List ℕ × Texts)) (all : List Unlocked)
    → map kept_of all ≡ map (kept_named pool.index present pins) given → map (given_for lines pool) all ≡ map (problem_retargeted lines present pins pool) given
givens-named lines present pins pool given all kept =
    given-parts lines pool all ∙ ap (map (given_from lines pool)) kept
    ∙ sym (through (given_from lines pool) (kept_named pool.index present pins) (problem_retargeted lines present pins pool) (λ g. refl) given)

-- the problems of the targets that an edit leads to
pub givens-after : (lines : List (List ℕ)) (edit : Edit) (pool : PoolParts) (present : List Target) (all : List Unlocked) → map kept_of all ≡ kept_after pool.index present edit
    → map (given_for lines pool) all ≡ problems_over lines present edit pool
givens-after lines (Add text) pool present all kept = givens-left lines (Add text) pool present all kept
givens-after lines (Remove name) pool present all kept = givens-left lines (Remove name) pool present all kept
givens-after lines (Constrain name specifiers) pool present all kept = givens-left lines (Constrain name specifiers) pool present all kept
givens-after lines (Upgrade names) pool present all kept = givens-left lines (Upgrade names) pool present all kept
givens-after lines UpgradeAll pool present all kept = givens-left lines UpgradeAll pool present all kept
givens-after lines Relock pool present all kept = givens-left lines Relock pool present all kept
givens-after lines (Replace new pins) pool present all kept = givens-left lines (Replace new pins) pool present all kept
givens-after lines (Retarget given pins) pool present all kept = givens-named lines present pins pool given all kept

-- the problems of named environments at the beginning
pub givens-first : (lines : List (List ℕ)) (pins : List TargetPins) (index : Index) (pool : PoolParts) (targets : List (List ℕ × Texts)) (all : List Unlocked) → pool ≡ whole index → map kept_of all ≡ map (kept_first index pins) targets
    → map (given_for lines pool) all ≡ map (first_problem lines pins index) targets
givens-first lines pins index pool targets all is kept =
    ap (λ p. map (given_for lines p) all) is ∙ given-parts lines (whole index) all ∙ ap (map (given_from lines (whole index))) kept
    ∙ sym (through (given_from lines (whole index)) (kept_first index pins) (first_problem lines pins index) (λ t. refl) targets)

name-parts : (all : List Unlocked) → map (λ u. u.name) all ≡ map (λ (k : Kept). k.0) (map kept_of all)
name-parts all = through (λ (k : Kept). k.0) kept_of (λ u. u.name) (λ u. refl) all

-- the names of targets that an edit leaves are theirs
names-left : (index : Index) (edit : Edit) (targets : List Target) (all : List Unlocked) → map kept_of all ≡ map (kept_for index edit) targets → map (λ u. u.name) all ≡ map (λ t. t.name) targets
names-left index edit targets all kept =
    name-parts all ∙ ap (map (λ (k : Kept). k.0)) kept ∙ sym (through (λ (k : Kept). k.0) (kept_for index edit) (λ t. t.name) (λ t. refl) targets)

names-named : (index : Index) (present : List Target) (pins : List TargetPins) (given : List (List ℕ × Texts)) (all : List Unlocked) → map kept_of all ≡ map (kept_named index present pins) given
    → map (λ u. u.name) all ≡ map (λ p. p.0) given
names-named index present pins given all kept =
    name-parts all ∙ ap (map (λ (k : Kept). k.0)) kept ∙ sym (through (λ (k : Kept). k.0) (kept_named index present pins) (λ (p : List ℕ × Texts). p.0) (λ g. refl) given)

pub names-first : (index : Index) (pins : List TargetPins) (targets : List (List ℕ × Texts)) (all : List Unlocked) → map kept_of all ≡ map (kept_first index pins) targets → map (λ u. u.name) all ≡ map (λ p. p.0) targets
names-first index pins targets all kept =
    name-parts all ∙ ap (map (λ (k : Kept). k.0)) kept ∙ sym (through (λ (k : Kept). k.0) (kept_first index pins) (λ (p : List ℕ × Texts). p.0) (λ t. refl) targets)

-- where there is a target, there is one that isn't locked yet
pub some-kept : {A : Type 0} (f : A → Kept) (targets : List A) (all : List Unlocked) → map kept_of all ≡ map f targets → targets ≢ [] → all ≢ []
some-kept f [] all kept some = absurd (some refl)
some-kept f (t ∷ targets) [] kept some = λ none. cc
some-kept f (t ∷ targets) (u ∷ all) kept some = λ none. cc

-- the targets that an edit leads to are some, and their names rise
module _ (index : Index) (present : List Target) (all : List Unlocked) (some : present ≢ []) (rising : rises (map (λ t. t.name) present) ≡ true) where
  left-after : (edit : Edit) → map kept_of all ≡ map (kept_for index edit) present → (all ≢ []) × (rises (map (λ u. u.name) all) ≡ true)
  left-after edit kept = (some-kept (kept_for index edit) present all kept some, ap rises (names-left index edit present all kept) ∙ rising)

  pub are-after : (edit : Edit) → AreNamed edit → map kept_of all ≡ kept_after index present edit → (all ≢ []) × (rises (map (λ u. u.name) all) ≡ true)
  are-after (Add text) named kept = left-after (Add text) kept
  are-after (Remove name) named kept = left-after (Remove name) kept
  are-after (Constrain name specifiers) named kept = left-after (Constrain name specifiers) kept
  are-after (Upgrade names) named kept = left-after (Upgrade names) kept
  are-after UpgradeAll named kept = left-after UpgradeAll kept
  are-after Relock named kept = left-after Relock kept
  are-after (Replace new pins) named kept = left-after (Replace new pins) kept
  are-after (Retarget given pins) named kept =
      (some-kept (kept_named index present pins) given all kept named.0, ap rises (names-named index present pins given all kept) ∙ named.1)
