-- What a lock of several targets says of each.
use Rattle.std.proofs.Common.{◌≡◌, ◌≢◌, ◌∙◌, ◌==◌, ◌||◌, inl, inr, ℕ, Bool, true, false, List, [], ◌∷◌, length, map, Contains, if◌then◌else◌, refl, ap, sym, subst}
use Rattle.std.proofs.lemmas.Bool.{cases_Bool}
use Rattle.std.specs.List.{AllByRecursion, list_any}
use Rattle.lists.proofs.Members.{Contains-cons_cases, Contains-here, Contains-map, Contains-map_of, Contains-nil, Contains-there}
use Rattle.markers.specs.Environment.{IsEnvironment, Texts}
use Rattle.pylock.specs.declared.joint.JointLock.{JointLock}
use Rattle.snapshot.specs.Packages.{Index}
use Rattle.states.proofs.PartFacts.{All-member}
use Rattle.states.specs.declared.target.Target.{Target}
use Rattle.exports.specs.Conditions.{MeetsAll}
use Rattle.exports.specs.Joint.{Clash, DoClash, Fit, IsAnywhere, IsMarkedBy, IsOfSome, IsTold, TakesExactly}
use Rattle.exports.specs.Tied.Covers.{IsCover}
use Rattle.exports.specs.Tied.JointPackages.{HoldsOf, asks_nothing, entries_in, environments_told}
use Rattle.exports.specs.declared.condition.Condition.{Condition}
use Rattle.exports.specs.declared.cover.Cover.{Cover}
use Rattle.exports.proofs.JointPackages.{AreFitting, apart-some, fit-of, marker-is, takes-exactly}
use Rattle.exports.proofs.SaidConditions.{nat-same, none-left, one-of}
use Rattle.exports.proofs.ToldMarkers.{ReadsAsSpelled}

-- ---- whether a target asks nothing

one-of-all : {A : Type 0} (p : A → Bool) (xs : List A) → list_any p xs ≡ true → (x : A) × Contains xs x × (p x ≡ true)
one-of-all p [] h = absurd cc
one-of-all p (x ∷ xs) h = elim (one-of (p x) _ h) [
  | inl here ↦ (x, Contains-here x xs, here)
  | inr more ↦ (let k = one-of-all p xs more in (k.0, Contains-there x xs k.0 k.1, k.2))
]

or-neither : (a b : Bool) → (a || b) ≡ false → (a ≡ false) × (b ≡ false)
or-neither true b h = absurd cc
or-neither false b h = (refl, h)

none-of-all : {A : Type 0} (p : A → Bool) (xs : List A) (x : A) → list_any p xs ≡ false → Contains xs x → p x ≡ false
none-of-all p [] x h there = absurd (Contains-nil x there)
none-of-all p (y ∷ ys) x h there = elim (Contains-cons_cases y ys x there) [
  | inl same ↦ ap p (sym same) ∙ (or-neither (p y) (list_any p ys) h).0
  | inr more ↦ none-of-all p ys x (or-neither (p y) (list_any p ys) h).1 more
]

nothing-asked : (cover : Cover) → asks_nothing cover ≡ true → cover.conditions ≡ []
nothing-asked cover h = none-left cover.conditions (nat-same (length cover.conditions) 0 h)

something-asked : (cover : Cover) → asks_nothing cover ≡ false → cover.conditions ≡ [] → ⊥
something-asked cover h none = let e : asks_nothing cover ≡ true = ap (λ (cs : List Condition). length cs == 0) none in cc

pub met-by-all : (environment other : Texts) (conditions : List Condition) → conditions ≡ [] → MeetsAll environment other conditions
met-by-all environment other conditions none = subst (MeetsAll environment other) (sym none) tt

-- ---- one target

-- the lock is that of these covers
pub record IsLockOfCovers (covers : List Cover) (joint : JointLock) : Type 0 where
  pub environments : joint.environments ≡ environments_told covers
  pub packages : HoldsOf covers joint.packages

told-nothing : ReadsAsSpelled → (lines : List (List ℕ)) (index : Index) (covers : List Cover) → AreFitting lines index covers → (joint : JointLock) → IsLockOfCovers covers joint
    → list_any asks_nothing covers ≡ true → (cover : Cover) → Contains covers cover → IsTold lines index joint cover.target
told-nothing found lines index covers f joint l any cover there =
    let free = one-of-all asks_nothing covers any in
    let none : free.0.conditions ≡ [] = nothing-asked free.0 free.2 in
    let environments : joint.environments ≡ [] = l.environments ∙ ap (λ (b : Bool). if b then [] else map (λ (c : Cover). c.marker) covers) any in
    let takes : (other : Texts) → IsEnvironment other → TakesExactly other joint.packages (entries_in free.0) =
    λ other lawful. takes-exactly found lines index covers f joint.packages l.packages free.0 free.1 other lawful (met-by-all free.0.target.environment other free.0.conditions none) in
    let same : entries_in free.0 ≡ entries_in cover = elim (fit-of lines index covers f free.0 cover free.1 there) [
      | inl apart ↦ absurd (apart-some lines index free.0 cover (All-member (IsCover lines index) covers cover f.covers_are there) apart none)
      | inr same ↦ same
    ] in
    inr (environments, λ other lawful. subst (TakesExactly other joint.packages) same (takes other lawful))

marked-by : ReadsAsSpelled → (lines : List (List ℕ)) (index : Index) (covers : List Cover) → AreFitting lines index covers → (joint : JointLock) → IsLockOfCovers covers joint
    → list_any asks_nothing covers ≡ false → (cover : Cover) → Contains covers cover → IsMarkedBy lines index joint.packages cover.target cover.marker
marked-by found lines index covers f joint l any cover there =
    let is = All-member (IsCover lines index) covers cover f.covers_are there in
    record {
      conditions = cover.conditions;
      own = is.own;
      marker = marker-is found lines index cover is (something-asked cover (none-of-all asks_nothing covers cover any there));
      alike = is.alike;
      exact = takes-exactly found lines index covers f joint.packages l.packages cover there;
    }

markers-told : (covers : List Cover) (joint : JointLock) → IsLockOfCovers covers joint → list_any asks_nothing covers ≡ false → joint.environments ≡ map (λ c. c.marker) covers
markers-told covers joint l any = l.environments ∙ ap (λ (b : Bool). if b then [] else map (λ (c : Cover). c.marker) covers) any

-- ---- all targets

pub told-of : ReadsAsSpelled → (lines : List (List ℕ)) (index : Index) (covers : List Cover) → AreFitting lines index covers → (joint : JointLock) → IsLockOfCovers covers joint
    → (targets : List Target) → map (λ c. c.target) covers ≡ targets → (target : Target) → Contains targets target → IsTold lines index joint target
told-of found lines index covers f joint l targets are target there =
    let k = Contains-map (λ (c : Cover). c.target) covers target (subst (λ (ts : List Target). Contains ts target) (sym are) there) in
    subst (IsTold lines index joint) k.2 (elim (cases_Bool (list_any asks_nothing covers)) [
      | inl any ↦ told-nothing found lines index covers f joint l any k.0 k.1
      | inr none ↦
          inl (
            k.0.marker,
            subst (λ (texts : List (List ℕ)). Contains texts k.0.marker) (sym (markers-told covers joint l none)) (Contains-map_of (λ (c : Cover). c.marker) covers k.0 k.1),
            marked-by found lines index covers f joint l none k.0 k.1,
          )
    ])

pub only-of : ReadsAsSpelled → (lines : List (List ℕ)) (index : Index) (covers : List Cover) → AreFitting lines index covers → (joint : JointLock) → IsLockOfCovers covers joint
    → (targets : List Target) → map (λ c. c.target) covers ≡ targets → (text : List ℕ) → Contains joint.environments text → IsOfSome lines index joint targets text
only-of found lines index covers f joint l targets are text there = elim (cases_Bool (list_any asks_nothing covers)) [
  | inl any ↦ absurd (Contains-nil text (subst (λ (texts : List (List ℕ)). Contains texts text) (l.environments ∙ ap (λ (b : Bool). if b then [] else map (λ (c : Cover). c.marker) covers) any) there))
  | inr none ↦
      (let k = Contains-map (λ (c : Cover). c.marker) covers text (subst (λ (texts : List (List ℕ)). Contains texts text) (markers-told covers joint l none) there) in (
        k.0.target,
        subst (λ (ts : List Target). Contains ts k.0.target) are (Contains-map_of (λ (c : Cover). c.target) covers k.0 k.1),
        subst (IsMarkedBy lines index joint.packages k.0.target) k.2 (marked-by found lines index covers f joint l none k.0 k.1),
      ))
]

no-covers : (covers : List Cover) → map (λ c. c.marker) covers ≡ [] → covers ≡ []
no-covers [] h = refl
no-covers (c ∷ cs) h = absurd cc

pub anywhere-of : (lines : List (List ℕ)) (index : Index) (covers : List Cover) → AreFitting lines index covers → (joint : JointLock) → IsLockOfCovers covers joint
    → (targets : List Target) → map (λ c. c.target) covers ≡ targets → joint.environments ≡ [] → targets ≢ [] → IsAnywhere lines index targets
anywhere-of lines index covers f joint l targets are bare some = elim (cases_Bool (list_any asks_nothing covers)) [
  | inl any ↦
      (let free = one-of-all asks_nothing covers any in
      let is = All-member (IsCover lines index) covers free.0 f.covers_are free.1 in (
        free.0.target,
        subst (λ (ts : List Target). Contains ts free.0.target) are (Contains-map_of (λ (c : Cover). c.target) covers free.0 free.1),
        λ other. is.alike other (met-by-all free.0.target.environment other free.0.conditions (nothing-asked free.0 free.2)),
      ))
  | inr none ↦ absurd (some (sym are ∙ ap (map (λ (c : Cover). c.target)) (no-covers covers (sym (markers-told covers joint l none) ∙ bare))))
]

-- ---- whether targets fit

pub target-there : (covers : List Cover) (targets : List Target) → map (λ c. c.target) covers ≡ targets → (cover : Cover) → Contains covers cover → Contains targets cover.target
target-there covers targets are cover there = subst (λ (ts : List Target). Contains ts cover.target) are (Contains-map_of (λ (c : Cover). c.target) covers cover there)

pub all-fit : (lines : List (List ℕ)) (index : Index) (targets : List Target) → AllByRecursion (λ one. AllByRecursion (Fit lines index one) targets) targets
    → (one other : Target) → Contains targets one → Contains targets other → Fit lines index one other
all-fit lines index targets fit one other here there = All-member (Fit lines index one) targets other (All-member (λ (t : Target). AllByRecursion (Fit lines index t) targets) targets one fit here) there

-- so do the covers of targets that fit
pub covers-fit : (lines : List (List ℕ)) (index : Index) (covers : List Cover) (targets : List Target) → map (λ c. c.target) covers ≡ targets → AllByRecursion (IsCover lines index) covers
    → AllByRecursion (λ one. AllByRecursion (Fit lines index one) targets) targets → AreFitting lines index covers
covers-fit lines index covers targets are covers_are fit = record {
  covers_are = covers_are;
  fit = λ one other here there. all-fit lines index targets fit one.target other.target (target-there covers targets are one here) (target-there covers targets are other there);
}

pub clash-of : (lines : List (List ℕ)) (index : Index) (targets : List Target) (one other : Target) → Contains targets one → Contains targets other → Clash lines index one other → DoClash lines index targets one.name other.name
clash-of lines index targets one other here there clash = record {
  first = one;
  second = other;
  first_there = here;
  second_there = there;
  first_named = refl;
  second_named = refl;
  clash = clash;
}
