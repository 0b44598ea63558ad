-- The greatest of versions as pins, one after another.
use Rattle.std.proofs.Common.{◌≡◌, ◌∙◌, inl, inr, ℕ, Bool, true, false, List, [], ◌∷◌, ◌++◌, Option, Some, None, find, fold, refl, sym, true≢false, ap, if◌then◌else◌}
use Rattle.std.proofs.lemmas.Bool.{cases_Bool}
use Rattle.std.specs.Cmp.{IsTotalOrder, alike_right, bool_cmp_total, on_total, then_total, tied_itself}
use Rattle.std.specs.List.{list_any}
use Rattle.std.specs.Option.{option_to_list}
use Rattle.std.specs.Ordering.{is_lt, ordering_reverse}
use Rattle.std.specs.Prelude.{not, ◌||◌}
use Rattle.std.specs.declared.cmp.Ordering.{Ordering}
use Rattle.std.specs.declared.cmp.Ordering.TheVariants.{Less, Equal, Greater}
use Rattle.pep440.specs.Tied.OrderLaws.{version_total}
use Rattle.pep440.specs.Version.{VersionParts}
use Rattle.snapshot.specs.Packages.{Index}
use Rattle.edits.specs.Pins.{greatest_pin, is_released, pin_cmp}

pub pin_total : (index : Index) (name : List ℕ) → IsTotalOrder (pin_cmp index name)
pin_total index name = then_total (on_total (is_released index name) bool_cmp_total) version_total

-- ---- tests of lists

skipped : {X : Type 0} (p : X → Bool) (x : X) (xs : List X) → p x ≡ false → find p (x ∷ xs) ≡ find p xs
skipped p x xs fails = rw fails refl

taken : {X : Type 0} (p : X → Bool) (x : X) (xs : List X) → p x ≡ true → find p (x ∷ xs) ≡ Some x
taken p x xs holds = rw holds refl

same-tests : {X : Type 0} (p q : X → Bool) (xs : List X) → ((x : X) → p x ≡ q x) → find p xs ≡ find q xs
same-tests p q xs same = ap (λ t. find t xs) (λ i x. same x i)

or-later : (a b : Bool) → b ≡ true → (a || b) ≡ true
or-later true b is = refl
or-later false b is = is

any-more : {X : Type 0} (p q : X → Bool) → ((x : X) → p x ≡ true → q x ≡ true) → (xs : List X) → list_any p xs ≡ true → list_any q xs ≡ true
any-more p q more [] there = there
any-more p q more (x ∷ xs) there = elim (cases_Bool (p x)) [
  | inl here ↦ rw (more x here) refl
  | inr other ↦ or-later (q x) (list_any q xs) (any-more p q more xs (rw other at there))
]

-- of two tests one of which implies the other, this one counts
front-implies : (a b c : Bool) → (a ≡ true → b ≡ true) → (a || (b || c)) ≡ (b || c)
front-implies true b c implies = rw (implies refl) refl
front-implies false b c implies = refl

back-implies : (a b c : Bool) → (b ≡ true → a ≡ true) → (a || (b || c)) ≡ (a || c)
back-implies true b c implies = refl
back-implies false true c implies = absurd (true≢false (sym (implies refl)))
back-implies false false c implies = refl

-- ---- one more version

-- the greater of two, and of equal ones the first
abbrev pub greater : Index → List ℕ → VersionParts → VersionParts → VersionParts
greater index name v w = if is_lt (pin_cmp index name v w) then w else v

-- the greater of one that may be there and another
abbrev pub greater_in : Index → List ℕ → Option VersionParts → VersionParts → Option VersionParts
greater_in index name None w = Some w
greater_in index name (Some v) w = Some (greater index name v w)

less-of : (o : Ordering) → is_lt o ≡ true → o ≡ Less
less-of Less is = refl
less-of Equal is = absurd (true≢false (sym is))
less-of Greater is = absurd (true≢false (sym is))

module _ (index : Index) (name : List ℕ) where
  abbrev is_below : VersionParts → VersionParts → Bool
  is_below v w = is_lt (pin_cmp index name v w)

  abbrev is_greatest : List VersionParts → VersionParts → Bool
  is_greatest versions v = not (list_any (λ w. is_lt (pin_cmp index name v w)) versions)

  total : IsTotalOrder (pin_cmp index name)
  total = pin_total index name

  below-trans : (x v w : VersionParts) → is_below x v ≡ true → is_below v w ≡ true → is_below x w ≡ true
  below-trans x v w first second = ap is_lt (total.trans x v w (less-of (pin_cmp index name x v) first) (less-of (pin_cmp index name v w) second))

  -- where v isn't below w, what is below w is below v
  under : (v w x : VersionParts) (o : Ordering) → pin_cmp index name v w ≡ o → is_lt o ≡ false → is_below x w ≡ true → is_below x v ≡ true
  under v w x Less is far below = absurd (true≢false far)
  under v w x Equal is far below = ap is_lt (alike_right total v w x is) ∙ below
  under v w x Greater is far below = ap is_lt (total.trans x w v (less-of (pin_cmp index name x w) below) (total.antisymm w v ∙ ap ordering_reverse is))

  -- and what v is below, w is below
  over : (v w x : VersionParts) (o : Ordering) → pin_cmp index name v w ≡ o → is_lt o ≡ false → is_below v x ≡ true → is_below w x ≡ true
  over v w x Less is far below = absurd (true≢false far)
  over v w x Equal is far below = sym (ap is_lt (total.congr v w x is)) ∙ below
  over v w x Greater is far below = ap is_lt (total.trans w v x (total.antisymm w v ∙ ap ordering_reverse is) (less-of (pin_cmp index name v x) below))

  first-goes : (v w : VersionParts) (ws : List VersionParts) → is_below v w ≡ true → greatest_pin index name (v ∷ w ∷ ws) ≡ greatest_pin index name (w ∷ ws)
  first-goes v w ws below =
      let any : list_any (is_below v) (v ∷ w ∷ ws) ≡ true =
      front-implies (is_below v v) (is_below v w) (list_any (is_below v) ws) (λ t. below) ∙ ap (λ (b : Bool). b || list_any (is_below v) ws) below in
      skipped (is_greatest (v ∷ w ∷ ws)) v (w ∷ ws) (ap not any)
      ∙ same-tests (is_greatest (v ∷ w ∷ ws)) (is_greatest (w ∷ ws)) (w ∷ ws)
      (λ x. ap not (front-implies (is_below x v) (is_below x w) (list_any (is_below x) ws) (λ t. below-trans x v w t below)))

  second-fails : (v w : VersionParts) (ws : List VersionParts) → is_below v w ≡ false → (o : Bool) → list_any (is_below v) (v ∷ ws) ≡ o
      → find (is_greatest (v ∷ ws)) (v ∷ w ∷ ws) ≡ find (is_greatest (v ∷ ws)) (v ∷ ws)
  second-fails v w ws far true some =
      let too : list_any (is_below w) (v ∷ ws) ≡ true = any-more (is_below v) (is_below w) (λ x. over v w x (pin_cmp index name v w) refl far) (v ∷ ws) some in
      skipped (is_greatest (v ∷ ws)) v (w ∷ ws) (ap not some) ∙ skipped (is_greatest (v ∷ ws)) w ws (ap not too)
      ∙ sym (skipped (is_greatest (v ∷ ws)) v ws (ap not some))
  second-fails v w ws far false none = taken (is_greatest (v ∷ ws)) v (w ∷ ws) (ap not none) ∙ sym (taken (is_greatest (v ∷ ws)) v ws (ap not none))

  second-goes : (v w : VersionParts) (ws : List VersionParts) → is_below v w ≡ false → greatest_pin index name (v ∷ w ∷ ws) ≡ greatest_pin index name (v ∷ ws)
  second-goes v w ws far =
      same-tests (is_greatest (v ∷ w ∷ ws)) (is_greatest (v ∷ ws)) (v ∷ w ∷ ws)
      (λ x. ap not (back-implies (is_below x v) (is_below x w) (list_any (is_below x) ws) (under v w x (pin_cmp index name v w) refl far)))
      ∙ second-fails v w ws far (list_any (is_below v) (v ∷ ws)) refl

  greatest-more : (v w : VersionParts) (ws : List VersionParts) → greatest_pin index name (v ∷ w ∷ ws) ≡ greatest_pin index name (greater index name v w ∷ ws)
  greatest-more v w ws = elim (cases_Bool (is_below v w)) [
    | inl below ↦ first-goes v w ws below ∙ ap (λ (b : Bool). greatest_pin index name ((if b then w else v) ∷ ws)) (sym below)
    | inr far ↦ second-goes v w ws far ∙ ap (λ (b : Bool). greatest_pin index name ((if b then w else v) ∷ ws)) (sym far)
  ]

  greatest-of : (v : VersionParts) (ws : List VersionParts) → greatest_pin index name (v ∷ ws) ≡ fold (greater_in index name) (Some v) ws
  greatest-of v [] = taken (is_greatest (v ∷ [])) v [] (ap (λ (o : Ordering). not (is_lt o || false)) (tied_itself total v))
  greatest-of v (w ∷ ws) = greatest-more v w ws ∙ greatest-of (greater index name v w) ws

  -- the greatest of all is found by going through them
  pub greatest-by : (own : Option VersionParts) (ws : List VersionParts) → fold (greater_in index name) own ws ≡ greatest_pin index name (option_to_list own ++ ws)
  greatest-by None [] = refl
  greatest-by None (w ∷ ws) = sym (greatest-of w ws)
  greatest-by (Some v) ws = sym (greatest-of v ws)
