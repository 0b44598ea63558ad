-- Versions that are handed in, looked up by name, and put together one by one.
use Rattle.std.proofs.Common.{◌≡◌, ◌∙◌, inl, inr, ℕ, Bool, true, false, List, [], ◌∷◌, ◌++◌, Option, Some, None, Contains, filter, fold, map, option_map, refl, sym, true≢false, ap, subst, if◌then◌else◌}
use Rattle.std.proofs.lemmas.Bool.{cases_Bool}
use Rattle.std.proofs.lemmas.List.{map-append}
use Rattle.std.proofs.lemmas.List.Elements.{filter-append}
use Rattle.std.proofs.lemmas.List.Sums.{fold-append}
use Rattle.std.proofs.lemmas.Map.Keys.{sorted_head, sorted_tail}
use Rattle.std.proofs.lemmas.Map.Lookups.{exact_bytes}
use Rattle.std.proofs.lemmas.Map.Text.{is_eq-slice_cmp}
use Rattle.std.proofs.lemmas.Slice.Eq.{bytes_eq-Decides}
use Rattle.std.specs.BTreeMap.{insert_entry}
use Rattle.std.specs.BTreeSet.{insert_key}
use Rattle.std.specs.Cmp.Lexicographic.{nat_list_cmp_total, nat_list_eq_equiv, slice_cmp}
use Rattle.std.specs.List.{AllByRecursion, cons_option, filter_map}
use Rattle.std.specs.List.Sorted.{IsStrictlySortedBy}
use Rattle.std.specs.Map.{keys_of}
use Rattle.std.specs.Option.{option_map_or, option_to_list}
use Rattle.std.specs.Ordering.{is_eq, is_lt, match_ordering, nat_cmp}
use Rattle.std.specs.Str.{bytes_eq}
use Rattle.std.specs.declared.cmp.Ordering.{Ordering}
use Rattle.std.specs.declared.cmp.Ordering.TheVariants.{Less, Equal, Greater}
use Rattle.lists.proofs.Members.{Contains-here, Contains-there}
use Rattle.lists.proofs.SortedInserts.{Rises, above-trans, rising, sorted-insert}
use Rattle.lists.specs.Rising.{rises}
use Rattle.pep440.specs.Version.{VersionParts}
use Rattle.snapshot.specs.Packages.{Index}
use Rattle.problems.specs.Solutions.{version_for}
use Rattle.states.proofs.EntryFacts.{rises-above, rises-rest}
use Rattle.states.specs.Names.{with_names}
use Rattle.edits.specs.Tied.KeptVersions.{takes, with_pin, with_pins}
use Rattle.edits.specs.Pins.{greatest_pin, newer_of, pin_cmp, versions_on}
use Rattle.edits.proofs.GreatestPins.{greater_in, greatest-by}

abbrev pub Pins : Type 0
Pins = List (List ℕ × VersionParts)

-- the names of pins are in order
abbrev pub InOrder : Pins → Type 0
InOrder pins = IsStrictlySortedBy (slice_cmp nat_cmp) (keys_of pins)

all-of : {P : List ℕ → Type 0} (names : List (List ℕ)) → ((n : List ℕ) → Contains names n → P n) → AllByRecursion P names
all-of [] each = tt
all-of (n ∷ names) each = (each n (Contains-here n names), all-of names (λ m there. each m (Contains-there n names m there)))

pub in-order : (names : List (List ℕ)) → rises names ≡ true → IsStrictlySortedBy (slice_cmp nat_cmp) names
unfolding IsStrictlySortedBy
in-order [] rise = tt
in-order (n ∷ names) rise = (all-of names (λ m there. rises-above n names m rise there), in-order names (rises-rest n names rise))

-- ---- one version more

apart : (n m name : List ℕ) → slice_cmp nat_cmp n m ≡ Greater → bytes_eq name m ≡ true → bytes_eq name n ≡ false
apart n m name above here =
    let same : name ≡ m = (bytes_eq-Decides name m).0 here in
    let far : bytes_eq n m ≡ false = sym (is_eq-slice_cmp n m) ∙ ap is_eq above in
    ap (λ (other : List ℕ). bytes_eq other n) same ∙ nat_list_eq_equiv.symm m n ∙ far

at-place : (o : Ordering) (e : List ℕ × VersionParts) (es : Pins) (n : List ℕ) (v : VersionParts) (name : List ℕ) → slice_cmp nat_cmp n e.0 ≡ o
    → version_for (insert_entry (slice_cmp nat_cmp) es n v) name ≡ (if bytes_eq name n then Some v else version_for es name)
    → version_for (match_ordering o ((n, v) ∷ e ∷ es) ((e.0, v) ∷ es) (e ∷ insert_entry (slice_cmp nat_cmp) es n v)) name ≡ (if bytes_eq name n then Some v else version_for (e ∷ es) name)
at-place Less e es n v name is rest = refl
at-place Equal e es n v name is rest =
    let same : bytes_eq name n ≡ bytes_eq name e.0 = ap (bytes_eq name) (exact_bytes n e.0 is) in
    elim (cases_Bool (bytes_eq name e.0)) [
      | inl here ↦ rw (same, here) refl
      | inr other ↦ rw (same, other) refl
    ]
at-place Greater e es n v name is rest = elim (cases_Bool (bytes_eq name e.0)) [
  | inl here ↦ rw (here, apart n e.0 name is here) refl
  | inr other ↦ rw other rest
]

at-inserted : (es : Pins) (n : List ℕ) (v : VersionParts) (name : List ℕ) → version_for (insert_entry (slice_cmp nat_cmp) es n v) name ≡ (if bytes_eq name n then Some v else version_for es name)
at-inserted [] n v name = refl
at-inserted (e ∷ es) n v name = at-place (slice_cmp nat_cmp n e.0) e es n v name refl (at-inserted es n v name)

module _ (index : Index) where
  -- what a test of a pin leads to
  abbrev tested : Pins → List ℕ × VersionParts → Bool → Pins
  tested own pin holds = if holds then insert_entry (slice_cmp nat_cmp) own pin.0 pin.1 else own

  at-own : (own : Pins) (pin : List ℕ × VersionParts) (name : List ℕ) → bytes_eq name pin.0 ≡ true → (found : Option VersionParts) → version_for own name ≡ found
      → version_for (with_pin index own pin) name ≡ greater_in index name found pin.1
  at-own own pin name here None is =
      let at : version_for own pin.0 ≡ None = ap (version_for own) (sym ((bytes_eq-Decides name pin.0).0 here)) ∙ is in
      let new : takes index own pin ≡ true = ap (λ (found : Option VersionParts). option_map_or (λ (v : VersionParts). is_lt (pin_cmp index pin.0 v pin.1)) found true) at in
      ap (λ (b : Bool). version_for (tested own pin b) name) new ∙ at-inserted own pin.0 pin.1 name ∙ ap (λ (b : Bool). if b then Some pin.1 else version_for own name) here
  at-own own pin name here (Some v) is =
      let same : name ≡ pin.0 = (bytes_eq-Decides name pin.0).0 here in
      let at : version_for own pin.0 ≡ Some v = ap (version_for own) (sym same) ∙ is in
      let asked : takes index own pin ≡ is_lt (pin_cmp index name v pin.1) =
      ap (λ (found : Option VersionParts). option_map_or (λ (o : VersionParts). is_lt (pin_cmp index pin.0 o pin.1)) found true) at
      ∙ ap (λ (n : List ℕ). is_lt (pin_cmp index n v pin.1)) (sym same) in
      elim (cases_Bool (is_lt (pin_cmp index name v pin.1))) [
        | inl below ↦
            ap (λ (b : Bool). version_for (tested own pin b) name) (asked ∙ below) ∙ at-inserted own pin.0 pin.1 name
            ∙ ap (λ (b : Bool). if b then Some pin.1 else version_for own name) here ∙ ap (λ (b : Bool). Some (if b then pin.1 else v)) (sym below)
        | inr far ↦ ap (λ (b : Bool). version_for (tested own pin b) name) (asked ∙ far) ∙ is ∙ ap (λ (b : Bool). Some (if b then pin.1 else v)) (sym far)
      ]

  at-other : (own : Pins) (pin : List ℕ × VersionParts) (name : List ℕ) → bytes_eq name pin.0 ≡ false → (b : Bool) → version_for (tested own pin b) name ≡ version_for own name
  at-other own pin name other true = at-inserted own pin.0 pin.1 name ∙ ap (λ (b : Bool). if b then Some pin.1 else version_for own name) other
  at-other own pin name other false = refl

  at-pin : (own : Pins) (pin : List ℕ × VersionParts) (name : List ℕ)
      → version_for (with_pin index own pin) name ≡ (if bytes_eq name pin.0 then greater_in index name (version_for own name) pin.1 else version_for own name)
  at-pin own pin name = elim (cases_Bool (bytes_eq name pin.0)) [
    | inl here ↦
        at-own own pin name here (version_for own name) refl
        ∙ ap (λ (b : Bool). if b then greater_in index name (version_for own name) pin.1 else version_for own name) (sym here)
    | inr other ↦
        at-other own pin name other (takes index own pin)
        ∙ ap (λ (b : Bool). if b then greater_in index name (version_for own name) pin.1 else version_for own name) (sym other)
  ]

  -- ---- all others

  counted : (b : Bool) (name : List ℕ) (found : Option VersionParts) (pin : List ℕ × VersionParts) (rest : Pins)
      → fold (greater_in index name) (if b then greater_in index name found pin.1 else found) (map (λ p. p.1) rest) ≡ fold (greater_in index name) found (map (λ p. p.1) (if b then pin ∷ rest else rest))
  counted true name found pin rest = refl
  counted false name found pin rest = refl

  at-all : (own others : Pins) (name : List ℕ) → version_for (with_pins index own others) name ≡ fold (greater_in index name) (version_for own name) (versions_on name others)
  at-all own [] name = refl
  at-all own (p ∷ ps) name =
      at-all (with_pin index own p) ps name
      ∙ ap (λ (found : Option VersionParts). fold (greater_in index name) found (versions_on name ps)) (at-pin own p name)
      ∙ counted (bytes_eq name p.0) name (version_for own name) p (filter (λ q. bytes_eq name q.0) ps)

-- no version stands under a name that is below all
none-on : (name n : List ℕ) (pins : Pins) → bytes_eq name n ≡ true → AllByRecursion (λ m. slice_cmp nat_cmp n m ≡ Less) (keys_of pins) → versions_on name pins ≡ []
none-on name n [] here below = refl
none-on name n (p ∷ ps) here below =
    let far : bytes_eq n p.0 ≡ false = sym (is_eq-slice_cmp n p.0) ∙ ap is_eq below.0 in
    let other : bytes_eq name p.0 ≡ false = nat_list_eq_equiv.congr name n p.0 here ∙ far in
    rw other (none-on name n ps here below.1)

-- in order, there is one version of a name at most
one-on : (name : List ℕ) (pins : Pins) → InOrder pins → versions_on name pins ≡ option_to_list (version_for pins name)
one-on name [] order = refl
one-on name (p ∷ ps) order = elim (cases_Bool (bytes_eq name p.0)) [
  | inl here ↦ rw here (ap (λ (l : List VersionParts). p.1 ∷ l) (none-on name p.0 ps here (sorted_head (slice_cmp nat_cmp) p.0 (keys_of ps) order)))
  | inr other ↦ rw other (one-on name ps (sorted_tail (slice_cmp nat_cmp) p.0 (keys_of ps) order))
]

both-on : (name : List ℕ) (own others : Pins) → versions_on name (own ++ others) ≡ versions_on name own ++ versions_on name others
both-on name own others =
    ap (map (λ (p : List ℕ × VersionParts). p.1)) (filter-append (λ (p : List ℕ × VersionParts). bytes_eq name p.0) own others)
    ∙ map-append (λ (p : List ℕ × VersionParts). p.1) (filter (λ p. bytes_eq name p.0) own) (filter (λ p. bytes_eq name p.0) others)

at-kept : (index : Index) (own others : Pins) (name : List ℕ) → InOrder own → version_for (with_pins index own others) name ≡ greatest_pin index name (versions_on name (own ++ others))
at-kept index own others name order =
    at-all index own others name ∙ greatest-by index name (version_for own name) (versions_on name others)
    ∙ ap (λ (l : List VersionParts). greatest_pin index name (l ++ versions_on name others)) (sym (one-on name own order))
    ∙ ap (greatest_pin index name) (sym (both-on name own others))

-- ---- the names

keys-place : (o : Ordering) (e : List ℕ × VersionParts) (es more : Pins) (n : List ℕ) (v : VersionParts) (names : List (List ℕ)) → keys_of more ≡ names
    → keys_of (match_ordering o ((n, v) ∷ e ∷ es) ((e.0, v) ∷ es) (e ∷ more)) ≡ match_ordering o (n ∷ e.0 ∷ keys_of es) (e.0 ∷ keys_of es) (e.0 ∷ names)
keys-place Less e es more n v names rest = refl
keys-place Equal e es more n v names rest = refl
keys-place Greater e es more n v names rest = ap (λ (l : List (List ℕ)). e.0 ∷ l) rest

keys-inserted : (es : Pins) (n : List ℕ) (v : VersionParts) → keys_of (insert_entry (slice_cmp nat_cmp) es n v) ≡ insert_key (slice_cmp nat_cmp) (keys_of es) n
keys-inserted [] n v = refl
keys-inserted (e ∷ es) n v = keys-place (slice_cmp nat_cmp n e.0) e es (insert_entry (slice_cmp nat_cmp) es n v) n v (insert_key (slice_cmp nat_cmp) (keys_of es) n) (keys-inserted es n v)

absent : (n : List ℕ) (es : Pins) → AllByRecursion (λ m. slice_cmp nat_cmp n m ≡ Less) (keys_of es) → version_for es n ≡ None
absent n [] below = refl
absent n (e ∷ es) below =
    let far : bytes_eq n e.0 ≡ false = sym (is_eq-slice_cmp n e.0) ∙ ap is_eq below.0 in
    rw far (absent n es below.1)

-- a name that is there is put in its own place
put-present : (o : Ordering) (e : List ℕ × VersionParts) (es : Pins) (n : List ℕ) (v : VersionParts) → slice_cmp nat_cmp n e.0 ≡ o → InOrder (e ∷ es) → version_for (e ∷ es) n ≡ Some v
    → (version_for es n ≡ Some v → insert_key (slice_cmp nat_cmp) (keys_of es) n ≡ keys_of es)
    → match_ordering o (n ∷ e.0 ∷ keys_of es) (e.0 ∷ keys_of es) (e.0 ∷ insert_key (slice_cmp nat_cmp) (keys_of es) n) ≡ e.0 ∷ keys_of es
put-present Less e es n v is order there rest =
    let far : bytes_eq n e.0 ≡ false = sym (is_eq-slice_cmp n e.0) ∙ ap is_eq is in
    let above = sorted_head (slice_cmp nat_cmp) e.0 (keys_of es) order in
    let none : version_for es n ≡ None = absent n es (above-trans nat_list_cmp_total n e.0 (keys_of es) is above) in
    absurd (let never : None ≡ Some v = sym none ∙ ap (λ (b : Bool). if b then Some e.1 else version_for es n) (sym far) ∙ there in cc)
put-present Equal e es n v is order there rest = refl
put-present Greater e es n v is order there rest =
    let far : bytes_eq n e.0 ≡ false = sym (is_eq-slice_cmp n e.0) ∙ ap is_eq is in
    ap (λ (l : List (List ℕ)). e.0 ∷ l) (rest (ap (λ (b : Bool). if b then Some e.1 else version_for es n) (sym far) ∙ there))

present : (es : Pins) (n : List ℕ) (v : VersionParts) → InOrder es → version_for es n ≡ Some v → insert_key (slice_cmp nat_cmp) (keys_of es) n ≡ keys_of es
present [] n v order there = absurd cc
present (e ∷ es) n v order there = put-present (slice_cmp nat_cmp n e.0) e es n v refl order there (present es n v (sorted_tail (slice_cmp nat_cmp) e.0 (keys_of es) order))

module _ (index : Index) where
  keys-tested : (own : Pins) (pin : List ℕ × VersionParts) (found : Option VersionParts) (b : Bool) → InOrder own → version_for own pin.0 ≡ found
      → option_map_or (λ v. is_lt (pin_cmp index pin.0 v pin.1)) found true ≡ b
      → keys_of (if b then insert_entry (slice_cmp nat_cmp) own pin.0 pin.1 else own) ≡ insert_key (slice_cmp nat_cmp) (keys_of own) pin.0
  keys-tested own pin found true order there is = keys-inserted own pin.0 pin.1
  keys-tested own pin None false order there is = absurd (true≢false is)
  keys-tested own pin (Some v) false order there is = sym (present own pin.0 v order there)

  keys-pin : (own : Pins) (pin : List ℕ × VersionParts) → InOrder own → keys_of (with_pin index own pin) ≡ insert_key (slice_cmp nat_cmp) (keys_of own) pin.0
  keys-pin own pin order = keys-tested own pin (version_for own pin.0) (takes index own pin) order refl refl

  keys-all : (own others : Pins) → InOrder own → InOrder (with_pins index own others) × (keys_of (with_pins index own others) ≡ with_names (keys_of own) (keys_of others))
  keys-all own [] order = (order, refl)
  keys-all own (p ∷ ps) order =
      let keys = keys-pin own p order in
      let more : InOrder (with_pin index own p) = subst (λ (l : List (List ℕ)). IsStrictlySortedBy (slice_cmp nat_cmp) l) (sym keys) (sorted-insert nat_list_cmp_total (keys_of own) p.0 order) in
      let rest = keys-all (with_pin index own p) ps more in
      (rest.0, rest.1 ∙ ap (λ (l : List (List ℕ)). with_names l (keys_of ps)) keys)

rises-of : (names : List (List ℕ)) → IsStrictlySortedBy (slice_cmp nat_cmp) names → Rises (slice_cmp nat_cmp) names
unfolding IsStrictlySortedBy
rises-of [] order = tt
rises-of (n ∷ []) order = tt
rises-of (n ∷ m ∷ names) order = (order.0.0, rises-of (m ∷ names) order.1)

names-both : (own others : Pins) → InOrder own → with_names [] (map (λ p. p.0) (own ++ others)) ≡ with_names (keys_of own) (keys_of others)
names-both own others order =
    ap (with_names []) (map-append (λ (p : List ℕ × VersionParts). p.0) own others)
    ∙ fold-append (insert_key (slice_cmp nat_cmp)) [] (keys_of own) (keys_of others)
    ∙ ap (λ (l : List (List ℕ)). with_names l (keys_of others)) (rising nat_list_cmp_total (keys_of own) (rises-of (keys_of own) order))

-- ---- lists in order are told by their names and what is found under them

same-items : {X Y : Type 0} (f g : X → Option Y) (xs : List X) → AllByRecursion (λ x. f x ≡ g x) xs → filter_map f xs ≡ filter_map g xs
same-items f g [] all = refl
same-items f g (x ∷ xs) all = λ i. cons_option (all.0 i) (same-items f g xs all.1 i)

all-then : {P Q : List ℕ → Type 0} → ((n : List ℕ) → P n → Q n) → (names : List (List ℕ)) → AllByRecursion P names → AllByRecursion Q names
all-then each [] all = tt
all-then each (n ∷ names) all = (each n all.0, all-then each names all.1)

abbrev under : Pins → List ℕ → Option (List ℕ × VersionParts)
under es name = option_map (λ version. (name, version)) (version_for es name)

told : (es : Pins) → InOrder es → filter_map (under es) (keys_of es) ≡ es
told [] order = refl
told (e ∷ es) order =
    let here : under (e ∷ es) e.0 ≡ Some e = ap (λ (b : Bool). option_map (λ (v : VersionParts). (e.0, v)) (if b then Some e.1 else version_for es e.0)) (nat_list_eq_equiv.refl e.0) in
    let far : (n : List ℕ) → slice_cmp nat_cmp e.0 n ≡ Less → under (e ∷ es) n ≡ under es n =
    λ n above.
    let other : bytes_eq n e.0 ≡ false = nat_list_eq_equiv.symm n e.0 ∙ sym (is_eq-slice_cmp e.0 n) ∙ ap is_eq above in
    ap (λ (b : Bool). option_map (λ (v : VersionParts). (n, v)) (if b then Some e.1 else version_for es n)) other in
    let rest = same-items (under (e ∷ es)) (under es) (keys_of es) (all-then far (keys_of es) (sorted_head (slice_cmp nat_cmp) e.0 (keys_of es) order))
    ∙ told es (sorted_tail (slice_cmp nat_cmp) e.0 (keys_of es) order) in
    λ i. cons_option (here i) (rest i)

-- versions that are put in one by one are the newer of both
pub newer-made : (index : Index) (own others : Pins) → InOrder own → with_pins index own others ≡ newer_of index own others
newer-made index own others order =
    let keys = keys-all index own others order in
    sym (told (with_pins index own others) keys.0)
    ∙ ap (λ (found : List ℕ → Option VersionParts). filter_map (λ (name : List ℕ). option_map (λ (version : VersionParts). (name, version)) (found name)) (keys_of (with_pins index own others)))
    (λ i name. at-kept index own others name order i)
    ∙ ap (filter_map (λ (name : List ℕ). option_map (λ (version : VersionParts). (name, version)) (greatest_pin index name (versions_on name (own ++ others)))))
    (keys.1 ∙ sym (names-both own others order))

-- the greater of two versions that may be there, and of equal ones the first
abbrev pub greatest_of : Index → List ℕ → Option VersionParts → Option VersionParts → Option VersionParts
greatest_of index name own other = fold (greater_in index name) own (option_to_list other)

pub at-newer : (index : Index) (own others : Pins) (name : List ℕ) → InOrder own → InOrder others
    → version_for (newer_of index own others) name ≡ greatest_of index name (version_for own name) (version_for others name)
at-newer index own others name order order-too =
    ap (λ (pins : Pins). version_for pins name) (sym (newer-made index own others order)) ∙ at-all index own others name
    ∙ ap (fold (greater_in index name) (version_for own name)) (one-on name others order-too)
