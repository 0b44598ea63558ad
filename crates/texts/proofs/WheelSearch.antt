-- A wheel that is searched by halves, since names rise.
use Rattle.std.proofs.Common.{◌≡◌, ◌≢◌, ◌<◌, ◌≤◌, ◌+◌, ◌⊎◌, ℕ, zero, suc, Bool, false, true, ◌||◌, List, [], ◌∷◌, Contains, Ordering, Less, Equal, Greater, length, get_or, map, refl, sym, ap, ◌∙◌, subst, inl, inr, arith}
use Rattle.std.proofs.lemmas.Bool.{and_parts, cases_Bool}
use Rattle.std.proofs.lemmas.List.Sorted.{searchable_from_sorted}
use Rattle.std.proofs.lemmas.Map.Lookups.{exact_bytes}
use Rattle.std.proofs.lemmas.Slice.Eq.{bytes_eq-Decides}
use Rattle.std.specs.Cmp.{tied_itself}
use Rattle.std.specs.Cmp.Lexicographic.{nat_list_cmp_total, slice_cmp}
use Rattle.std.specs.List.{list_any}
use Rattle.std.specs.List.Sorted.{IsNonDecreasingBy, IsPartitionPoint}
use Rattle.std.specs.Ordering.{is_lt, nat_cmp, ordering_index, ordering_reverse}
use Rattle.std.specs.Str.{bytes_eq}
use Rattle.lists.specs.Rising.{rises}
use Rattle.lists.proofs.Members.{Contains-cons_cases, Contains-here, Contains-map_of, Contains-nil, Contains-there}
use Rattle.distributions.specs.declared.file.DistributionFile.{DistributionFile}
use Rattle.pylock.specs.Packages.{EntryParts, is_package}
use Rattle.states.proofs.EntryFacts.{less-of, not-below, rises-above, rises-rest}
use Rattle.texts.specs.OtherFields.{has_other_digest}

-- the wheels of an entry rise by their names
pub wheels-rise : (p : EntryParts) → is_package p ≡ true → rises (map (λ f. f.name) p.wheels) ≡ true
wheels-rise p is = (and_parts _ _ (and_parts _ _ (and_parts _ _ is).0).1).0

-- two numbers stand in one order or the other
number-cases : (n m : ℕ) → (n < m) ⊎ (m ≤ n)
number-cases zero zero = inr (omega arith)
number-cases zero (suc m) = inl (omega arith)
number-cases (suc n) zero = inr (omega arith)
number-cases (suc n) (suc m) = elim (number-cases n m) [
  | inl l ↦ inl (omega arith)
  | inr g ↦ inr (omega arith)
]

-- how a file stands to a name
abbrev pub stands : List ℕ → DistributionFile → Ordering
stands name f = slice_cmp nat_cmp f.name name

-- a file is below the next one
below-next : (files : List DistributionFile) (k n : ℕ) (d : DistributionFile) → rises (map (λ f. f.name) files) ≡ true → n ≡ k + 1 → n < length files
    → is_lt (slice_cmp nat_cmp (get_or files k d).name (get_or files n d).name) ≡ true
unfolding rises
below-next [] k n d rise next more = absurd (omega (arith, more))
below-next (e ∷ []) k n d rise next more = absurd (omega (arith, next, more))
below-next (e ∷ f ∷ rest) k zero d rise next more = absurd (omega (arith, next))
below-next (e ∷ f ∷ rest) zero (suc zero) d rise next more = (and_parts (is_lt (slice_cmp nat_cmp e.name f.name)) _ rise).0
below-next (e ∷ f ∷ rest) zero (suc (suc n)) d rise next more = absurd (omega (arith, next))
below-next (e ∷ f ∷ rest) (suc k) (suc n) d rise next more =
    below-next (f ∷ rest) k n d (and_parts (is_lt (slice_cmp nat_cmp e.name f.name)) _ rise).1 (omega (arith, next)) (omega (arith, more))

-- so names of files are as a search asks
searchable : (files : List DistributionFile) (name : List ℕ) → rises (map (λ f. f.name) files) ≡ true → IsNonDecreasingBy (λ f. ordering_index (stands name f)) files
searchable files name rise = searchable_from_sorted nat_list_cmp_total (λ (f : DistributionFile). f.name) files name
    (λ k d low more. ap is_lt (nat_list_cmp_total.antisymm (get_or files (k + 1) d).name (get_or files k d).name ∙ ap ordering_reverse (less-of (get_or files k d).name (get_or files (k + 1) d).name (below-next files k (k + 1) d rise refl more))))

-- a file of another name has no other digest of the same name
on-another : (file other : DistributionFile) → other.name ≢ file.name → has_other_digest file other ≡ false
on-another file other apart = elim (cases_Bool (bytes_eq file.name other.name)) [
  | inl same ↦ absurd (apart (sym ((bytes_eq-Decides file.name other.name).0 same)))
  | inr differs ↦ rw differs refl
]

-- neither has one of files of other names
none-on : (file : DistributionFile) (files : List DistributionFile) → ((other : DistributionFile) → Contains files other → other.name ≢ file.name) → list_any (has_other_digest file) files ≡ false
none-on file [] apart = refl
none-on file (other ∷ rest) apart =
    (λ i. on-another file other (apart other (Contains-here other rest)) i || none-on file rest (λ more there. apart more (Contains-there other rest more there)) i)

-- files behind the first have other names than it has
behind-differs : (first : DistributionFile) (rest : List DistributionFile) (other : DistributionFile) → rises (map (λ f. f.name) (first ∷ rest)) ≡ true → Contains rest other → other.name ≢ first.name
behind-differs first rest other rise there same =
    let below = rises-above first.name (map (λ f. f.name) rest) other.name rise (Contains-map_of (λ (f : DistributionFile). f.name) rest other there) in
    not-below first.name (subst (λ (n : List ℕ). slice_cmp nat_cmp first.name n ≡ Less) same below)

or-false : (b : Bool) → (b || false) ≡ b
or-false true = refl
or-false false = refl

-- the file of the name decides
pub found-is : (file : DistributionFile) (files : List DistributionFile) (here : DistributionFile) → rises (map (λ f. f.name) files) ≡ true → Contains files here → here.name ≡ file.name
    → has_other_digest file here ≡ list_any (has_other_digest file) files
found-is file [] here rise there named = absurd (Contains-nil here there)
found-is file (first ∷ rest) here rise there named = elim (Contains-cons_cases first rest here there) [
  | inl same ↦
      let own : first.name ≡ file.name = ap (λ (f : DistributionFile). f.name) same ∙ named in
      let none = none-on file rest (λ other more equal. behind-differs first rest other rise more (equal ∙ sym own)) in
      (λ i. has_other_digest file (sym same i)) ∙ sym (or-false (has_other_digest file first)) ∙ (λ i. has_other_digest file first || sym none i)
  | inr more ↦
      let apart : first.name ≢ file.name = λ equal. behind-differs first rest here rise more (named ∙ sym equal) in
      found-is file rest here (rises-rest first.name (map (λ f. f.name) rest) rise) more named
      ∙ (λ i. sym (on-another file first apart) i || list_any (has_other_digest file) rest)
]

-- what stands level with the name has it
pub found-at : (file : DistributionFile) (files : List DistributionFile) (here : DistributionFile) → rises (map (λ f. f.name) files) ≡ true → Contains files here → stands file.name here ≡ Equal
    → has_other_digest file here ≡ list_any (has_other_digest file) files
found-at file files here rise there tie = found-is file files here rise there (exact_bytes here.name file.name tie)

-- no file stands on a name that isn't found
none-stands : (files : List DistributionFile) (name : List ℕ) (place : ℕ) (f : DistributionFile) → IsPartitionPoint (λ x. stands name x ≡ Less) (λ x. stands name x ≡ Greater) files place
    → Contains files f → f.name ≡ name → ⊥
none-stands files name place f parts there named =
    let tie : stands name f ≡ Equal = ap (λ n. slice_cmp nat_cmp n name) named ∙ tied_itself nat_list_cmp_total name in
    elim (number-cases there.0 place) [
      | inl l ↦ let k : stands name f ≡ Less = subst (λ x. stands name x ≡ Less) there.2 (parts.0 there.0 f (omega arith) l) in let c : Equal ≡ Less = sym tie ∙ k in cc
      | inr m ↦ let k : stands name f ≡ Greater = subst (λ x. stands name x ≡ Greater) there.2 (parts.1 there.0 f m there.1) in let c : Equal ≡ Greater = sym tie ∙ k in cc
    ]

pub none-at : (file : DistributionFile) (files : List DistributionFile) (place : ℕ) → rises (map (λ f. f.name) files) ≡ true
    → (IsNonDecreasingBy (λ f. ordering_index (stands file.name f)) files → IsPartitionPoint (λ f. stands file.name f ≡ Less) (λ f. stands file.name f ≡ Greater) files place)
    → false ≡ list_any (has_other_digest file) files
none-at file files place rise point =
    sym (none-on file files (λ other there named. none-stands files file.name place other (point (searchable files file.name rise)) there named))
