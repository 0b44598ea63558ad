-- What is taken, as a list with a place or none for each name.
use Rattle.std.proofs.Common.{ℕ, zero, suc, List, [], ◌∷◌, ◌++◌, ◌≡◌, ◌≢◌, ◌<◌, ◌≤◌, ◌+◌, ◌⊎◌, inl, inr, Contains, length, take, get_or, map, refl, sym, ◌∙◌, ap, subst, arith, add-one, Some, None, Option, cond}
use Rattle.std.proofs.Math.ListN.{replicate}
use Rattle.std.proofs.lemmas.List.Elements.{Contains-push_cases}
use Rattle.std.specs.Ordering.{nat_cmp, is_eq}
use Rattle.search.proofs.Counts.{nat_less}
use Rattle.search.proofs.Least.{nat-order}
use Rattle.lists.proofs.Members.{Contains-map, map-append, Contains-nil, Contains-here, Contains-there, nat_cases}
use Rattle.search.proofs.PlacesEquality.{off-of}
use Rattle.search.proofs.Nodes.{take-more}
use Rattle.search.proofs.Stack.{pins_of-push}
use Rattle.search.proofs.PinnedMaps.{pin-member, is_eq-same, option_cases, version_pinned-append_some, version_pinned-append_none, version_pinned-last}
use Rattle.search.specs.declared.parts.TableChoice.{TableChoice}
use Rattle.search.specs.declared.parts.Frame.{Frame}
use Rattle.search.specs.Tied.Search.{pin_at, pins_of, taken_at}
use Rattle.search.specs.Solutions.{Pin, version_pinned}
use Rattle.search.specs.Tied.Taken.{TakesFirst}
use Rattle.search.specs.Table.{pin_of, place_in, IsAscending}

pub none-taken : (room n : ℕ) → taken_at (replicate room None) n ≡ None
none-taken zero n = refl
none-taken (suc room) zero = refl
none-taken (suc room) (suc n) = none-taken room n

-- a pin on another name adds nothing
pub version_pinned-other : {V : Type 0} (ps : List (Pin ℕ V)) (p : Pin ℕ V) (n : ℕ) → n ≢ p.name → version_pinned nat_cmp (ps ++ p ∷ []) n ≡ version_pinned nat_cmp ps n
version_pinned-other ps p n d = elim (option_cases (version_pinned nat_cmp ps n)) [
  | inl none ↦
      version_pinned-append_none nat_cmp ps (p ∷ []) n none
      ∙ ap (λ b. cond b (Some p.version) None) (off-of (is_eq (nat_cmp p.name n)) (λ e. d (sym (is_eq-same nat_cmp nat-order p.name n e))))
      ∙ sym none
  | inr some ↦ version_pinned-append_some nat_cmp ps (p ∷ []) n some.0 some.1 ∙ sym some.1
]

pub first-step : (old new : List (Option ℕ)) (f : Frame) (ps : List (Pin ℕ ℕ)) → TakesFirst old new f → ((n : ℕ) → taken_at old n ≡ version_pinned nat_cmp ps n) → (n : ℕ) → taken_at new n ≡ version_pinned nat_cmp (ps ++ pin_at f ∷ []) n
first-step old new f ps h same n = elim (option_cases (version_pinned nat_cmp ps n)) [
  | inl none ↦ elim (nat_cases n f.name) [
    | inl e ↦
        let free : version_pinned nat_cmp ps f.name ≡ None = sym (ap (version_pinned nat_cmp ps) e) ∙ none in
        ap (taken_at new) e ∙ h.own (same f.name ∙ free) ∙ sym (version_pinned-last nat_cmp nat-order ps (pin_at f) free) ∙ ap (version_pinned nat_cmp (ps ++ pin_at f ∷ [])) (sym e)
    | inr d ↦ h.others n d ∙ same n ∙ sym (version_pinned-other ps (pin_at f) n d)
  ]
  | inr some ↦ h.kept n some.0 (same n ∙ some.1) ∙ sym (version_pinned-append_some nat_cmp ps (pin_at f ∷ []) n some.0 some.1)
]

pub first-more : (old new : List (Option ℕ)) (fs : List Frame) (i : ℕ) (f : Frame) → i < length fs → f ≡ get_or fs i f → TakesFirst old new f → ((n : ℕ) → taken_at old n ≡ version_pinned nat_cmp (pins_of (take i fs)) n) → (n : ℕ) → taken_at new n ≡ version_pinned nat_cmp (pins_of (take (i + 1) fs)) n
first-more old new fs i f l is h same n = rw add-one (first-step old new f (pins_of (take i fs)) h same n
    ∙ ap (λ ps. version_pinned nat_cmp ps n) (sym (ap pins_of (take-more fs i f l is) ∙ pins_of-push (take i fs) f)))

-- ---- the choices in the order of their names

-- the choices are what is taken of the names below the bound
pub record IsListed (chosen : ℕ → Option ℕ) (bound : ℕ) (cs : List TableChoice) : Type 0 where
  pub below : (c : TableChoice) → Contains cs c → c.name < bound
  pub same : (n : ℕ) → n < bound → place_in cs n ≡ chosen n
  pub ascending : IsAscending cs

place_in-member : (cs : List TableChoice) (n v : ℕ) → place_in cs n ≡ Some v → (c : TableChoice) × Contains cs c × (c.name ≡ n)
place_in-member cs n v e =
    let p : (p : Pin ℕ ℕ) × Contains (map pin_of cs) p × (p.name ≡ n) = pin-member nat_cmp nat-order (map pin_of cs) n v e in
    let c : (c : TableChoice) × Contains cs c × (pin_of c ≡ p.0) = Contains-map pin_of cs p.0 p.1 in
    (c.0, c.1, ap (λ (x : Pin ℕ ℕ). x.name) c.2 ∙ p.2)

beyond : (chosen : ℕ → Option ℕ) (bound : ℕ) (cs : List TableChoice) (n : ℕ) → IsListed chosen bound cs → bound ≤ n → place_in cs n ≡ None
beyond chosen bound cs n h l = elim (option_cases (place_in cs n)) [
  | inl none ↦ none
  | inr some ↦
      let k : (c : TableChoice) × Contains cs c × (c.name ≡ n) = place_in-member cs n some.0 some.1 in
      let b : k.0.name < bound = h.below k.0 k.1 in
      let e = k.2 in
      absurd (omega arith)
]

pub listed-start : (chosen : ℕ → Option ℕ) → IsListed chosen 0 []
listed-start chosen = record {
  below = λ c i. absurd (Contains-nil c i);
  same = λ n l. absurd (omega arith);
  ascending = tt;
}

pub listed-none : (chosen : ℕ → Option ℕ) (bound : ℕ) (cs : List TableChoice) → IsListed chosen bound cs → chosen bound ≡ None → IsListed chosen (bound + 1) cs
listed-none chosen bound cs h e = record {
  below = λ c i. let k = h.below c i in omega arith;
  same = λ n l. elim (nat_less bound n (omega arith)) [
    | inl low ↦ h.same n low
    | inr at ↦ beyond chosen bound cs n h (omega arith) ∙ sym e ∙ ap chosen at
  ];
  ascending = h.ascending;
}

ascending-push : (cs : List TableChoice) (c : TableChoice) → IsAscending cs → ((d : TableChoice) → Contains cs d → d.name < c.name) → IsAscending (cs ++ c ∷ [])
ascending-push [] c h k = (λ d i. absurd (Contains-nil d i), tt)
ascending-push (b ∷ cs) c h k = (
  λ d i. elim (Contains-push_cases cs c d i) [ inl a ↦ h.0 d a | inr e ↦ subst (λ (x : TableChoice). b.name < x.name) e (k b (Contains-here b cs)) ],
  ascending-push cs c h.1 (λ d i. k d (Contains-there b cs d i)),
)

pub listed-push : (chosen : ℕ → Option ℕ) (bound place : ℕ) (cs : List TableChoice) → IsListed chosen bound cs → chosen bound ≡ Some place → IsListed chosen (bound + 1) (cs ++ record { name = bound; place = place } ∷ [])
listed-push chosen bound place cs h e =
    let c : TableChoice = record { name = bound; place = place } in
    record {
      below = λ d i. elim (Contains-push_cases cs c d i) [
        | inl a ↦ let k = h.below d a in omega arith
        | inr f ↦ subst (λ (x : TableChoice). x.name < bound + 1) f (omega arith)
      ];
      same = λ n l. elim (nat_less bound n (omega arith)) [
        | inl low ↦ ap (λ ps. version_pinned nat_cmp ps n) (map-append pin_of cs (c ∷ [])) ∙ version_pinned-other (map pin_of cs) (pin_of c) n (λ f. omega arith) ∙ h.same n low
        | inr at ↦ subst (λ m. place_in (cs ++ c ∷ []) m ≡ chosen m) at
            (ap (λ ps. version_pinned nat_cmp ps bound) (map-append pin_of cs (c ∷ [])) ∙ version_pinned-last nat_cmp nat-order (map pin_of cs) (pin_of c) (beyond chosen bound cs bound h (omega arith)) ∙ sym e)
      ];
      ascending = ascending-push cs c h.ascending (λ d i. h.below d i);
    }

none-beyond : (taken : List (Option ℕ)) (n : ℕ) → length taken ≤ n → taken_at taken n ≡ None
none-beyond [] n l = refl
none-beyond (o ∷ taken) zero l = absurd (omega arith)
none-beyond (o ∷ taken) (suc n) l = none-beyond taken n (omega arith)

pub split-nat : (n bound : ℕ) → (n < bound) ⊎ (bound ≤ n)
split-nat n zero = inr (omega arith)
split-nat zero (suc bound) = inl (omega arith)
split-nat (suc n) (suc bound) = elim (split-nat n bound) [ inl a ↦ inl (omega arith) | inr b ↦ inr (omega arith) ]

pub listed-all : (chosen : ℕ → Option ℕ) (bound : ℕ) (cs : List TableChoice) → IsListed chosen bound cs → ((n : ℕ) → bound ≤ n → chosen n ≡ None) → (n : ℕ) → place_in cs n ≡ chosen n
listed-all chosen bound cs h none n = elim (split-nat n bound) [
  | inl a ↦ h.same n a
  | inr b ↦ beyond chosen bound cs n h b ∙ sym (none n b)
]

pub listed-end : (taken : List (Option ℕ)) (bound : ℕ) (cs : List TableChoice) → IsListed (taken_at taken) bound cs → length taken ≤ bound → (n : ℕ) → place_in cs n ≡ taken_at taken n
listed-end taken bound cs h l = listed-all (taken_at taken) bound cs h (λ n b. none-beyond taken n (omega arith))

-- the choices of any map, as far as the bound
pub listed : (chosen : ℕ → Option ℕ) (bound : ℕ) → (cs : List TableChoice) × IsListed chosen bound cs
listed chosen zero = ([], listed-start chosen)
listed chosen (suc bound) =
    let front : (cs : List TableChoice) × IsListed chosen bound cs = listed chosen bound in
    elim (option_cases (chosen bound)) [
      | inl none ↦ (front.0, rw (sym (add-one bound)) (listed-none chosen bound front.0 front.1 none))
      | inr some ↦ (front.0 ++ record { name = bound; place = some.0 } ∷ [], rw (sym (add-one bound)) (listed-push chosen bound some.0 front.0 front.1 some.1))
    ]

-- the list of what is taken is the map of the frames
pub taken-same : (seen items : List (Option ℕ)) (frames fs : List Frame) → seen ≡ items → frames ≡ fs → ((n : ℕ) → taken_at items n ≡ version_pinned nat_cmp (pins_of frames) n) → taken_at seen ≡ version_pinned nat_cmp (pins_of fs)
taken-same seen items frames fs e f h = ap taken_at e ∙ (λ i n. h n i) ∙ ap (λ xs. version_pinned nat_cmp (pins_of xs)) f
