-- The steps of a first walk, over any rules.
use Rattle.std.proofs.Common.{◌≡◌, ◌≢◌, ◌⊎◌, inl, inr, ◌∙◌, ◌+◌, ◌*◌, ◌≤◌, ℕ, suc, true, false, cond, List, [], ◌∷◌, ◌++◌, Option, Some, None, Contains, Ordering, length, length-append, add-mul, suc-mul, arith, refl, sym, ap, subst, append_assoc, append-nil}
use Rattle.std.specs.List.{flat_map}
use Rattle.std.proofs.lemmas.List.Concat.{flat_map-append}
use Rattle.std.specs.Cmp.{Equal-is}
use Rattle.std.specs.Ordering.{is_eq}
use Rattle.std.specs.declared.cmp.Ordering.TheVariants.{Greater}
use Rattle.std.proofs.lemmas.Bool.{cases_Bool}
use Rattle.std.proofs.lemmas.Cmp.{tied_itself}
use Rattle.std.proofs.lemmas.List.Elements.{Contains-append_cases, Contains-append_left, Contains-append_right, Contains-push_cases}
use Rattle.lists.proofs.Members.{Contains-cons_cases, Contains-flat_map, Contains-flat_map_of, Contains-here, Contains-nil, Contains-there}
use Rattle.search.specs.FirstWalk.{IsRequired, IsFirst, IsFirstWalk, IsRefused, IsComplete}
use Rattle.search.specs.Rules.{IsLawful, Rules}
use Rattle.search.specs.Solutions.{IsMet, IsNeededName, IsNext, Needed, Pin, by_dependency, by_line, version_pinned}
use Rattle.resolve.specs.Tied.Walking.{AreFollowed, IsHeld, IsWalked}

-- ---- what is asked for

needed-more : {N X V R : Type 0} (rules : Rules N X V R) (p q : N → Option V) → ((n : N) (v : V) → p n ≡ Some v → q n ≡ Some v) → (node : X) → Needed rules p node → Needed rules q node
needed-more rules p q h _ (by_line r node l i) = by_line r node l i
needed-more rules p q h _ (by_dependency link v r node k e w i) = by_dependency link v r node (needed-more rules p q h link k) (h (rules.on link) v e) w i

named-more : {N X V R : Type 0} (rules : Rules N X V R) (p q : N → Option V) → ((n : N) (v : V) → p n ≡ Some v → q n ≡ Some v) → (n : N) → IsNeededName rules p n → IsNeededName rules q n
named-more rules p q h n k = (k.0, needed-more rules p q h k.0 k.1, k.2)

asked-more : {N X V R : Type 0} (rules : Rules N X V R) (p q : N → Option V) → ((n : N) (v : V) → p n ≡ Some v → q n ≡ Some v) → (r : R) → IsRequired rules p r → IsRequired rules q r
asked-more rules p q h r (inl line) = inl line
asked-more rules p q h r (inr d) = inr (d.0, d.1, needed-more rules p q h d.0 d.2, h (rules.on d.0) d.1 d.3, d.4)

-- the nodes of what is asked for are needed
asked-needed : {N X V R : Type 0} (rules : Rules N X V R) (chosen : N → Option V) (r : R) (node : X) → IsRequired rules chosen r → Contains (rules.nodes r) node → Needed rules chosen node
asked-needed rules chosen r node (inl line) i = by_line r node line i
asked-needed rules chosen r node (inr d) i = by_dependency d.0 d.1 r node d.2 d.3 d.4 i

-- ---- maps and pins

some-inj : {A : Type 0} (a b : A) → Some a ≡ Some b → a ≡ b
some-inj a b e = cc

tied-same : {N X V R : Type 0} (rules : Rules N X V R) → IsLawful rules → (n m : N) → is_eq (rules.compare n m) ≡ true → n ≡ m
tied-same rules law n m h = law.order.exact n m ((Equal-is (rules.compare n m)).0 h)

pinned-push : {N V : Type 0} (compare : N → N → Ordering) (pins : List (Pin N V)) (p : Pin N V) (m : N) → version_pinned compare pins p.name ≡ None → ((n k : N) → is_eq (compare n k) ≡ true → n ≡ k)
    → version_pinned compare (pins ++ p ∷ []) m ≡ cond (is_eq (compare p.name m)) (Some p.version) (version_pinned compare pins m)
pinned-push compare [] p m none exact = refl
pinned-push compare (q ∷ pins) p m none exact = elim (cases_Bool (is_eq (compare q.name m))) [
  | inl here ↦ elim (cases_Bool (is_eq (compare p.name m))) [
    | inl both ↦ absurd (let e : p.name ≡ q.name = exact p.name m both ∙ sym (exact q.name m here) in
        let k : is_eq (compare q.name p.name) ≡ true = ap (λ n. is_eq (compare q.name n)) (exact p.name m both) ∙ here in
        let f : Some q.version ≡ None = rw k at none in cc)
    | inr other ↦ rw (here, other) refl
  ]
  | inr there ↦
      let front : version_pinned compare pins p.name ≡ None = elim (cases_Bool (is_eq (compare q.name p.name))) [
        | inl one ↦ absurd (let f : Some q.version ≡ None = rw one at none in cc)
        | inr apart ↦ rw apart at none
      ] in
      rw there (pinned-push compare pins p m front exact)
]

behind-one : {N V : Type 0} (xs : List (Pin N V)) (p : Pin N V) (ys : List (Pin N V)) → (xs ++ p ∷ []) ++ ys ≡ xs ++ p ∷ ys
behind-one xs p ys = append_assoc xs (p ∷ []) ys

walk-push : {N X V R : Type 0} (rules : Rules N X V R) (before pins : List (Pin N V)) (p : Pin N V) → IsFirstWalk rules before pins → IsNext rules (before ++ pins) p.name
    → IsFirst rules (IsRefused rules (version_pinned rules.compare (before ++ pins)) p.name) p.name p.version → IsFirstWalk rules before (pins ++ p ∷ [])
walk-push rules before [] p h next first = (subst (λ xs. IsNext rules xs p.name × IsFirst rules (IsRefused rules (version_pinned rules.compare xs) p.name) p.name p.version) (append-nil before) (next, first), tt)
walk-push rules before (q ∷ pins) p h next first = (
  h.0,
  walk-push rules (before ++ q ∷ []) pins p h.1
      (subst (λ xs. IsNext rules xs p.name) (sym (behind-one before q pins)) next)
      (subst (λ xs. IsFirst rules (IsRefused rules (version_pinned rules.compare xs) p.name) p.name p.version) (sym (behind-one before q pins)) first),
)

-- ---- what is held

-- the order of what is left doesn't matter
held-left : {N X V R : Type 0} (rules : Rules N X V R) (chosen : N → Option V) (waiting : N → Option (List R)) (followed : List X) (old new : List R) → ((x : R) → Contains old x → IsHeld rules chosen waiting followed new x) → (x : R) → IsHeld rules chosen waiting followed old x → IsHeld rules chosen waiting followed new x
held-left rules chosen waiting followed old new h x (inl met) = inl met
held-left rules chosen waiting followed old new h x (inr (inl waits)) = inr (inl waits)
held-left rules chosen waiting followed old new h x (inr (inr left)) = h x left

-- what is left may change where all of it is held and what comes is asked for
walked-left : {N X V R : Type 0} (rules : Rules N X V R) (chosen : N → Option V) (waiting : N → Option (List R)) (followed : List X) (old new : List R) → IsWalked rules chosen waiting followed old
    → ((x : R) → Contains old x → IsHeld rules chosen waiting followed new x) → ((x : R) → Contains new x → IsRequired rules chosen x) → IsWalked rules chosen waiting followed new
walked-left rules chosen waiting followed old new w h asked = record {
  pins = w.pins;
  same = w.same;
  walk = w.walk;
  lines = λ x i. held-left rules chosen waiting followed old new h x (w.lines x i);
  linked = λ node i. let k = w.linked node i in (k.0, k.1, λ x j. held-left rules chosen waiting followed old new h x (k.2 x j));
  named = w.named;
  needed = w.needed;
  asked = asked;
  waits = w.waits;
  free = w.free;
  some = w.some;
}

-- each needed node is one of something that is held
held-whole : {N X V R : Type 0} (rules : Rules N X V R) (law : IsLawful rules) (chosen : N → Option V) (waiting : N → Option (List R)) (followed : List X) → IsWalked rules chosen waiting followed []
    → (node : X) → Needed rules chosen node → (r : R) × Contains (rules.nodes r) node × IsHeld rules chosen waiting followed [] r
held-whole rules law chosen waiting followed w _ (by_line r node l i) = (r, i, w.lines r l)
held-whole {N} {X} {V} {R} rules law chosen waiting followed w _ (by_dependency link v r node k e want i) =
    let below : (q : R) × Contains (rules.nodes q) link × IsHeld rules chosen waiting followed [] q = held-whole rules law chosen waiting followed w link k in
    let on : rules.on link ≡ rules.name below.0 = law.own below.0 link below.1 in
    elim below.2 [
      | inl met ↦
          let f : (u : V) × (chosen (rules.on link) ≡ Some u) × ((x : R) → Contains (rules.wants link u) x → IsHeld rules chosen waiting followed [] x) = w.linked link (met.3 link below.1) in
          let u : f.0 ≡ v = some-inj f.0 v (sym f.1 ∙ e) in
          (r, i, f.2 r (subst (λ x. Contains (rules.wants link x) r) (sym u) want))
      | inr (inl waits) ↦ absurd (let none : chosen (rules.name below.0) ≡ None = w.free (rules.name below.0) waits.0 waits.1 in let other : chosen (rules.name below.0) ≡ Some v = sym (ap chosen on) ∙ e in cc)
      | inr (inr left) ↦ absurd (Contains-nil below.0 left)
    ]

-- ---- nodes that are followed

followed-kept : {X R : Type 0} (wants : X → List R) (nodes old new : List X) (more : List R) → AreFollowed wants nodes old new more → (node : X) → Contains old node → Contains new node
followed-kept wants nodes old new more f node i = subst (λ xs. Contains xs node) (sym f.whole) (Contains-append_left old f.added node i)

-- what is new is one of the nodes, and what is wanted there comes
followed-new_only : {X R : Type 0} (wants : X → List R) (nodes old new : List X) (more : List R) → AreFollowed wants nodes old new more → (node : X) → Contains new node → Contains old node ⊎ (Contains nodes node × ((r : R) → Contains (wants node) r → Contains more r))
followed-new_only wants nodes old new more f node i = elim (Contains-append_cases old f.added node (subst (λ xs. Contains xs node) f.whole i)) [
  | inl before ↦ inl before
  | inr now ↦ inr ((f.fresh node now).0, λ r j. subst (λ rs. Contains rs r) (sym f.wanted) (Contains-flat_map_of wants f.added node r now j))
]

-- nothing else comes
followed-more_only : {X R : Type 0} (wants : X → List R) (nodes old new : List X) (more : List R) → AreFollowed wants nodes old new more → (r : R) → Contains more r → (node : X) × Contains nodes node × Contains (wants node) r
followed-more_only {X} {R} wants nodes old new more f r i =
    let k : (node : X) × Contains f.added node × Contains (wants node) r = Contains-flat_map wants f.added r (subst (λ rs. Contains rs r) f.wanted i) in
    (k.0, (f.fresh k.0 k.1).0, k.2)

-- ---- the steps

pub walked-start : {N X V R : Type 0} (rules : Rules N X V R) (chosen : N → Option V) (waiting : N → Option (List R)) → ((n : N) → chosen n ≡ None) → ((n : N) → waiting n ≡ None) → IsWalked rules chosen waiting [] rules.lines
walked-start rules chosen waiting none nothing = record {
  pins = [];
  same = none;
  walk = tt;
  lines = λ r i. inr (inr i);
  linked = λ node i. absurd (Contains-nil node i);
  named = λ n v e. absurd (let k : chosen n ≡ None = none n in cc);
  needed = λ node i. absurd (Contains-nil node i);
  asked = λ r i. inl i;
  waits = λ n rs r e i. absurd (let k = nothing n in cc);
  free = λ n rs e. none n;
  some = λ n rs e. absurd (let k = nothing n in cc);
}

-- one of what is left waits with its name
pub walked-wait : {N X V R : Type 0} (rules : Rules N X V R) (law : IsLawful rules) (chosen : N → Option V) (waiting waiting_new : N → Option (List R)) (followed : List X) (r : R) (left old : List R) → IsWalked rules chosen waiting followed (r ∷ left)
    → chosen (rules.name r) ≡ None → (waiting (rules.name r) ≡ Some old) ⊎ (old ≡ [])
    → ((n : N) → waiting_new n ≡ cond (is_eq (rules.compare (rules.name r) n)) (Some (old ++ r ∷ [])) (waiting n))
    → ((rs : List R) → waiting (rules.name r) ≡ Some rs → rs ≡ old)
    → IsWalked rules chosen waiting_new followed left
walked-wait {N} {X} {V} {R} rules law chosen waiting waiting_new followed r left old w none known updates row =
    let own : waiting_new (rules.name r) ≡ Some (old ++ r ∷ []) = updates (rules.name r) ∙ ap (λ b. cond b (Some (old ++ r ∷ [])) (waiting (rules.name r))) (ap is_eq (tied_itself law.order.total (rules.name r))) in
    let held : (x : R) → IsHeld rules chosen waiting followed (r ∷ left) x → IsHeld rules chosen waiting_new followed left x = λ x h. elim h [
      | inl met ↦ inl met
      | inr (inl waits) ↦ elim (cases_Bool (is_eq (rules.compare (rules.name r) (rules.name x)))) [
        | inl one ↦
            let e : rules.name r ≡ rules.name x = tied-same rules law (rules.name r) (rules.name x) one in
            let is : waits.0 ≡ old = row waits.0 (ap waiting e ∙ waits.1) in
            inr (inl (old ++ r ∷ [], sym (ap waiting_new e) ∙ own, Contains-append_left old (r ∷ []) x (subst (λ rs. Contains rs x) is waits.2)))
        | inr other ↦ inr (inl (waits.0, updates (rules.name x) ∙ ap (λ b. cond b (Some (old ++ r ∷ [])) (waiting (rules.name x))) other ∙ waits.1, waits.2))
      ]
      | inr (inr there) ↦ elim (Contains-cons_cases r left x there) [
        | inl e ↦ inr (inl (old ++ r ∷ [], sym (ap (λ y. waiting_new (rules.name y)) e) ∙ own, subst (λ y. Contains (old ++ r ∷ []) y) e (Contains-append_right old (r ∷ []) r (Contains-here r []))))
        | inr later ↦ inr (inr later)
      ]
    ] in
    let asked : IsRequired rules chosen r = w.asked r (Contains-here r left) in
    let apart : (n : N) (rs : List R) → waiting_new n ≡ Some rs → ((rules.name r ≡ n) × (rs ≡ old ++ r ∷ [])) ⊎ (waiting n ≡ Some rs) = λ n rs e. elim (cases_Bool (is_eq (rules.compare (rules.name r) n))) [
      | inl one ↦ let same : rules.name r ≡ n = tied-same rules law (rules.name r) n one in inl (same, some-inj rs (old ++ r ∷ []) (sym e ∙ sym (ap waiting_new same) ∙ own))
      | inr other ↦ inr (sym (ap (λ b. cond b (Some (old ++ r ∷ [])) (waiting n)) other) ∙ sym (updates n) ∙ e)
    ] in
    record {
      pins = w.pins;
      same = w.same;
      walk = w.walk;
      lines = λ x i. held x (w.lines x i);
      linked = λ node i. let k = w.linked node i in (k.0, k.1, λ x j. held x (k.2 x j));
      named = w.named;
      needed = w.needed;
      asked = λ x i. w.asked x (Contains-there r left x i);
      waits = λ n rs x e i. elim (apart n rs e) [
        | inl mine ↦ elim (Contains-push_cases old r x (subst (λ ys. Contains ys x) mine.1 i)) [
          | inl before ↦ elim known [
            | inl some ↦ let k = w.waits (rules.name r) old x some before in (k.0 ∙ mine.0, k.1)
            | inr empty ↦ absurd (Contains-nil x (subst (λ ys. Contains ys x) empty before))
          ]
          | inr this ↦ (subst (λ y. rules.name y ≡ n) (same-way r x this) mine.0, subst (λ y. IsRequired rules chosen y) (same-way r x this) asked)
        ]
        | inr others ↦ w.waits n rs x others i
      ];
      free = λ n rs e. elim (apart n rs e) [
        | inl mine ↦ sym (ap chosen mine.0) ∙ none
        | inr others ↦ w.free n rs others
      ];
      some = λ n rs e. elim (apart n rs e) [
        | inl mine ↦ (r, subst (λ ys. Contains ys r) (sym mine.1) (Contains-append_right old (r ∷ []) r (Contains-here r [])))
        | inr others ↦ w.some n rs others
      ];
    }
  where
    same-way : {A : Type 0} (a b : A) → a ≡ b → a ≡ b
    same-way a b e = e

-- one of what is left is met, and its nodes are followed
pub walked-meet : {N X V R : Type 0} (rules : Rules N X V R) (law : IsLawful rules) (chosen : N → Option V) (waiting : N → Option (List R)) (followed new : List X) (r : R) (v : V) (left more : List R) → IsWalked rules chosen waiting followed (r ∷ left)
    → chosen (rules.name r) ≡ Some v → rules.admits r v ≡ true → AreFollowed (λ node. rules.wants node v) (rules.nodes r) followed new more
    → IsWalked rules chosen waiting new (left ++ more)
walked-meet {N} {X} {V} {R} rules law chosen waiting followed new r v left more w e admits f =
    let held : (x : R) → IsHeld rules chosen waiting followed (r ∷ left) x → IsHeld rules chosen waiting new (left ++ more) x = λ x h. elim h [
      | inl met ↦ inl (met.0, met.1, met.2, λ node i. followed-kept (λ x. rules.wants x v) (rules.nodes r) followed new more f node (met.3 node i))
      | inr (inl waits) ↦ inr (inl waits)
      | inr (inr there) ↦ elim (Contains-cons_cases r left x there) [
        | inl same ↦ subst (λ y. IsHeld rules chosen waiting new (left ++ more) y) same (inl (v, e, admits, f.there))
        | inr later ↦ inr (inr (Contains-append_left left more x later))
      ]
    ] in
    record {
      pins = w.pins;
      same = w.same;
      walk = w.walk;
      lines = λ x i. held x (w.lines x i);
      linked = λ node i. elim (followed-new_only (λ x. rules.wants x v) (rules.nodes r) followed new more f node i) [
        | inl before ↦ let k = w.linked node before in (k.0, k.1, λ x j. held x (k.2 x j))
        | inr now ↦ (v, ap chosen (law.own r node now.0) ∙ e, λ x j. inr (inr (Contains-append_right left more x (now.1 x j))))
      ];
      named = w.named;
      needed = λ node i. elim (followed-new_only (λ x. rules.wants x v) (rules.nodes r) followed new more f node i) [
        | inl before ↦ w.needed node before
        | inr now ↦ asked-needed rules chosen r node (w.asked r (Contains-here r left)) now.0
      ];
      asked = λ x i. elim (Contains-append_cases left more x i) [
        | inl before ↦ w.asked x (Contains-there r left x before)
        | inr now ↦
            let k : (node : X) × Contains (rules.nodes r) node × Contains (rules.wants node v) x = followed-more_only (λ y. rules.wants y v) (rules.nodes r) followed new more f x now in
            inr (k.0, v, asked-needed rules chosen r k.0 (w.asked r (Contains-here r left)) k.1, ap chosen (law.own r k.0 k.1) ∙ e, k.2)
      ];
      waits = w.waits;
      free = w.free;
      some = w.some;
    }

-- the next name takes the first candidate that nothing which waits with it refuses
pub walked-take : {N X V R : Type 0} (rules : Rules N X V R) (law : IsLawful rules) (chosen chosen_new : N → Option V) (waiting waiting_new : N → Option (List R)) (followed : List X) (n : N) (v : V) (rs : List R) → IsWalked rules chosen waiting followed []
    → waiting n ≡ Some rs → ((m : N) (ss : List R) → waiting m ≡ Some ss → rules.compare n m ≢ Greater)
    → IsFirst rules (λ w. (r : R) × Contains rs r × (rules.admits r w ≡ false)) n v
    → ((m : N) → chosen_new m ≡ cond (is_eq (rules.compare n m)) (Some v) (chosen m))
    → ((m : N) → waiting_new m ≡ cond (is_eq (rules.compare n m)) None (waiting m))
    → IsWalked rules chosen_new waiting_new followed rs
walked-take {N} {X} {V} {R} rules law chosen chosen_new waiting waiting_new followed n v rs w row least first updates leaves =
    let none : chosen n ≡ None = w.free n rs row in
    let pin : Pin N V = record { name = n; version = v } in
    let along : chosen ≡ version_pinned rules.compare w.pins = λ i m. w.same m i in
    let grows : (m : N) (u : V) → chosen m ≡ Some u → chosen_new m ≡ Some u = λ m u e. elim (cases_Bool (is_eq (rules.compare n m))) [
      | inl one ↦ absurd (let k : chosen m ≡ None = sym (ap chosen (tied-same rules law n m one)) ∙ none in cc)
      | inr other ↦ updates m ∙ ap (λ b. cond b (Some v) (chosen m)) other ∙ e
    ] in
    let member : (r : R) × Contains rs r = w.some n rs row in
    let own : (rules.name member.0 ≡ n) × IsRequired rules chosen member.0 = w.waits n rs member.0 row member.1 in
    let node : (x : X) × Contains (rules.nodes member.0) x = law.some member.0 in
    let needed : IsNeededName rules chosen n = (node.0, asked-needed rules chosen member.0 node.0 own.1 node.1, law.own member.0 node.0 node.1 ∙ own.0) in
    let below : (m : N) → IsNeededName rules chosen m → chosen m ≡ None → rules.compare n m ≢ Greater = λ m k free.
    let h : (r : R) × Contains (rules.nodes r) k.0 × IsHeld rules chosen waiting followed [] r = held-whole rules law chosen waiting followed w k.0 k.1 in
    let named : rules.name h.0 ≡ m = sym (law.own h.0 k.0 h.1) ∙ k.2 in
    elim h.2 [
      | inl met ↦ absurd (let e : chosen m ≡ Some met.0 = sym (ap chosen named) ∙ met.1 in cc)
      | inr (inl waits) ↦ least m waits.0 (sym (ap waiting named) ∙ waits.1)
      | inr (inr left) ↦ absurd (Contains-nil h.0 left)
    ] in
    let next : IsNext rules w.pins n = record {
      needed = subst (λ c. IsNeededName rules c n) along needed;
      free = sym (w.same n) ∙ none;
      least = λ m k free. below m (subst (λ c. IsNeededName rules c m) (sym along) k) (w.same m ∙ free);
    } in
    let refused : IsFirst rules (IsRefused rules (version_pinned rules.compare w.pins) n) n v = record {
      front = first.front;
      back = first.back;
      listed = first.listed;
      once = first.once;
      before = λ u i.
          let k : (r : R) × Contains rs r × (rules.admits r u ≡ false) = first.before u i in
          let a : (rules.name k.0 ≡ n) × IsRequired rules chosen k.0 = w.waits n rs k.0 row k.1 in
          (k.0, subst (λ c. IsRequired rules c k.0) along a.1, a.0, k.2);
    } in
    let held : (x : R) → IsHeld rules chosen waiting followed [] x → IsHeld rules chosen_new waiting_new followed rs x = λ x h. elim h [
      | inl met ↦ inl (met.0, grows (rules.name x) met.0 met.1, met.2, met.3)
      | inr (inl waits) ↦ elim (cases_Bool (is_eq (rules.compare n (rules.name x)))) [
        | inl one ↦
            let e : n ≡ rules.name x = tied-same rules law n (rules.name x) one in
            let is : waits.0 ≡ rs = some-inj waits.0 rs (sym waits.1 ∙ sym (ap waiting e) ∙ row) in
            inr (inr (subst (λ ys. Contains ys x) is waits.2))
        | inr other ↦ inr (inl (waits.0, leaves (rules.name x) ∙ ap (λ b. cond b None (waiting (rules.name x))) other ∙ waits.1, waits.2))
      ]
      | inr (inr left) ↦ absurd (Contains-nil x left)
    ] in
    let others : (m : N) (ss : List R) → waiting_new m ≡ Some ss → (is_eq (rules.compare n m) ≡ false) × (waiting m ≡ Some ss) = λ m ss e. elim (cases_Bool (is_eq (rules.compare n m))) [
      | inl one ↦ absurd (let k : waiting_new m ≡ None = leaves m ∙ ap (λ b. cond b None (waiting m)) one in cc)
      | inr other ↦ (other, sym (ap (λ b. cond b None (waiting m)) other) ∙ sym (leaves m) ∙ e)
    ] in
    record {
      pins = w.pins ++ pin ∷ [];
      same = λ m. updates m ∙ ap (λ o. cond (is_eq (rules.compare n m)) (Some v) o) (w.same m) ∙ sym (pinned-push rules.compare w.pins pin m (sym (w.same n) ∙ none) (tied-same rules law));
      walk = walk-push rules [] w.pins pin w.walk next refused;
      lines = λ x i. held x (w.lines x i);
      linked = λ x i. let k = w.linked x i in (k.0, grows (rules.on x) k.0 k.1, λ r j. held r (k.2 r j));
      named = λ m u e. elim (cases_Bool (is_eq (rules.compare n m))) [
        | inl one ↦ subst (λ k. IsNeededName rules chosen_new k) (tied-same rules law n m one) (named-more rules chosen chosen_new grows n needed)
        | inr other ↦ named-more rules chosen chosen_new grows m (w.named m u (sym (ap (λ b. cond b (Some v) (chosen m)) other) ∙ sym (updates m) ∙ e))
      ];
      needed = λ x i. needed-more rules chosen chosen_new grows x (w.needed x i);
      asked = λ r i. asked-more rules chosen chosen_new grows r (w.waits n rs r row i).1;
      waits = λ m ss r e i. let k = w.waits m ss r (others m ss e).1 i in (k.0, asked-more rules chosen chosen_new grows r k.1);
      free = λ m ss e. let o = others m ss e in updates m ∙ ap (λ b. cond b (Some v) (chosen m)) o.0 ∙ w.free m ss o.1;
      some = λ m ss e. w.some m ss (others m ss e).1;
    }

-- where nothing waits and nothing is left, all that is asked for is met
pub walked-complete : {N X V R : Type 0} (rules : Rules N X V R) (law : IsLawful rules) (chosen : N → Option V) (waiting : N → Option (List R)) (followed : List X) → IsWalked rules chosen waiting followed [] → ((n : N) → waiting n ≡ None) → IsComplete rules chosen
walked-complete {N} {X} {V} {R} rules law chosen waiting followed w nothing =
    let met : (r : R) → IsHeld rules chosen waiting followed [] r → IsMet rules chosen r = λ r h. elim h [
      | inl met ↦ (met.0, met.1, met.2)
      | inr (inl waits) ↦ absurd (let k = nothing (rules.name r) in cc)
      | inr (inr left) ↦ absurd (Contains-nil r left)
    ] in
    record {
      lines_met = λ r i. met r (w.lines r i);
      dependencies_met = λ node v r k e want.
          let h : (q : R) × Contains (rules.nodes q) node × IsHeld rules chosen waiting followed [] q = held-whole rules law chosen waiting followed w node k in
          elim h.2 [
            | inl all ↦
                let f : (u : V) × (chosen (rules.on node) ≡ Some u) × ((x : R) → Contains (rules.wants node u) x → IsHeld rules chosen waiting followed [] x) = w.linked node (all.3 node h.1) in
                let u : f.0 ≡ v = some-inj f.0 v (sym f.1 ∙ e) in
                met r (f.2 r (subst (λ x. Contains (rules.wants node x) r) (sym u) want))
            | inr (inl waits) ↦ absurd (let k = nothing (rules.name h.0) in cc)
            | inr (inr left) ↦ absurd (Contains-nil h.0 left)
          ];
    }

-- ---- nodes that are followed, one list after the other

pub followed-none : {X R : Type 0} (wants : X → List R) (followed : List X) → AreFollowed wants [] followed followed []
followed-none wants followed = record {
  added = [];
  whole = sym (append-nil followed);
  wanted = refl;
  fresh = λ node i. absurd (Contains-nil node i);
  there = λ node i. absurd (Contains-nil node i);
}

pub followed-then : {X R : Type 0} (wants : X → List R) (first second old mid new : List X) (more more_too : List R) → AreFollowed wants first old mid more → AreFollowed wants second mid new more_too
    → AreFollowed wants (first ++ second) old new (more ++ more_too)
followed-then {X} {R} wants first second old mid new more more_too f g = record {
  added = f.added ++ g.added;
  whole = g.whole ∙ ap (λ nodes. nodes ++ g.added) f.whole ∙ append_assoc old f.added g.added;
  wanted = ap (λ rs. rs ++ more_too) f.wanted ∙ ap (λ rs. flat_map wants f.added ++ rs) g.wanted ∙ sym (flat_map-append wants f.added g.added);
  fresh = λ node i. elim (Contains-append_cases f.added g.added node i) [
    | inl a ↦ let k = f.fresh node a in (Contains-append_left first second node k.0, k.1)
    | inr b ↦ let k = g.fresh node b in (Contains-append_right first second node k.0, λ before. k.1 (followed-kept wants first old mid more f node before))
  ];
  there = λ node i. elim (Contains-append_cases first second node i) [
    | inl a ↦ followed-kept wants second mid new more_too g node (f.there node a)
    | inr b ↦ g.there node b
  ];
}

-- a node that is there
pub followed-known : {X R : Type 0} (wants : X → List R) (node : X) (followed : List X) → Contains followed node → AreFollowed wants (node ∷ []) followed followed []
followed-known {X} {R} wants node followed known = record {
  added = [];
  whole = sym (append-nil followed);
  wanted = refl;
  fresh = λ x i. absurd (Contains-nil x i);
  there = λ x i. elim (Contains-cons_cases node [] x i) [ inl e ↦ subst (λ y. Contains followed y) e known | inr none ↦ absurd (Contains-nil x none) ];
}

-- a node that is put behind the others
pub followed-new : {X R : Type 0} (wants : X → List R) (node : X) (followed : List X) → (Contains followed node → ⊥) → AreFollowed wants (node ∷ []) followed (followed ++ node ∷ []) (wants node)
followed-new {X} {R} wants node followed apart = record {
  added = node ∷ [];
  whole = refl;
  wanted = sym (append-nil (wants node));
  fresh = λ x i. elim (Contains-cons_cases node [] x i) [ inl e ↦ (i, subst (λ y. Contains followed y → ⊥) e apart) | inr none ↦ absurd (Contains-nil x none) ];
  there = λ x i. Contains-append_right followed (node ∷ []) x i;
}

-- ---- how much comes with them

few-more : (one all most here behind : ℕ) → here ≤ most → behind ≤ one * most → all ≡ here + behind → all ≤ suc one * most
few-more one all most here behind h k e = let m : suc one * most ≡ one * most + most = suc-mul one most in omega arith

wanted-few : {X R : Type 0} (wants : X → List R) (most : ℕ) → ((node : X) → length (wants node) ≤ most) → (added : List X) → length (flat_map wants added) ≤ length added * most
wanted-few wants most few [] = omega arith
wanted-few wants most few (node ∷ added) =
    few-more (length added) (length (flat_map wants (node ∷ added))) most (length (wants node)) (length (flat_map wants added)) (few node) (wanted-few wants most few added) (length-append (wants node) (flat_map wants added))

few-together : (more wanted added old new : ℕ) → wanted ≤ added → more ≡ wanted → new ≡ old + added → more + old ≤ new
few-together more wanted added old new few e n = omega arith

-- no more than the new nodes can want
pub followed-few : {X R : Type 0} (wants : X → List R) (nodes old new : List X) (more : List R) (most : ℕ) → ((node : X) → length (wants node) ≤ most) → AreFollowed wants nodes old new more → length more + length old * most ≤ length new * most
followed-few wants nodes old new more most few f =
    few-together (length more) (length (flat_map wants f.added)) (length f.added * most) (length old * most) (length new * most) (wanted-few wants most few f.added) (ap length f.wanted)
    (ap (λ k. k * most) (ap length f.whole ∙ length-append old f.added) ∙ add-mul (length old) (length f.added) most)
