-- Requirements that are as wide as all that lines can ask for.
use Rattle.std.proofs.Common.{◌≡◌, ◌<◌, ◌≤◌, ◌+◌, ◌∙◌, ◌&&◌, ◌⊎◌, inl, inr, ℕ, Bool, true, if◌then◌else◌, List, [], ◌∷◌, ◌++◌, Contains, Option, Some, None, Result, Ok, Err, get_or, length, take, arith, refl, ap, subst, sym}
use Rattle.std.proofs.lemmas.Bool.{cases_Bool}
use Rattle.std.proofs.lemmas.List.{take_all, take_more}
use Rattle.std.proofs.lemmas.List.Elements.{Contains-append_cases, Contains-append_left, Contains-append_right}
use Rattle.std.specs.Cmp.{first_so}
use Rattle.std.specs.List.{AllByRecursion, flat_map}
use Rattle.lists.proofs.Members.{Contains-cons_cases, Contains-flat_map, Contains-flat_map_of, Contains-here, Contains-nil}
use Rattle.markers.specs.declared.fault.Cause.{Cause}
use Rattle.pep440.specs.Matching.{clause_matches, matches}
use Rattle.pep440.specs.Version.{VersionParts}
use Rattle.pep440.specs.declared.specifier.Clause.{Clause}
use Rattle.pep508.specs.Requirement.{RequirementParts, requirement_of}
use Rattle.search.proofs.Nodes.{take-front}
use Rattle.snapshot.specs.Packages.{Index, releases_of}
use Rattle.snapshot.specs.Release.{Release}
use Rattle.exports.specs.Alike.{CanAsk, by_dependency, by_line}
use Rattle.exports.specs.Tied.Reach.{AreAsked, AreAskedTo, Gathers, IsCovered, IsFollowed, needs_below, needs_of, wanted_by, wanted_in}
use Rattle.exports.proofs.SaidConditions.{both-second}

-- ---- wider requirements

clause-met : (clauses : List Clause) (clause : Clause) → Contains clauses clause → (version : VersionParts) → matches clauses version ≡ true → clause_matches clause version ≡ true
clause-met [] clause there version m = absurd (Contains-nil clause there)
clause-met (c ∷ cs) clause there version m = elim (Contains-cons_cases c cs clause there) [
  | inl same ↦ subst (λ (x : Clause). clause_matches x version ≡ true) same (first_so (clause_matches c version) (matches cs version) m)
  | inr more ↦ clause-met cs clause more version (both-second (clause_matches c version) (matches cs version) m)
]

pub clauses-said : (clauses wide : List Clause) → AllByRecursion (IsFollowed clauses) wide → (version : VersionParts) → matches clauses version ≡ true → matches wide version ≡ true
clauses-said clauses [] h version m = refl
clauses-said clauses (clause ∷ wide) h version m =
    let here : clause_matches clause version ≡ true = h.0.2 version (clause-met clauses h.0.0 h.0.1 version m) in
    ap (λ (b : _). b && matches wide version) here ∙ clauses-said clauses wide h.1 version m

pub same-wider : (asked : List RequirementParts) (x : RequirementParts) → Contains asked x → IsCovered asked x
same-wider asked x there = (x, there, record { named = refl; matched = λ version m. m })

pub covered-among : (some more : List RequirementParts) (x : RequirementParts) → IsCovered some x → IsCovered (some ++ more) x
covered-among some more x k = (k.0, Contains-append_left some more k.0 k.1, k.2)

-- ---- what is gathered

covered-on : (old new more : List RequirementParts) (x : RequirementParts) → new ≡ old ++ more → IsCovered old x → IsCovered new x
covered-on old new more x e k = subst (λ (asked : List RequirementParts). IsCovered asked x) (sym e) (covered-among old more x k)

nothing-more : (xs : List RequirementParts) → xs ≡ xs ++ []
nothing-more [] = refl
nothing-more (x ∷ xs) = ap (λ (ys : List RequirementParts). x ∷ ys) (nothing-more xs)

one-alone : (x y : RequirementParts) → Contains (x ∷ []) y → x ≡ y
one-alone x y there = elim (Contains-cons_cases x [] y there) [
  | inl same ↦ same
  | inr more ↦ absurd (Contains-nil y more)
]

pub gathers-none : (old wanted : List RequirementParts) → ((x : RequirementParts) → Contains wanted x → IsCovered old x) → Gathers old old wanted
gathers-none old wanted f = record { more = []; added = nothing-more old; only = λ x there. absurd (Contains-nil x there); covered = f }

pub gathers-nothing : (old : List RequirementParts) → Gathers old old []
gathers-nothing old = gathers-none old [] (λ x there. absurd (Contains-nil x there))

pub gathers-covered : (old : List RequirementParts) (x : RequirementParts) → IsCovered old x → Gathers old old (x ∷ [])
gathers-covered old x k = gathers-none old (x ∷ []) (λ y there. subst (IsCovered old) (one-alone x y there) k)

pub gathers-pushed : (old new : List RequirementParts) (x : RequirementParts) → new ≡ old ++ x ∷ [] → Gathers old new (x ∷ [])
gathers-pushed old new x e = record {
  more = x ∷ [];
  added = e;
  only = λ y there. there;
  covered = λ y there. same-wider new y (subst (λ (asked : List RequirementParts). Contains asked y) (sym e) (Contains-append_right old (x ∷ []) y there));
}

append-twice : (xs ys zs : List RequirementParts) → (xs ++ ys) ++ zs ≡ xs ++ (ys ++ zs)
append-twice [] ys zs = refl
append-twice (x ∷ xs) ys zs = ap (λ (rest : List RequirementParts). x ∷ rest) (append-twice xs ys zs)

-- one gathering after the other, of all that both are of
pub gathers-both : (old between new some wanted all : List RequirementParts) → Gathers old between some → Gathers between new wanted
    → ((x : RequirementParts) → Contains some x → Contains all x) → ((x : RequirementParts) → Contains wanted x → Contains all x)
    → ((x : RequirementParts) → Contains all x → Contains some x ⊎ Contains wanted x) → Gathers old new all
gathers-both old between new some wanted all k l f g cases = record {
  more = k.more ++ l.more;
  added = l.added ∙ ap (λ (asked : List RequirementParts). asked ++ l.more) k.added ∙ append-twice old k.more l.more;
  only = λ x there. elim (Contains-append_cases k.more l.more x there) [
    | inl first ↦ f x (k.only x first)
    | inr second ↦ g x (l.only x second)
  ];
  covered = λ x there. elim (cases x there) [
    | inl first ↦ covered-on between new l.more x l.added (k.covered x first)
    | inr second ↦ l.covered x second
  ];
}

-- of one more item, where each has some
pub gathers-next : {A : Type 0} (needs : A → List RequirementParts) (items : List A) (i : ℕ) (item : A) (old between new : List RequirementParts) → i < length items → item ≡ get_or items i item
    → Gathers old between (flat_map needs (take i items)) → Gathers between new (needs item) → Gathers old new (flat_map needs (take (i + 1) items))
gathers-next needs items i item old between new within is k l =
    let more : take (i + 1) items ≡ take i items ++ item ∷ [] = take_more items i item within ∙ ap (λ (x : _). take i items ++ x ∷ []) (sym is) in
    subst (λ (taken : List _). Gathers old new (flat_map needs taken)) (sym more)
    (gathers-both old between new (flat_map needs (take i items)) (needs item) (flat_map needs (take i items ++ item ∷ [])) k l
    (λ x there. (let j = Contains-flat_map needs (take i items) x there in Contains-flat_map_of needs (take i items ++ item ∷ []) j.0 x (Contains-append_left (take i items) (item ∷ []) j.0 j.1) j.2))
    (λ x there. Contains-flat_map_of needs (take i items ++ item ∷ []) item x (Contains-append_right (take i items) (item ∷ []) item (Contains-here item [])) there)
    (λ x there. (let j = Contains-flat_map needs (take i items ++ item ∷ []) x there in elim (Contains-append_cases (take i items) (item ∷ []) j.0 j.1) [
      | inl first ↦ inl (Contains-flat_map_of needs (take i items) j.0 x first j.2)
      | inr last ↦ elim (Contains-cons_cases item [] j.0 last) [
        | inl same ↦ inr (subst (λ (y : _). Contains (needs y) x) (sym same) j.2)
        | inr none ↦ absurd (Contains-nil j.0 none)
      ]
    ])))

pub gathers-all : {A : Type 0} (needs : A → List RequirementParts) (items : List A) (i : ℕ) (old new : List RequirementParts) → length items ≤ i → Gathers old new (flat_map needs (take i items)) → Gathers old new (flat_map needs items)
gathers-all needs items i old new past k = subst (λ (taken : List _). Gathers old new (flat_map needs taken)) (take_all i items past) k

-- each for itself
pub each-itself : (xs : List RequirementParts) → flat_map (λ x. x ∷ []) xs ≡ xs
each-itself [] = refl
each-itself (x ∷ xs) = ap (λ (ys : List RequirementParts). x ∷ ys) (each-itself xs)

-- ---- what lines can ask for

asked-in : (lines : List (List ℕ)) (index : Index) (line : List ℕ) → Contains lines line → (read : Result (Option RequirementParts) Cause) → requirement_of line ≡ read → (x : RequirementParts) → Contains (wanted_in read) x → CanAsk lines index x
asked-in lines index line there (Ok (Some wanted)) e x among = subst (CanAsk lines index) (one-alone wanted x among) (by_line line wanted there e)
asked-in lines index line there (Ok None) e x among = absurd (Contains-nil x among)
asked-in lines index line there (Err cause) e x among = absurd (Contains-nil x among)

-- what lines ask for is gathered first
pub asked-first : (lines : List (List ℕ)) (index : Index) (asked : List RequirementParts) → Gathers [] asked (flat_map wanted_by lines) → AreAskedTo lines index asked []
asked-first lines index asked k = record {
  counted = λ x there. (let j = Contains-flat_map wanted_by lines x (k.only x (subst (λ (xs : List RequirementParts). Contains xs x) k.added there)) in
      asked-in lines index j.0 j.1 (requirement_of j.0) refl x j.2);
  lines_covered = k.covered;
  below_covered = λ above there. absurd (Contains-nil above there);
}

needed-of : (above : RequirementParts) (release : Release) (x : RequirementParts) → Contains (needs_of above release) x → (matches above.clauses release.version ≡ true) × Contains release.dependencies x
needed-of above release x there = elim (cases_Bool (matches above.clauses release.version)) [
  | inl m ↦ (m, subst (λ (b : Bool). Contains (if b then release.dependencies else []) x) m there)
  | inr fails ↦ absurd (Contains-nil x (subst (λ (b : Bool). Contains (if b then release.dependencies else []) x) fails there))
]

-- what is needed below one more is gathered
pub asked-next : (lines : List (List ℕ)) (index : Index) (asked new : List RequirementParts) (i : ℕ) (above : RequirementParts) → i < length asked → above ≡ get_or asked i above
    → AreAskedTo lines index asked (take i asked) → Gathers asked new (needs_below index above) → AreAskedTo lines index new (take (i + 1) new)
asked-next lines index asked new i above within is k l =
    let there : Contains asked above = (i, within, sym is) in
    let front : take (i + 1) new ≡ take i asked ++ above ∷ [] =
    ap (take (i + 1)) l.added ∙ take-front asked l.more (i + 1) (omega arith) ∙ take_more asked i above within ∙ ap (λ (x : RequirementParts). take i asked ++ x ∷ []) (sym is) in
    record {
      counted = λ x among. elim (Contains-append_cases asked l.more x (subst (λ (xs : List RequirementParts). Contains xs x) l.added among)) [
        | inl first ↦ k.counted x first
        | inr second ↦
            (let j = Contains-flat_map (needs_of above) (releases_of above.name index.packages) x (l.only x second) in
            let need = needed-of above j.0 x j.2 in
            by_dependency above j.0 x (k.counted above there) j.1 need.0 need.1)
      ];
      lines_covered = λ x among. covered-on asked new l.more x l.added (k.lines_covered x among);
      below_covered = λ up among x need. elim (Contains-append_cases (take i asked) (above ∷ []) up (subst (λ (xs : List RequirementParts). Contains xs up) front among)) [
        | inl first ↦ covered-on asked new l.more x l.added (k.below_covered up first x need)
        | inr last ↦ l.covered x (subst (λ (r : RequirementParts). Contains (needs_below index r) x) (sym (one-alone above up last)) need)
      ];
    }

pub asked-whole : (lines : List (List ℕ)) (index : Index) (asked : List RequirementParts) (i : ℕ) → length asked ≤ i → AreAskedTo lines index asked (take i asked) → AreAsked lines index asked
asked-whole lines index asked i past k = subst (AreAskedTo lines index asked) (take_all i asked past) k

needs-there : (above : RequirementParts) (release : Release) (x : RequirementParts) → matches above.clauses release.version ≡ true → Contains release.dependencies x → Contains (needs_of above release) x
needs-there above release x m there = rw m there

-- so all that they can ask for is covered
pub asked-covers : (lines : List (List ℕ)) (index : Index) (asked : List RequirementParts) → AreAsked lines index asked → (wanted : RequirementParts) → CanAsk lines index wanted → IsCovered asked wanted
asked-covers lines index asked k _ (by_line line wanted there e) =
    k.lines_covered wanted (Contains-flat_map_of wanted_by lines line wanted there
    (subst (λ (read : Result (Option RequirementParts) Cause). Contains (wanted_in read) wanted) (sym e) (Contains-here wanted [])))
asked-covers lines index asked k _ (by_dependency above release wanted can there m d) =
    let up : IsCovered asked above = asked-covers lines index asked k above can in
    let moved : Contains (releases_of up.0.name index.packages) release = subst (λ (name : List ℕ). Contains (releases_of name index.packages) release) (sym up.2.named) there in
    k.below_covered up.0 up.1 wanted
    (Contains-flat_map_of (needs_of up.0) (releases_of up.0.name index.packages) release wanted moved (needs-there up.0 release wanted (up.2.matched release.version m) d))
