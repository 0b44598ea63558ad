-- What is found in a list passes its test, and where nothing is found nothing passes.
use Rattle.std.proofs.Common.{◌≡◌, ◌∙◌, ◌↔◌, inl, inr, IsTrue, is_some, ◌&&◌, ℕ, zero, suc, Bool, true, false, List, [], ◌∷◌, Option, Some, None, IfSome, MatchOption, Contains, find, filter, refl, sym, ap, subst}
use Rattle.std.specs.List.{list_all, list_any, slice_get}
use Rattle.std.specs.Option.{option_map_or}
use Rattle.std.proofs.lemmas.Bool.{cases_Bool}
use Rattle.pep440.specs.Version.{VersionParts}
use Rattle.pep508.specs.Requirement.{RequirementParts}
use Rattle.problems.specs.Admission.{dependencies_at, release_at}
use Rattle.search.specs.Conflicts.{ChoicesClash, Completes, Follows, LineRefuses, NoneLeft, VersionsDiffer}
use Rattle.refutations.specs.Tied.Cases.{IsLeftOut, completes, is_within, none_left}
use Rattle.problems.specs.Tied.ChoiceTests.{differ, refuses}
use Rattle.refutations.specs.Grounds.{IsGround}
use Rattle.problems.specs.Problem.{ProblemParts}
use Rattle.problems.specs.Choices.{ChoiceParts}
use Rattle.problems.specs.Rules.{counts, nodes_of, rules_of, same_version, wants}
use Rattle.refutations.specs.declared.ground.Ground.{Ground}
use Rattle.refutations.specs.declared.ground.Ground.TheVariants.{ChoicesClash as Clash, LineRefuses as Refused, NoneLeft as Exhausted, VersionsDiffer as Differ}
use Rattle.problems.specs.declared.node.Node.{Node}
use Rattle.refutations.proofs.Checked.{by_choice-decides, by_line-decides, clash-decides, completes-decides, exhausted-decides, line-decides, none-cases, versions-decide}
use Rattle.problems.proofs.ChoiceTests.{differ-decides, refuses-decides}
use Rattle.problems.proofs.Wants.{counted}
use Rattle.problems.proofs.Deciding.{found-is, found-none, never}
use Rattle.problems.proofs.WalkedLists.{slice_get-there}
use Rattle.lists.proofs.Members.{Contains-filter_of}

any-at : {X : Type 0} (p : X → Bool) (xs : List X) (k : ℕ) (x : X) → slice_get xs k ≡ Some x → p x ≡ true → list_any p xs ≡ true
any-at p [] k x e h = absurd cc
any-at p (y ∷ ys) zero x e h = let same : y ≡ x = cc in rw (ap p same ∙ h) refl
any-at p (y ∷ ys) (suc k) x e h = elim (cases_Bool (p y)) [ inl passes ↦ rw passes refl | inr fails ↦ rw fails (any-at p ys k x e h) ]

-- ---- what is found

find-filtered : {X : Type 0} (p q : X → Bool) (xs : List X) → find (λ x. q x && p x) xs ≡ find p (filter q xs)
find-filtered p q [] = refl
find-filtered p q (x ∷ xs) = elim (cases_Bool (q x)) [
  | inl passes ↦ rw passes (elim (cases_Bool (p x)) [ inl h ↦ rw h refl | inr f ↦ rw f (find-filtered p q xs) ])
  | inr fails ↦ rw fails (find-filtered p q xs)
]

pub find-wanted : (p : RequirementParts → Bool) (given : ProblemParts) (node : Node) (version : VersionParts)
    → find (λ wanted. counts given.environment node.extra wanted && p wanted) (dependencies_at given node.name version) ≡ find p (wants given node version)
find-wanted p given node version =
    find-filtered p (counts given.environment node.extra) (dependencies_at given node.name version) ∙ ap (find p) (counted given node (release_at given node.name version))

-- ---- deciding

pub found-fails : {X : Type 0} (p : X → Bool) (xs : List X) (x : X) → find p xs ≡ Some x → p x ≡ false → ⊥
found-fails p xs x e f = let t = (found-is p xs x e).1 in absurd cc

-- ---- a line refuses a choice

pub unrefused : (given : ProblemParts) (lines : List RequirementParts) (conflict : List ChoiceParts) → lines ≡ given.active
    → find (λ choice. list_any (λ line. refuses given line choice) lines) conflict ≡ None → LineRefuses (rules_of given) conflict → ⊥
unrefused given lines conflict active none = never _ (line-decides given conflict)
    (subst (λ ls. list_any (λ choice. list_any (λ line. refuses given line choice) ls) conflict ≡ false) active (found-none _ conflict none))

pub line-ground : (given : ProblemParts) (lines : List RequirementParts) (conflict : List ChoiceParts) (choice : ChoiceParts) (place : ℕ) → lines ≡ given.active
    → find (λ choice. list_any (λ line. refuses given line choice) lines) conflict ≡ Some choice
    → ((line : RequirementParts) × (slice_get lines place ≡ Some line) × (refuses given line choice ≡ true))
    → (case : LineRefuses (rules_of given) conflict) × (case.choice ≡ choice) × (slice_get given.active place ≡ Some case.line)
line-ground given lines conflict choice place active found k =
    let refused = (refuses-decides given k.0 choice).0 k.2 in
    let at : slice_get given.active place ≡ Some k.0 = subst (λ ls. slice_get ls place ≡ Some k.0) active k.1 in (
      record { choice = choice; there = (found-is _ conflict choice found).0; line = k.0; active = slice_get-there given.active place k.0 at; named = refused.0; refused = refused.1 },
      refl,
      at,
    )

-- ---- two choices clash

pub unclashed : (given : ProblemParts) (conflict : List ChoiceParts)
    → find (λ one. list_any (λ wanted. list_any (refuses given wanted) conflict) (wants given one.node one.version)) conflict ≡ None → ChoicesClash (rules_of given) conflict → ⊥
unclashed given conflict none = never _ (clash-decides given conflict) (found-none _ conflict none)

pub clash-ground : (given : ProblemParts) (conflict : List ChoiceParts) (one : ChoiceParts) (wanted : RequirementParts) (other : ChoiceParts)
    → find (λ one. list_any (λ wanted. list_any (refuses given wanted) conflict) (wants given one.node one.version)) conflict ≡ Some one
    → find (λ wanted. list_any (refuses given wanted) conflict) (wants given one.node one.version) ≡ Some wanted
    → find (refuses given wanted) conflict ≡ Some other
    → (case : ChoicesClash (rules_of given) conflict) × (case.one ≡ one) × (case.wanted ≡ wanted) × (case.other ≡ other)
clash-ground given conflict one wanted other found found_wanted found_other =
    let k = found-is (refuses given wanted) conflict other found_other in
    let refused = (refuses-decides given wanted other).0 k.1 in (
      record {
        one = one;
        other = other;
        there = (found-is _ conflict one found).0;
        there_too = k.0;
        wanted = wanted;
        counts = (found-is _ (wants given one.node one.version) wanted found_wanted).0;
        named = refused.0;
        refused = refused.1;
      },
      refl,
      refl,
      refl,
    )

-- ---- two versions differ

pub undiffering : (given : ProblemParts) (conflict : List ChoiceParts) → find (λ one. list_any (differ one) conflict) conflict ≡ None → VersionsDiffer (rules_of given) same_version conflict → ⊥
undiffering given conflict none = never _ (versions-decide given conflict) (found-none _ conflict none)

pub differ-ground : (given : ProblemParts) (conflict : List ChoiceParts) (one other : ChoiceParts) → find (λ one. list_any (differ one) conflict) conflict ≡ Some one → find (differ one) conflict ≡ Some other
    → (case : VersionsDiffer (rules_of given) same_version conflict) × (case.one ≡ one) × (case.other ≡ other)
differ-ground given conflict one other found found_other =
    let k = found-is (differ one) conflict other found_other in
    let apart = (differ-decides one other).0 k.1 in
    (record { one = one; other = other; there = (found-is _ conflict one found).0; there_too = k.0; named = apart.0; differ = apart.1 }, refl, refl)

-- ---- none is left

pub choice-ground : (given : ProblemParts) (earlier : List (List ChoiceParts)) (conflict : List ChoiceParts) (one : ChoiceParts) (wanted : RequirementParts) (extra : Option (List ℕ))
    → Contains conflict one → Contains (wants given one.node one.version) wanted → IsLeftOut given earlier conflict wanted extra
    → (case : NoneLeft (rules_of given) same_version earlier conflict) × (case.node ≡ record { name = wanted.name; extra = extra })
    × Contains conflict one × Contains (wants given one.node one.version) wanted × Contains (nodes_of wanted) case.node
choice-ground given earlier conflict one wanted extra there counts left =
    let node : Node = record { name = wanted.name; extra = extra } in
    (record { node = node; needs = inr (one, wanted, there, counts, left.0); each = (exhausted-decides given earlier conflict node).0 left.1 }, refl, there, counts, left.0)

pub needy-ground : (given : ProblemParts) (earlier : List (List ChoiceParts)) (conflict : List ChoiceParts) (line : RequirementParts) (place : ℕ) (extra : Option (List ℕ))
    → slice_get given.active place ≡ Some line → IsLeftOut given earlier conflict line extra
    → (case : NoneLeft (rules_of given) same_version earlier conflict) × (case.node ≡ record { name = line.name; extra = extra })
    × (line : RequirementParts) × (slice_get given.active place ≡ Some line) × Contains (nodes_of line) case.node
needy-ground given earlier conflict line place extra at left =
    let node : Node = record { name = line.name; extra = extra } in
    let there = slice_get-there given.active place line at in
    (record { node = node; needs = inl (line, there, left.0); each = (exhausted-decides given earlier conflict node).0 left.1 }, refl, line, at, left.0)

pub unexhausted : (given : ProblemParts) (earlier : List (List ChoiceParts)) (conflict : List ChoiceParts)
    → list_any (λ one. list_any (λ wanted. list_any (none_left given earlier conflict) (nodes_of wanted)) (wants given one.node one.version)) conflict ≡ false
    → list_any (λ line. list_any (none_left given earlier conflict) (nodes_of line)) given.active ≡ false
    → NoneLeft (rules_of given) same_version earlier conflict → ⊥
unexhausted given earlier conflict by_choice by_line none = elim (none-cases given earlier conflict none) [
  | inl line ↦ never _ (by_line-decides given earlier conflict) by_line line
  | inr choice ↦ never _ (by_choice-decides given earlier conflict) by_choice choice
]

-- a dependency that counts is wanted
pub wanted-counts : (given : ProblemParts) (node : Node) (version : VersionParts) (wanted : RequirementParts) → Contains (dependencies_at given node.name version) wanted
    → counts given.environment node.extra wanted ≡ true → Contains (wants given node version) wanted
wanted-counts given node version wanted there counts_there =
    subst (λ ws. Contains ws wanted) (counted given node (release_at given node.name version))
    (Contains-filter_of (counts given.environment node.extra) (dependencies_at given node.name version) wanted there counts_there)

pub exhausted-last : (H : Type 0) (given : ProblemParts) (earlier : List (List ChoiceParts)) (conflict : List ChoiceParts) (found : Option Ground)
    → (H → list_any (λ line. list_any (none_left given earlier conflict) (nodes_of line)) given.active ≡ false)
    → MatchOption found (H → list_any (λ one. list_any (λ wanted. list_any (none_left given earlier conflict) (nodes_of wanted)) (wants given one.node one.version)) conflict ≡ false) (IsGround given earlier conflict)
    → MatchOption found (H → NoneLeft (rules_of given) same_version earlier conflict → ⊥) (IsGround given earlier conflict)
exhausted-last H given earlier conflict None by_line by_choice = λ h. unexhausted given earlier conflict (by_choice h) (by_line h)
exhausted-last H given earlier conflict (Some found) by_line ground_is = ground_is

ground-follows : (given : ProblemParts) (earlier : List (List ChoiceParts)) (conflict : List ChoiceParts) (ground : Ground) → IsGround given earlier conflict ground
    → Follows (rules_of given) same_version earlier conflict
ground-follows given earlier conflict (Refused place choice) k = inl k.0
ground-follows given earlier conflict (Clash one wanted other) k = inr (inl k.0)
ground-follows given earlier conflict (Differ one other) k = inr (inr (inl k.0))
ground-follows given earlier conflict (Exhausted need name extra) k = inr (inr (inr k.0))

-- a conflict has a ground exactly where it follows
pub ground-decides : (given : ProblemParts) (earlier : List (List ChoiceParts)) (conflict : List ChoiceParts) (found : Option Ground)
    → MatchOption found (Follows (rules_of given) same_version earlier conflict → ⊥) (IsGround given earlier conflict)
    → IsTrue (is_some found) ↔ Follows (rules_of given) same_version earlier conflict
ground-decides given earlier conflict None none = ((λ h. absurd cc), (λ f. absurd (none f)))
ground-decides given earlier conflict (Some ground) ground_is = ((λ h. ground-follows given earlier conflict ground ground_is), (λ f. refl))

pub ground-last : (H : Type 0) (given : ProblemParts) (earlier : List (List ChoiceParts)) (conflict : List ChoiceParts) (found : Option Ground)
    → (LineRefuses (rules_of given) conflict → ⊥) → (ChoicesClash (rules_of given) conflict → ⊥) → (VersionsDiffer (rules_of given) same_version conflict → ⊥)
    → MatchOption found (H → NoneLeft (rules_of given) same_version earlier conflict → ⊥) (IsGround given earlier conflict)
    → MatchOption found (H → Follows (rules_of given) same_version earlier conflict → ⊥) (IsGround given earlier conflict)
ground-last H given earlier conflict None line clash differs none = λ h f. elim f [
  | inl a ↦ line a
  | inr (inl b) ↦ clash b
  | inr (inr (inl d)) ↦ differs d
  | inr (inr (inr e)) ↦ none h e
]
ground-last H given earlier conflict (Some found) line clash differs ground_is = ground_is

-- a look among all finds a ground exactly where there is one
pub ground-whole : (H : Type 0) (given : ProblemParts) (earlier : List (List ChoiceParts)) (conflict : List ChoiceParts) (found : Option Ground) → H
    → MatchOption found (H → Follows (rules_of given) same_version earlier conflict → ⊥) (IsGround given earlier conflict)
    → MatchOption found (Follows (rules_of given) same_version earlier conflict → ⊥) (IsGround given earlier conflict)
ground-whole H given earlier conflict None h none = none h
ground-whole H given earlier conflict (Some found) h ground_is = ground_is

-- what hints find is a ground
pub ground-hinted : (P : Type 0) (given : ProblemParts) (earlier : List (List ChoiceParts)) (conflict : List ChoiceParts) (found : Option Ground)
    → MatchOption found P (IsGround given earlier conflict) → IfSome found (IsGround given earlier conflict)
ground-hinted P given earlier conflict None none = tt
ground-hinted P given earlier conflict (Some found) ground_is = ground_is

-- ---- an earlier conflict is completed

pub there-at : {X : Type 0} (p : X → Bool) (found : Option X) → option_map_or p found false ≡ true → (x : X) × (found ≡ Some x) × (p x ≡ true)
there-at p None passes = absurd cc
there-at p (Some x) passes = (x, refl, passes)

-- what hints found, and what was found among all
pub found-by_hints : (P : Type 0) (Q : ℕ → Type 0) (found : Option ℕ) → IfSome found Q → P → MatchOption found P Q
found-by_hints P Q None is none = none
found-by_hints P Q (Some place) is none = is

pub found-among_all : (H P : Type 0) (Q : ℕ → Type 0) (found : Option ℕ) → MatchOption found P Q → MatchOption found (H → P) Q
found-among_all H P Q None none = λ h. none
found-among_all H P Q (Some place) is = is

pub completes-found : (H : Type 0) (earlier : List (List ChoiceParts)) (conflict : List ChoiceParts) (choice : ChoiceParts) (found : Option ℕ)
    → MatchOption found (H → completes earlier conflict choice ≡ false) (λ place. (old : List ChoiceParts) × (slice_get earlier place ≡ Some old) × (list_all (is_within conflict choice) old ≡ true))
    → (is_some found ≡ true → completes earlier conflict choice ≡ true) × (H → is_some found ≡ completes earlier conflict choice)
completes-found H earlier conflict choice None none = ((λ h. absurd cc), (λ h. sym (none h)))
completes-found H earlier conflict choice (Some place) k =
    let there = any-at (λ old. list_all (is_within conflict choice) old) earlier place k.0 k.1 k.2 in
    ((λ h. there), (λ h. sym there))

pub completed-place : (earlier : List (List ChoiceParts)) (conflict : List ChoiceParts) (choice : ChoiceParts) (found : Option ℕ)
    → MatchOption found (completes earlier conflict choice ≡ false) (λ place. (old : List ChoiceParts) × (slice_get earlier place ≡ Some old) × (list_all (is_within conflict choice) old ≡ true))
    → MatchOption found (Completes same_version earlier conflict choice → ⊥) (λ place. (old : List ChoiceParts) × (slice_get earlier place ≡ Some old) × Completes same_version (old ∷ []) conflict choice)
completed-place earlier conflict choice None none = never _ (completes-decides earlier conflict choice) none
completed-place earlier conflict choice (Some place) k = (k.0, k.1, (completes-decides (k.0 ∷ []) conflict choice).0 (rw k.2 refl))
