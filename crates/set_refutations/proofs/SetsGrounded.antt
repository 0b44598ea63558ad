-- Grounds of conflicts of sets: a conflict has one exactly where it follows.
use Rattle.std.proofs.Common.{◌≡◌, ◌↔◌, ◌≤◌, inl, inr, IsTrue, is_some, ℕ, Bool, true, false, List, [], ◌∷◌, Option, Some, None, MatchOption, Contains, refl, sym, subst}
use Rattle.std.specs.List.{list_all, list_any, slice_get}
use Rattle.pep440.specs.Version.{VersionParts}
use Rattle.pep508.specs.Requirement.{RequirementParts}
use Rattle.search.specs.SetConflicts.{CompletesSet, EachVersion, LineRefusesSet, NoCandidateLeft, SetFollows, SetsClash}
use Rattle.set_refutations.specs.Grounds.{IsSetGround}
use Rattle.problems.specs.Problem.{ProblemParts}
use Rattle.problems.specs.Rules.{nodes_of, rules_of, same_version, wants}
use Rattle.set_refutations.specs.SetRefutations.{TermParts}
use Rattle.set_refutations.specs.Tied.SetCases.{completes, each_completes, is_left_out, is_within, none_left_behind, refuses_all, terms_clash}
use Rattle.problems.specs.declared.node.Node.{Node}
use Rattle.set_refutations.specs.declared.set_ground.SetGround.{SetGround}
use Rattle.set_refutations.specs.declared.set_ground.SetGround.TheVariants.{EachVersion as Each, LineRefuses as Refused, NoneLeft as Exhausted, TermsClash}
use Rattle.problems.proofs.Deciding.{never}
use Rattle.problems.proofs.WalkedLists.{slice_get-there}
use Rattle.set_refutations.proofs.SetsChecked.{any-there, behind-decides, left_out-decides, line-decides, none-whole, refuses_all-decides, terms-decide}
use Rattle.set_refutations.proofs.SetsCompleted.{completes-decides, term-decides}

pub none-alike : {X : Type 0} (found : Option X) (P : X → Type 0) (a b : Bool) → a ≡ b → MatchOption found (a ≡ false) P → MatchOption found (b ≡ false) P
none-alike found P a b same k = subst (λ c. MatchOption found (c ≡ false) P) same k

-- ---- a line refuses a term

pub unrefused : (given : ProblemParts) (lines : List RequirementParts) (conflict : List TermParts) → lines ≡ given.active
    → list_any (λ t. list_any (λ line. refuses_all given line t) lines) conflict ≡ false → LineRefusesSet (rules_of given) conflict → ⊥
unrefused given lines conflict active none = never _ (line-decides given conflict)
    (subst (λ ls. list_any (λ t. list_any (λ line. refuses_all given line t) ls) conflict ≡ false) active none)

pub line-ground : (given : ProblemParts) (lines : List RequirementParts) (conflict : List TermParts) (at place : ℕ) (t : TermParts) → lines ≡ given.active
    → ((line : RequirementParts) × (slice_get lines at ≡ Some line) × (refuses_all given line t ≡ true)) → slice_get conflict place ≡ Some t
    → (case : LineRefusesSet (rules_of given) conflict) × (slice_get given.active at ≡ Some case.line) × (slice_get conflict place ≡ Some case.term)
line-ground given lines conflict at place t active k there =
    let refused = (refuses_all-decides given k.0 t).0 k.2 in
    let line_at : slice_get given.active at ≡ Some k.0 = subst (λ ls. slice_get ls at ≡ Some k.0) active k.1 in (
      record { term = t; there = slice_get-there conflict place t there; line = k.0; active = slice_get-there given.active at k.0 line_at; named = refused.0; refused = refused.1 },
      line_at,
      there,
    )

-- ---- two terms clash

pub clash-ground : (given : ProblemParts) (conflict : List TermParts) (place at : ℕ) (one : TermParts) → slice_get conflict place ≡ Some one
    → ((place ≤ at) × ((other : TermParts) × (slice_get conflict at ≡ Some other) × (terms_clash given one other ≡ true)))
    → (case : SetsClash (rules_of given) same_version conflict) × (slice_get conflict place ≡ Some case.one) × (slice_get conflict at ≡ Some case.other) × (place ≤ at)
clash-ground given conflict place at one there k =
    let other = k.1.0 in
    let clash = (terms-decide given one other).0 k.1.2 in (
      record { one = one; other = other; there = slice_get-there conflict place one there; there_too = slice_get-there conflict at other k.1.1; clash = λ v w i j. clash v i w j },
      there,
      k.1.1,
      k.0,
    )

-- ---- an earlier conflict is completed

pub completed-is : (earlier : List (List TermParts)) (conflict : List TermParts) (node : Node) (v : VersionParts) (found : Option ℕ)
    → MatchOption found (completes earlier conflict node v ≡ false) (λ place. (old : List TermParts) × (slice_get earlier place ≡ Some old) × (list_all (is_within conflict node v) old ≡ true))
    → is_some found ≡ completes earlier conflict node v
completed-is earlier conflict node v None none = sym none
completed-is earlier conflict node v (Some place) k = sym (any-there (list_all (is_within conflict node v)) earlier k.0 (slice_get-there earlier place k.0 k.1) k.2)

pub completed-place : (earlier : List (List TermParts)) (conflict : List TermParts) (node : Node) (v : VersionParts) (found : Option ℕ)
    → MatchOption found (completes earlier conflict node v ≡ false) (λ place. (old : List TermParts) × (slice_get earlier place ≡ Some old) × (list_all (is_within conflict node v) old ≡ true))
    → MatchOption found (CompletesSet same_version earlier conflict node v → ⊥) (λ place. (old : List TermParts) × (slice_get earlier place ≡ Some old) × CompletesSet same_version (old ∷ []) conflict node v)
completed-place earlier conflict node v None none = never _ (completes-decides earlier conflict node v) none
completed-place earlier conflict node v (Some place) k = (k.0, k.1, (completes-decides (k.0 ∷ []) conflict node v).0 (rw k.2 refl))

pub each-ground : (earlier : List (List TermParts)) (conflict : List TermParts) (place : ℕ) (t : TermParts) → slice_get conflict place ≡ Some t → each_completes earlier conflict t ≡ true
    → (case : EachVersion same_version earlier conflict) × (slice_get conflict place ≡ Some case.term)
each-ground earlier conflict place t there h = (record { term = t; there = slice_get-there conflict place t there; each = (term-decides earlier conflict t).0 h }, there)

-- ---- none is left

pub needed-ground : (given : ProblemParts) (earlier : List (List TermParts)) (conflict : List TermParts) (place : ℕ) (line : RequirementParts) (node : Node) → slice_get given.active place ≡ Some line
    → Contains (nodes_of line) node → is_left_out given earlier conflict None node ≡ true
    → (case : NoCandidateLeft (rules_of given) same_version earlier conflict) × (case.node ≡ node)
    × (line : RequirementParts) × (slice_get given.active place ≡ Some line) × Contains (nodes_of line) case.node
needed-ground given earlier conflict place line node at there h =
    (record { node = node; needs = inl (line, slice_get-there given.active place line at, there); each = (left_out-decides given earlier conflict node).0 h }, refl, line, at, there)

pub behind-ground : (given : ProblemParts) (earlier : List (List TermParts)) (conflict : List TermParts) (place : ℕ) (t : TermParts) (node : Node) → slice_get conflict place ≡ Some t
    → is_left_out given earlier conflict (Some t) node ≡ true
    → (case : NoCandidateLeft (rules_of given) same_version earlier conflict) × (case.node ≡ node)
    × (term : TermParts) × (slice_get conflict place ≡ Some term)
    × ((version : VersionParts) → Contains term.versions version → (wanted : RequirementParts) × Contains (wants given term.node version) wanted × Contains (nodes_of wanted) case.node)
behind-ground given earlier conflict place t node at h =
    let left = (behind-decides given earlier conflict t node).0 h in
    (record { node = node; needs = inr (t, slice_get-there conflict place t at, left.1); each = left.0 }, refl, t, at, left.1)

pub exhausted-last : (given : ProblemParts) (earlier : List (List TermParts)) (conflict : List TermParts) (found : Option SetGround)
    → list_any (λ line. list_any (is_left_out given earlier conflict None) (nodes_of line)) given.active ≡ false
    → MatchOption found (list_any (λ t. none_left_behind given earlier conflict t t.versions) conflict ≡ false) (IsSetGround given earlier conflict)
    → MatchOption found (NoCandidateLeft (rules_of given) same_version earlier conflict → SetsClash (rules_of given) same_version conflict) (IsSetGround given earlier conflict)
exhausted-last given earlier conflict None by_line by_term = none-whole given earlier conflict by_line by_term
exhausted-last given earlier conflict (Some found) by_line ground_is = ground_is

-- ---- all four cases

ground-follows : (given : ProblemParts) (earlier : List (List TermParts)) (conflict : List TermParts) (ground : SetGround) → IsSetGround given earlier conflict ground
    → SetFollows (rules_of given) same_version earlier conflict
ground-follows given earlier conflict (Refused at place) k = inl k.0
ground-follows given earlier conflict (TermsClash place at) k = inr (inl k.0)
ground-follows given earlier conflict (Each place) k = inr (inr (inl k.0))
ground-follows given earlier conflict (Exhausted need name extra) k = inr (inr (inr k.0))

pub ground-decides : (given : ProblemParts) (earlier : List (List TermParts)) (conflict : List TermParts) (found : Option SetGround)
    → MatchOption found (SetFollows (rules_of given) same_version earlier conflict → ⊥) (IsSetGround given earlier conflict)
    → IsTrue (is_some found) ↔ SetFollows (rules_of given) same_version earlier conflict
ground-decides given earlier conflict None none = ((λ h. absurd cc), (λ f. absurd (none f)))
ground-decides given earlier conflict (Some found) ground_is = ((λ h. ground-follows given earlier conflict found ground_is), (λ f. refl))

pub ground-last : (given : ProblemParts) (earlier : List (List TermParts)) (conflict : List TermParts) (found : Option SetGround)
    → (LineRefusesSet (rules_of given) conflict → ⊥) → (SetsClash (rules_of given) same_version conflict → ⊥) → (EachVersion same_version earlier conflict → ⊥)
    → MatchOption found (NoCandidateLeft (rules_of given) same_version earlier conflict → SetsClash (rules_of given) same_version conflict) (IsSetGround given earlier conflict)
    → MatchOption found (SetFollows (rules_of given) same_version earlier conflict → ⊥) (IsSetGround given earlier conflict)
ground-last given earlier conflict None line clash each none = λ f. elim f [
  | inl a ↦ line a
  | inr (inl b) ↦ clash b
  | inr (inr (inl d)) ↦ each d
  | inr (inr (inr e)) ↦ clash (none e)
]
ground-last given earlier conflict (Some found) line clash each ground_is = ground_is
