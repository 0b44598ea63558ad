-- What a front says, as names are taken.
use Rattle.std.proofs.Common.{ℕ, List, [], ◌∷◌, ◌++◌, ◌≡◌, ◌≢◌, Contains, take, sym, ◌∙◌, ap, subst, Option, false}
use Rattle.std.specs.List.{list_any}
use Rattle.std.specs.Ordering.{nat_cmp}
use Rattle.search.proofs.Clashes.{any-false}
use Rattle.lists.proofs.Members.{Contains-take_zero}
use Rattle.search.proofs.Stack.{pins_of-push}
use Rattle.search.proofs.TakenFacts.{first-step}
use Rattle.search.specs.declared.parts.Frame.{Frame}
use Rattle.search.specs.declared.parts.KnownBefore.{KnownBefore}
use Rattle.search.specs.Tied.Front.{HaveFit}
use Rattle.search.specs.Rules.{Rules}
use Rattle.search.specs.Tied.Search.{pins_of, taken_at, clash_at, clash_in}
use Rattle.search.specs.Solutions.{version_pinned}
use Rattle.search.specs.Tied.Taken.{TakesFirst}

-- before anything is known, nothing has to fit
pub fit-none : (rules : Rules ℕ ℕ ℕ ℕ) (chosen : ℕ → Option ℕ) (required : List ℕ) (known_before : KnownBefore) → known_before.required ≡ 0 → HaveFit rules chosen required known_before
fit-none rules chosen required known_before none r i d = absurd (Contains-take_zero required r (subst (λ n. Contains (take n required) r) none i))

-- what fitted before still fits where its name is another
pub fit-kept : (rules : Rules ℕ ℕ ℕ ℕ) (old new : ℕ → Option ℕ) (before required : List ℕ) (known_before : KnownBefore) → take known_before.required required ≡ before → list_any (clash_in rules old) before ≡ false → ((n : ℕ) → n ≢ known_before.last_taken → new n ≡ old n) → HaveFit rules new required known_before
fit-kept rules old new before required known_before front h others r i d =
    ap (clash_at rules r) (others (rules.name r) d) ∙ any-false (clash_in rules old) before r h (subst (λ xs. Contains xs r) front i)

-- the map of the frames, with one frame more
pub same-push : (old new : List (Option ℕ)) (fs : List Frame) (f : Frame) → TakesFirst old new f → ((n : ℕ) → taken_at old n ≡ version_pinned nat_cmp (pins_of fs) n) → (n : ℕ) → taken_at new n ≡ version_pinned nat_cmp (pins_of (fs ++ f ∷ [])) n
same-push old new fs f h same n = first-step old new f (pins_of fs) h same n ∙ ap (λ ps. version_pinned nat_cmp ps n) (sym (pins_of-push fs f))
