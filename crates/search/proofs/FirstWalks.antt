-- A walk that takes the first candidate at each name that nothing refuses is a guided walk, since no solution has what is refused.
use Rattle.std.proofs.Common.{List, [], ◌∷◌, ◌++◌, ◌≡◌, inl, inr, true, false, sym, ◌∙◌, ap, subst, Some, Option}
use Rattle.search.proofs.GuidedWalks.{guided-best}
use Rattle.search.proofs.PinnedMaps.{Needed-more, some-inj}
use Rattle.search.specs.FirstWalk.{IsRequired, IsRefused, IsFirst, IsFirstWalk, IsComplete}
use Rattle.search.specs.GuidedWalk.{IsGuidedWalk}
use Rattle.search.specs.Rules.{Rules, IsLawful}
use Rattle.search.specs.Solutions.{Pin, IsMet, Solution, version_pinned, Has, IsBest}

-- a solution that has what is taken meets what is required there
required-met : {N X V R : Type 0} (rules : Rules N X V R) (t : N → Option V) (taken : List (Pin N V)) (r : R) → Solution rules t → Has rules t taken → IsRequired rules (version_pinned rules.compare taken) r → IsMet rules t r
required-met rules t taken r s has (inl line) = s.lines_met r line
required-met rules t taken r s has (inr d) = s.dependencies_met d.0 d.1 r (Needed-more rules (version_pinned rules.compare taken) t has d.0 d.2) (has (rules.on d.0) d.1 d.3) d.4

-- so it has no version that is refused
refused-none : {N X V R : Type 0} (rules : Rules N X V R) (t : N → Option V) (taken : List (Pin N V)) (n : N) (w : V) → Solution rules t → Has rules t taken → t n ≡ Some w → IsRefused rules (version_pinned rules.compare taken) n w → ⊥
refused-none {N} {X} {V} {R} rules t taken n w s has e bad =
    let m : IsMet rules t bad.0 = required-met rules t taken bad.0 s has bad.1 in
    let v : m.0 ≡ w = some-inj m.0 w (sym m.1 ∙ ap t bad.2 ∙ e) in
    let k : rules.admits bad.0 w ≡ true = subst (λ x. rules.admits bad.0 x ≡ true) v m.2 in
    absurd (let f : rules.admits bad.0 w ≡ false = bad.3 in cc)

first-guided : {N X V R : Type 0} (rules : Rules N X V R) (before ps : List (Pin N V)) → IsFirstWalk rules before ps → IsGuidedWalk rules before ps
first-guided rules before [] h = tt
first-guided {N} {X} {V} {R} rules before (p ∷ ps) h =
    let pin : IsFirst rules (IsRefused rules (version_pinned rules.compare before) p.name) p.name p.version = h.0.1 in (
      (
        h.0.0,
        record {
          front = pin.front;
          back = pin.back;
          listed = pin.listed;
          once = pin.once;
          before = λ w i t sol has e. refused-none rules t before p.name w sol has e (pin.before w i);
        },
      ),
      first-guided rules (before ++ p ∷ []) ps h.1,
    )

pub walk-best : {N X V R : Type 0} (rules : Rules N X V R) → IsLawful rules → (ps : List (Pin N V)) → IsFirstWalk rules [] ps → IsComplete rules (version_pinned rules.compare ps) → IsBest rules (version_pinned rules.compare ps)
walk-best rules law ps h c = guided-best rules law ps (first-guided rules [] ps h) c
