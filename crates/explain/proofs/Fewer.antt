-- A ground by which a conflict of sets follows from some conflicts is one among more of them too.
use Rattle.std.proofs.Common.{List, Bool, Contains, Option, None, Some, IfSome, MatchOption}
use Rattle.search.specs.Rules.{Rules}
use Rattle.search.specs.declared.term.Term.{Term}
use Rattle.search.specs.SetConflicts.{CompletesSet, EachVersion, NoCandidateLeft}
use Rattle.problems.specs.Problem.{ProblemParts}
use Rattle.problems.specs.Rules.{rules_of, same_version}
use Rattle.set_refutations.specs.Grounds.{IsSetGround}
use Rattle.set_refutations.specs.SetRefutations.{TermParts}
use Rattle.set_refutations.specs.declared.set_ground.SetGround.{SetGround}
use Rattle.set_refutations.specs.declared.set_ground.SetGround.TheVariants.{EachVersion as Each, LineRefuses as Refused, NoneLeft as Exhausted, TermsClash}

completes-fewer : {X V : Type 0} (same : V → V → Bool) (few all : List (List (Term X V))) → ((old : List (Term X V)) → Contains few old → Contains all old)
    → (conflict : List (Term X V)) (node : X) (v : V) → CompletesSet same few conflict node v → CompletesSet same all conflict node v
completes-fewer same few all among conflict node v found = (found.0, among found.0 found.1, found.2)

each-fewer : {X V : Type 0} (same : V → V → Bool) (few all : List (List (Term X V))) → ((old : List (Term X V)) → Contains few old → Contains all old)
    → (conflict : List (Term X V)) → EachVersion same few conflict → EachVersion same all conflict
each-fewer same few all among conflict f = record {
  term = f.term;
  there = f.there;
  each = λ v i. completes-fewer same few all among conflict f.term.node v (f.each v i);
}

none-fewer : {N X V R : Type 0} (rules : Rules N X V R) (same : V → V → Bool) (few all : List (List (Term X V))) → ((old : List (Term X V)) → Contains few old → Contains all old)
    → (conflict : List (Term X V)) → NoCandidateLeft rules same few conflict → NoCandidateLeft rules same all conflict
none-fewer rules same few all among conflict f = record {
  node = f.node;
  needs = f.needs;
  each = λ v i. completes-fewer same few all among conflict f.node v (f.each v i);
}

ground-fewer : (given : ProblemParts) (few all : List (List TermParts)) → ((old : List TermParts) → Contains few old → Contains all old)
    → (conflict : List TermParts) (ground : SetGround) → IsSetGround given few conflict ground → IsSetGround given all conflict ground
unfolding each-fewer none-fewer
ground-fewer given few all among conflict (Refused line term) k = k
ground-fewer given few all among conflict (TermsClash one other) k = k
ground-fewer given few all among conflict (Each term) k = (each-fewer same_version few all among conflict k.0, k.1)
ground-fewer given few all among conflict (Exhausted need name extra) k = (none-fewer (rules_of given) same_version few all among conflict k.0, k.1, k.2)

-- what is found among few is a ground among all
pub found-fewer : (given : ProblemParts) (few all : List (List TermParts)) → ((old : List TermParts) → Contains few old → Contains all old)
    → (conflict : List TermParts) (none : Type 0) (found : Option SetGround) → MatchOption found none (IsSetGround given few conflict) → IfSome found (IsSetGround given all conflict)
found-fewer given few all among conflict none None k = tt
found-fewer given few all among conflict none (Some ground) k = ground-fewer given few all among conflict ground k
