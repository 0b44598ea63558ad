-- Lists of conflicts that follow.
use Rattle.std.proofs.Common.{List, [], ◌∷◌, ◌++◌, Bool, sym, subst, append_assoc, append-nil}
use Rattle.search.specs.declared.term.Term.{Term}
use Rattle.search.specs.Rules.{Rules}
use Rattle.search.specs.SetConflicts.{EachSetFollows, SetFollows}

pub each-push : {N X V R : Type 0} (rules : Rules N X V R) (same : V → V → Bool) (earlier conflicts : List (List (Term X V))) (conflict : List (Term X V)) → EachSetFollows rules same earlier conflicts
    → SetFollows rules same (earlier ++ conflicts) conflict → EachSetFollows rules same earlier (conflicts ++ conflict ∷ [])
each-push rules same earlier [] conflict each f = (subst (λ old. SetFollows rules same old conflict) (append-nil earlier) f, tt)
each-push rules same earlier (c ∷ cs) conflict each f =
    (each.0, each-push rules same (earlier ++ c ∷ []) cs conflict each.1 (subst (λ old. SetFollows rules same old conflict) (sym (append_assoc earlier (c ∷ []) cs)) f))
