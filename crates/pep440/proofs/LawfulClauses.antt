-- The clauses that a set reads as are lawful.
use Rattle.std.proofs.Common.{◌≡◌, ℕ, ◌+◌, ◌&&◌, ltb, List, [], ◌∷◌, Result, Ok, Err, refl, subst, inl, inr}
use Rattle.std.specs.List.{AllByRecursion, list_all}
use Rattle.std.proofs.lemmas.Bool.{cases_Bool}
use Rattle.lists.specs.Spaces.{is_space_or_tab}
use Rattle.pep440.specs.declared.fault.Fault.{Fault}
use Rattle.pep440.specs.declared.specifier.Clause.{Clause}
use Rattle.pep440.specs.SetGrammar.{IsLawfulClause}
use Rattle.pep440.specs.Text.{trim_blank}
use Rattle.pep440.specs.Tied.Sets.{◌>>=◌, clause_of, clauses_from}
use Rattle.pep440.proofs.ReadIsAClause.{read-clause}

-- a clause that a piece reads as is lawful
lawful : (k : ℕ) (piece : List ℕ) (c : Clause) → clause_of k piece ≡ Ok c → IsLawfulClause c
lawful k piece c e = let is = read-clause k piece c e in record { taken = is.0.taken; numbers = is.1 }

one-lawful : (read : Result Clause Fault) (cs : List Clause) → ((c : Clause) → read ≡ Ok c → IsLawfulClause c)
    → (read >>= λ c. Ok (c ∷ [])) ≡ Ok cs → AllByRecursion IsLawfulClause cs
one-lawful (Ok c) cs each e = let same : c ∷ [] ≡ cs = cc in subst (AllByRecursion IsLawfulClause) same (each c refl, tt)
one-lawful (Err fault) cs each e = absurd cc

joined-lawful : (c : Clause) (others : Result (List Clause) Fault) (cs : List Clause) → IsLawfulClause c
    → ((ds : List Clause) → others ≡ Ok ds → AllByRecursion IsLawfulClause ds) → (others >>= λ ds. Ok (c ∷ ds)) ≡ Ok cs → AllByRecursion IsLawfulClause cs
joined-lawful c (Ok ds) cs first rest e = let same : c ∷ ds ≡ cs = cc in subst (AllByRecursion IsLawfulClause) same (first, rest ds refl)
joined-lawful c (Err fault) cs first rest e = absurd cc

more-lawful : (read : Result Clause Fault) (others : Result (List Clause) Fault) (cs : List Clause) → ((c : Clause) → read ≡ Ok c → IsLawfulClause c)
    → ((ds : List Clause) → others ≡ Ok ds → AllByRecursion IsLawfulClause ds) → (read >>= λ c. others >>= λ ds. Ok (c ∷ ds)) ≡ Ok cs
    → AllByRecursion IsLawfulClause cs
more-lawful (Ok c) others cs each rest e = joined-lawful c others cs (each c refl) rest e
more-lawful (Err fault) others cs each rest e = absurd cc

none-lawful : (cs : List Clause) (none : Result (List Clause) Fault) → none ≡ Ok [] → none ≡ Ok cs → AllByRecursion IsLawfulClause cs
none-lawful [] none is e = tt
none-lawful (c ∷ cs) none is e = cc

pub all-lawful : (k : ℕ) (ps : List (List ℕ)) (cs : List Clause) → clauses_from k ps ≡ Ok cs → AllByRecursion IsLawfulClause cs
unfolding clauses_from
all-lawful k [] cs e = none-lawful cs (Ok []) refl e
all-lawful k (piece ∷ []) cs e = elim (cases_Bool (ltb 1 k && list_all is_space_or_tab piece)) [
  | inl end ↦ none-lawful cs (Ok []) refl (rw end at e)
  | inr other ↦ one-lawful (clause_of k (trim_blank piece)) cs (lawful k (trim_blank piece)) (rw other at e)
]
all-lawful k (piece ∷ next ∷ rest) cs e =
    more-lawful (clause_of k (trim_blank piece)) (clauses_from (k + 1) (next ∷ rest)) cs (lawful k (trim_blank piece)) (all-lawful (k + 1) (next ∷ rest)) e
