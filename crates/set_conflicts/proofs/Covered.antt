-- Places at a node that complete earlier conflicts.
use Rattle.std.proofs.Common.{ℕ, List, [], arith, nat_eq, ◌≡◌, inl, inr, Contains, subst, true, sym}
use Rattle.lists.proofs.Members.{Contains-nil}
use Rattle.lists.specs.Bits.{IsJoined}
use Rattle.search.specs.declared.term.Term.{Term}
use Rattle.search.specs.Table.{places_eq}
use Rattle.set_conflicts.specs.Tied.Covers.{IsCompletedBy, Covers}

place-same : (v : ℕ) → places_eq v v ≡ true
place-same v = grind (arith, nat_eq)

pub covers-none : (earlier : List (List (Term ℕ ℕ))) (conflict : List (Term ℕ ℕ)) (node : ℕ) → Covers earlier conflict node []
covers-none earlier conflict node v i = absurd (Contains-nil v i)

pub completed-covers : (earlier : List (List (Term ℕ ℕ))) (conflict : List (Term ℕ ℕ)) (node : ℕ) (places : List ℕ) (old : List (Term ℕ ℕ)) → Contains earlier old → IsCompletedBy conflict node places old → Covers earlier conflict node places
completed-covers earlier conflict node places old there done v i = (old, there, λ t j. elim (done t j) [ inl a ↦ inl a | inr b ↦ inr (b.0, (v, b.1 v i, place-same v)) ])

pub covers-joined : (earlier : List (List (Term ℕ ℕ))) (conflict : List (Term ℕ ℕ)) (node : ℕ) (one other new : List ℕ) → Covers earlier conflict node one → Covers earlier conflict node other → IsJoined new one other → Covers earlier conflict node new
covers-joined earlier conflict node one other new h k joined v i = elim ((joined v).0 i) [ inl a ↦ h v a | inr b ↦ k v b ]

-- what holds of pairs of equal lists and nodes
pub pairs-same : (P : ℕ → ℕ → ℕ → ℕ → Type 0) (ps one qs other : List ℕ) (a b m n : ℕ) → ps ≡ one → qs ≡ other → a ≡ b → m ≡ n → ((v : ℕ) → Contains ps v → (w : ℕ) → Contains qs w → P a v m w) → (v : ℕ) → Contains one v → (w : ℕ) → Contains other w → P b v n w
pairs-same P ps one qs other a b m n e f g h k v i w j =
    subst (λ x. P x v n w) g (subst (λ y. P a v y w) h (k v (subst (λ xs. Contains xs v) (sym e) i) w (subst (λ xs. Contains xs w) (sym f) j)))
