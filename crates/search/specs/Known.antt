-- Conflicts whose choices or terms a table knows, and the conflicts that they stand for.
use Rattle.std.specs.Prelude.{ℕ, List, Bool, true, ◌≡◌, ◌<◌, length, map}
use Rattle.std.specs.List.{Contains}
use Rattle.search.specs.declared.conflict.NodeChoice.{NodeChoice}
use Rattle.search.specs.declared.term.Term.{Term}
use Rattle.search.specs.Picture.{Picture}
use Rattle.search.specs.Table.{TableParts, name_of, candidates_of}

-- the choice is one of a node of the table, with the place of a candidate of its name
abbrev pub IsKnown : TableParts → NodeChoice ℕ ℕ → Type 0
IsKnown t c = (c.node < length t.nodes) × Contains (candidates_of t (name_of t c.node)) c.version

abbrev pub AreKnown : TableParts → List (List (NodeChoice ℕ ℕ)) → Type 0
AreKnown t conflicts = (conflict : List (NodeChoice ℕ ℕ)) (c : NodeChoice ℕ ℕ) → Contains conflicts conflict → Contains conflict c → IsKnown t c

-- what a choice stands for
abbrev pub choice_pictured : {N X V R : Type 0} → TableParts → Picture N X V R → NodeChoice ℕ ℕ → NodeChoice X V
choice_pictured t picture c = record { node = picture.node c.node; version = picture.version (name_of t c.node) c.version }

abbrev pub conflict_pictured : {N X V R : Type 0} → TableParts → Picture N X V R → List (NodeChoice ℕ ℕ) → List (NodeChoice X V)
conflict_pictured t picture conflict = map (choice_pictured t picture) conflict

-- what conflicts stand for
abbrev pub conflicts_pictured : {N X V R : Type 0} → TableParts → Picture N X V R → List (List (NodeChoice ℕ ℕ)) → List (List (NodeChoice X V))
conflicts_pictured t picture conflicts = map (conflict_pictured t picture) conflicts

-- two candidates of a name never stand for versions that are one
pub record AreApart {N X V R : Type 0} (t : TableParts) (picture : Picture N X V R) (same : V → V → Bool) : Type 0 where
  pub apart : (n p q : ℕ) → Contains (candidates_of t n) p → Contains (candidates_of t n) q → same (picture.version n p) (picture.version n q) ≡ true → p ≡ q
  -- each version is one with itself
  pub own : (v : V) → same v v ≡ true

-- the term is one of a node of the table, with places of candidates of its name
abbrev pub IsKnownTerm : TableParts → Term ℕ ℕ → Type 0
IsKnownTerm t c = (c.node < length t.nodes) × ((place : ℕ) → Contains c.versions place → Contains (candidates_of t (name_of t c.node)) place)

abbrev pub AreKnownSets : TableParts → List (List (Term ℕ ℕ)) → Type 0
AreKnownSets t conflicts = (conflict : List (Term ℕ ℕ)) (c : Term ℕ ℕ) → Contains conflicts conflict → Contains conflict c → IsKnownTerm t c

-- what a term stands for
abbrev pub term_pictured : {N X V R : Type 0} → TableParts → Picture N X V R → Term ℕ ℕ → Term X V
term_pictured t picture c = record { node = picture.node c.node; versions = map (picture.version (name_of t c.node)) c.versions }

abbrev pub set_pictured : {N X V R : Type 0} → TableParts → Picture N X V R → List (Term ℕ ℕ) → List (Term X V)
set_pictured t picture conflict = map (term_pictured t picture) conflict

-- what conflicts of sets stand for
abbrev pub sets_pictured : {N X V R : Type 0} → TableParts → Picture N X V R → List (List (Term ℕ ℕ)) → List (List (Term X V))
sets_pictured t picture conflicts = map (set_pictured t picture) conflicts
