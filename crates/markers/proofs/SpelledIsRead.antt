-- What the grammar spells is read so.
use Rattle.std.proofs.Common.{◌≡◌, ℕ, Bool, true, false, List, [], ◌∷◌, ◌++◌, Option, Some, refl, sym, ap, ◌∙◌, inl, inr, append_assoc, append-nil}
use Rattle.std.specs.Result.{result_ok}
use Rattle.markers.specs.MarkerGrammar.{AreConjunctions, AreMembers, IsAtom, AreMarkerTokens, IsMember, equality, operand_token, operator_tokens}
use Rattle.markers.specs.Tied.MarkerReading.{atom_of, step, tree_behind, tree_of_tokens}
use Rattle.markers.specs.MarkerTree.{Tree, atom, all_of, any_of, Trees, no_trees, tree, trees_of}
use Rattle.markers.specs.Names.{name_of}
use Rattle.markers.specs.declared.marker_atom.Atom.{Atom}
use Rattle.markers.specs.declared.marker_atom.Atom.TheVariants as atoms
use Rattle.markers.specs.declared.marker_atom.Operand.{Operand}
use Rattle.markers.specs.declared.marker_atom.Operand.TheVariants.{Quoted}
use Rattle.markers.specs.declared.marker_atom.MarkerOperator.{MarkerOperator}
use Rattle.markers.specs.declared.marker_atom.MarkerOperator.TheVariants as operators
use Rattle.markers.specs.declared.marker_group.Group.{Group}
use Rattle.markers.specs.declared.marker_reader.Expected.TheVariants as expecteds
use Rattle.markers.specs.declared.marker_reader.Reader.{Reader}
use Rattle.markers.specs.declared.marker_token.Side.TheVariants as sides
use Rattle.markers.specs.declared.marker_token.Token.{Token}
use Rattle.markers.specs.declared.marker_token.Token.TheVariants as tokens

-- trees as a list
abbrev pub list_of : Trees → List Tree
list_of no_trees = []
list_of (tree t ts) = t ∷ list_of ts

pub trees_of-list_of : (ts : Trees) → trees_of (list_of ts) ≡ ts
trees_of-list_of no_trees = refl
trees_of-list_of (tree t ts) = ap (tree t) (trees_of-list_of ts)

-- where an atom is to begin, and where one has just ended
abbrev pub at_atom : List Group → List Tree → List Tree → Reader
at_atom outer ended members = record { outer = outer; group = record { ended = ended; members = members }; expected = expecteds.Atom }

abbrev pub at_joint : List Group → List Tree → List Tree → Reader
at_joint outer ended members = record { outer = outer; group = record { ended = ended; members = members }; expected = expecteds.Joint }

relation-read : (left : Operand) (operator : MarkerOperator) (right : Operand) (rest : List Token) (outer : List Group) (ended members : List Tree)
    → tree_behind (at_atom outer ended members) ((operand_token left ∷ (operator_tokens operator ++ operand_token right ∷ [])) ++ rest)
    ≡ tree_behind (at_joint outer ended (members ++ atom (atoms.Relation (record { left = left; operator = operator; right = right })) ∷ [])) rest
unfolding step atom_of
relation-read left (operators.Compare comparison) right rest outer ended members = refl
relation-read left operators.In right rest outer ended members = refl
relation-read left operators.NotIn right rest outer ended members = refl

extra_first-read : (text : List ℕ) (equal : Bool) (rest : List Token) (outer : List Group) (ended members : List Tree)
    → tree_behind (at_atom outer ended members) (tokens.Side sides.Extra ∷ equality equal ∷ operand_token (Quoted text) ∷ rest)
    ≡ tree_behind (at_joint outer ended (members ++ atom (atoms.Extra equal (result_ok (name_of text))) ∷ [])) rest
unfolding step atom_of
extra_first-read text true rest outer ended members = refl
extra_first-read text false rest outer ended members = refl

extra_last-read : (text : List ℕ) (equal : Bool) (rest : List Token) (outer : List Group) (ended members : List Tree)
    → tree_behind (at_atom outer ended members) (operand_token (Quoted text) ∷ equality equal ∷ tokens.Side sides.Extra ∷ rest)
    ≡ tree_behind (at_joint outer ended (members ++ atom (atoms.Extra equal (result_ok (name_of text))) ∷ [])) rest
unfolding step atom_of
extra_last-read text true rest outer ended members = refl
extra_last-read text false rest outer ended members = refl

atom-read : (a : Atom) (ts rest : List Token) (outer : List Group) (ended members : List Tree) → IsAtom ts a
    → tree_behind (at_atom outer ended members) (ts ++ rest) ≡ tree_behind (at_joint outer ended (members ++ atom a ∷ [])) rest
atom-read (atoms.Relation r) ts rest outer ended members h = rw h (relation-read r.left r.operator r.right rest outer ended members)
atom-read (atoms.Extra equal name) ts rest outer ended members h =
    let named = ap (λ (n : Option (List ℕ)). tree_behind (at_joint outer ended (members ++ atom (atoms.Extra equal n) ∷ [])) rest) h.is_name in
    elim h.sides [
      | inl e ↦ rw e (extra_first-read h.text equal rest outer ended members ∙ named)
      | inr e ↦ rw e (extra_last-read h.text equal rest outer ended members ∙ named)
    ]

-- conjunctions that have been read: the last of them hasn't ended
pub record AreRead (us : Trees) (ts rest : List Token) (outer : List Group) (ended : List Tree) : Type 0 where
  pub before : List Tree
  pub members : List Tree
  pub read : tree_behind (at_atom outer ended []) (ts ++ rest) ≡ tree_behind (at_joint outer before members) rest
  pub ends : before ++ all_of (trees_of members) ∷ [] ≡ ended ++ list_of us

mutual
  unfolding step

  member-read : (t : Tree) (ts rest : List Token) (outer : List Group) (ended members : List Tree) → IsMember ts t
      → tree_behind (at_atom outer ended members) (ts ++ rest) ≡ tree_behind (at_joint outer ended (members ++ t ∷ [])) rest
  member-read (atom a) ts rest outer ended members h = atom-read a ts rest outer ended members h
  member-read (all_of us) ts rest outer ended members h = absurd h
  member-read (any_of us) ts rest outer ended members h =
      let inner = h.0 in
      let group : Group = record { ended = ended; members = members } in
      let p = conjunctions-read us inner (tokens.Close ∷ rest) (group ∷ outer) [] h.2 in
      let all : any_of (trees_of (p.before ++ all_of (trees_of p.members) ∷ [])) ≡ any_of us = ap any_of (ap trees_of p.ends ∙ trees_of-list_of us) in
      rw h.1
      (ap (λ (more : List Token). tree_behind (at_atom (group ∷ outer) [] []) more) (append_assoc inner (tokens.Close ∷ []) rest)
      ∙ p.read
      ∙ ap (λ (t : Tree). tree_behind (at_joint outer ended (members ++ t ∷ [])) rest) all)

  members-read : (us : Trees) (ts rest : List Token) (outer : List Group) (ended members : List Tree) → AreMembers ts us
      → tree_behind (at_atom outer ended members) (ts ++ rest) ≡ tree_behind (at_joint outer ended (members ++ list_of us)) rest
  members-read no_trees ts rest outer ended members h = absurd h
  members-read (tree t no_trees) ts rest outer ended members h = member-read t ts rest outer ended members h
  members-read (tree t (tree u us)) ts rest outer ended members h =
      let first = h.0 in
      let more = h.1 in
      rw h.2
      (ap (λ (all : List Token). tree_behind (at_atom outer ended members) all) (append_assoc first (tokens.And ∷ more) rest)
      ∙ member-read t first (tokens.And ∷ (more ++ rest)) outer ended members h.3
      ∙ members-read (tree u us) more rest outer ended (members ++ t ∷ []) h.4
      ∙ ap (λ (all : List Tree). tree_behind (at_joint outer ended all) rest) (append_assoc members (t ∷ []) (list_of (tree u us))))

  conjunctions-read : (us : Trees) (ts rest : List Token) (outer : List Group) (ended : List Tree) → AreConjunctions ts us → AreRead us ts rest outer ended
  conjunctions-read no_trees ts rest outer ended h = absurd h
  conjunctions-read (tree (atom a) no_trees) ts rest outer ended h = absurd h
  conjunctions-read (tree (any_of vs) no_trees) ts rest outer ended h = absurd h
  conjunctions-read (tree (all_of vs) no_trees) ts rest outer ended h = record {
    before = ended;
    members = list_of vs;
    read = members-read vs ts rest outer ended [] h;
    ends = ap (λ (us : Trees). ended ++ all_of us ∷ []) (trees_of-list_of vs);
  }
  conjunctions-read (tree (atom a) (tree u us)) ts rest outer ended h = absurd h.3
  conjunctions-read (tree (any_of vs) (tree u us)) ts rest outer ended h = absurd h.3
  conjunctions-read (tree (all_of vs) (tree u us)) ts rest outer ended h =
      let first = h.0 in
      let more = h.1 in
      let p = conjunctions-read (tree u us) more rest outer (ended ++ all_of vs ∷ []) h.4 in record {
        before = p.before;
        members = p.members;
        read =
            rw h.2
            (ap (λ (all : List Token). tree_behind (at_atom outer ended []) all) (append_assoc first (tokens.Or ∷ more) rest)
            ∙ members-read vs first (tokens.Or ∷ (more ++ rest)) outer ended [] h.3
            ∙ ap (λ (vs : Trees). tree_behind (at_atom outer (ended ++ all_of vs ∷ []) []) (more ++ rest)) (trees_of-list_of vs)
            ∙ p.read);
        ends = p.ends ∙ append_assoc ended (all_of vs ∷ []) (list_of (tree u us));
      }

-- what is a marker by the grammar is read as that marker
pub marker-read : (ts : List Token) (t : Tree) → AreMarkerTokens ts t → tree_of_tokens ts ≡ Some t
marker-read ts (atom a) h = absurd h
marker-read ts (all_of us) h = absurd h
marker-read ts (any_of us) h =
    let p = conjunctions-read us ts [] [] [] h in
    ap (λ (all : List Token). tree_of_tokens all) (sym (append-nil ts)) ∙ p.read ∙ ap (λ (us : Trees). Some (any_of us)) (ap trees_of p.ends ∙ trees_of-list_of us)
