-- What is read is spelled so by the grammar.
use Rattle.std.proofs.Common.{◌≡◌, ℕ, true, false, List, [], ◌∷◌, ◌++◌, Option, Some, None, refl, sym, subst, ◌∙◌, inl, inr, append_assoc, append-nil}
use Rattle.std.specs.Prelude.{option_and_then}
use Rattle.std.specs.Result.{result_ok}
use Rattle.markers.specs.MarkerGrammar.{AreConjunctions, AreMembers, IsAtom, IsConjunction, AreMarkerTokens, IsMember, operator_tokens}
use Rattle.markers.specs.Tied.MarkerReading.{added, atom_of, begin, close, closed, complete, empty_group, extra_named, join, negate, relate, start, step, step_at, tree_behind, tree_of_tokens, whole, with_end, with_member}
use Rattle.markers.specs.MarkerTree.{Tree, atom, all_of, Trees, no_trees, tree, trees_of}
use Rattle.markers.specs.Names.{name_of}
use Rattle.markers.specs.declared.comparison.Comparison.TheVariants as comparisons
use Rattle.markers.specs.declared.marker_atom.Atom.{Atom}
use Rattle.markers.specs.declared.marker_atom.Atom.TheVariants as atoms
use Rattle.markers.specs.declared.marker_atom.Operand.TheVariants as operands
use Rattle.markers.specs.declared.marker_atom.MarkerOperator.{MarkerOperator}
use Rattle.markers.specs.declared.marker_atom.MarkerOperator.TheVariants as operators
use Rattle.markers.specs.declared.marker_group.Group.{Group}
use Rattle.markers.specs.declared.marker_reader.Expected.{Expected}
use Rattle.markers.specs.declared.marker_reader.Expected.TheVariants as expecteds
use Rattle.markers.specs.declared.marker_reader.Reader.{Reader}
use Rattle.markers.specs.declared.marker_token.Side.{Side}
use Rattle.markers.specs.declared.marker_token.Side.TheVariants as sides
use Rattle.markers.specs.declared.marker_token.Token.{Token}
use Rattle.markers.specs.declared.marker_token.Token.TheVariants as tokens

-- ---- what the tokens read so far spell

-- members, each with `and` behind it
abbrev MembersBegun : List Token → List Tree → Type 0
MembersBegun ts [] = ts ≡ []
MembersBegun ts (m ∷ ms) = (first : List Token) × (rest : List Token) × (ts ≡ first ++ tokens.And ∷ rest) × IsMember first m × MembersBegun rest ms

-- conjunctions, each with `or` behind it
abbrev EndedBegun : List Token → List Tree → Type 0
EndedBegun ts [] = ts ≡ []
EndedBegun ts (c ∷ cs) = (first : List Token) × (rest : List Token) × (ts ≡ first ++ tokens.Or ∷ rest) × IsConjunction first c × EndedBegun rest cs

-- a group where an atom is to begin
record AtAtom (ts : List Token) (g : Group) : Type 0 where
  before : List Token
  last : List Token
  whole : ts ≡ before ++ last
  ended : EndedBegun before g.ended
  members : MembersBegun last g.members

-- a group where an atom has just ended
record AtJoint (ts : List Token) (g : Group) : Type 0 where
  before : List Token
  last : List Token
  whole : ts ≡ before ++ last
  ended : EndedBegun before g.ended
  members : AreMembers last (trees_of g.members)

-- the groups that enclose the last one, each with `(` behind it
abbrev OuterBegun : List Token → List Group → Type 0
OuterBegun ts [] = ts ≡ []
OuterBegun ts (g ∷ outer) = (far : List Token) × (near : List Token) × (ts ≡ far ++ (near ++ tokens.Open ∷ [])) × OuterBegun far outer × AtAtom near g

-- a group with some tokens behind the place where an atom begins
record Behind (ts : List Token) (g : Group) (more : List Token) : Type 0 where
  front : List Token
  whole : ts ≡ front ++ more
  begun : AtAtom front g

abbrev InGroup : List Token → Group → Expected → Type 0
InGroup ts g expecteds.Atom = AtAtom ts g
InGroup ts g (expecteds.Operator left) = Behind ts g (tokens.Side left ∷ [])
InGroup ts g (expecteds.In left) = Behind ts g (tokens.Side left ∷ tokens.Not ∷ [])
InGroup ts g (expecteds.Right left operator) = Behind ts g (tokens.Side left ∷ operator_tokens operator)
InGroup ts g expecteds.Joint = AtJoint ts g

record Begun (ts : List Token) (r : Reader) : Type 0 where
  far : List Token
  near : List Token
  whole : ts ≡ far ++ near
  outer : OuterBegun far r.outer
  inside : InGroup near r.group r.expected

-- ---- lists of members and conjunctions

members-cons : (m : Tree) (us : Trees) (first rest : List Token) → IsMember first m → AreMembers rest us → AreMembers (first ++ tokens.And ∷ rest) (tree m us)
members-cons m no_trees first rest h more = absurd more
members-cons m (tree u us) first rest h more = (first, rest, refl, h, more)

members-last : (ms : List Tree) (m : Tree) (ts last : List Token) → MembersBegun ts ms → IsMember last m → AreMembers (ts ++ last) (trees_of (ms ++ m ∷ []))
members-last [] m ts last begun h = rw begun h
members-last (n ∷ ms) m ts last begun h =
    rw (begun.2, append_assoc begun.0 (tokens.And ∷ begun.1) last)
    (members-cons n (trees_of (ms ++ m ∷ [])) begun.0 (begun.1 ++ last) begun.3 (members-last ms m begun.1 last begun.4 h))

members-and : (ms : List Tree) (ts : List Token) → AreMembers ts (trees_of ms) → MembersBegun (ts ++ tokens.And ∷ []) ms
members-and [] ts h = absurd h
members-and (m ∷ []) ts h = (ts, [], refl, h, refl)
members-and (m ∷ n ∷ ms) ts h =
    (h.0, h.1 ++ tokens.And ∷ [], rw h.2 (append_assoc h.0 (tokens.And ∷ h.1) (tokens.And ∷ [])), h.3, members-and (n ∷ ms) h.1 h.4)

conjunctions-cons : (c : Tree) (us : Trees) (first rest : List Token) → IsConjunction first c → AreConjunctions rest us → AreConjunctions (first ++ tokens.Or ∷ rest) (tree c us)
conjunctions-cons c no_trees first rest h more = absurd more
conjunctions-cons c (tree u us) first rest h more = (first, rest, refl, h, more)

conjunctions-last : (cs : List Tree) (c : Tree) (ts last : List Token) → EndedBegun ts cs → IsConjunction last c → AreConjunctions (ts ++ last) (trees_of (cs ++ c ∷ []))
conjunctions-last [] c ts last begun h = rw begun h
conjunctions-last (d ∷ cs) c ts last begun h =
    rw (begun.2, append_assoc begun.0 (tokens.Or ∷ begun.1) last)
    (conjunctions-cons d (trees_of (cs ++ c ∷ [])) begun.0 (begun.1 ++ last) begun.3 (conjunctions-last cs c begun.1 last begun.4 h))

ended-or : (cs : List Tree) (c : Tree) (ts last : List Token) → EndedBegun ts cs → IsConjunction last c → EndedBegun (ts ++ (last ++ tokens.Or ∷ [])) (cs ++ c ∷ [])
ended-or [] c ts last begun h = rw begun (last, [], refl, h, refl)
ended-or (d ∷ cs) c ts last begun h =
    (begun.0, begun.1 ++ (last ++ tokens.Or ∷ []), rw begun.2 (append_assoc begun.0 (tokens.Or ∷ begun.1) (last ++ tokens.Or ∷ [])), begun.3, ended-or cs c begun.1 last begun.4 h)

-- ---- one token

-- a member behind the place where an atom begins
member-added : (g : Group) (m : Tree) (ts front member : List Token) → ts ≡ front ++ member → AtAtom front g → IsMember member m → AtJoint ts (with_member m g)
member-added g m ts front member cut begun h = record {
  before = begun.before;
  last = begun.last ++ member;
  whole = rw (cut, begun.whole) (append_assoc begun.before begun.last member);
  ended = begun.ended;
  members = members-last g.members m begun.last member begun.members h;
}

extra-spelled : (operator : MarkerOperator) (text : List ℕ) (a : Atom) → extra_named operator (result_ok (name_of text)) ≡ Some a
    → IsAtom (tokens.Side sides.Extra ∷ (operator_tokens operator ++ tokens.Side (sides.Operand (operands.Quoted text)) ∷ [])) a
    × IsAtom (tokens.Side (sides.Operand (operands.Quoted text)) ∷ (operator_tokens operator ++ tokens.Side sides.Extra ∷ [])) a
extra-spelled (operators.Compare comparisons.Equal) text a h =
    let e : atoms.Extra true (result_ok (name_of text)) ≡ a = cc in
    rw (← e) (record { text = text; is_name = refl; sides = inl refl }, record { text = text; is_name = refl; sides = inr refl })
extra-spelled (operators.Compare comparisons.NotEqual) text a h =
    let e : atoms.Extra false (result_ok (name_of text)) ≡ a = cc in
    rw (← e) (record { text = text; is_name = refl; sides = inl refl }, record { text = text; is_name = refl; sides = inr refl })
extra-spelled operator text a h = absurd cc

atom-spelled : (left right : Side) (operator : MarkerOperator) (a : Atom) → atom_of left operator right ≡ Some a → IsAtom (tokens.Side left ∷ (operator_tokens operator ++ tokens.Side right ∷ [])) a
unfolding atom_of
atom-spelled (sides.Operand left) (sides.Operand right) operator a h =
    let e : atoms.Relation (record { left = left; operator = operator; right = right }) ≡ a = cc in rw (← e) refl
atom-spelled (sides.Operand (operands.Quoted text)) sides.Extra operator a h = (extra-spelled operator text a h).1
atom-spelled (sides.Operand (operands.Variable variable)) sides.Extra operator a h = absurd cc
atom-spelled sides.Extra (sides.Operand (operands.Quoted text)) operator a h = (extra-spelled operator text a h).0
atom-spelled sides.Extra (sides.Operand (operands.Variable variable)) operator a h = absurd cc
atom-spelled sides.Extra sides.Extra operator a h = absurd cc

in_group : (far near more : List Token) (outer : List Group) (g : Group) (expected : Expected) → OuterBegun far outer → InGroup (near ++ more) g expected
    → Begun ((far ++ near) ++ more) (record { outer = outer; group = g; expected = expected })
in_group far near more outer g expected o inside = record { far = far; near = near ++ more; whole = append_assoc far near more; outer = o; inside = inside }

behind-more : (near : List Token) (g : Group) (more next : List Token) → Behind near g more → Behind (near ++ next) g (more ++ next)
behind-more near g more next b = record { front = b.front; whole = rw b.whole (append_assoc b.front more next); begun = b.begun }

begin-begun : (far near : List Token) (outer : List Group) (g : Group) (t : Token) (s : Reader) → OuterBegun far outer → AtAtom near g → begin outer g t ≡ Some s → Begun ((far ++ near) ++ t ∷ []) s
begin-begun far near outer g (tokens.Side side) s o i h =
    let r : Reader = record { outer = outer; group = g; expected = expecteds.Operator side } in
    let e : r ≡ s = cc in
    subst (λ (s : Reader). Begun ((far ++ near) ++ tokens.Side side ∷ []) s) e
    (in_group far near (tokens.Side side ∷ []) outer g (expecteds.Operator side) o (record { front = near; whole = refl; begun = i }))
begin-begun far near outer g tokens.Open s o i h =
    let r : Reader = record { outer = g ∷ outer; group = empty_group; expected = expecteds.Atom } in
    let e : r ≡ s = cc in
    let b : Begun ((far ++ near) ++ tokens.Open ∷ []) r = record {
      far = (far ++ near) ++ tokens.Open ∷ [];
      near = [];
      whole = sym (append-nil ((far ++ near) ++ tokens.Open ∷ []));
      outer = (far, near, append_assoc far near (tokens.Open ∷ []), o, i);
      inside = record { before = []; last = []; whole = refl; ended = refl; members = refl };
    } in
    subst (λ (s : Reader). Begun ((far ++ near) ++ tokens.Open ∷ []) s) e b
begin-begun far near outer g t s o i h = absurd cc

relate-begun : (far near : List Token) (outer : List Group) (g : Group) (left : Side) (t : Token) (s : Reader) → OuterBegun far outer → Behind near g (tokens.Side left ∷ []) → relate outer g left t ≡ Some s
    → Begun ((far ++ near) ++ t ∷ []) s
relate-begun far near outer g left (tokens.Compare comparison) s o b h =
    let r : Reader = record { outer = outer; group = g; expected = expecteds.Right left (operators.Compare comparison) } in
    let e : r ≡ s = cc in
    subst (λ (s : Reader). Begun ((far ++ near) ++ tokens.Compare comparison ∷ []) s) e
    (in_group far near (tokens.Compare comparison ∷ []) outer g r.expected o (behind-more near g (tokens.Side left ∷ []) (tokens.Compare comparison ∷ []) b))
relate-begun far near outer g left tokens.In s o b h =
    let r : Reader = record { outer = outer; group = g; expected = expecteds.Right left operators.In } in
    let e : r ≡ s = cc in
    subst (λ (s : Reader). Begun ((far ++ near) ++ tokens.In ∷ []) s) e
    (in_group far near (tokens.In ∷ []) outer g r.expected o (behind-more near g (tokens.Side left ∷ []) (tokens.In ∷ []) b))
relate-begun far near outer g left tokens.Not s o b h =
    let r : Reader = record { outer = outer; group = g; expected = expecteds.In left } in
    let e : r ≡ s = cc in
    subst (λ (s : Reader). Begun ((far ++ near) ++ tokens.Not ∷ []) s) e
    (in_group far near (tokens.Not ∷ []) outer g r.expected o (behind-more near g (tokens.Side left ∷ []) (tokens.Not ∷ []) b))
relate-begun far near outer g left t s o b h = absurd cc

negate-begun : (far near : List Token) (outer : List Group) (g : Group) (left : Side) (t : Token) (s : Reader) → OuterBegun far outer → Behind near g (tokens.Side left ∷ tokens.Not ∷ []) → negate outer g left t ≡ Some s
    → Begun ((far ++ near) ++ t ∷ []) s
negate-begun far near outer g left tokens.In s o b h =
    let r : Reader = record { outer = outer; group = g; expected = expecteds.Right left operators.NotIn } in
    let e : r ≡ s = cc in
    subst (λ (s : Reader). Begun ((far ++ near) ++ tokens.In ∷ []) s) e
    (in_group far near (tokens.In ∷ []) outer g r.expected o (behind-more near g (tokens.Side left ∷ tokens.Not ∷ []) (tokens.In ∷ []) b))
negate-begun far near outer g left t s o b h = absurd cc

some-added : (outer : List Group) (g : Group) (found : Option Atom) (s : Reader) → added outer g found ≡ Some s
    → (a : Atom) × (found ≡ Some a) × (record { outer = outer; group = with_member (atom a) g; expected = expecteds.Joint } ≡ s)
some-added outer g None s h = absurd cc
some-added outer g (Some a) s h = (a, refl, cc)

complete-begun : (far near : List Token) (outer : List Group) (g : Group) (left : Side) (operator : MarkerOperator) (t : Token) (s : Reader)
    → OuterBegun far outer → Behind near g (tokens.Side left ∷ operator_tokens operator) → complete outer g left operator t ≡ Some s → Begun ((far ++ near) ++ t ∷ []) s
unfolding behind-more
complete-begun far near outer g left operator (tokens.Side right) s o b h =
    let p = some-added outer g (atom_of left operator right) s h in
    let more = behind-more near g (tokens.Side left ∷ operator_tokens operator) (tokens.Side right ∷ []) b in
    let spelled = atom-spelled left right operator p.0 p.1 in
    subst (λ (s : Reader). Begun ((far ++ near) ++ tokens.Side right ∷ []) s) p.2
    (in_group far near (tokens.Side right ∷ []) outer (with_member (atom p.0) g) expecteds.Joint o
    (member-added g (atom p.0) (near ++ tokens.Side right ∷ []) b.front (tokens.Side left ∷ (operator_tokens operator ++ tokens.Side right ∷ [])) more.whole b.begun spelled))
complete-begun far near outer g left operator t s o b h = absurd cc

-- the conjunctions of a group whose last atom has just ended
conjunctions-closed : (near : List Token) (g : Group) → AtJoint near g → AreConjunctions near (trees_of (with_end g).ended)
conjunctions-closed near g j = rw j.whole (conjunctions-last g.ended (all_of (trees_of g.members)) j.before j.last j.ended j.members)

close-begun : (far near : List Token) (outer : List Group) (g : Group) (s : Reader) → OuterBegun far outer → AtJoint near g → close outer g ≡ Some s → Begun ((far ++ near) ++ tokens.Close ∷ []) s
close-begun far near [] g s o j h = absurd cc
close-begun far near (enclosing ∷ outer) g s o j h =
    let r : Reader = record { outer = outer; group = with_member (closed g) enclosing; expected = expecteds.Joint } in
    let e : r ≡ s = cc in
    let inner = tokens.Open ∷ (near ++ tokens.Close ∷ []) in
    let cut : far ≡ o.0 ++ (o.1 ++ tokens.Open ∷ []) = o.2 in
    let b : Begun ((far ++ near) ++ tokens.Close ∷ []) r = record {
      far = o.0;
      near = o.1 ++ inner;
      whole = rw cut (simp append_assoc);
      outer = o.3;
      inside = member-added enclosing (closed g) (o.1 ++ inner) o.1 inner refl o.4 (near, refl, conjunctions-closed near g j);
    } in
    subst (λ (s : Reader). Begun ((far ++ near) ++ tokens.Close ∷ []) s) e b

join-begun : (far near : List Token) (outer : List Group) (g : Group) (t : Token) (s : Reader) → OuterBegun far outer → AtJoint near g → join outer g t ≡ Some s → Begun ((far ++ near) ++ t ∷ []) s
join-begun far near outer g tokens.And s o j h =
    let r : Reader = record { outer = outer; group = g; expected = expecteds.Atom } in
    let e : r ≡ s = cc in
    let i : AtAtom (near ++ tokens.And ∷ []) g = record {
      before = j.before;
      last = j.last ++ tokens.And ∷ [];
      whole = rw j.whole (append_assoc j.before j.last (tokens.And ∷ []));
      ended = j.ended;
      members = members-and g.members j.last j.members;
    } in
    subst (λ (s : Reader). Begun ((far ++ near) ++ tokens.And ∷ []) s) e (in_group far near (tokens.And ∷ []) outer g expecteds.Atom o i)
join-begun far near outer g tokens.Or s o j h =
    let r : Reader = record { outer = outer; group = with_end g; expected = expecteds.Atom } in
    let e : r ≡ s = cc in
    let i : AtAtom (near ++ tokens.Or ∷ []) (with_end g) = record {
      before = j.before ++ (j.last ++ tokens.Or ∷ []);
      last = [];
      whole = rw j.whole (append_assoc j.before j.last (tokens.Or ∷ []) ∙ sym (append-nil (j.before ++ (j.last ++ tokens.Or ∷ []))));
      ended = ended-or g.ended (all_of (trees_of g.members)) j.before j.last j.ended j.members;
      members = refl;
    } in
    subst (λ (s : Reader). Begun ((far ++ near) ++ tokens.Or ∷ []) s) e (in_group far near (tokens.Or ∷ []) outer (with_end g) expecteds.Atom o i)
join-begun far near outer g tokens.Close s o j h = close-begun far near outer g s o j h
join-begun far near outer g t s o j h = absurd cc

step_at-begun : (far near : List Token) (outer : List Group) (g : Group) (expected : Expected) (t : Token) (s : Reader) → OuterBegun far outer → InGroup near g expected → step_at outer g expected t ≡ Some s
    → Begun ((far ++ near) ++ t ∷ []) s
step_at-begun far near outer g expecteds.Atom t s o i h = begin-begun far near outer g t s o i h
step_at-begun far near outer g (expecteds.Operator left) t s o i h = relate-begun far near outer g left t s o i h
step_at-begun far near outer g (expecteds.In left) t s o i h = negate-begun far near outer g left t s o i h
step_at-begun far near outer g (expecteds.Right left operator) t s o i h = complete-begun far near outer g left operator t s o i h
step_at-begun far near outer g expecteds.Joint t s o i h = join-begun far near outer g t s o i h

step-begun : (ts : List Token) (r : Reader) (t : Token) (s : Reader) → Begun ts r → step r t ≡ Some s → Begun (ts ++ t ∷ []) s
unfolding step
step-begun ts r t s b h = rw b.whole (step_at-begun b.far b.near r.outer r.group r.expected t s b.outer b.inside h)

-- ---- all tokens

whole-spelled : (far near : List Token) (outer : List Group) (g : Group) (expected : Expected) (t : Tree) → OuterBegun far outer → InGroup near g expected → whole outer g expected ≡ Some t → AreMarkerTokens (far ++ near) t
whole-spelled far near [] g expecteds.Joint t o j h =
    let e : closed g ≡ t = cc in
    rw (← e, o) (conjunctions-closed near g j)
whole-spelled far near [] g expected t o i h = absurd cc
whole-spelled far near (enclosing ∷ outer) g expected t o i h = absurd cc

pub some-and_then : {A B : Type 0} (f : A → Option B) (o : Option A) (b : B) → option_and_then f o ≡ Some b → (a : A) × (o ≡ Some a) × (f a ≡ Some b)
some-and_then f None b h = absurd cc
some-and_then f (Some a) b h = (a, refl, h)

tree_behind-spelled : (rest ts : List Token) (r : Reader) (t : Tree) → Begun ts r → tree_behind r rest ≡ Some t → AreMarkerTokens (ts ++ rest) t
tree_behind-spelled [] ts r t b h = rw (append-nil ts, b.whole) (whole-spelled b.far b.near r.outer r.group r.expected t b.outer b.inside h)
tree_behind-spelled (k ∷ rest) ts r t b h =
    let p = some-and_then (λ (s : Reader). tree_behind s rest) (step r k) t h in
    let more = tree_behind-spelled rest (ts ++ k ∷ []) p.0 t (step-begun ts r k p.0 b p.1) p.2 in
    rw (← append_assoc ts (k ∷ []) rest) more

-- what is read as a marker is one by the grammar
pub marker-spelled : (ts : List Token) (t : Tree) → tree_of_tokens ts ≡ Some t → AreMarkerTokens ts t
marker-spelled ts t h =
    tree_behind-spelled ts [] start t
    (record { far = []; near = []; whole = refl; outer = refl; inside = record { before = []; last = []; whole = refl; ended = refl; members = refl } }) h
