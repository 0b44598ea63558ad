-- Reading a marker from left to right, a token at a time (PEP 508, "Grammar").
-- Tied to `SpellsMarker` by the law `a_text_reads_as_the_marker_that_it_spells`; need not be read.
use Rattle.std.specs.Prelude.{ℕ, true, false, List, [], ◌∷◌, ◌++◌, Option, Some, None, option_and_then}
use Rattle.std.specs.Result.{result_ok}
use Rattle.markers.specs.Names.{name_of}
use Rattle.markers.specs.Tied.MarkerTokens.{tokens_of}
use Rattle.markers.specs.MarkerTree.{Tree, atom, all_of, any_of, trees_of}
use Rattle.markers.specs.declared.comparison.Comparison.TheVariants as comparisons
use Rattle.markers.specs.declared.marker_atom.Atom.{Atom}
use Rattle.markers.specs.declared.marker_atom.Atom.TheVariants as atoms
use Rattle.markers.specs.declared.marker_atom.Operand.{Operand}
use Rattle.markers.specs.declared.marker_atom.Operand.TheVariants as operands
use Rattle.markers.specs.declared.marker_atom.MarkerOperator.{MarkerOperator}
use Rattle.markers.specs.declared.marker_atom.MarkerOperator.TheVariants as operators
use Rattle.markers.specs.declared.marker_group.Group.{Group}
use Rattle.markers.specs.declared.marker_reader.Expected.{Expected}
use Rattle.markers.specs.declared.marker_reader.Expected.TheVariants as expecteds
use Rattle.markers.specs.declared.marker_reader.Reader.{Reader}
use Rattle.markers.specs.declared.marker_token.Side.{Side}
use Rattle.markers.specs.declared.marker_token.Side.TheVariants as sides
use Rattle.markers.specs.declared.marker_token.Token.{Token}
use Rattle.markers.specs.declared.marker_token.Token.TheVariants as tokens

-- ---- atoms

-- an atom that compares `extra`, by `==` or `!=` alone, with a text that is this name or none (PEP 685)
abbrev pub extra_named : MarkerOperator → Option (List ℕ) → Option Atom
extra_named (operators.Compare comparisons.Equal) name = Some (atoms.Extra true name)
extra_named (operators.Compare comparisons.NotEqual) name = Some (atoms.Extra false name)
extra_named operator name = None

-- `extra` is compared with a quoted text alone (reqlock's own rule)
abbrev pub extra_atom : MarkerOperator → Operand → Option Atom
extra_atom operator (operands.Variable variable) = None
extra_atom operator (operands.Quoted text) = extra_named operator (result_ok (name_of text))

-- the atom of two sides and what stands between them
unfoldable pub atom_of : Side → MarkerOperator → Side → Option Atom
atom_of (sides.Operand left) operator (sides.Operand right) =
    Some (atoms.Relation (record { left = left; operator = operator; right = right }))
atom_of (sides.Operand left) operator sides.Extra = extra_atom operator left
atom_of sides.Extra operator (sides.Operand right) = extra_atom operator right
atom_of sides.Extra operator sides.Extra = None

-- ---- groups: the conjunctions that have ended, and the members of the one that hasn't

abbrev pub empty_group : Group
empty_group = record { ended = []; members = [] }

abbrev pub with_member : Tree → Group → Group
with_member t g = record { ended = g.ended; members = g.members ++ t ∷ [] }

-- the group with its last conjunction ended
abbrev pub with_end : Group → Group
with_end g = record { ended = g.ended ++ all_of (trees_of g.members) ∷ []; members = [] }

abbrev pub closed : Group → Tree
closed g = any_of (trees_of (with_end g).ended)

-- ---- one token: what may stand at its place, and what was read with it

-- where an atom begins
abbrev pub begin : List Group → Group → Token → Option Reader
begin outer group (tokens.Side side) = Some (record { outer = outer; group = group; expected = expecteds.Operator side })
begin outer group tokens.Open = Some (record { outer = group ∷ outer; group = empty_group; expected = expecteds.Atom })
begin outer group token = None

-- behind the left side
abbrev pub relate : List Group → Group → Side → Token → Option Reader
relate outer group left (tokens.Compare comparison) =
    Some (record { outer = outer; group = group; expected = expecteds.Right left (operators.Compare comparison) })
relate outer group left tokens.In = Some (record { outer = outer; group = group; expected = expecteds.Right left operators.In })
relate outer group left tokens.Not = Some (record { outer = outer; group = group; expected = expecteds.In left })
relate outer group left token = None

-- behind `not`
abbrev pub negate : List Group → Group → Side → Token → Option Reader
negate outer group left tokens.In = Some (record { outer = outer; group = group; expected = expecteds.Right left operators.NotIn })
negate outer group left token = None

abbrev pub added : List Group → Group → Option Atom → Option Reader
added outer group None = None
added outer group (Some a) = Some (record { outer = outer; group = with_member (atom a) group; expected = expecteds.Joint })

-- behind the operator
abbrev pub complete : List Group → Group → Side → MarkerOperator → Token → Option Reader
complete outer group left operator (tokens.Side right) = added outer group (atom_of left operator right)
complete outer group left operator token = None

-- the group in parentheses is a member of the one outside
abbrev pub close : List Group → Group → Option Reader
close [] group = None
close (enclosing ∷ outer) group = Some (record { outer = outer; group = with_member (closed group) enclosing; expected = expecteds.Joint })

-- behind an atom
abbrev pub join : List Group → Group → Token → Option Reader
join outer group tokens.And = Some (record { outer = outer; group = group; expected = expecteds.Atom })
join outer group tokens.Or = Some (record { outer = outer; group = with_end group; expected = expecteds.Atom })
join outer group tokens.Close = close outer group
join outer group token = None

abbrev pub step_at : List Group → Group → Expected → Token → Option Reader
step_at outer group expecteds.Atom token = begin outer group token
step_at outer group (expecteds.Operator left) token = relate outer group left token
step_at outer group (expecteds.In left) token = negate outer group left token
step_at outer group (expecteds.Right left operator) token = complete outer group left operator token
step_at outer group expecteds.Joint token = join outer group token

-- what was read with one more token
unfoldable pub step : Reader → Token → Option Reader
step r token = step_at r.outer r.group r.expected token

-- ---- whole markers

-- the marker, where no parenthesis is open and an atom has just ended
abbrev pub whole : List Group → Group → Expected → Option Tree
whole [] group expecteds.Joint = Some (closed group)
whole [] group expected = None
whole (enclosing ∷ outer) group expected = None

abbrev pub finished : Reader → Option Tree
finished r = whole r.outer r.group r.expected

abbrev pub start : Reader
start = record { outer = []; group = empty_group; expected = expecteds.Atom }

-- the tree that tokens are, behind what was read
abbrev pub tree_behind : Reader → List Token → Option Tree
tree_behind r [] = finished r
tree_behind r (token ∷ rest) = option_and_then (λ s. tree_behind s rest) (step r token)

-- the tree that tokens are
abbrev pub tree_of_tokens : List Token → Option Tree
tree_of_tokens tokens = tree_behind start tokens

-- the tree that a text is
unfoldable pub tree_of : List ℕ → Option Tree
tree_of text = option_and_then tree_of_tokens (tokens_of text)
