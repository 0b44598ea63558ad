use Rattle.std.proofs.Common.{◌∙◌, Contains, List, ℕ, map, sym, subst}
use Rattle.problems.specs.Tied.Standing.{AllStand}
use Rattle.problems.specs.declared.node.Node.{Node}
use Rattle.resolve.specs.Tied.Pictured.{AreListed, IsPictured}
use Rattle.resolve.proofs.TableOf.{gathered-as, made-pictured, never-none}
use Rattle.resolve.proofs.table.table_of.Goals as goal

pub numbers_of-requires-clause-whole : goal.numbers_of-requires-clause-whole
numbers_of-requires-clause-whole c node h =
    subst (λ (names : List (List ℕ)). Contains names node.name) (sym c.as_slice.ensures)
    (c.in_ok-names.ensures.whole node (subst (λ (nodes : List Node). Contains nodes node) (c.nodes-2.ensures ∙ sym c.nodes.ensures) h))

pub unreachable-requires : goal.unreachable-requires
unreachable-requires c =
    never-none c.args.problem.now c.ask_nodes.new.self c.in_ok-names.names (record { nodes = c.in_ok-numbers.numbers; requirements = c.into_parts-nodes.result.1; candidates = c.in_ok-candidates.candidates; wants = c.in_ok-wants.wants; lines = c.in_ok-lines.lines }) c.new.result
    (gathered-as c.args.problem.now c.ask_lines.new.self c.ask_nodes.new.self c.in_ok-names.names (record { nodes = c.in_ok-numbers.numbers; requirements = c.into_parts-nodes.result.1; candidates = c.in_ok-candidates.candidates; wants = c.in_ok-wants.wants; lines = c.in_ok-lines.lines })
    c.in_ok-wants.ensures.entries c.into_parts-nodes.ensures.entries c.in_ok-wants.ensures.grown c.in_ok-lines.ensures.numbers c.in_ok-wants.ensures.wants c.in_ok-names.ensures.rising
    (subst (λ (names : List (List ℕ)). AllStand names c.in_ok-numbers.numbers (map (λ (node : Node). node.name) c.ask_nodes.new.self.nodes)) c.as_slice.ensures
    (subst (λ (nodes : List Node). AllStand c.as_slice.result.now c.in_ok-numbers.numbers (map (λ (node : Node). node.name) nodes)) c.nodes-2.ensures c.in_ok-numbers.ensures))
    (subst (λ (names : List (List ℕ)). AreListed c.args.problem.now c.in_ok-candidates.candidates names) c.as_slice-2.ensures c.in_ok-candidates.ensures))
    c.new.ensures c.in-None.is

pub returns : goal.returns
returns c =
    subst (λ (nodes : List Node). IsPictured c.args.problem.now c.in_ok-names.names nodes c.in-Some.table) (sym c.into_parts-nodes.ensures.nodes)
    (made-pictured c.args.problem.now c.ask_nodes.new.self c.in_ok-names.names (record { nodes = c.in_ok-numbers.numbers; requirements = c.into_parts-nodes.result.1; candidates = c.in_ok-candidates.candidates; wants = c.in_ok-wants.wants; lines = c.in_ok-lines.lines }) c.in-Some.table c.new.result
    (gathered-as c.args.problem.now c.ask_lines.new.self c.ask_nodes.new.self c.in_ok-names.names (record { nodes = c.in_ok-numbers.numbers; requirements = c.into_parts-nodes.result.1; candidates = c.in_ok-candidates.candidates; wants = c.in_ok-wants.wants; lines = c.in_ok-lines.lines })
    c.in_ok-wants.ensures.entries c.into_parts-nodes.ensures.entries c.in_ok-wants.ensures.grown c.in_ok-lines.ensures.numbers c.in_ok-wants.ensures.wants c.in_ok-names.ensures.rising
    (subst (λ (names : List (List ℕ)). AllStand names c.in_ok-numbers.numbers (map (λ (node : Node). node.name) c.ask_nodes.new.self.nodes)) c.as_slice.ensures
    (subst (λ (nodes : List Node). AllStand c.as_slice.result.now c.in_ok-numbers.numbers (map (λ (node : Node). node.name) nodes)) c.nodes-2.ensures c.in_ok-numbers.ensures))
    (subst (λ (names : List (List ℕ)). AreListed c.args.problem.now c.in_ok-candidates.candidates names) c.as_slice-2.ensures c.in_ok-candidates.ensures))
    c.new.ensures c.in-Some.is)
