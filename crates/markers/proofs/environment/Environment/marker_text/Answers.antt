use Rattle.std.proofs.Common.{codes, drop, refl, string_bytes}
use Rattle.std.proofs.lemmas.List.{take_all}
use Rattle.markers.specs.Environment.{all_variables, condition, marker_text}
use Rattle.markers.specs.declared.variable.Variable.TheVariants.{ImplementationName}
use Rattle.markers.proofs.EnvironmentFacts.{more_pieces}
use Rattle.markers.proofs.environment.Environment.marker_text.Goals as goal

pub loop-variable-preserved : goal.loop-variable-preserved
loop-variable-preserved c =
    rw (c.in_ok-push_condition-2.ensures, c.in_ok-push_str.ensures.bytes)
    (more_pieces (condition c.args.self.now) (codes " and ") (condition c.args.self.now ImplementationName) (string_bytes c.loop-variable.marker) (drop 1 all_variables) c.loop-variable.variable-index _ c.loop-variable-test.true c.loop-variable.invariant)

pub returns : goal.returns
unfolding marker_text
returns c = rw (c.from_string.ensures, c.loop-variable.invariant, take_all _ (drop 1 all_variables) c.loop-variable-test.false) refl
