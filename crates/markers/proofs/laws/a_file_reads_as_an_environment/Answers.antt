use Rattle.markers.proofs.EnvironmentFacts.{environment_of-environment}
use Rattle.markers.proofs.laws.a_file_reads_as_an_environment.Goals as goal

pub returns : goal.returns
returns c = environment_of-environment
