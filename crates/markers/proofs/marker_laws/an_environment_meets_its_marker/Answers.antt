use Rattle.markers.proofs.EnvironmentsMeetTheirMarkers.{marker_text-holds}
use Rattle.markers.proofs.marker_laws.an_environment_meets_its_marker.Goals as goal

pub returns : goal.returns
returns c = λ texts e. marker_text-holds texts e (λ v. c.a_text_equals_itself.ensures.environment texts v e)
