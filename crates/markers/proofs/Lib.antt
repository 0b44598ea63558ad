mod DeepBeginnings
mod EnvironmentFacts
mod SpelledIsRead
mod MarkerFacts
mod RelationsDecideMarkers
mod NormalForms
mod EnvironmentsMeetTheirMarkers
mod OtherExtras
mod ReadFacts
mod TextsEqualThemselves
mod ReadIsSpelled
pub mod TokensAreSpelled
mod SpelledTokensAreFound
mod TextsReadAsSpelled
mod TokenFacts
mod WorkedRows
