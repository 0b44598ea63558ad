pub mod InTurn
pub mod Names
mod RepairSteps
pub mod RepairRuns
mod RepairTurns
pub mod Runs
mod SaveSteps
mod Turns
pub mod WholeSaves
