pub mod Answered
pub mod Heard
pub mod TableSteps
pub mod TableListed
pub mod TableNodes
pub mod ForestNodes
pub mod NodeLaws
