pub mod Answers
pub mod Selection
pub mod Pairing
pub mod Feeding
