pub mod Parts
pub mod Refusals
pub mod Reports
pub mod Printed
pub mod Elements
