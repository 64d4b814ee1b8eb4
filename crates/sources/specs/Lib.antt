pub mod Faults
pub mod Events
pub mod Forest
pub mod Nodes
pub mod Table
pub mod TableLaws
pub mod Inner
