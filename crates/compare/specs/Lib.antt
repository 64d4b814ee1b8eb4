pub mod Paths
pub mod Growing
pub mod Compared
pub mod Printed
pub mod Adding
