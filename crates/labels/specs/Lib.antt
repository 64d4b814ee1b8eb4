pub mod Exact
pub mod Printed
pub mod Spelling
pub mod NoName
pub mod NameOf
pub mod Names
pub mod Words
pub mod NameLaws
