pub mod ByteLaws
pub mod SpellingLaws
pub mod Making
