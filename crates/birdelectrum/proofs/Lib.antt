pub mod TextLaws
pub mod OneText
pub mod RunLaws
