-- texts behind spaces
pub mod SpacedTexts
