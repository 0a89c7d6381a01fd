pub mod SpacedTexts
