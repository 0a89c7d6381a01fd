pub mod FieldLemmas
pub mod Laws
pub mod NumberLemmas
pub mod NumberTexts
