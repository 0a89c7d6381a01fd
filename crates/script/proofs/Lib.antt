pub mod EffectLemmas
pub mod LineTexts
pub mod LinesAreRead
pub mod OneAnswer
