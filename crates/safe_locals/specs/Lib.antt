pub mod inner
pub mod Safe
pub mod AtLocals
pub mod Known
