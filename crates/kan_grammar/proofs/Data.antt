-- The grammar of data.
pub mod CarryLaws
mod CompletenessLaws
pub mod CountLaws
pub mod CuttingLaws
pub mod Examples
pub mod FirstRefusalLaws
pub mod ReadingLaws
mod SoundnessLaws
