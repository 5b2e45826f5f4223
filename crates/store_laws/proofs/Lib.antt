pub mod OneForm
pub mod Differences
pub mod RankedForms
pub mod GeneralUnifiers
pub mod CanBeEqual
mod Examples
