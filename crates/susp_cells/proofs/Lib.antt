mod SeenMade
mod SeenSent
mod TopLaws
mod TableLaws
mod KnownLaws
pub mod Crossing
