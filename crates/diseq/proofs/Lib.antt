pub mod AddLaws
pub mod AmongLaws
pub mod BroughtLaws
mod Examples
pub mod KeptLaws
pub mod ListLaws
pub mod WatchLaws
