pub mod Batches
pub mod Rests
pub mod Searches
pub mod SolutionsLeft
pub mod Suspensions
pub mod Waiting
