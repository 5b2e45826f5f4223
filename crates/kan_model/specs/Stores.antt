-- Stores: solving, and what is kept.
pub mod Store
pub mod Prims
pub mod Solve
pub mod Kept
pub mod Unifiers
pub mod Calls
pub mod Composition
