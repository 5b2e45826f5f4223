-- Tables of suspensions, as they are kept.
pub mod PlainRows
pub mod PlainTables
pub mod PlainTrees
pub mod LinkedTables
pub mod LinkedThunks
