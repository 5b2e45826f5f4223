-- The way down to the suspension that is forced, and back up.
pub mod AroundLaws
pub mod PathLaws
pub mod ForceLaws
