-- What goals mean, without any search.
pub mod Holds
pub mod Derivations
