pub mod Cycles
pub mod Laws
pub mod LentBindings
pub mod Solutions
pub mod Unifying
pub mod Walking
