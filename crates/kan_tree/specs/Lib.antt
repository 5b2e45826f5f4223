pub mod Orders
pub mod Slots
pub mod Lending
pub mod Nodes
pub mod Whole
pub mod UnderKeys
