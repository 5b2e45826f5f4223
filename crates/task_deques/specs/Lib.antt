pub mod Shares
pub mod Whole
pub mod Holders
pub mod Turns
pub mod InTurn
pub mod Deals
