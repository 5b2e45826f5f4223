pub mod Lists
pub mod BalancedLaws
pub mod HomedLaws
pub mod KeptLaws
pub mod WholeLaws
pub mod GatherLaws
pub mod DealLaws
pub mod TurnLaws
