pub mod Answers
pub mod Instances
pub mod KeptStores
pub mod LeftOut
pub mod TakenStores
