pub mod PrimsCode
pub mod Moving
pub mod AskedDifferences
pub mod InStep
pub mod Parts
pub mod Meaning
pub mod SolvedStores
