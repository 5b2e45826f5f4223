mod Numbers
pub mod Within
pub mod AppendLaws
pub mod CountLaws
pub mod BindLaws
pub mod KeptStores
pub mod LongerValuations
pub mod NamedArguments
pub mod FoundSolutions
pub mod TakenSolutions
pub mod MoreFuel
mod NeverExamples
mod ConjunctionExamples
mod PauseExamples
