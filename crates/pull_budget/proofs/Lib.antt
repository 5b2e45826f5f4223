pub mod KeptViews
pub mod KeptSteps
