-- The steps of unification, of walking and of looking for a variable.
pub mod UnifySteps
pub mod UnifyClauses
pub mod OccursSteps
pub mod WalkSteps
pub mod LoadLaws
pub mod LentBindingLaws
