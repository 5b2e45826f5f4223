-- The relation between bindings, equations and what unification adds.
pub mod UnifyingLaws
pub mod LeftLaws
pub mod MeetingLaws
pub mod OneAnswer
pub mod OneEquation
