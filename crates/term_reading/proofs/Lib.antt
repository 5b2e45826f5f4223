pub mod WordLaws
pub mod StringLaws
pub mod ShapeLaws
pub mod TermLaws
pub mod KnownTerms
