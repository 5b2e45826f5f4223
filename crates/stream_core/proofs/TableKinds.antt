-- Tables of suspensions, as they are kept.
pub mod PlainRowLaws
pub mod PlainTreeLaws
pub mod LinkedLaws
