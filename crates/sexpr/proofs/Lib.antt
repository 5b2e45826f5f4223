pub mod StringLaws
pub mod PieceLaws
pub mod WrittenFormLaws
pub mod FrameLaws
pub mod ReadLaws
pub mod PrintLaws
pub mod KeptLaws
pub mod ReplyLaws
