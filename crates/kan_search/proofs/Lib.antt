pub mod HeadLaws
pub mod JoinLaws
pub mod StartLaws
pub mod SolutionLaws
