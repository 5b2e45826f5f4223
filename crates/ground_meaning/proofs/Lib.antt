pub mod AcceptingLaws
pub mod FollowingLaws
pub mod HoldingLaws
pub mod RunLaws
pub mod ValueLaws
