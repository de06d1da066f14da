mod Sides
mod CopiedWalks
mod BelowLaws
mod RunLaws
mod OpeningLaws
mod TidingLaws
mod FirstLaws
mod ReadyLaws
pub mod FollowLaws
mod KeyLaws
mod GrownLaws
