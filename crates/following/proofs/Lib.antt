-- Laws of the link that a step follows.
pub mod RunsLeft
pub mod FollowsOne
pub mod LinksLeft
