-- Laws of links and headers that are scanned.
pub mod KeptMore
pub mod NotedInOrder
pub mod ReadyBehindParams
pub mod ParamsSoFar
pub mod ReadyBehindLink
pub mod BetweenLinks
pub mod LinksInOrder
pub mod LinksSoFar
