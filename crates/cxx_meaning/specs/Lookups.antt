-- What lookups find (3.4, 7.3, 10.2).
pub mod Wanted
pub mod Gathered
pub mod Scopes
pub mod Directives
pub mod Sightings
pub mod Pending
pub mod Member
pub mod Ordinary
pub mod Qualified
pub mod Associated
