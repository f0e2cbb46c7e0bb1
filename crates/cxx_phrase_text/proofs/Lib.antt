mod PhraseRows
pub mod Casting
pub mod Listing
pub mod Parts
pub mod Standings
pub mod Initials
pub mod Gathered
mod StandsApart
