pub mod Answers
pub mod Asymmetric
pub mod Champion
pub mod Copied
pub mod Equal
pub mod Fronts
pub mod Readings
pub mod Shapes
pub mod SpelledKinds
pub mod Spellings
mod TokenRows
pub mod TypeTrees
pub mod SameTypes
