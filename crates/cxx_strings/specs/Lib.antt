-- Strings side by side.
pub mod SideBySide
pub mod Pieces
pub mod Spacing
