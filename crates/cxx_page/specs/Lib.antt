-- Pages, and the words before and behind a declared name.
pub mod Sheets
pub mod Sides
pub mod Views
