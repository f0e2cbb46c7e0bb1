-- The words of expressions and of initializers in the plain form, and the calls that are listed of them.
pub mod Productions
pub mod Forms
pub mod Phrases
pub mod Calls
pub mod Apart
pub mod Named
pub mod Listed
pub mod Listing
pub mod Written
