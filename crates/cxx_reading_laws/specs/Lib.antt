-- What holds of the definitions of a reading, in the words of the standard.
pub mod Derived
