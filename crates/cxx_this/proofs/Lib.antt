mod Begun
mod Classed
mod Made
