mod Asked
mod Incomplete
mod Within
