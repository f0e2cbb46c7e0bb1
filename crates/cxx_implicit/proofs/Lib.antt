mod Counted
mod Rowed
mod Noting
mod Implying
mod Joining
mod Cases
