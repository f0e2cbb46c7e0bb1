mod Noting
mod Rounding
