mod CastRows
mod Compilers
mod Layouts
mod Operators
mod Rows
