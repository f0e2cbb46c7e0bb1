mod Based
mod Called
mod Chosen
mod Declared
mod Judged
mod First
mod Signed
mod Words
