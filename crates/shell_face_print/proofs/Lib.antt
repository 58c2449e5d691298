mod Appending
mod Printable
mod Steps
mod Texts
