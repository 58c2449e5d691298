mod Appended
mod Headers
mod Kept
mod Listed
mod Picked
mod Served
