mod Order
mod Languages
mod Guessed
mod Shaped
