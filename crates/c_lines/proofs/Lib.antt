mod Cutting
mod Standing
mod Checking
