mod Boxes
mod Steps
mod Runs
