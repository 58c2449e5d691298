mod Checked
mod Runs
mod Equivalents
