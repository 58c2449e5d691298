mod Endings
mod Ends
mod FontRuns
mod Reading
mod Sources
