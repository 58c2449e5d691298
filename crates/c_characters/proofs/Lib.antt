mod UnitSteps
mod Utf16
mod Utf32
mod Pushed
mod Around
