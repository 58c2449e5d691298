-- Lemmas that other crates' laws rest on.
pub mod Passing
