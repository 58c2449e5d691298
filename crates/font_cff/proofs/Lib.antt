mod Dicts
mod Lists
mod Charsets
