pub mod Truth
pub mod Numbers
pub mod Lists
pub mod Bits
pub mod Results
